-- Each iteration parses one more character.
use Rattle.std.proofs.Common.{sym, ap, ◌∙◌}
use Rattle.regress_unicode.specs.TableOf.{table_of}
use Rattle.regress_syntax.specs.Syntax.{Name}
use Rattle.regress_syntax.specs.Names.{continues_name}
use Rattle.regress_syntax.proofs.lemmas.NameEnds.{name_character_at-shortens}
use Rattle.regress_syntax.proofs.NameLemmas.{rest_of_name, after_parsed, all_of_name, one_more_of_name, none_of_name}
use Rattle.regress_syntax.proofs.names.parse_rest_of_name.Goals as goal

pub returns-in-Some : goal.returns-in-Some
returns-in-Some c =
    sym (c.loop-rest.invariant ∙ all_of_name (table_of c.args.tables.now) c.loop-rest.left.now c.in-Some.rest.now c.loop-rest.name.items c.in-Some.ensures)

pub returns-in_default-parse_further_character : goal.returns-in_default-parse_further_character
returns-in_default-parse_further_character c =
    sym (c.loop-rest.invariant
    ∙ none_of_name (table_of c.args.tables.now) c.loop-rest.left.now c.loop-rest.name.items c.in_default.ensures c.in_default-parse_further_character.ensures)

pub loop-rest-smaller : goal.loop-rest-smaller
loop-rest-smaller c =
    name_character_at-shortens (continues_name (table_of c.args.tables.now)) c.loop-rest.left.now _ (sym c.in-Some-parse_further_character.ensures)

pub loop-rest-preserved : goal.loop-rest-preserved
loop-rest-preserved c =
    let left = rest_of_name (table_of c.args.tables.now) c.in-Some-parse_further_character.rest.now in
    c.loop-rest.invariant
    ∙ one_more_of_name (table_of c.args.tables.now) c.loop-rest.left.now c.in-Some-parse_further_character.rest.now c.in-Some-parse_further_character.c
    c.loop-rest.name.items c.in_default.ensures c.in-Some-parse_further_character.ensures
    ∙ ap (λ (read : Name). after_parsed read left) (sym c.in_ok-push.ensures.items)
