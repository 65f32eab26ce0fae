use Rattle.std.proofs.Common.{◌≡◌, refl, sym, ap, ◌∙◌}
use Rattle.regress_lexer.specs.Views.{source}
use Rattle.regress_syntax.specs.Syntax.{literal, back_reference, by_number}
use Rattle.regress_syntax.specs.Views.{context_of, names_in}
use Rattle.regress_unicode.specs.TableOf.{table_of}
use Rattle.regress_tree.specs.declared.ir.node.Node.TheVariants.{BackRef}
use Rattle.regress_tree.proofs.lemmas.Nodes.{tree-BackRef}
use Rattle.regress_parse.specs.Reader.{term_at}
use Rattle.regress_parse.proofs.TermLemmas.{plain_term}
use Rattle.regress_parse.proofs.atom.push_simple_term.Goals as goal

pub returns-in-Some : goal.returns-in-Some
returns-in-Some c =
    let scope = c.args.scope.now in
    let ctx = context_of scope in
    let letter = c.in-Some.c in
    let rest = source c.next_plain.new.self in
    record {
      item = literal ctx.setting.flags letter;
      found = ap (term_at ctx) c.in-Some.ensures.some
          ∙ plain_term (table_of scope.tables.now) (names_in scope.groups.now) ctx letter rest c.in-Some.ensures.plain c.in-Some.ensures.alone;
      flat = refl;
      pushed = c.in_ok-push_literal.ensures;
    }

pub returns : goal.returns
returns c =
    let scope = c.args.scope.now in
    let ctx = context_of scope in
    let same : source c.next_plain.new.self ≡ source c.args.cursor.now = c.in_default.ensures.none in
    record {
      item = back_reference ctx.setting.flags (by_number c.in-Some-next_reference.group);
      found = ap (term_at ctx) (sym same) ∙ c.in-Some-next_reference.ensures.some;
      flat = refl;
      pushed = record {
        node = BackRef c.in-Some-next_reference.group scope.flags.icase;
        items = c.in_ok-push.ensures.items;
        is = tree-BackRef c.in-Some-next_reference.group scope.flags.icase;
      };
    }
