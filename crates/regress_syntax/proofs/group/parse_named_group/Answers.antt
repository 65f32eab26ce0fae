use Rattle.std.proofs.Common.{option_map, sym, ap, ◌∙◌}
use Rattle.regress_unicode.specs.TableOf.{table_of}
use Rattle.regress_lexer.proofs.lemmas.After.{after_all}
use Rattle.regress_syntax.proofs.lemmas.NameEnds.{group_name_at-ends}
use Rattle.regress_syntax.proofs.group.parse_named_group.Goals as goal

pub invariant_of-cursor : goal.invariant_of-cursor
invariant_of-cursor c = record {
  in_range = after_all _ _
      ((group_name_at-ends (table_of c.args.tables.now) c.args.cursor.now.rest.now).each (c.in-Some.name.items, c.in-Some.rest.now)
      (sym c.in_ok-name.ensures ∙ ap (option_map (λ found. (found.0.items, found.1.now))) c.in-Some.is))
      c.args.cursor.now.in_range;
}
