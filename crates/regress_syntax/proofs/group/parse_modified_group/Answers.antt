use Rattle.std.proofs.Common.{sym}
use Rattle.regress_lexer.specs.Views.{change_of}
use Rattle.regress_lexer.proofs.lemmas.After.{after_all}
use Rattle.regress_syntax.proofs.lemmas.NameEnds.{modifiers_at-ends}
use Rattle.regress_syntax.proofs.group.parse_modified_group.Goals as goal

pub invariant_of-cursor : goal.invariant_of-cursor
invariant_of-cursor c = record {
  in_range = after_all _ _
      ((modifiers_at-ends c.args.cursor.now.rest.now).each (change_of c.in-Some.change, c.in-Some.rest.now) (sym c.in-Some.ensures))
      c.args.cursor.now.in_range;
}
