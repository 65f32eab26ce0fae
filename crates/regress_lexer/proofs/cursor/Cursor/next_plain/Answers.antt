use Rattle.std.proofs.Common.{subst, All}
use Rattle.std.proofs.lemmas.List.Elements.{All-tail}
use Rattle.regress_lexer.specs.Source.{IsCodePoint}
use Rattle.regress_lexer.proofs.cursor.Cursor.next_plain.Goals as goal

pub invariant_of-self : goal.invariant_of-self
invariant_of-self c = record {
  in_range = All-tail IsCodePoint _ _ (subst (All IsCodePoint) c.in_ok-next.ensures.cases.0 c.args.self.now.in_range);
}
