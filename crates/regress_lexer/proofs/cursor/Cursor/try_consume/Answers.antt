use Rattle.std.proofs.Common.{length, ◌-◌}
use Rattle.std.proofs.lemmas.List.Elements.{All-drop, All-take}
use Rattle.regress_lexer.specs.Source.{IsCodePoint}
use Rattle.regress_lexer.proofs.cursor.Cursor.try_consume.Goals as goal

pub invariant_of-self : goal.invariant_of-self
invariant_of-self c = record {
  in_range = All-take IsCodePoint (length c.args.self.now.rest.now - 1) _ (All-drop IsCodePoint 1 _ c.args.self.now.in_range);
}
