use Rattle.std.proofs.Common.{length, ◌-◌}
use Rattle.std.proofs.lemmas.List.Elements.{All-drop, All-take}
use Rattle.regress_lexer.specs.Source.{IsCodePoint}
use Rattle.regress_classes.proofs.class_sets.try_consume_ampersand.Goals as goal

pub invariant_of-cursor : goal.invariant_of-cursor
invariant_of-cursor c = record {
  in_range = All-take IsCodePoint (length c.args.cursor.now.rest.now - 1) _ (All-drop IsCodePoint 1 _ c.args.cursor.now.in_range);
}
