use Rattle.std.proofs.Common.{length, ◌-◌}
use Rattle.std.proofs.lemmas.List.Elements.{All-drop, All-take}
use Rattle.regress_lexer.specs.Source.{IsCodePoint}
use Rattle.regress_syntax.proofs.group.parse_after_angle.Goals as goal

pub invariant_of-cursor : goal.invariant_of-cursor
invariant_of-cursor c = record {
  in_range = All-take IsCodePoint (length c.args.cursor.now.rest.now - 2) _ (All-drop IsCodePoint 2 _ c.args.cursor.now.in_range);
}

pub invariant_of-cursor-in-len2-up-2 : goal.invariant_of-cursor-in-len2-up-2
invariant_of-cursor-in-len2-up-2 c = record {
  in_range = All-take IsCodePoint (length c.args.cursor.now.rest.now - 2) _ (All-drop IsCodePoint 2 _ c.args.cursor.now.in_range);
}
