-- The number of open groups is the same as before the loop.
use Rattle.std.proofs.Common.{◌≡◌}
use Rattle.regress_railroad.proofs.draw.+draw.Given as goal

abbrev pub invariant-draw_row-loop-index : goal.invariant-draw_row-loop-index
invariant-draw_row-loop-index l = l.sheet.depth ≡ l.initial.sheet.depth

abbrev pub invariant-draw_rows-loop-index : goal.invariant-draw_rows-loop-index
invariant-draw_rows-loop-index l = l.sheet.depth ≡ l.initial.sheet.depth

abbrev pub invariant-draw_tracks-loop-index : goal.invariant-draw_tracks-loop-index
invariant-draw_tracks-loop-index l = l.sheet.depth ≡ l.initial.sheet.depth
