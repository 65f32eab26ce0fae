use Rattle.std.proofs.Common.{◌≡◌, ◌++◌, length, map}
use Rattle.regex_glob.specs.Glob.{piece_of, pieces_after}
use Rattle.regex_glob.proofs.piece.pieces.Given as goal

-- the pieces so far, and those of the rest
abbrev pub invariant-loop-rest : goal.invariant-loop-rest
invariant-loop-rest l = map piece_of l.pieces.items ++ pieces_after l.more l.rest ≡ pieces_after 0 l.tokens

abbrev pub decreases-loop-rest : goal.decreases-loop-rest
decreases-loop-rest l = length l.rest
