use Rattle.std.proofs.Common.{◌≡◌, ◌+◌, length}
use Rattle.regex_glob.specs.Glob.{closing}
use Rattle.regex_glob.proofs.piece.closing.Given as goal

-- the tokens in front, with those in front of the first `]` of the rest
abbrev pub invariant-loop-rest : goal.invariant-loop-rest
invariant-loop-rest l = (l.before + closing l.rest ≡ closing l.tokens) × (l.before + length l.rest ≡ length l.tokens)

abbrev pub decreases-loop-rest : goal.decreases-loop-rest
decreases-loop-rest l = length l.rest
