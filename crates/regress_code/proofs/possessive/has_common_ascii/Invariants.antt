-- No ASCII character so far is in both sets.
use Rattle.std.proofs.Common.{◌≡◌, ◌<◌, ℕ, false, true}
use Rattle.regress_base.specs.ByteBitmap.{contains}
use Rattle.regress_code.proofs.possessive.has_common_ascii.Given as goal

abbrev pub invariant-loop-b : goal.invariant-loop-b
invariant-loop-b l = record { apart : (k : ℕ) → k < l.b → contains l.one k ≡ true → contains l.two k ≡ false }
