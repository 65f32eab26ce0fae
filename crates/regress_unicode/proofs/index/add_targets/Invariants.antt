-- A number outside the set was not in it before, and is not among the targets so far.
use Rattle.std.proofs.Common.{◌≡◌, ℕ, ◌<◌, ◌≤◌, false}
use Rattle.regress_base.specs.AsciiBitmap.{ascii_contains}
use Rattle.regress_unicode.proofs.index.add_targets.Given as goal

abbrev pub invariant-loop-target : goal.invariant-loop-target
invariant-loop-target l = record {
  kept : (b : ℕ) → ascii_contains l.targets b ≡ false → ascii_contains l.fn.targets b ≡ false;
  added : (b : ℕ) → ascii_contains l.targets b ≡ false → l.first ≤ b → b < l.target → ⊥;
}
