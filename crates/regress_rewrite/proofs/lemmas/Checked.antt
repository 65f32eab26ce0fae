-- Checked sums.
use Rattle.std.proofs.Common.{◌≡◌, ℕ, Option, Some, None, Ok}
use Rattle.std.specs.Prelude.{SomeIff, alloc_error}
use Rattle.std.specs.Option.{ok_or}

pub sum_of : (P : Type 0) (n sum : ℕ) (r : Option ℕ) → SomeIff r P sum → Ok n ≡ ok_or r alloc_error → n ≡ sum
sum_of P n sum None test is = cc
sum_of P n sum (Some m) test is = let same = test.1 in cc
