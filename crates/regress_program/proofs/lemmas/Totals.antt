-- The number of instructions of a program, and of its routines.
use Rattle.std.proofs.Common.{zero, suc, ◌≡◌, ℕ, ◌+◌, ◌≤◌, List, [], ◌∷◌, length, slice_get, take, Some, ap, ◌∙◌, arith}
use Rattle.regress_program.specs.Compiled.{total}
use Rattle.regress_program.specs.Program.{Routine}

total-suc : (program : List Routine) (i : ℕ) (r : Routine) → slice_get program i ≡ Some r → total (take (suc i) program) ≡ total (take i program) + length r.ops
total-suc [] i r is = cc
total-suc (x ∷ xs) zero r is = let same : x ≡ r = cc in omega (arith, ap (λ (y : Routine). length y.ops) same)
total-suc (x ∷ xs) (suc i) r is = omega (arith, total-suc xs i r is)

pub total-more : (program : List Routine) (i : ℕ) (r : Routine) → slice_get program i ≡ Some r → total (take (i + 1) program) ≡ total (take i program) + length r.ops
total-more program i r is = let e : i + 1 ≡ suc i = omega arith in ap (λ k. total (take k program)) e ∙ total-suc program i r is

-- The first routines have at most as many instructions as all.
pub total_part : (program : List Routine) (i : ℕ) → total (take i program) ≤ total program
total_part [] zero = omega arith
total_part [] (suc i) = omega arith
total_part (r ∷ rs) zero = omega arith
total_part (r ∷ rs) (suc i) = omega (arith, total_part rs i)

-- A routine has at most as many instructions as the program.
pub routine_size : (program : List Routine) (i : ℕ) (r : Routine) → slice_get program i ≡ Some r → length r.ops ≤ total program
routine_size [] i r is = cc
routine_size (x ∷ xs) zero r is = let same : x ≡ r = cc in omega (arith, ap (λ (y : Routine). length y.ops) same)
routine_size (x ∷ xs) (suc i) r is = omega (arith, routine_size xs i r is)
