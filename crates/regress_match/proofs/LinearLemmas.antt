-- Which searches take linear time, from the tree.
use Rattle.std.proofs.Common.{◌≡◌, ℕ, ◌+◌, ◌≤◌, Bool, true, false, not, ◌&&◌, ◌||◌, nat_le, min, List, Some, None, refl, sym, ap, ap₂, ◌∙◌, arith}
use Rattle.std.proofs.lemmas.Bool.{le-leb, leb-false, leb-true, lt-leb}
use Rattle.std.specs.Prelude.{if◌then◌else◌, is_some, length, option_map}
use Rattle.regress_tree.specs.Tree.{Tree}
use Rattle.regress_tree.specs.WellFormed.{captures}
use Rattle.regress_program.specs.Compiled.{total}
use Rattle.regress_program.specs.Linear.{has_back_reference, is_linear, is_linear_tree}
use Rattle.regress_program.specs.Program.{Routine}
use Rattle.regress_program.specs.Ranges.{inner_groups}
use Rattle.regress_program.specs.declared.counts.Counts.{Counts}
use Rattle.regress_program.specs.declared.counts.Counts.TheVariants.{Bounded, Unbounded, Copied}
use Rattle.regress_program.specs.Size.{IsSize, counts_within, is_bounded, is_copied, program_size, size, unbounded_size}
use Rattle.regress_program.specs.Tidy.{has_no_back_reference}
use Rattle.regress_program.proofs.lemmas.Strict.{reason-tree}
use Rattle.regress_match.specs.Matcher.{IsFactorOf, IsNonlinearOf, factor, factor_with, find_factor, find_factor_with, is_find_linear_tree, nonlinear_by, nonlinear_with}

-- whether the program is within the limits, and has bounded counts
module _ (limit linear : ℕ) (t : Tree) where
  abbrev counts_if : (bounded unbounded : Bool) → Counts
  counts_if bounded unbounded = if bounded then Bounded else if unbounded then Unbounded else Copied

  bounded_if : (b c : Bool) → nat_le (program_size t) limit ≡ b → is_bounded (counts_if b c) ≡ b
  bounded_if true c is = refl
  bounded_if false true is = refl
  bounded_if false false is = refl

  pub size_within : (n : ℕ) → IsSize limit t n → program_size t ≤ limit → n ≡ program_size t
  size_within n counted le =
      let small : nat_le (program_size t) limit ≡ true = le-leb (program_size t) limit le in
      let counts : counts_within limit t ≡ Bounded = ap (λ b. counts_if b (nat_le (unbounded_size t) limit)) small in
      counted.exact (ap is_copied counts) ∙ ap (λ c. size c t + 1) counts

  fits : (b : Bool) (n : ℕ) → nat_le (program_size t) limit ≡ b → (program_size t ≤ limit → n ≡ program_size t) →
      (b && nat_le n linear) ≡ nat_le (program_size t) (min linear limit)
  fits true n is same =
      let small : program_size t ≤ limit = leb-true (program_size t) limit is in
      ap (λ k. nat_le k linear) (same small) ∙ by (nat_le (program_size t) linear) refl
    where
      by : (b : Bool) → nat_le (program_size t) linear ≡ b → b ≡ nat_le (program_size t) (min linear limit)
      by true small =
          sym (le-leb (program_size t) (min linear limit) (omega (arith, leb-true (program_size t) limit is, leb-true (program_size t) linear small)))
      by false large = sym (lt-leb (program_size t) (min linear limit) (omega (arith, leb-false (program_size t) linear large)))
  fits false n is same = sym (lt-leb (program_size t) (min linear limit) (omega (arith, leb-false (program_size t) limit is)))

  pub within_limits : (counts : Counts) (n : ℕ) → counts ≡ counts_within limit t → IsSize limit t n →
      (is_bounded counts && nat_le n linear) ≡ nat_le (program_size t) (min linear limit)
  within_limits counts n is counted =
      let bounded : is_bounded counts ≡ nat_le (program_size t) limit =
      ap is_bounded is ∙ bounded_if (nat_le (program_size t) limit) (nat_le (unbounded_size t) limit) refl in
      ap (λ b. b && nat_le n linear) bounded ∙ fits (nat_le (program_size t) limit) n refl (size_within n counted)

module _ (groups : ℕ) (routines : List Routine) (t : Tree) (limit : ℕ) (within : Bool) (counted : groups ≡ length (captures t))
    (fits : within ≡ nat_le (program_size t) limit) (size_if : program_size t ≤ limit → total routines ≡ program_size t)
    (linear : is_linear routines ≡ is_linear_tree t) (plain : has_no_back_reference routines ≡ not (has_back_reference t)) where
  sized-factor : (b l : Bool) → b ≡ nat_le (program_size t) limit →
      (if b && l then Some (factor (total routines) groups) else None) ≡ (if b && l then Some (factor (program_size t) groups) else None)
  sized-factor true true is = ap (λ n. Some (factor n groups)) (size_if (leb-true (program_size t) limit (sym is)))
  sized-factor true false is = refl
  sized-factor false l is = refl

  pub factor_tree : IsFactorOf limit t (factor_with groups routines within)
  factor_tree =
      sized-factor within (is_linear routines) fits
      ∙ ap₂ (λ (b l : Bool). if b && l then Some (factor (program_size t) groups) else None) fits linear
      ∙ ap (λ k. if nat_le (program_size t) limit && is_linear_tree t then Some (factor (program_size t) k) else None) counted

  pub nonlinear_tree : IsNonlinearOf limit t (nonlinear_with routines within)
  nonlinear_tree = ap₂ nonlinear_by (reason-tree routines t plain linear) fits

  pub find_linear_tree : (tidy : Bool) → tidy ≡ true → is_some (find_factor_with groups tidy routines within) ≡ is_find_linear_tree limit t
  find_linear_tree tidy is =
      by within (has_no_back_reference routines) (is_linear routines) tidy is ∙ ap₂ ◌&&◌ fits plain
    where
      by : (within none straight tidy : Bool) → tidy ≡ true →
          is_some (if within then option_map (find_factor (total routines) groups) (if none && (straight || tidy) then Some (inner_groups routines) else None) else None) ≡ (within && none)
      by false none straight tidy is = refl
      by true false straight tidy is = refl
      by true true true tidy is = refl
      by true true false true is = refl
      by true true false false is = cc
