-- The members of a closure, and that a closure depends on the members of the set alone.
use Rattle.std.proofs.Common.{◌≡◌, ℕ, true, List, sym, ◌∙◌}
use Rattle.regress_base.specs.Intervals.{Bounds, is_member}
use Rattle.regress_base.specs.Table.{Table, is_in_closure}
use Rattle.regress_base.proofs.lemmas.Literals.{same_tests}
pub use Rattle.regress_unicode.proofs.ClosureLemmas.{closure_from, closure_gives}

module _ (table : Table) where
  closure_within : (xs ys : List Bounds) → ((m : ℕ) → is_member xs m ≡ is_member ys m) → (c : ℕ) →
      is_in_closure table xs c ≡ true → is_in_closure table ys c ≡ true
  closure_within xs ys same c e =
      let given = closure_gives table xs c e in
      closure_from table ys given.1 c given.0 (sym (same given.1) ∙ given.2) given.3

  pub closure_same : (xs ys : List Bounds) → ((m : ℕ) → is_member xs m ≡ is_member ys m) → (c : ℕ) →
      is_in_closure table xs c ≡ is_in_closure table ys c
  closure_same xs ys same c =
      same_tests _ _ (closure_within xs ys same c) (closure_within ys xs (λ m. sym (same m)) c)
