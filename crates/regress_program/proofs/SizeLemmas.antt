-- The number of instructions of each kind of node.
use Rattle.std.proofs.Common.{◌≡◌, Result, Ok, Err, IfErr, IsErrAnd, ℕ, zero, suc, ◌+◌, ◌-◌, ◌*◌, ◌/◌, ◌%◌, ◌==◌, ◌≤◌, ◌<◌, Bool, true, if◌then◌else◌, List, [], ◌∷◌, length, drop, get_or, refl, sym, ap, ap₂, ◌∙◌, arith}
use Rattle.std.proofs.lemmas.Bool.{eq-eqb, ne_eqb}
use Rattle.regress_tree.specs.Tree.{tree, trees}
use Rattle.regress_tree.specs.declared.ir.node.Node.{Node}
use Rattle.regress_tree.specs.Tree.{string_set}
use Rattle.regress_program.specs.Size.{size_of_leaf, sized, sized_parts, size_of_exactly, size_of_up_to}
use Rattle.regress_program.specs.declared.counts.Counts.{Counts}
use Rattle.regress_program.specs.declared.counts.Counts.TheVariants.{Bounded, Unbounded, Copied}
use Rattle.regress_program.specs.declared.fault.CompileFault.{CompileFault}
use Rattle.regress_program.specs.declared.fault.CompileFault.TheVariants.{TooLong}
use Rattle.regress_program.proofs.ViewLemmas.{from_index}

-- ---- the error that `?` returns

module _ {T : Type 0} where
  pub too_long : (r : Result T CompileFault) (fault : CompileFault) (P : Type 0) → IsErrAnd r (λ y. y ≡ fault) → (fault ≡ TooLong → P) →
      IfErr r (λ y. y ≡ TooLong → P)
  too_long (Ok x) fault P is known = absurd is
  too_long (Err y) fault P is known = λ long. known (sym is ∙ long)

-- ---- loops

pub copies-more : (n i : ℕ) → n * (i + 1) ≡ n * i + n
copies-more n i = grind arith

-- ---- loops over one character

pub exactly-one : (counts : Counts) → size_of_exactly counts 1 ≡ 1
exactly-one Bounded = refl
exactly-one Unbounded = refl
exactly-one Copied = refl

pub exactly-none : (counts : Counts) → size_of_exactly counts 0 ≡ 0
exactly-none Bounded = refl
exactly-none Unbounded = refl
exactly-none Copied = refl

module _ (counts : Counts) where
  up_to-same : (m m' n : ℕ) → n ≤ m → n ≤ m' → size_of_up_to counts m n ≡ size_of_up_to counts m' n
  unfolding size_of_up_to
  up_to-same zero zero n le le' = refl
  up_to-same zero (suc m') n le le' =
      let none : (n == 0) ≡ true = eq-eqb n 0 (omega (arith, le)) in
      sym (ap (λ (b : Bool). if b then 0 else if n % 2 == 0 then size_of_up_to counts m' (n - 1) + 2 else size_of_up_to counts m' (n / 2) + size_of_exactly counts (n / 2 + 1) + 1) none)
  up_to-same (suc m) zero n le le' =
      let none : (n == 0) ≡ true = eq-eqb n 0 (omega (arith, le')) in
      ap (λ (b : Bool). if b then 0 else if n % 2 == 0 then size_of_up_to counts m (n - 1) + 2 else size_of_up_to counts m (n / 2) + size_of_exactly counts (n / 2 + 1) + 1) none
  up_to-same (suc m) (suc m') n le le' =
      ap₂ (λ (x y : ℕ). if n == 0 then 0 else if n % 2 == 0 then x + 2 else y + size_of_exactly counts (n / 2 + 1) + 1)
      (up_to-same m m' (n - 1) (omega (arith, le)) (omega (arith, le'))) (up_to-same m m' (n / 2) (omega (arith, le)) (omega (arith, le')))

  pub up_to-none : (n : ℕ) → n ≡ 0 → size_of_up_to counts n n ≡ 0
  unfolding size_of_up_to
  up_to-none n none = up_to-same n 0 n (omega arith) (omega (arith, none))

  pub up_to-even : (n : ℕ) → (n ≡ 0 → ⊥) → n % 2 ≡ 0 → size_of_up_to counts n n ≡ size_of_up_to counts (n - 1) (n - 1) + 2
  unfolding size_of_up_to
  up_to-even zero some even = absurd (some refl)
  up_to-even (suc k) some even =
      ap₂ (λ (a b : Bool). if a then 0 else if b then size_of_up_to counts k (suc k - 1) + 2 else size_of_up_to counts k (suc k / 2) + size_of_exactly counts (suc k / 2 + 1) + 1)
      (ne_eqb (suc k) 0 some) (eq-eqb (suc k % 2) 0 even)
      ∙ ap (λ (x : ℕ). x + 2) (up_to-same k (suc k - 1) (suc k - 1) (omega arith) (omega arith))

  pub up_to-odd : (n : ℕ) → (n ≡ 0 → ⊥) → (n % 2 ≡ 0 → ⊥) → size_of_up_to counts n n ≡ size_of_up_to counts (n / 2) (n / 2) + size_of_exactly counts (n / 2 + 1) + 1
  unfolding size_of_up_to
  up_to-odd zero some odd = absurd (some refl)
  up_to-odd (suc k) some odd =
      ap₂ (λ (a b : Bool). if a then 0 else if b then size_of_up_to counts k (suc k - 1) + 2 else size_of_up_to counts k (suc k / 2) + size_of_exactly counts (suc k / 2 + 1) + 1)
      (ne_eqb (suc k) 0 some) (ne_eqb (suc k % 2) 0 odd)
      ∙ ap (λ (x : ℕ). x + size_of_exactly counts (suc k / 2 + 1) + 1) (up_to-same k (suc k / 2) (suc k / 2) (omega arith) (omega arith))

-- ---- sequences

module _ (counts : Counts) (counted : ℕ → ℕ) where
  pub parts-more : (parts : List Node) (i j : ℕ) (x : Node) → j ≡ i - 1 → 0 < i → i ≤ length parts → x ≡ get_or parts j x →
      sized_parts counts counted (trees (drop j parts)) ≡ sized counts counted (tree x) + sized_parts counts counted (trees (drop i parts))
  parts-more parts i j x at some within is = ap (λ xs. sized_parts counts counted (trees xs)) (from_index parts i j x at some within is)

  pub parts-within : (parts : List Node) (i : ℕ) → sized_parts counts counted (trees (drop i parts)) ≤ sized_parts counts counted (trees parts)
  parts-within parts zero = omega arith
  parts-within [] (suc i) = omega arith
  parts-within (x ∷ parts) (suc i) = omega (arith, parts-within parts i)

-- ---- sets of strings

pub no_strings-size : (ss : List (List ℕ)) (icase : Bool) → length ss ≡ 0 → size_of_leaf (string_set ss icase) ≡ 1
no_strings-size [] icase none = refl
no_strings-size (s ∷ ss) icase none = absurd (omega (arith, none))

pub strings-size : (ss : List (List ℕ)) (icase : Bool) → 0 < length ss → size_of_leaf (string_set ss icase) + 1 ≡ 2 * length ss
strings-size [] icase some = absurd (omega (arith, some))
strings-size (s ∷ ss) icase some = omega arith
