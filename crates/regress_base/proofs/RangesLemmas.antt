-- How a binary search narrows an index range when the results do not decrease.
use Rattle.std.proofs.Common.{◌≡◌, ℕ, ◌+◌, ◌<◌, ◌≤◌, Bool, true, false, List, [], ◌∷◌, length, get_or, sym, ap, ◌∙◌, nat_cmp, is_lt, arith}
use Rattle.std.proofs.lemmas.Bool.Decides.{nat_tests}
use Rattle.std.proofs.lemmas.List.{get_or_read}
use denote.Param.Members.{Mut}
use denote.Bor.{Bor}
use Rattle.std.specs.Fn.{Called, AlwaysReturns, ComputesKey}
use Rattle.std.specs.List.{AllWithin}
use Rattle.std.specs.List.Sorted.{IsNonDecreasingBy}
use Rattle.std.specs.Ordering.{ordering_index}
use Rattle.std.specs.declared.cmp.Ordering.{Ordering}

-- a call of a closure that always computes gives the computed result, and the closure computes the same afterwards
call_computes : {F X R : Type 0} (g : Mut F X R) (P : X → R → Type 0) (f : F) (a : X) (r : R) (f' : F) → Called g f a r f'
    → AlwaysReturns g P f → P a r × AlwaysReturns g P f'
call_computes g P f a r f' call always =
    ((always.at (a ∷ []) r f' call).0, record { at = λ xs. (always.at (a ∷ xs) r f' call).1 })

-- the result at an element that was read
read_index : {X : Type 0} (ord : X → Ordering) (xs : List X) (i : ℕ) (x : X) (r : Ordering) (d : X) → i < length xs → x ≡ get_or xs i x
    → r ≡ ord x → ordering_index r ≡ ordering_index (ord (get_or xs i d))
read_index ord xs i x r d inside read response =
    ap ordering_index (response ∙ ap ord (get_or_read xs i x inside read d))

-- both facts for a closure that computes an order
pub returned : {F X : Type 0} (g : Mut F (Bor X × Unit {0}) Ordering) (ord : X → Ordering) (xs : List X)
    → (i : ℕ) (f f' : F) (a : Bor X) (r : Ordering) → i < length xs → a.now ≡ get_or xs i a.now
    → Called g f (a, tt) r f' → ComputesKey g ord f
    → ((d : X) → ordering_index r ≡ ordering_index (ord (get_or xs i d))) × ComputesKey g ord f'
returned g ord xs i f f' a r inside read call computes =
    let both = call_computes g _ f (a, tt) r f' call computes in
    (λ d. read_index ord xs i a.now r d inside read both.0, both.1)

pub index-lt : (a b : ℕ) (t : Bool) → t ≡ is_lt (nat_cmp a b) → t ≡ true → a < b
index-lt a b t is passed = let less : is_lt (nat_cmp a b) ≡ true = sym is ∙ passed in grind (arith, nat_tests)

pub index-ge : (a b : ℕ) (t : Bool) → t ≡ is_lt (nat_cmp a b) → t ≡ false → b ≤ a
index-ge a b t is failed = let less : is_lt (nat_cmp a b) ≡ false = sym is ∙ failed in grind (arith, nat_tests)

-- the results before `low` are below n, and those from `high` on are not
pub record Narrowed {X : Type 0} (ord : X → Ordering) (xs : List X) (n low high : ℕ) : Type 0 where
  pub below : AllWithin (λ x. ordering_index (ord x) < n) xs 0 low
  pub above : AllWithin (λ x. n ≤ ordering_index (ord x)) xs high (length xs)

module _ {X : Type 0} (ord : X → Ordering) (xs : List X) (n low high mid : ℕ) where
  pub narrowed-lower : IsNonDecreasingBy (λ x. ordering_index (ord x)) xs → mid < length xs
      → ((d : X) → ordering_index (ord (get_or xs mid d)) < n) → Narrowed ord xs n low high → Narrowed ord xs n (mid + 1) high
  narrowed-lower rising inside at narrowed = record {
    below = λ k d from to. let le = rising k mid d (omega arith) inside in let lt = at d in omega arith;
    above = narrowed.above;
  }

  pub narrowed-upper : IsNonDecreasingBy (λ x. ordering_index (ord x)) xs → ((d : X) → n ≤ ordering_index (ord (get_or xs mid d)))
      → Narrowed ord xs n low high → Narrowed ord xs n low mid
  narrowed-upper rising at narrowed = record {
    below = narrowed.below;
    above = λ k d from to. let le = rising mid k d from to in let least = at d in omega arith;
  }
