-- Whether some member of a set passes a test.
use Rattle.std.proofs.Common.{◌≡◌, ℕ, ◌==◌, Bool, true, false, ◌||◌, List, [], ◌∷◌, refl, sym, ap, ◌∙◌}
use Rattle.std.specs.List.{list_any}
use Rattle.std.proofs.lemmas.Bool.{eqb-true, false≢true}
use Rattle.regress_base.specs.Intervals.{is_member, is_within}
use Rattle.regress_base.specs.Listing.{lists, code_points}
use Rattle.regress_base.proofs.lemmas.Listings.{lists-head, lists-tail, lists-interval}
use Rattle.regress_ecma.specs.Notation.{CharSet}
use Rattle.regress_ecma.specs.Characters.{has_some}

pub or-right : (b : Bool) → (b || true) ≡ true
or-right true = refl
or-right false = refl

list_any_from : (q : ℕ → Bool) (xs : List ℕ) (m : ℕ) → lists xs m ≡ true → q m ≡ true → list_any q xs ≡ true
list_any_from q [] m member h = absurd (false≢true member)
list_any_from q (x ∷ xs) m member h = by_test (x == m) refl member (λ t. list_any_from q xs m t h)
  where
    by_test : (b : Bool) → (x == m) ≡ b → (b || lists xs m) ≡ true → (lists xs m ≡ true → list_any q xs ≡ true) → (q x || list_any q xs) ≡ true
    by_test true e t later =
        let same : x ≡ m = eqb-true x m e in
        let here : q x ≡ true = ap q same ∙ h in
        rw here refl
    by_test false e t later = rw (later t) (or-right (q x))

list_any_gives : (q : ℕ → Bool) (xs : List ℕ) → list_any q xs ≡ true → (m : ℕ) × (lists xs m ≡ true) × (q m ≡ true)
list_any_gives q [] h = absurd (false≢true h)
list_any_gives q (x ∷ xs) h = by_test (q x) refl h (list_any_gives q xs)
  where
    by_test : (b : Bool) → q x ≡ b → (b || list_any q xs) ≡ true →
        (list_any q xs ≡ true → (m : ℕ) × (lists xs m ≡ true) × (q m ≡ true)) → (m : ℕ) × (lists (x ∷ xs) m ≡ true) × (q m ≡ true)
    by_test true e t later = (x, lists-head x xs, e)
    by_test false e t later = let found = later t in (found.0, lists-tail x xs found.0 found.1, found.2)

pub has_some_from : (q : ℕ → Bool) (set : CharSet) (m : ℕ) → is_member set m ≡ true → q m ≡ true → has_some q set ≡ true
unfolding is_member
has_some_from q [] m member h = absurd (false≢true member)
has_some_from q (iv ∷ ivs) m member h = by_test (is_within iv m) refl member (λ t. has_some_from q ivs m t h)
  where
    by_test : (b : Bool) → is_within iv m ≡ b → (b || is_member ivs m) ≡ true → (is_member ivs m ≡ true → has_some q ivs ≡ true) →
        (list_any q (code_points iv) || has_some q ivs) ≡ true
    by_test true e t later = rw (list_any_from q (code_points iv) m (lists-interval iv m ∙ e) h) refl
    by_test false e t later = rw (later t) (or-right (list_any q (code_points iv)))

pub has_some_gives : (q : ℕ → Bool) (set : CharSet) → has_some q set ≡ true → (m : ℕ) × (is_member set m ≡ true) × (q m ≡ true)
unfolding is_member
has_some_gives q [] h = absurd (false≢true h)
has_some_gives q (iv ∷ ivs) h = by_test (list_any q (code_points iv)) refl h (has_some_gives q ivs)
  where
    by_test : (b : Bool) → list_any q (code_points iv) ≡ b → (b || has_some q ivs) ≡ true →
        (has_some q ivs ≡ true → (m : ℕ) × (is_member ivs m ≡ true) × (q m ≡ true)) →
        (m : ℕ) × ((is_within iv m || is_member ivs m) ≡ true) × (q m ≡ true)
    by_test true e t later =
        let found = list_any_gives q (code_points iv) e in
        let within : is_within iv found.0 ≡ true = sym (lists-interval iv found.0) ∙ found.1 in
        (found.0, rw within refl, found.2)
    by_test false e t later =
        let found = later t in
        (found.0, rw found.1 (or-right (is_within iv found.0)), found.2)
