-- Membership in lists that are made from other lists.
use Rattle.std.proofs.Common.{◌≡◌, ℕ, ◌+◌, ◌<◌, Bool, true, false, ◌||◌, List, [], ◌∷◌, ◌++◌, length, take, drop, get_or, refl, ap, ◌∙◌, suc, zero, le_of_suc-le-suc, not-suc-le-zero, arith}
use Rattle.std.proofs.Math.Bool.{or-false}
use Rattle.std.proofs.lemmas.Bool.{or_left, or_right, or_from}
use Rattle.std.proofs.lemmas.List.{take_more, drop_more}
use Rattle.regress_base.specs.Intervals.{Bounds, is_within, is_member}

pub is_member-nil : (c : ℕ) → is_member [] c ≡ false
unfolding is_member
is_member-nil c = refl

pub is_member-cons : (iv : Bounds) (ivs : List Bounds) (c : ℕ) → is_member (iv ∷ ivs) c ≡ (is_within iv c || is_member ivs c)
unfolding is_member
is_member-cons iv ivs c = refl

pub or_assoc : (x y z : Bool) → (x || (y || z)) ≡ ((x || y) || z)
or_assoc true y z = refl
or_assoc false y z = refl

pub is_member-append : (xs ys : List Bounds) (c : ℕ) → is_member (xs ++ ys) c ≡ (is_member xs c || is_member ys c)
unfolding is_member
is_member-append [] ys c = refl
is_member-append (x ∷ xs) ys c =
    ap (λ b. is_within x c || b) (is_member-append xs ys c) ∙ or_assoc (is_within x c) (is_member xs c) (is_member ys c)

pub is_member-one : (iv : Bounds) (c : ℕ) → is_member (iv ∷ []) c ≡ is_within iv c
unfolding is_member
is_member-one iv c = or-false (is_within iv c)

pub is_member-push : (xs : List Bounds) (iv : Bounds) (c : ℕ) → is_member (xs ++ iv ∷ []) c ≡ (is_member xs c || is_within iv c)
is_member-push xs iv c =
    is_member-append xs (iv ∷ []) c ∙ ap (λ b. is_member xs c || b) (is_member-one iv c)

-- one more interval of a prefix
pub is_member-take_more : (xs : List Bounds) (i c : ℕ) (d : Bounds) → i < length xs
    → is_member (take (i + 1) xs) c ≡ (is_member (take i xs) c || is_within (get_or xs i d) c)
is_member-take_more xs i c d h =
    ap (λ l. is_member l c) (take_more xs i d h) ∙ is_member-push (take i xs) (get_or xs i d) c

pub is_member-drop_more : (xs : List Bounds) (i c : ℕ) (d : Bounds) → i < length xs
    → is_member (drop i xs) c ≡ (is_within (get_or xs i d) c || is_member (drop (i + 1) xs) c)
is_member-drop_more xs i c d h =
    ap (λ l. is_member l c) (drop_more xs i d h) ∙ is_member-cons (get_or xs i d) (drop (i + 1) xs) c

pub is_member-at : (xs : List Bounds) (i c : ℕ) (d : Bounds) → i < length xs → is_within (get_or xs i d) c ≡ true → is_member xs c ≡ true
is_member-at [] i c d h t = absurd (not-suc-le-zero h)
is_member-at (x ∷ xs) zero c d h t =
    is_member-cons x xs c ∙ or_left (is_within x c) (is_member xs c) t
is_member-at (x ∷ xs) (suc i) c d h t =
    is_member-cons x xs c ∙ or_right (is_within x c) (is_member xs c) (is_member-at xs i c d (le_of_suc-le-suc h) t)

pub is_member-nowhere : (xs : List Bounds) (c : ℕ) (d : Bounds) → ((i : ℕ) → i < length xs → is_within (get_or xs i d) c ≡ false)
    → is_member xs c ≡ false
is_member-nowhere [] c d none = is_member-nil c
is_member-nowhere (x ∷ xs) c d none =
    is_member-cons x xs c
    ∙ or_from (is_within x c) (is_member xs c) (none 0 (omega arith)) (is_member-nowhere xs c d (λ i h. none (suc i) (omega arith)))
