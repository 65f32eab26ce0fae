-- The letters of modifiers that switch flags on and off.
use Rattle.std.proofs.Common.{◌≡◌, ℕ, Bool, true, false, not, ◌&&◌, ◌||◌, ◌==◌, List, [], ◌∷◌, ◌++◌, refl, sym}
use Rattle.std.proofs.Math.Bool.{and-true}
use Rattle.std.specs.List.{list_all}
use Rattle.regress_lexer.specs.Modifiers.{is_in, are_different}

is_in-append : (c : ℕ) (xs ys : List ℕ) → is_in c (xs ++ ys) ≡ (is_in c xs || is_in c ys)
is_in-append c [] ys = refl
is_in-append c (x ∷ xs) ys = elim (x == c) as (λ b. (b || is_in c (xs ++ ys)) ≡ ((b || is_in c xs) || is_in c ys))
    [ true ↦ refl | false ↦ is_in-append c xs ys ]

regroup : (a b c d e : Bool) → (not (a || b) && (c && d && e)) ≡ ((not a && c) && d && (not b && e))
regroup true b c d e = refl
regroup false true true true e = refl
regroup false true true false e = refl
regroup false true false d e = refl
regroup false false c d e = refl

-- The letters of a concatenation are distinct exactly if those of each list are and the lists share none.
pub different_in_both : (on off : List ℕ) →
    are_different (on ++ off) ≡ (are_different on && are_different off && list_all (λ c. not (is_in c off)) on)
different_in_both [] off = sym (and-true (are_different off))
different_in_both (c ∷ on) off =
    rw (is_in-append c on off, different_in_both on off)
    (regroup (is_in c on) (is_in c off) (are_different on) (are_different off) (list_all (λ d. not (is_in d off)) on))
