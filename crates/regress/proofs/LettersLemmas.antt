-- Counting one more letter, errors of letters, and the flags in force.
use Rattle.std.proofs.Common.{◌≡◌, ◌∙◌, ℕ, ◌+◌, ◌<◌, ◌≤◌, min, Bool, true, false, List, [], ◌∷◌, ◌++◌, cond, get_or, length, refl, ap, subst, sym, arith}
use Rattle.std.specs.Prelude.{◌==◌, ◌||◌}
use Rattle.std.specs.List.{Contains}
use Rattle.std.specs.Int.{from_bool}
use Rattle.std.proofs.Math.Bool.{or_assoc, or_self}
use Rattle.std.proofs.lemmas.List.Elements.{Contains-get_or}
use Rattle.std.proofs.lemmas.List.Sums.{sum_by-append}
use Rattle.regress_front.specs.Dialects.{flags_in_force}
use Rattle.regress_front.specs.Source.{char}
use Rattle.regress_front.specs.declared.parse.Dialect.TheVariants.{Ecma}
use Rattle.regress.specs.Letters.{IsErrorOf, count, flags_of, has, is_known}
use Rattle.regress.specs.declared.letters.FlagsError.TheVariants.{Unknown}

one : (b : Bool) → 0 + cond b 1 0 ≡ from_bool b
one true = refl
one false = refl

count_more : (letters : List ℕ) (x c : ℕ) → count (letters ++ x ∷ []) c ≡ count letters c + from_bool (x == c)
count_more letters x c =
    sum_by-append (λ d. cond (d == c) 1 0) letters (x ∷ []) ∙ ap (λ n. count letters c + n) (one (x == c))

-- the saturated number of a letter after one more letter
pub counted_more : (letters : List ℕ) (x c times bit new : ℕ) → times ≡ min (count letters c) 18446744073709551615 →
    bit ≡ from_bool (x == c) → new ≡ min (times + bit) 18446744073709551615 →
    new ≡ min (count (letters ++ x ∷ []) c) 18446744073709551615
counted_more letters x c times bit new so_far is next =
    saturated (count letters c) bit (count (letters ++ x ∷ []) c) times new so_far next
    (count_more letters x c ∙ ap (λ n. count letters c + n) (sym is))
  where
    saturated : (n bit more times new : ℕ) → times ≡ min n 18446744073709551615 → new ≡ min (times + bit) 18446744073709551615 →
        more ≡ n + bit → new ≡ min more 18446744073709551615
    saturated n bit more times new so_far next grown = omega arith

-- A letter at some index that is unknown is an error.
pub unknown_at : (letters : List ℕ) (x i : ℕ) → i < length letters → x ≡ get_or letters i x → is_known x ≡ false → IsErrorOf letters (Unknown x)
unknown_at letters x i within is unknown = (subst (Contains letters) (sym is) (Contains-get_or letters i x within), unknown)

pub above_once : (n times : ℕ) → times ≡ min n 18446744073709551615 → 1 < times → 1 < n
above_once n times counted twice = omega arith

pub within_once : (n times : ℕ) → times ≡ min n 18446744073709551615 → times ≤ 1 → n ≤ 1
within_once n times counted few = omega arith

-- The flags of letters are in force in the dialect Ecma as they are: v includes u there already.
pub in_force : (letters : List ℕ) → flags_in_force Ecma (flags_of letters) ≡ flags_of letters
in_force letters =
    let u = has letters (char "u") in
    let v = has letters (char "v") in
    ap (λ unicode. record (flags_of letters) { unicode = unicode }) (or_assoc u v v ∙ ap (λ b. u || b) (or_self v))
