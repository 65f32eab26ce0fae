-- The first character of a string.
use Rattle.std.proofs.Common.{◌≡◌, ℕ, ◌<◌, ◌≤◌, Bool, true, nat_le, IsTrue, List, [], ◌∷◌, drop, get_or, length, map, slice_get, Some, sym, ap, ◌∙◌, arith}
use Rattle.std.specs.Box.{boxed_slice_items}
use Rattle.std.specs.Char.{is_ascii}
use Rattle.std.specs.Global.{Global}
use Rattle.std.specs.Prelude.{OkIff}
use Rattle.std.specs.Prelude.{Result, Ok, Err}
use Rattle.std.specs.Result.{result_ok}
use Rattle.std.specs.declared.boxed.BoxedSlice.{BoxedSlice}
use Rattle.std.proofs.lemmas.Bool.Decides.{nat_tests}
use Rattle.std.proofs.lemmas.Bool.{and_parts, leb-true}
use Rattle.regress_base.specs.FirstBytes.{IsFirstByteBetween}
use Rattle.regress_base.specs.Intervals.{Bounds, is_within}
use Rattle.regress_prefilter.specs.FirstSets.{IsCovered}
use Rattle.regress_unicode.specs.Caseless.{is_caseless}
use Rattle.regress_leaves.specs.Starts.{HasClass}

pub sole_string : (strings : List (BoxedSlice ℕ Global)) → length strings ≡ 1 → (string : BoxedSlice ℕ Global) → string ≡ get_or strings 0 string →
    map boxed_slice_items strings ≡ boxed_slice_items string ∷ []
sole_string [] one string is = let bad : ⊥ = omega (arith, one) in absurd bad
sole_string (x ∷ []) one string is = ap (λ y. boxed_slice_items y ∷ []) (sym is)
sole_string (x ∷ y ∷ strings) one string is = let bad : ⊥ = omega (arith, one) in absurd bad

pub first_of_string : (string : List ℕ) (c : ℕ) → Some c ≡ slice_get string 0 → string ≡ c ∷ drop 1 string
first_of_string [] c is = let bad : ⊥ = cc in absurd bad
first_of_string (x ∷ xs) c is = let same : x ≡ c = cc in ap (λ y. y ∷ xs) same

pub narrowed : {E : Type 0} (r : Result ℕ E) (P : Type 0) (v c : ℕ) → OkIff r P v → Some c ≡ result_ok r → c ≡ v
narrowed (Ok x) P v c iff is = let same : c ≡ x = cc in same ∙ iff.1
narrowed (Err e) P v c iff is = let bad : ⊥ = cc in absurd bad

pub circled_class : (c : ℕ) → 0x24B6 ≤ c → c ≤ 0x24E9 → HasClass (record { first = 0x24B6; last = 0x24E9 }) c
unfolding is_within
circled_class c low high = λ f keeps x same. keeps.circled c x (grind (arith, nat_tests, low, high)) same

pub caseless_class : (c : ℕ) → is_caseless c ≡ true → HasClass (record { first = c; last = c }) c
unfolding is_within
caseless_class c is = λ f keeps x same. let own : x ≡ c = keeps.caseless c x is same in grind (arith, nat_tests, own)

pub interval_covered : (set : ℕ → Bool) (x : Bounds) (c : ℕ) → ((b : ℕ) → IsFirstByteBetween x.first x.last b → IsTrue (set b)) → is_within x c ≡ true →
    IsCovered set c
unfolding is_within
interval_covered set x c has is =
    let both = and_parts (nat_le x.first c) (nat_le c x.last) is in
    λ scalar b first. has b (record { code_point = c; from_first = leb-true x.first c both.0; to_last = leb-true c x.last both.1; begins = first })

pub ascii_below : (c : ℕ) → is_ascii c ≡ true → c < 128
ascii_below c is = grind (arith, nat_tests)
