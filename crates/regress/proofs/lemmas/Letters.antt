-- Letters that have an error are no flags.
use Rattle.std.proofs.Common.{◌≡◌, ◌∙◌, ℕ, ◌<◌, ◌≤◌, true, List, get_or, length, subst, sym, arith}
use Rattle.std.specs.Prelude.{◌==◌}
use Rattle.std.specs.List.{Contains, filter}
use Rattle.std.proofs.lemmas.Bool.{eqb-true, false≢true}
use Rattle.std.proofs.lemmas.List.Elements.{All-contains, All-contains_itself, All-filter, filter_passes}
use Rattle.std.proofs.lemmas.List.Sums.{length-filter}
use Rattle.regress.specs.Letters.{AreFlags, IsErrorOf, count, is_known}
use Rattle.regress.specs.declared.letters.FlagsError.{FlagsError}
use Rattle.regress.specs.declared.letters.FlagsError.TheVariants.{Unknown, Repeated, UnicodeAndSets}

-- A character that is counted is one of the letters.
counted : (letters : List ℕ) (c : ℕ) → 0 < count letters c → Contains letters c
counted letters c some =
    let is = λ (d : ℕ). d == c in
    let within : 0 < length (filter is letters) = subst (λ n. 0 < n) (sym (length-filter is letters)) some in
    subst (Contains letters) (eqb-true (get_or (filter is letters) 0 c) c (filter_passes is letters 0 c within))
    (All-filter is (Contains letters) letters (All-contains_itself letters) 0 c within)

pub no_flags_with : (letters : List ℕ) (error : FlagsError) → IsErrorOf letters error → AreFlags letters → ⊥
no_flags_with letters (Unknown c) (is, unknown) flags =
    let known : is_known c ≡ true = All-contains (λ d. is_known d ≡ true) letters c flags.known is in
    false≢true (sym unknown ∙ known)
no_flags_with letters (Repeated c) twice flags =
    let once : count letters c ≤ 1 = All-contains (λ d. count letters d ≤ 1) letters c flags.once (counted letters c (omega (arith, twice))) in
    omega (arith, twice, once)
no_flags_with letters UnicodeAndSets (u, v) flags = false≢true (sym (flags.apart u) ∙ v)
