-- Lists of the ends of intervals: a canonical set has valid intervals, given by pairs of ends.
use Rattle.std.proofs.Common.{◌≡◌, ℕ, ◌+◌, ◌*◌, ◌/◌, ◌≤◌, ◌<◌, IsTrue, List, [], ◌∷◌, ◌++◌, All, length, get_or, drop, sym, ap, subst, refl, ◌∙◌, arith}
use Rattle.std.proofs.lemmas.Bool.Decides.{nat_tests}
use Rattle.std.proofs.lemmas.List.{length-drop, drop_more, append_assoc, append-nil}
use Rattle.std.proofs.lemmas.List.Elements.{All-cons, All-nil, All-head, All-tail}
use Rattle.regress_base.specs.Intervals.{Bounds, IsInterval, IsCanonical, is_canonical_from}
use Rattle.regress_properties.specs.Listed.{paired}

intervals_from : (low : ℕ) (ivs : List Bounds) → IsTrue (is_canonical_from low ivs) → All IsInterval ivs
intervals_from low [] h = All-nil IsInterval
intervals_from low (iv ∷ ivs) h =
    let here : IsInterval iv = record { ordered = grind (arith, nat_tests, h); in_range = grind (arith, nat_tests, h) } in
    let rest : IsTrue (is_canonical_from (iv.last + 2) ivs) = grind (arith, nat_tests, h) in
    All-cons IsInterval iv ivs here (intervals_from (iv.last + 2) ivs rest)

pub canonical_intervals : (ivs : List Bounds) → IsCanonical ivs → All IsInterval ivs
canonical_intervals ivs h = intervals_from 0 ivs h

-- ---- pairs of ends

-- the pair at an index, as an interval
abbrev pub pair_at : List ℕ → ℕ → Bounds
pair_at ends i = record { first = get_or ends (2 * i) 0; last = get_or ends (2 * i + 1) 0 }

-- the remaining ends begin with a pair
next_pair : (ends : List ℕ) (i : ℕ) → i < length ends / 2 →
    paired (drop (2 * i) ends) ≡ pair_at ends i ∷ paired (drop (2 * (i + 1)) ends)
next_pair ends i lt =
    let up : 2 * i < length ends = omega (arith, lt) in
    let both_up : 2 * i + 1 < length ends = omega (arith, lt) in
    let next : 2 * i + 1 + 1 ≡ 2 * (i + 1) = omega arith in
    ap paired (drop_more ends (2 * i) 0 up ∙ ap (λ rest. get_or ends (2 * i) 0 ∷ rest) (drop_more ends (2 * i + 1) 0 both_up))
    ∙ ap (λ k. pair_at ends i ∷ paired (drop k ends)) next

pub interval_there : (ends : List ℕ) (i : ℕ) → i < length ends / 2 → All IsInterval (paired (drop (2 * i) ends)) →
    IsInterval (pair_at ends i)
interval_there ends i lt all = All-head IsInterval (pair_at ends i) (paired (drop (2 * (i + 1)) ends)) (subst (All IsInterval) (next_pair ends i lt) all)

pub intervals_left : (ends : List ℕ) (i : ℕ) → i < length ends / 2 → All IsInterval (paired (drop (2 * i) ends)) →
    All IsInterval (paired (drop (2 * (i + 1)) ends))
intervals_left ends i lt all = All-tail IsInterval (pair_at ends i) (paired (drop (2 * (i + 1)) ends)) (subst (All IsInterval) (next_pair ends i lt) all)

pub pair_taken : (ends : List ℕ) (i : ℕ) (taken : List Bounds) → i < length ends / 2 → taken ++ paired (drop (2 * i) ends) ≡ paired ends →
    (taken ++ (pair_at ends i ∷ [])) ++ paired (drop (2 * (i + 1)) ends) ≡ paired ends
pair_taken ends i taken lt is =
    append_assoc taken (pair_at ends i ∷ []) (paired (drop (2 * (i + 1)) ends)) ∙ ap (λ rest. taken ++ rest) (sym (next_pair ends i lt)) ∙ is

unpaired : (ends : List ℕ) → length ends ≤ 1 → paired ends ≡ []
unpaired [] le = refl
unpaired (first ∷ []) le = refl
unpaired (first ∷ last ∷ ends) le = absurd (omega (arith, le))

pub all_taken : (ends : List ℕ) (i : ℕ) (taken : List Bounds) → length ends / 2 ≤ i → taken ++ paired (drop (2 * i) ends) ≡ paired ends →
    taken ≡ paired ends
all_taken ends i taken le is =
    let none : paired (drop (2 * i) ends) ≡ [] = unpaired (drop (2 * i) ends) (omega (arith, le, length-drop (2 * i) ends)) in
    sym (append-nil taken) ∙ ap (λ rest. taken ++ rest) (sym none) ∙ is
