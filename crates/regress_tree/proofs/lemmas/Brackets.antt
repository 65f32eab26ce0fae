-- The counts of a bracket's intervals, and the set that they denote.
use Rattle.std.proofs.Common.{◌≡◌, ℕ, ◌+◌, ◌-◌, Bool, true, false, cond, nat_le, nat_lt, List, [], ◌∷◌, length, refl, sym, ap, ◌∙◌, add-zero, arith}
use Rattle.regress_base.specs.Intervals.{Bounds, code_point_max, IsCanonical, IsComplement}
use Rattle.regress_base.proofs.lemmas.Sets.{canonical_unique, gaps_from, complement_from}
use Rattle.regress_tree.specs.Shapes.{gap_count}

length-if : (b : Bool) (iv : Bounds) (ivs : List Bounds) → length (cond b (iv ∷ ivs) ivs) ≡ cond b 1 0 + length ivs
length-if true iv ivs = omega arith
length-if false iv ivs = omega arith

gap_count-length : (start : ℕ) (ivs : List Bounds) → length (gaps_from start ivs) ≡ gap_count start ivs
unfolding gaps_from
gap_count-length start [] = length-if (nat_le start code_point_max) (record { first = start; last = code_point_max }) [] ∙ add-zero _
gap_count-length start (iv ∷ ivs) =
    length-if (nat_lt start iv.first) (record { first = start; last = iv.first - 1 }) (gaps_from (iv.last + 1) ivs)
    ∙ ap (λ n. cond (nat_lt start iv.first) 1 0 + n) (gap_count-length (iv.last + 1) ivs)

-- The gaps are the intervals of the complement.
pub gap_count-complement : (ivs others : List Bounds) → IsCanonical ivs → IsCanonical others → IsComplement ivs others →
    length others ≡ gap_count 0 ivs
gap_count-complement ivs others canonical canonical_others complement =
    let gaps = complement_from ivs (gaps_from 0 ivs) canonical refl in
    ap length (canonical_unique others (gaps_from 0 ivs) canonical_others gaps.0 (λ c within. complement c within ∙ sym (gaps.1 c within)))
    ∙ gap_count-length 0 ivs

-- ---- brackets that accept nothing
