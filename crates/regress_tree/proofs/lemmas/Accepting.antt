-- Brackets of canonical intervals accept some code point, or none.
use Rattle.std.proofs.Common.{◌≡◌, ℕ, ◌+◌, ◌<◌, ◌≤◌, ◌==◌, Bool, true, false, not, ◌⊎◌, inl, inr, IsTrue, ◌↔◌, List, [], ◌∷◌, refl, sym, ap, ◌∙◌, eqb-true, arith}
use Rattle.std.proofs.lemmas.Bool.{cases_Bool, cases_eq, false≢true, eq-eqb, and_from, and_parts, or_left, false_from_ne_true}
use Rattle.regress_base.specs.Intervals.{Bounds, code_point_max, is_within, is_member, is_canonical_from, IsCanonical}
use Rattle.regress_base.specs.Brackets.{is_accepted}
use Rattle.regress_base.proofs.lemmas.Sets.{is_within-true, le-is_within, is_member-nil, is_member-cons, canonical_parts, member_above}
use Rattle.regress_tree.specs.NodeTests.{is_none, are_all, accepts_none}

-- Intervals that are not empty have a member.
pub member_from : (ivs : List Bounds) → IsCanonical ivs → is_none ivs ≡ false →
    (c : ℕ) × (c ≤ code_point_max) × (is_member ivs c ≡ true)
member_from [] can some = absurd (false≢true (sym some))
member_from (iv ∷ ivs) can some =
    let p = canonical_parts 0 iv ivs can in (
      iv.first,
      omega (arith, p.interval.ordered, p.interval.in_range),
      is_member-cons iv ivs iv.first ∙ or_left _ _ (le-is_within iv iv.first (omega arith) p.interval.ordered),
    )

-- A number before the first interval, or between it and the others, is no member.
not_member : (iv : Bounds) (ivs : List Bounds) → IsTrue (is_canonical_from 0 (iv ∷ ivs)) → (c : ℕ) →
    (c < iv.first) ⊎ (c ≡ iv.last + 1) → is_member (iv ∷ ivs) c ≡ false
not_member iv ivs can c where_it_is =
    false_from_ne_true _ (λ t. by where_it_is (cases_Bool (is_within iv c)) t)
  where
    by : (c < iv.first) ⊎ (c ≡ iv.last + 1) → (is_within iv c ≡ true) ⊎ (is_within iv c ≡ false) → is_member (iv ∷ ivs) c ≡ true → ⊥
    by position (inr out) t =
        let p = canonical_parts 0 iv ivs can in
        let above = member_above (iv.last + 2) ivs c p.rest (sym (is_member-cons iv ivs c ∙ simp out) ∙ t) in
        elim position [ inl below ↦ omega (arith, above.0, p.interval.ordered) | inr after ↦ omega (arith, above.0) ]
    by position (inl within) t =
        let w = is_within-true iv c within in
        elim position [ inl below ↦ omega (arith, w.0) | inr after ↦ omega (arith, w.1) ]

-- Some code point is no member, unless the only interval is that of all.
pub gap_from : (ivs : List Bounds) → IsCanonical ivs → are_all ivs ≡ false →
    (c : ℕ) × (c ≤ code_point_max) × (is_member ivs c ≡ false)
gap_from [] can some = (0, omega arith, is_member-nil 0)
gap_from (iv ∷ ivs) can some =
    let p = canonical_parts 0 iv ivs can in
    elim (cases_eq iv.first 0) [
      | inr later ↦ (0, omega arith, not_member iv ivs can 0 (inl (omega arith)))
      | inl starts ↦ elim (cases_eq iv.last code_point_max) [
        | inr before ↦
            (iv.last + 1, omega (arith, p.interval.in_range), not_member iv ivs can (iv.last + 1) (inr refl))
        | inl ends ↦ absurd (none_after ivs starts ends some p.rest)
      ]
    ]
  where
    none_after : (after : List Bounds) → iv.first ≡ 0 → iv.last ≡ code_point_max → are_all (iv ∷ after) ≡ false →
        IsTrue (is_canonical_from (iv.last + 2) after) → ⊥
    none_after [] starts ends some rest =
        false≢true (sym some ∙ and_from _ _ (eq-eqb iv.first 0 starts) (eq-eqb iv.last code_point_max ends))
    none_after (next ∷ after) starts ends some rest =
        let q = canonical_parts (iv.last + 2) next after rest in
        omega (arith, q.above, q.interval.ordered, q.interval.in_range)

-- A bracket that is not empty accepts some code point.
pub accepts_some : (invert : Bool) (ivs : List Bounds) → IsCanonical ivs → accepts_none invert ivs ≡ false →
    (c : ℕ) × (c ≤ code_point_max) × (is_accepted invert ivs c ≡ true)
accepts_some false ivs can some = member_from ivs can some
accepts_some true ivs can some =
    let gap = gap_from ivs can some in
    (gap.0, gap.1, ap not gap.2)

-- An empty bracket accepts no code point.
pub accepts_nothing : (invert : Bool) (ivs : List Bounds) → IsCanonical ivs → accepts_none invert ivs ≡ true →
    (c : ℕ) → c ≤ code_point_max → is_accepted invert ivs c ≡ false
accepts_nothing false [] can none c h = is_member-nil c
accepts_nothing false (iv ∷ ivs) can none c h = absurd (false≢true none)
accepts_nothing true [] can none c h = absurd (false≢true none)
accepts_nothing true (iv ∷ []) can none c h =
    let ends = and_parts (iv.first == 0) (iv.last == code_point_max) none in
    let within = le-is_within iv c (omega (arith, eqb-true iv.first 0 ends.0)) (omega (arith, eqb-true iv.last code_point_max ends.1)) in
    ap not (is_member-cons iv [] c ∙ or_left _ _ within)
accepts_nothing true (iv ∷ next ∷ ivs) can none c h = absurd (false≢true none)

-- A test that determines whether a bracket accepts none equals `accepts_none`.
pub accepts_none-is : (reported : Bool) (invert : Bool) (ivs : List Bounds) → IsCanonical ivs →
    (IsTrue reported ↔ ((c : ℕ) → c ≤ code_point_max → is_accepted invert ivs c ≡ false)) → reported ≡ accepts_none invert ivs
accepts_none-is reported invert ivs can reports =
    elim (cases_Bool (accepts_none invert ivs)) [
      | inl none ↦ reports.1 (accepts_nothing invert ivs can none) ∙ sym none
      | inr some ↦
          let c = accepts_some invert ivs can some in
          false_from_ne_true reported (λ yes. false≢true (sym (reports.0 yes c.0 c.1) ∙ c.2)) ∙ sym some
    ]
