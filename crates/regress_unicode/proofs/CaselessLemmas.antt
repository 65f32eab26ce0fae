-- Mappings under which characters without case have a canonical form of their own.
use Rattle.std.proofs.Common.{◌≡◌, ℕ, ◌+◌, ◌-◌, ◌%◌, ◌==◌, ◌≤◌, ◌⊎◌, Bool, true, false, ◌&&◌, IsTrue, List, [], ◌∷◌, cond, inl, inr, refl, sym, ap, ◌∙◌, ℤ, pos, negsuc, arith}
use Rattle.std.proofs.lemmas.Bool.{cases_Bool}
use Rattle.std.proofs.lemmas.Bool.Decides.{nat_tests}
use Rattle.std.specs.List.{list_all}
use Rattle.regress_base.specs.Intervals.{Bounds, is_member, is_within}
use Rattle.regress_unicode.specs.FoldEntries.{FoldEntry, moved, is_in_mapping, mapped_in_mapping, mapped}
use Rattle.regress_unicode.specs.Caseless.{circled, cased, is_caseless, KeepsCaseless, contain_both, contain_entry, keeps_caseless}

both_within : (intervals : List Bounds) (a b c : ℕ) → contain_both intervals a b ≡ true → a ≤ c → c ≤ b → is_member intervals c ≡ true
unfolding is_member is_within
both_within [] a b c h low high = cc
both_within (iv ∷ intervals) a b c h low high = elim (cases_Bool (contain_both intervals a b)) [
  | inl later ↦ (let rest = both_within intervals a b c later low high in grind (arith, nat_tests, rest))
  | inr none ↦ grind (arith, nat_tests, none)
]

moved_order : (delta : ℤ) (a b : ℕ) → a ≤ b → moved delta a ≤ moved delta b
moved_order (pos n) a b le = omega (arith, le)
moved_order (negsuc n) a b le = omega (arith, le)

-- how a character and what it is mapped to are related
abbrev Stays : ℕ → ℕ → Type 0
Stays c d =
    (d ≡ c)
    ⊎ ((is_member cased c ≡ true) × (is_member cased d ≡ true))
    ⊎ ((is_within circled c ≡ true) × (is_within circled d ≡ true))

module _ (mapping : FoldEntry) (c : ℕ) (within : is_in_mapping mapping c ≡ true) where
  low : mapping.start ≤ c
  low = grind (arith, nat_tests, within)

  high : c ≤ mapping.start + mapping.length - 1
  high = grind (arith, nat_tests, within)

  contained : (intervals : List Bounds) → contain_entry intervals mapping ≡ true →
      (is_member intervals c ≡ true) × (is_member intervals (moved mapping.delta c) ≡ true)
  contained intervals h =
      let source : contain_both intervals mapping.start (mapping.start + mapping.length - 1) ≡ true = grind (arith, nat_tests, h) in
      let target : contain_both intervals (moved mapping.delta mapping.start) (moved mapping.delta (mapping.start + mapping.length - 1)) ≡ true = grind (arith, nat_tests, h) in (
        both_within intervals _ _ c source low high,
        both_within intervals _ _ (moved mapping.delta c) target (moved_order mapping.delta _ _ low) (moved_order mapping.delta _ _ high),
      )

  sole : (x : ℕ) → is_member (circled ∷ []) x ≡ true → is_within circled x ≡ true
  unfolding is_member
  sole x h = grind (arith, nat_tests, h)

  moved_stays : keeps_caseless mapping ≡ true → Stays c (moved mapping.delta c)
  moved_stays h = elim (cases_Bool (contain_entry cased mapping)) [
    | inl holds ↦ inr (inl (contained cased holds))
    | inr fails ↦ (let other : contain_entry (circled ∷ []) mapping ≡ true = grind (arith, nat_tests, h, fails) in
        let both = contained (circled ∷ []) other in inr (inr (sole c both.0, sole (moved mapping.delta c) both.1)))
  ]

  entry_stays : keeps_caseless mapping ≡ true → Stays c (mapped_in_mapping mapping c)
  entry_stays h = by ((c - mapping.start) % mapping.modulo == 0)
    where
      by : (b : Bool) → Stays c (cond b (moved mapping.delta c) c)
      by true = moved_stays h
      by false = inl refl

all_parts : (mapping : FoldEntry) (mappings : List FoldEntry) → IsTrue (list_all keeps_caseless (mapping ∷ mappings)) →
    (keeps_caseless mapping ≡ true) × IsTrue (list_all keeps_caseless mappings)
all_parts mapping mappings h = by (keeps_caseless mapping) h
  where
    by : (b : Bool) → IsTrue (b && list_all keeps_caseless mappings) → (b ≡ true) × IsTrue (list_all keeps_caseless mappings)
    by true rest = (refl, rest)
    by false none = let no : false ≡ true = none in cc

next_stays : (mapping : FoldEntry) (c d : ℕ) → keeps_caseless mapping ≡ true → Stays c d → (b : Bool) → is_in_mapping mapping c ≡ b →
    Stays c (cond b (mapped_in_mapping mapping c) d)
next_stays mapping c d here rest true within = entry_stays mapping c within here
next_stays mapping c d here rest false out = rest

every_stays : (mappings : List FoldEntry) (c : ℕ) → IsTrue (list_all keeps_caseless mappings) → Stays c (mapped mappings c)
unfolding mapped
every_stays [] c h = inl refl
every_stays (mapping ∷ mappings) c h =
    let parts = all_parts mapping mappings h in
    next_stays mapping c (mapped mappings c) parts.0 (every_stays mappings c parts.1) (is_in_mapping mapping c) refl

apart : (x : ℕ) → is_within circled x ≡ true → is_member cased x ≡ true → ⊥
unfolding is_within is_member
apart x one other = grind (arith, nat_tests, one, other)

not_cased : (x : ℕ) → IsTrue (is_caseless x) → is_member cased x ≡ true → ⊥
not_cased x is h = grind (arith, nat_tests, is, h)

not_circled : (x : ℕ) → IsTrue (is_caseless x) → is_within circled x ≡ true → ⊥
not_circled x is h = grind (arith, nat_tests, is, h)

module _ (f : ℕ → ℕ) (stays : (c : ℕ) → Stays c (f c)) where
  alone : (c d : ℕ) → IsTrue (is_caseless c) → f d ≡ f c → d ≡ c
  alone c d is same = elim (stays c) [
    | inl own ↦ elim (stays d) [
      | inl own' ↦ sym own' ∙ same ∙ own
      | inr (inl both) ↦ absurd (not_cased c is (ap (is_member cased) (sym (same ∙ own)) ∙ both.1))
      | inr (inr both) ↦ absurd (not_circled c is (ap (is_within circled) (sym (same ∙ own)) ∙ both.1))
    ]
    | inr (inl both) ↦ absurd (not_cased c is both.0)
    | inr (inr both) ↦ absurd (not_circled c is both.0)
  ]

  -- the canonical form of a circled letter is a circled letter
  form_circled : (c : ℕ) → is_within circled c ≡ true → is_within circled (f c) ≡ true
  form_circled c is = elim (stays c) [
    | inl own ↦ ap (is_within circled) own ∙ is
    | inr (inl both) ↦ absurd (apart c is both.0)
    | inr (inr both) ↦ both.1
  ]

  from_circled : (d : ℕ) → is_within circled (f d) ≡ true → is_within circled d ≡ true
  from_circled d is = elim (stays d) [
    | inl own ↦ ap (is_within circled) (sym own) ∙ is
    | inr (inl both) ↦ absurd (apart (f d) is both.1)
    | inr (inr both) ↦ both.0
  ]

  keeps : KeepsCaseless f
  keeps = record {
    caseless = alone;
    circled = λ c d is same. from_circled d (ap (is_within circled) same ∙ form_circled c is);
  }

pub entries_keep_caseless : (mappings : List FoldEntry) → IsTrue (list_all keeps_caseless mappings) → KeepsCaseless (mapped mappings)
entries_keep_caseless mappings h = keeps (mapped mappings) (λ c. every_stays mappings c h)
