-- A walk through a tidy program keeps it tidy from where the walk is.
use Rattle.std.proofs.Common.{◌≡◌, ℕ, zero, suc, ◌+◌, ◌≤◌, ◌<◌, ◌==◌, inl, inr, Bool, true, false, not, ◌&&◌, List, [], ◌∷◌, length, slice_get, Option, Some, None, refl, sym, ap, ◌∙◌, subst, arith, nat_le, nat_lt}
use Rattle.std.proofs.lemmas.Bool.{and_from, eq-eqb, le-leb, leb-true, lt-ltb, ltb-true}
use Rattle.std.proofs.lemmas.Option.{same_Some, slice_get_within}
use Rattle.regress_tree.specs.Steps.{CaptureSpan}
use Rattle.regress_program.specs.declared.ranges.GroupRange.{GroupRange}
use Rattle.regress_program.specs.Contents.{AreAmong, Ids, union, ids_in, without_ids}
use Rattle.regress_program.specs.Isolated.{AreUnset}
use Rattle.regress_program.specs.Program.{Op, accept, fail, part, split, begin_loop, repeat, end_loop, unsets, begin_group, end_group, look, Routine}
use Rattle.regress_program.specs.Ranges.{IsIn, changed_by, no_groups, ranges_of, captured_by, captured_by_all, captured_in, inner_groups}
use Rattle.regress_program.specs.Tidy.{followers, set_after}
use Rattle.std.specs.Prelude.{slice_index_or}
use Rattle.regress_program.proofs.lemmas.Tidy.{among-left, among-right, and_left, and_right, or_cases, or_left, or_right, tidy-less}
use Rattle.regress_tables.specs.declared.slots.Slot.{Slot}
use Rattle.regress_tables.specs.declared.slots.Slot.TheVariants as slots
use Rattle.regress_tables.specs.Slots.{AreInside, IsClean, is_set, resolved, set_groups}
use Rattle.regress_tables.specs.Walked.{OneSpan, SetInside, SlotsSet, UnsetSlots}
use Rattle.regress_tables.proofs.SlotLemmas.{cases_in, resolved-at, value_at}

-- ---- the groups that are set

-- The groups that are set after slots of a range are.
set-among : (range : GroupRange) (slot : Slot) (before after : List Slot) → SlotsSet range slot before after →
    AreAmong (set_groups after) (union (set_groups before) (ids_in range.start range.end))
set-among range slot before after set id one = elim (cases_in range id) [
  | inl within ↦
      among-right (set_groups before) (ids_in range.start range.end) id
      (and_from (nat_le range.start id) (nat_lt id range.end) (le-leb range.start id within.0) (lt-ltb id range.end within.1))
  | inr out ↦ among-left (set_groups before) (ids_in range.start range.end) id (sym (ap is_set (set.outside id out)) ∙ one)
]

unset-among : (start end : ℕ) (before after : List Slot) → UnsetSlots start end before after →
    AreAmong (set_groups after) (without_ids start end (set_groups before))
unset-among start end before after set id one = elim (cases_in (record { start = start; end = end }) id) [
  | inl within ↦ absurd (unset id one (set.inside id (there id one) within))
  | inr out ↦ and_from (set_groups before id) (not (ids_in start end id)) (sym (ap is_set (set.outside id out)) ∙ one) (outside id out)
]
  where
    unset : (k : ℕ) → set_groups after k ≡ true → slice_get after k ≡ Some slots.Unset → ⊥
    unset k some none = let same = sym (ap is_set none) ∙ some in cc

    within_length : (o : Option Slot) → slice_get after id ≡ o → is_set o ≡ true → id < length before
    within_length None e some = cc
    within_length (Some s) e some = omega (arith, slice_get_within after id s e, set.count)

    there : (k : ℕ) → set_groups after id ≡ true → id < length before
    there k some = within_length (slice_get after id) refl some

    outside : (k : ℕ) → (IsIn (record { start = start; end = end }) k → ⊥) → not (ids_in start end k) ≡ true
    outside k out = by (nat_le start k) (nat_lt k end) refl refl
      where
        by : (x y : Bool) → nat_le start k ≡ x → nat_lt k end ≡ y → not (x && y) ≡ true
        by true true low high = absurd (out (leb-true start k low, ltb-true k end high))
        by true false low high = refl
        by false y low high = refl

-- The instruction changes no capture.
abbrev pub IsQuiet : Op → Type 0
IsQuiet (unsets start end next) = ⊥
IsQuiet (end_group id next) = ⊥
IsQuiet (look negate routine next) = ⊥
IsQuiet op = Unit {0}

quiet-after : (ranges : List GroupRange) (op : Op) (set : Ids) → IsQuiet op → set_after ranges op set ≡ set
quiet-after ranges accept set quiet = refl
quiet-after ranges fail set quiet = refl
quiet-after ranges (part t next) set quiet = refl
quiet-after ranges (split first second) set quiet = refl
quiet-after ranges (begin_loop greedy body next) set quiet = refl
quiet-after ranges (repeat greedy body next) set quiet = refl
quiet-after ranges (end_loop next) set quiet = refl
quiet-after ranges (unsets start end next) set quiet = absurd quiet
quiet-after ranges (begin_group next) set quiet = refl
quiet-after ranges (end_group id next) set quiet = absurd quiet
quiet-after ranges (look negate routine next) set quiet = absurd quiet

-- ---- the walk stays tidy

module _ (program : List Routine) (r : Routine) (pc : ℕ) (before after : List Slot) (clean : IsClean program r pc before) where
  clean-on : (op : Op) (j next : ℕ) → slice_get r.ops pc ≡ Some op → slice_get (followers op) j ≡ Some next →
      AreAmong (set_groups after) (set_after (ranges_of program) op (set_groups before)) → IsClean program r next after
  clean-on op j next here follows among n =
      tidy-less (ranges_of program) r.ops n next (set_groups after) (set_after (ranges_of program) op (set_groups before)) among
      ((clean (suc n) op here).1 j next follows)

  pub clean-quiet : (op : Op) (j next : ℕ) → slice_get r.ops pc ≡ Some op → slice_get (followers op) j ≡ Some next → IsQuiet op → after ≡ before →
      IsClean program r next after
  clean-quiet op j next here follows quiet same =
      clean-on op j next here follows
      (λ id one. subst (λ s. s id ≡ true) (sym (quiet-after (ranges_of program) op (set_groups before) quiet))
      (subst (λ ss. set_groups ss id ≡ true) same one))

  pub clean-unsets : (start end next : ℕ) → slice_get r.ops pc ≡ Some (unsets start end next) → UnsetSlots start end before after → IsClean program r next after
  clean-unsets start end next here set = clean-on (unsets start end next) 0 next here refl (unset-among start end before after set)

  pub clean-ended : (id next : ℕ) (slot : Slot) → slice_get r.ops pc ≡ Some (end_group id next) →
      SlotsSet (record { start = id; end = id + 1 }) slot before after → IsClean program r next after
  clean-ended id next slot here set =
      clean-on (end_group id next) 0 next here refl
      (λ k one. elim (or_cases (set_groups before k) (ids_in id (id + 1) k) (set-among (record { start = id; end = id + 1 }) slot before after set k one)) [
        | inl was ↦ or_left (set_groups before k) (k == id) was
        | inr own ↦
            (let low = leb-true id k (and_left (nat_le id k) (nat_lt k (id + 1)) own) in
            let high = ltb-true k (id + 1) (and_right (nat_le id k) (nat_lt k (id + 1)) own) in
            or_right (set_groups before k) (k == id) (eq-eqb k id (omega (arith, low, high))))
      ])

  pub clean-look : (negate : Bool) (j next : ℕ) (slot : Slot) → slice_get r.ops pc ≡ Some (look negate j next) →
      SlotsSet (changed_by (ranges_of program) (look negate j next)) slot before after → IsClean program r next after
  clean-look true j next slot here set =
      clean-on (look true j next) 0 next here refl
      (λ k one. elim (or_cases (set_groups before k) (ids_in 0 0 k) (set-among no_groups slot before after set k one)) [
        | inl was ↦ was
        | inr own ↦ (let high = ltb-true k 0 (and_right (nat_le 0 k) (nat_lt k 0) own) in absurd (omega (arith, high)))
      ])
  clean-look false j next slot here set =
      clean-on (look false j next) 0 next here refl (set-among (slice_index_or (ranges_of program) j no_groups) slot before after set)

  -- The groups of a lookaround are unset when it begins.
  pub look-unset : (j next : ℕ) → slice_get r.ops pc ≡ Some (look false j next) → (capture_of : (routine position id : ℕ) → Option CaptureSpan) →
      AreUnset (slice_index_or (ranges_of program) j no_groups) (resolved capture_of before)
  look-unset j next here capture_of id within =
      resolved-at capture_of id before ∙ none (slice_get before id) ((clean 1 (look false j next) here).0 id within)
    where
      none : (o : Option Slot) → is_set o ≡ false → value_at capture_of id o ≡ None
      none None unset = refl
      none (Some slots.Unset) unset = refl
      none (Some (slots.Span from to)) unset = cc
      none (Some (slots.Inside routine position)) unset = cc

-- ---- what lookarounds have set

pub inside-set : (routines n inner : ℕ) (range : GroupRange) (slot : Slot) (before after : List Slot) → SlotsSet range slot before after →
    ((id routine position : ℕ) → IsIn range id → slot ≡ slots.Inside routine position → (routine < routines) × (position ≤ n) × (id < inner)) →
    AreInside routines n inner before → AreInside routines n inner after
inside-set routines n inner range slot before after set new inside id routine position is =
    elim (cases_in range id) [
      | inl within ↦
          let lt : id < length before = omega (arith, slice_get_within after id (slots.Inside routine position) is, set.count) in
          new id routine position within (same_Some slot (slots.Inside routine position) (sym (set.inside id lt within) ∙ is))
      | inr out ↦ inside id routine position (sym (set.outside id out) ∙ is)
    ]

captured-op : (ranges : List GroupRange) (ops : List Op) (pc : ℕ) (op : Op) → slice_get ops pc ≡ Some op → captured_by ranges op ≤ captured_by_all ranges ops
captured-op ranges [] pc op is = cc
captured-op ranges (o ∷ ops) zero op is =
    let same : o ≡ op = cc in
    omega (arith, ap (captured_by ranges) same)
captured-op ranges (o ∷ ops) (suc pc) op is = omega (arith, captured-op ranges ops pc op is)

captured-routine : (ranges : List GroupRange) (program : List Routine) (i : ℕ) (r : Routine) → slice_get program i ≡ Some r →
    captured_by_all ranges r.ops ≤ captured_in ranges program
captured-routine ranges [] i r is = cc
captured-routine ranges (q ∷ program) zero r is =
    let same : q ≡ r = cc in
    omega (arith, ap (λ (x : Routine). captured_by_all ranges x.ops) same)
captured-routine ranges (q ∷ program) (suc i) r is = omega (arith, captured-routine ranges program i r is)

look-end : (ranges : List GroupRange) (negate : Bool) (j next id : ℕ) → IsIn (changed_by ranges (look negate j next)) id →
    id < captured_by ranges (look negate j next)
look-end ranges true j next id within = absurd (omega (arith, within.1))
look-end ranges false j next id within = within.1

-- The groups that a lookaround sets are before the bound of the program.
pub look-inner : (program : List Routine) (i : ℕ) (r : Routine) (pc : ℕ) (negate : Bool) (j next id : ℕ) → slice_get program i ≡ Some r →
    slice_get r.ops pc ≡ Some (look negate j next) → IsIn (changed_by (ranges_of program) (look negate j next)) id → id < inner_groups program
look-inner program i r pc negate j next id is here within =
    let ranges = ranges_of program in
    omega (
      arith,
      look-end ranges negate j next id within,
      captured-op ranges r.ops pc (look negate j next) here,
      captured-routine ranges program i r is,
    )

pub look-inside : (program : List Routine) (i : ℕ) (r : Routine) (pc routines n inner : ℕ) (negate : Bool) (j next position : ℕ) (before after : List Slot) →
    slice_get program i ≡ Some r → slice_get r.ops pc ≡ Some (look negate j next) →
    SetInside (changed_by (ranges_of program) (look negate j next)) j position before after → j < routines → position ≤ n → inner_groups program ≤ inner →
    AreInside routines n inner before → AreInside routines n inner after
look-inside program i r pc routines n inner negate j next position before after is here set earlier within most =
    inside-set routines n inner (changed_by (ranges_of program) (look negate j next)) (slots.Inside j position) before after set
    (λ id routine p inside same.
    let e : j ≡ routine = cc in
    let e' : position ≡ p = cc in
    (omega (arith, e, earlier), omega (arith, e', within), omega (arith, most, look-inner program i r pc negate j next id is here inside)))

pub unset-inside : (routines n inner start end : ℕ) (before after : List Slot) → UnsetSlots start end before after →
    AreInside routines n inner before → AreInside routines n inner after
unset-inside routines n inner start end before after set =
    inside-set routines n inner (record { start = start; end = end }) slots.Unset before after set (λ id routine p within same. cc)

pub span-inside : (routines n inner id : ℕ) (before after : List Slot) → OneSpan id before after →
    AreInside routines n inner before → AreInside routines n inner after
span-inside routines n inner id before after one =
    inside-set routines n inner (record { start = id; end = id + 1 }) (slots.Span one.from one.to) before after one.set (λ id' routine p within same. cc)
