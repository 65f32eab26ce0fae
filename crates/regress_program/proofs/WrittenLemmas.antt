-- An instruction is replaced in a routine whose copies are not stored.
use Rattle.std.proofs.Common.{◌≡◌, ℕ, zero, suc, ◌+◌, ◌-◌, ◌≤◌, ◌<◌, inl, inr, List, ◌++◌, length, take, drop, set, map, slice_get, Option, Some, None, refl, sym, ap, ap₂, subst, ◌∙◌, arith}
use Rattle.regress_program.specs.Copies.{end_of, moved_in, again, times, with_copies, expand, expanded, AreCopies}
use Rattle.regress_program.specs.declared.copies.Copies.{Copies}
use Rattle.std.proofs.lemmas.Bool.{cases_lt}
use Rattle.std.proofs.lemmas.List.{length-append, length-drop, length-take, length-set, length-map, take-set-le, drop-set-lt, drop-set-add, set-append_left, set-append_right}
use Rattle.std.proofs.lemmas.Option.{slice_get_within, same_Some}
use Rattle.std.proofs.Math.Seq.{take-set-lt}
use Rattle.regress_program.specs.declared.instruction.Instruction.{Instruction}
use Rattle.regress_program.proofs.CodeLemmas.{get-set-other}
use Rattle.regress_program.proofs.Expanded.{IsAfter}
use Rattle.regress_program.proofs.ExpandedLemmas.{some-record, records-rise, expand-length, times-is}
use Rattle.regress_program.proofs.TimesLemmas.{again-length}

-- An element that is not among those that are repeated is replaced before or after that.
module _ {X : Type 0} (move : X → X) (width : ℕ) where
  pub again-set : (x : X) (xs : List X) (i : ℕ) → i + width < length xs → again move width (set xs i x) ≡ set (again move width xs) i x
  again-set x xs i lt =
      ap (λ ys. set xs i x ++ map move ys) (ap (λ n. drop (n - width) (set xs i x)) (length-set xs i x) ∙ drop-set-lt (length xs - width) xs i x (omega (arith, lt)))
      ∙ sym (set-append_left xs (map move (drop (length xs - width) xs)) i x (omega (arith, lt)))

  pub times-set : (x : X) (count : ℕ) (xs : List X) (i : ℕ) → i + width < length xs → times move width count (set xs i x) ≡ set (times move width count xs) i x
  times-set x zero xs i lt = refl
  times-set x (suc count) xs i lt =
      ap (times move width count) (again-set x xs i lt)
      ∙ times-set x count (again move width xs) i (omega (arith, lt, again-length move width xs (omega (arith, lt))))

  times-alike : (count : ℕ) (xs ys : List X) → length xs ≡ length ys → length (times move width count xs) ≡ length (times move width count ys)
  times-alike zero xs ys same = same
  times-alike (suc count) xs ys same = times-alike count (again move width xs) (again move width ys) (alike xs ∙ ends ∙ sym (alike ys))
    where
      alike : (zs : List X) → length (again move width zs) ≡ length zs + (length zs - (length zs - width))
      alike zs =
          length-append zs (map move (drop (length zs - width) zs))
          ∙ ap (λ n. length zs + n) (length-map (drop (length zs - width) zs) move ∙ length-drop (length zs - width) zs)

      ends : length xs + (length xs - (length xs - width)) ≡ length ys + (length ys - (length ys - width))
      ends = ap (λ n. n + (n - (n - width))) same

module _ (stored : List Instruction) (copies : List Copies) (are : AreCopies stored copies) (x : Instruction) (slot : ℕ) (below : slot < length stored) where
  -- The stored instruction at `slot` comes after the first `first` records and before the others, none of which copies
  -- it. Among all instructions it has the index `at`.
  pub record IsAlone (first at : ℕ) : Type 0 where
    pub some : first ≤ length copies
    pub earlier : IsAfter stored copies first slot
    pub here : at ≡ length (expand stored copies first slot)
    pub later : (j : ℕ) (r : Copies) → first ≤ j → slice_get copies j ≡ Some r → (slot < r.stored) × (at + r.width < r.start)

  -- What comes before it is as it was.
  unset-before : (j k : ℕ) → j ≤ length copies → IsAfter stored copies j k → k ≤ slot → expand (set stored slot x) copies j k ≡ expand stored copies j k
  unset-before zero k le last few = take-set-le k stored slot x few
  unset-before (suc j) k le last few =
      let found = some-record stored copies are j (omega (arith, le)) in
      let r = found.0 in
      let the = are j r found.1 in
      let within : r.stored ≤ k = last j r refl found.1 in
      let gap : slot ≡ r.stored + (slot - r.stored) = omega (arith, within, few) in
      ap (with_copies (set stored slot x) (λ s. expand (set stored slot x) copies j s) k) found.1
      ∙ ap₂ ◌++◌ (ap (times (moved_in r.from r.width) r.width r.count) (unset-before j r.stored (omega (arith, le)) the.before (omega (arith, within, few))))
      (ap (take (k - r.stored)) (ap (λ n. drop r.stored (set stored n x)) gap ∙ drop-set-add r.stored stored (slot - r.stored) x)
      ∙ take-set-le (k - r.stored) (drop r.stored stored) (slot - r.stored) x (omega (arith, few)))
      ∙ sym (ap (with_copies stored (λ s. expand stored copies j s) k) found.1)

  -- It is replaced in the list of all instructions up to the next record.
  set-here : (j k at : ℕ) → j ≤ length copies → IsAfter stored copies j slot → slot < k → k ≤ length stored → at ≡ length (expand stored copies j slot) →
      expand (set stored slot x) copies j k ≡ set (expand stored copies j k) at x
  set-here zero k at le last low high is =
      let same : slot ≡ at = omega (arith, is, length-take slot stored, low, high) in
      take-set-lt k stored slot x low ∙ ap (λ n. set (take k stored) n x) same
  set-here (suc j) k at le last low high is =
      let found = some-record stored copies are j (omega (arith, le)) in
      let r = found.0 in
      let the = are j r found.1 in
      let within : r.stored ≤ slot = last j r refl found.1 in
      let gap : slot ≡ r.stored + (slot - r.stored) = omega (arith, within) in
      let whole = times (moved_in r.from r.width) r.width r.count (expand stored copies j r.stored) in
      let rest = take (k - r.stored) (drop r.stored stored) in
      let place : at ≡ end_of r + (slot - r.stored) = is ∙ expand-length stored copies are j r found.1 slot within (omega (arith, below)) in
      let len : length whole ≡ end_of r = times-is stored copies are j r found.1 in
      ap (with_copies (set stored slot x) (λ s. expand (set stored slot x) copies j s) k) found.1
      ∙ ap₂ ◌++◌ (ap (times (moved_in r.from r.width) r.width r.count) (unset-before j r.stored (omega (arith, le)) the.before within))
      (ap (take (k - r.stored)) (ap (λ n. drop r.stored (set stored n x)) gap ∙ drop-set-add r.stored stored (slot - r.stored) x)
      ∙ take-set-lt (k - r.stored) (drop r.stored stored) (slot - r.stored) x (omega (arith, low, within))
      ∙ ap (λ n. set rest n x) (omega (arith, place, len)))
      ∙ sym (set-append_right whole rest (length whole) at x refl (omega (arith, place, len)))
      ∙ sym (ap (λ ys. set ys at x) (ap (with_copies stored (λ s. expand stored copies j s) k) found.1))

  module _ (first at : ℕ) (alone : IsAlone first at) where
    set-later : (j k : ℕ) → j ≤ length copies → first ≤ j → IsAfter stored copies j k → slot < k → k ≤ length stored →
        expand (set stored slot x) copies j k ≡ set (expand stored copies j k) at x
    set-later zero k le low last few within =
        let none : first ≡ 0 = omega (arith, low) in
        set-here zero k at le (λ i r next found. absurd (omega (arith, next))) few within (alone.here ∙ ap (λ (j : ℕ). length (expand stored copies j slot)) none)
    set-later (suc j) k le low last few within = elim (cases_lt j first) [
      | inl same ↦
          (let here : first ≡ suc j = omega (arith, same, low) in
          set-here (suc j) k at le (subst (λ (i : ℕ). IsAfter stored copies i slot) here alone.earlier) few within
          (alone.here ∙ ap (λ (i : ℕ). length (expand stored copies i slot)) here))
      | inr past ↦
          (let found = some-record stored copies are j (omega (arith, le)) in
          let r = found.0 in
          let the = are j r found.1 in
          let apart = alone.later j r past found.1 in
          let before = expand stored copies j r.stored in
          let whole = times (moved_in r.from r.width) r.width r.count before in
          let rest = take (k - r.stored) (drop r.stored stored) in
          let len : length whole ≡ end_of r = times-is stored copies are j r found.1 in
          ap (with_copies (set stored slot x) (λ s. expand (set stored slot x) copies j s) k) found.1
          ∙ ap₂ ◌++◌
          (ap (times (moved_in r.from r.width) r.width r.count) (set-later j r.stored (omega (arith, le)) past the.before apart.0 the.within)
          ∙ times-set (moved_in r.from r.width) r.width x r.count before at (omega (arith, apart.1, the.start)))
          (ap (take (k - r.stored)) (drop-set-lt r.stored stored slot x apart.0))
          ∙ sym (set-append_left whole rest at x (omega (arith, len, apart.1)))
          ∙ sym (ap (λ ys. set ys at x) (ap (with_copies stored (λ s. expand stored copies j s) k) found.1)))
    ]

    -- It is replaced in the list of all instructions, once.
    pub expanded-set : expanded (set stored slot x) copies ≡ set (expanded stored copies) at x
    expanded-set =
        ap (λ (k : ℕ). expand (set stored slot x) copies (length copies) k) (length-set stored slot x)
        ∙ set-later (length copies) (length stored) (omega arith) alone.some (λ i r next found. (are i r found).within) below (omega arith)

  length-written : (j k : ℕ) → length (expand stored copies j k) ≡ length (expand (set stored slot x) copies j k)
  length-written zero k = omega (arith, length-take k stored, length-take k (set stored slot x), length-set stored slot x)
  length-written (suc j) k = by (slice_get copies j) (λ s. length-written j s)
    where
      by : (o : Option Copies) → ((s : ℕ) → length (expand stored copies j s) ≡ length (expand (set stored slot x) copies j s)) →
          length (with_copies stored (λ s. expand stored copies j s) k o) ≡ length (with_copies (set stored slot x) (λ s. expand (set stored slot x) copies j s) k o)
      by None same = same k
      by (Some r) same =
          let m = moved_in r.from r.width in
          let e = times-alike m r.width r.count (expand stored copies j r.stored) (expand (set stored slot x) copies j r.stored) (same r.stored) in
          length-append (times m r.width r.count (expand stored copies j r.stored)) (take (k - r.stored) (drop r.stored stored))
          ∙ omega (
            arith,
            e,
            length-take (k - r.stored) (drop r.stored stored),
            length-drop r.stored stored,
            length-take (k - r.stored) (drop r.stored (set stored slot x)),
            length-drop r.stored (set stored slot x),
            length-set stored slot x,
          )
          ∙ sym (length-append (times m r.width r.count (expand (set stored slot x) copies j r.stored)) (take (k - r.stored) (drop r.stored (set stored slot x))))

  module _ (first at : ℕ) (alone : IsAlone first at) where
    -- What is copied is as it was.
    copied-same : (j pc : ℕ) (r : Copies) → slice_get copies j ≡ Some r → r.start ≤ pc + r.width →
        slice_get (expand (set stored slot x) copies j r.stored) pc ≡ slice_get (expand stored copies j r.stored) pc
    copied-same j pc r is low =
        let the = are j r is in
        let within : j ≤ length copies = omega (arith, slice_get_within copies j r is) in
        elim (cases_lt j first) [
          | inl early ↦
              (let found = some-record stored copies are (first - 1) (omega (arith, early, alone.some)) in
              let last : found.0.stored ≤ slot = alone.earlier (first - 1) found.0 (omega (arith, early)) found.1 in
              let rise : r.stored ≤ found.0.stored = records-before j (first - 1) r found.0 (omega (arith, early)) is found.1 in
              ap (λ xs. slice_get xs pc) (unset-before j r.stored within the.before (omega (arith, last, rise))))
          | inr late ↦
              (let apart = alone.later j r late is in
              ap (λ xs. slice_get xs pc) (set-later first at alone j r.stored within late the.before apart.0 the.within)
              ∙ get-set-other (expand stored copies j r.stored) at pc x (λ e. absurd (omega (arith, apart.1, low, e))))
        ]
      where
        records-before : (i j : ℕ) (r s : Copies) → i ≤ j → slice_get copies i ≡ Some r → slice_get copies j ≡ Some s → r.stored ≤ s.stored
        records-before i j r s le is is' = elim (cases_lt i j) [
          | inl lt ↦ (records-rise stored copies are (j - i - 1) i j r s (omega (arith, lt)) is is').0
          | inr ge ↦
              (let same : i ≡ j = omega (arith, le, ge) in
              let e : r ≡ s = same_Some r s (sym is ∙ ap (slice_get copies) same ∙ is') in
              let e' : r.stored ≡ s.stored = ap (λ (q : Copies). q.stored) e in
              omega (arith, e'))
        ]

    pub copies-set : AreCopies (set stored slot x) copies
    copies-set j r is =
        let the = are j r is in
        record {
          start = the.start ∙ length-written j r.stored;
          some = the.some;
          fits = the.fits;
          from_start = the.from_start;
          within = omega (arith, the.within, length-set stored slot x);
          named = λ pc i low found. the.named pc i low (sym (copied-same j pc r is low) ∙ found);
          before = the.before;
        }
