-- Where an instruction is stored that is not a copy, and that is replaced.
use Rattle.std.proofs.Common.{◌≡◌, ◌≢◌, ℕ, suc, ◌+◌, ◌-◌, ◌≤◌, ◌<◌, inl, inr, List, length, take, set, get_or, slice_get, Some, refl, sym, ap, subst, ◌∙◌, arith}
use Rattle.std.proofs.lemmas.Bool.{cases_lt}
use Rattle.std.proofs.lemmas.List.{length-take, length-set}
use Rattle.std.proofs.lemmas.Option.{slice_get_read, slice_get_within, same_Some}
use Rattle.regress_program.specs.Compiled.{Extends}
use Rattle.regress_program.specs.Copies.{NamesBelow, end_of, expand, expanded}
use Rattle.regress_program.specs.Listed.{Appends, IsAlone, IsBegun, IsStoredAt, all_of}
use Rattle.regress_program.specs.declared.copies.Copies.{Copies}
use Rattle.regress_program.specs.declared.copies.Instructions.{Instructions}
use Rattle.regress_program.specs.declared.instruction.Instruction.{Instruction}
use Rattle.regress_program.proofs.AppendLemmas.{record-end}
use Rattle.regress_program.proofs.CodeLemmas.{get-set-same, get-set-other, Extends-get}
use Rattle.regress_program.proofs.Expanded.{IsAfter}
use Rattle.regress_program.proofs.ExpandedLemmas.{some-record, records-rise, expand-length}
use Rattle.regress_program.proofs.WrittenLemmas as written

all-expanded : (is : Instructions) → all_of is ≡ expanded is.stored.items is.copies.items
unfolding all_of
all-expanded is = refl

-- The instructions up to the next copies, or all of them.
record IsNext (is : Instructions) (at begun m : ℕ) : Type 0 where
  few : m ≤ length is.stored.items
  last : IsAfter is.stored.items is.copies.items begun m
  beyond : at < length (expand is.stored.items is.copies.items begun m)
  later : (j : ℕ) (r : Copies) → begun ≤ j → slice_get is.copies.items j ≡ Some r → m ≤ r.stored

module _ (is : Instructions) (at begun : ℕ) (begins : IsBegun is.copies.items (length is.copies.items) at begun) (inside : at < length (all_of is))
    (alone : IsAlone is at) where
  next : (m : ℕ) × IsNext is at begun m
  next = elim (cases_lt begun (length is.copies.items)) [
    | inl lt ↦
        (let found = some-record is.stored.items is.copies.items is.are begun lt in
        let q = found.0 in
        let the = is.are begun q found.1 in
        let start : q.start ≡ length (expand is.stored.items is.copies.items begun q.stored) = the.start in
        let low = begins.after begun q (omega arith) lt found.1 in (
          q.stored,
          record {
            few = the.within;
            last = the.before;
            beyond = omega (arith, low, start);
            later = λ j r le some. elim (cases_lt begun j) [
              | inl more ↦ (records-rise is.stored.items is.copies.items is.are (j - begun - 1) begun j q r (omega (arith, more)) found.1 some).0
              | inr here ↦
                  (let same : begun ≡ j = omega (arith, le, here) in
                  let e : q ≡ r = same_Some q r (sym found.1 ∙ ap (slice_get is.copies.items) same ∙ some) in
                  let e' : q.stored ≡ r.stored = ap (λ (s : Copies). s.stored) e in
                  omega (arith, e'))
            ];
          },
        ))
    | inr ge ↦
        (let same : length is.copies.items ≡ begun = omega (arith, ge, begins.within) in
        let all : length (all_of is) ≡ length (expand is.stored.items is.copies.items begun (length is.stored.items)) =
        ap length (all-expanded is) ∙ ap (λ (n : ℕ). length (expand is.stored.items is.copies.items n (length is.stored.items))) same in (
          length is.stored.items,
          record {
            few = omega arith;
            last = λ i s e found. (is.are i s found).within;
            beyond = omega (arith, inside, all);
            later = λ j r le some. absurd (omega (arith, le, ge, slice_get_within is.copies.items j r some));
          },
        ))
  ]

  later : (slot m : ℕ) → IsNext is at begun m → slot < m → (j : ℕ) (r : Copies) → begun ≤ j → slice_get is.copies.items j ≡ Some r →
      (slot < r.stored) × (at + r.width < r.start)
  later slot m before lt j r le some =
      let more = before.later j r le some in
      let low = begins.after j r le (slice_get_within is.copies.items j r some) some in (
        omega (arith, lt, more),
        elim (alone j r some) [
          | inl past ↦ absurd (omega (arith, past, low))
          | inr apart ↦ apart
        ],
      )

  -- A list that has been extended to this one has no copies after the instruction.
  few-copies : (base : Instructions) → length (all_of base) ≤ at → Appends base is → length base.copies.items ≤ begun
  few-copies base low grown = elim (cases_lt begun (length base.copies.items)) [
    | inl lt ↦
        (let found = some-record base.stored.items base.copies.items base.are begun lt in
        let some = Extends-get base.copies.items is.copies.items begun found.0 grown.copies found.1 in
        let start = begins.after begun found.0 (omega arith) (slice_get_within is.copies.items begun found.0 some) some in
        let end = record-end base begun found.0 found.1 in
        absurd (omega (arith, start, end, low)))
    | inr ge ↦ ge
  ]

  stored_at : (slot m : ℕ) → IsNext is at begun m → slot < m → IsAfter is.stored.items is.copies.items begun slot →
      at ≡ length (expand is.stored.items is.copies.items begun slot) →
      ((base : Instructions) → length (all_of base) ≤ at → Appends base is → length base.stored.items ≤ slot) → IsStoredAt is at slot
  stored_at slot m before lt after here past =
      let below : slot < length is.stored.items = omega (arith, lt, before.few) in
      record {
        within = below;
        are = λ x. written.copies-set is.stored.items is.copies.items is.are x slot below begun at (alone-at x below);
        written = λ x.
            written.expanded-set is.stored.items is.copies.items is.are x slot below begun at (alone-at x below)
            ∙ ap (λ (xs : List Instruction). set xs at x) (sym (all-expanded is));
        past = past;
      }
    where
      alone-at : (x : Instruction) (below : slot < length is.stored.items) → written.IsAlone is.stored.items is.copies.items is.are x slot below begun at
      alone-at x below = record {
        some = begins.within;
        earlier = after;
        here = here;
        later = λ j r le some. later slot m before lt j r le some;
      }

  -- before all copies
  pub slot-first : begun ≡ 0 → IsStoredAt is at at
  slot-first none =
      let m = next.0 in
      let len : length (expand is.stored.items is.copies.items begun m) ≡ length (take m is.stored.items) =
      ap (λ (n : ℕ). length (expand is.stored.items is.copies.items n m)) none in
      let lt : at < m = omega (arith, next.1.beyond, len, length-take m is.stored.items) in
      let len' : length (expand is.stored.items is.copies.items begun at) ≡ length (take at is.stored.items) =
      ap (λ (n : ℕ). length (expand is.stored.items is.copies.items n at)) none in
      stored_at at m next.1 lt (λ i s e found. absurd (omega (arith, e, none)))
      (omega (arith, len', length-take at is.stored.items, next.1.few, lt))
      (λ base low grown.
      let few = few-copies base low grown in
      let none' : length base.copies.items ≡ 0 = omega (arith, few, none) in
      let all : length (all_of base) ≡ length (take (length base.stored.items) base.stored.items) =
      ap length (all-expanded base) ∙ ap (λ (n : ℕ). length (expand base.stored.items base.copies.items n (length base.stored.items))) none' in
      omega (arith, all, length-take (length base.stored.items) base.stored.items, low))

  -- after the last copies that start before it
  module _ (j : ℕ) (r : Copies) (is-next : suc j ≡ begun) (last : slice_get is.copies.items j ≡ Some r) where
    pub slot-past : end_of r ≤ at
    slot-past = elim (alone j r last) [
      | inl past ↦ past
      | inr apart ↦ (let low = begins.before j r (omega (arith, is-next)) last in absurd (omega (arith, low, apart)))
    ]

    length-at : (k : ℕ) → r.stored ≤ k → k ≤ length is.stored.items → length (expand is.stored.items is.copies.items begun k) ≡ end_of r + (k - r.stored)
    length-at k le within =
        ap (λ (n : ℕ). length (expand is.stored.items is.copies.items n k)) (sym is-next) ∙ expand-length is.stored.items is.copies.items is.are j r last k le within

    pub slot-last : IsStoredAt is at (r.stored + (at - end_of r))
    slot-last =
        let m = next.0 in
        let least : r.stored ≤ m = next.1.last j r is-next last in
        let lt : r.stored + (at - end_of r) < m = omega (arith, next.1.beyond, length-at m least next.1.few, slot-past) in
        stored_at (r.stored + (at - end_of r)) m next.1 lt
        (λ i s e found.
        let here : i ≡ j = omega (arith, e, is-next) in
        let same : s ≡ r = same_Some s r (sym found ∙ ap (slice_get is.copies.items) here ∙ last) in
        let same' : s.stored ≡ r.stored = ap (λ (q : Copies). q.stored) same in
        omega (arith, same'))
        (omega (arith, length-at (r.stored + (at - end_of r)) (omega arith) (omega (arith, lt, next.1.few)), slot-past))
        (λ base low grown. past base low grown (few-copies base low grown))
      where
        past : (base : Instructions) → length (all_of base) ≤ at → Appends base is → length base.copies.items ≤ begun →
            length base.stored.items ≤ r.stored + (at - end_of r)
        past base low grown few = elim (cases_lt j (length base.copies.items)) [
          | inl lt ↦
              (let found : slice_get base.copies.items j ≡ Some r = sym (grown.copies.same j lt) ∙ last in
              let count : length base.copies.items ≡ suc j = omega (arith, lt, few, is-next) in
              let within = (base.are j r found).within in
              let all : length (all_of base) ≡ length (expand base.stored.items base.copies.items (suc j) (length base.stored.items)) =
              ap length (all-expanded base) ∙ ap (λ (n : ℕ). length (expand base.stored.items base.copies.items n (length base.stored.items))) count in
              let len = expand-length base.stored.items base.copies.items base.are j r found (length base.stored.items) within (omega arith) in
              omega (arith, all, len, low, within))
          | inr ge ↦ (let far = grown.apart j r ge last in omega (arith, far.0))
        ]

-- what the last copies that start before it tell
pub slot-after : (is : Instructions) (at begun count : ℕ) (r : Copies) → count ≡ length is.copies.items → IsBegun is.copies.items count at begun →
    at < length (all_of is) → IsAlone is at → begun ≢ 0 → r ≡ get_or is.copies.items (begun - 1) r →
    (end_of r ≤ at) × IsStoredAt is at (r.stored + (at - end_of r))
slot-after is at begun count r all begins within alone some e =
    let begins' : IsBegun is.copies.items (length is.copies.items) at begun = subst (λ (n : ℕ). IsBegun is.copies.items n at begun) all begins in
    let next : suc (begun - 1) ≡ begun = omega (arith, some) in
    let last : slice_get is.copies.items (begun - 1) ≡ Some r =
    slice_get_read is.copies.items (length is.copies.items) (begun - 1) r refl (omega (arith, next, begins'.within)) e in (
      slot-past is at begun begins' within alone (begun - 1) r next last,
      slot-last is at begun begins' within alone (begun - 1) r next last,
    )

-- ---- the instruction is replaced

module _ (is new base : Instructions) (at slot : ℕ) (x : Instruction) (there : IsStoredAt is at slot) (stored : new.stored.items ≡ set is.stored.items slot x)
    (copies : new.copies.items ≡ is.copies.items) where
  pub all_of-set : all_of new ≡ set (all_of is) at x
  all_of-set =
      all-expanded new ∙ ap (λ (xs : List Instruction). expanded xs new.copies.items) stored
      ∙ ap (λ (rs : List Copies). expanded (set is.stored.items slot x) rs) copies ∙ there.written x

  extends-set : {X : Type 0} (xs ys : List X) (i : ℕ) (y : X) → Extends xs ys → length xs ≤ i → Extends xs (set ys i y)
  extends-set xs ys i y ext le = record {
    grown = omega (arith, ext.grown, length-set ys i y);
    same = λ k lt. get-set-other ys i k y (λ e. absurd (omega (arith, e, le, lt))) ∙ ext.same k lt;
  }

  pub Appends-set : length (all_of base) ≤ at → Appends base is → NamesBelow (length (all_of is)) x → Appends base new
  Appends-set low grown below =
      let len : length (all_of new) ≡ length (all_of is) = ap length all_of-set ∙ length-set (all_of is) at x in
      record {
        stored =
            subst (Extends base.stored.items) (sym stored) (extends-set base.stored.items is.stored.items slot x grown.stored (there.past base low grown));
        copies = subst (Extends base.copies.items) (sym copies) grown.copies;
        all = subst (Extends (all_of base)) (sym all_of-set) (extends-set (all_of base) (all_of is) at x grown.all low);
        apart = λ j r le found. grown.apart j r le (ap (λ (rs : List Copies). slice_get rs j) (sym copies) ∙ found);
        named = λ pc i le found. subst (λ (n : ℕ). NamesBelow n i) (sym len)
            (named-at pc i le (ap (λ (xs : List Instruction). slice_get xs pc) (sym all_of-set) ∙ found));
      }
    where
      named-at : (pc : ℕ) (i : Instruction) → length (all_of base) ≤ pc → slice_get (set (all_of is) at x) pc ≡ Some i → NamesBelow (length (all_of is)) i
      named-at pc i le found = elim (cases_lt pc at) [
        | inl lt ↦ grown.named pc i le (sym (get-set-other (all_of is) at pc x (λ e. absurd (omega (arith, e, lt)))) ∙ found)
        | inr ge ↦ elim (cases_lt at pc) [
          | inl lt ↦ grown.named pc i le (sym (get-set-other (all_of is) at pc x (λ e. absurd (omega (arith, e, lt)))) ∙ found)
          | inr ge' ↦
              (let here : pc ≡ at = omega (arith, ge, ge') in
              let within : at < length (all_of is) = omega (arith, here, slice_get_within (set (all_of is) at x) pc i found, length-set (all_of is) at x) in
              let same : x ≡ i = same_Some x i (sym (get-set-same (all_of is) at x within) ∙ ap (slice_get (set (all_of is) at x)) (sym here) ∙ found) in
              subst (NamesBelow (length (all_of is))) same below)
        ]
      ]
