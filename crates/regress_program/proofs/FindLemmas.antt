-- An instruction is found by a binary search among the records of copies.
use Rattle.std.proofs.Common.{◌≡◌, ◌≢◌, ℕ, zero, suc, true, false, leb, ◌+◌, ◌-◌, ◌*◌, ◌/◌, ◌≤◌, ◌<◌, inl, inr, List, [], ◌∷◌, length, take, drop, get_or, slice_get, Some, None, refl, sym, ap, subst, ◌∙◌, arith}
use Rattle.std.proofs.lemmas.Bool.{cases_lt, leb-true, leb-false}
use Rattle.std.proofs.lemmas.List.{length-take, take_all}
use Rattle.std.proofs.lemmas.Option.{slice_get_within, slice_get_read, slice_get-get_or, same_Some}
use Rattle.std.specs.List.Sorted.{IsPartitionPoint, IsNonDecreasingBy}
use Rattle.std.proofs.Math.Nat.{mul-le-mul_right}
use Rattle.regress_program.specs.Copies.{NamesBelow, end_of, moved_in, times, with_copies, expand, expanded, AreCopies}
use Rattle.regress_program.specs.Listed.{Begins, IsBegun}
use Rattle.regress_program.specs.declared.copies.Copies.{Copies}
use Rattle.regress_program.specs.declared.copies.Instructions.{Instructions}
use Rattle.regress_program.specs.declared.instruction.Instruction.{Instruction}
use Rattle.regress_program.specs.declared.instruction.Instruction.TheVariants as insts
use Rattle.regress_program.proofs.CodeLemmas.{get-append-below}
use Rattle.regress_program.proofs.ElementLemmas.{get-take}
use Rattle.regress_program.proofs.Expanded.{IsAfter}
use Rattle.regress_program.proofs.ExpandedLemmas.{some-record, records-rise, records-end, times-is, expand-length, expand-before, expand-among, expand-after, copy-at}

module _ (stored : List Instruction) (copies : List Copies) (are : AreCopies stored copies) where
  -- More stored instructions come after those that were there.
  pub expand-more : (j k m pc : ℕ) → j ≤ length copies → k ≤ m → m ≤ length stored → IsAfter stored copies j k → pc < length (expand stored copies j k) →
      slice_get (expand stored copies j m) pc ≡ slice_get (expand stored copies j k) pc
  expand-more zero k m pc le more within last lt =
      let few : pc < k = omega (arith, lt, length-take k stored) in
      get-take m stored pc (omega (arith, few, more)) ∙ sym (get-take k stored pc few)
  expand-more (suc j) k m pc le more within last lt =
      let found = some-record stored copies are j (omega (arith, le)) in
      let r = found.0 in
      let few : r.stored ≤ k = last j r refl found.1 in
      let len = expand-length stored copies are j r found.1 k few (omega (arith, more, within)) in
      elim (cases_lt pc (end_of r)) [
        | inl among ↦
            expand-copied j r found.1 m pc among ∙ sym (expand-copied j r found.1 k pc among)
        | inr past ↦
            expand-after stored copies are j r found.1 m pc past (omega (arith, len, lt, more))
            ∙ sym (expand-after stored copies are j r found.1 k pc past (omega (arith, len, lt)))
      ]
    where
      expand-copied : (j : ℕ) (r : Copies) → slice_get copies j ≡ Some r → (n pc : ℕ) → pc < end_of r →
          slice_get (expand stored copies (suc j) n) pc ≡ slice_get (times (moved_in r.from r.width) r.width r.count (expand stored copies j r.stored)) pc
      expand-copied j r is n pc lt =
          ap (λ xs. slice_get xs pc) (ap (with_copies stored (λ s. expand stored copies j s) n) is)
          ∙ get-append-below (times (moved_in r.from r.width) r.width r.count (expand stored copies j r.stored)) (take (n - r.stored) (drop r.stored stored)) pc
          (omega (arith, times-is stored copies are j r is, lt))

  after-within : (j : ℕ) (r : Copies) → slice_get copies j ≡ Some r → IsAfter stored copies j r.stored
  after-within j r is = (are j r is).before

  -- Without the last copies, which start after it, it is the same.
  pub skip-one : (j pc : ℕ) (r : Copies) → slice_get copies j ≡ Some r → pc < r.start →
      slice_get (expand stored copies (suc j) (length stored)) pc ≡ slice_get (expand stored copies j (length stored)) pc
  skip-one j pc r is lt =
      let the = are j r is in
      let len : r.start ≡ length (expand stored copies j r.stored) = the.start in
      expand-before stored copies are j r is (length stored) pc lt
      ∙ sym (expand-more j r.stored (length stored) pc (omega (arith, slice_get_within copies j r is)) the.within (omega arith) (after-within j r is) (omega (arith, len, lt)))

  pub skip : (n begun count pc : ℕ) → count ≡ begun + n → count ≤ length copies → ((j : ℕ) (r : Copies) → begun ≤ j → j < count → slice_get copies j ≡ Some r → pc < r.start) →
      slice_get (expand stored copies count (length stored)) pc ≡ slice_get (expand stored copies begun (length stored)) pc
  skip zero begun count pc e le after =
      let same : count ≡ begun = omega (arith, e) in ap (λ (j : ℕ). slice_get (expand stored copies j (length stored)) pc) same
  skip (suc n) begun count pc e le after =
      let found = some-record stored copies are (begun + n) (omega (arith, e, le)) in
      let same : count ≡ suc (begun + n) = omega (arith, e) in
      ap (λ (j : ℕ). slice_get (expand stored copies j (length stored)) pc) same
      ∙ skip-one (begun + n) pc found.0 found.1 (after (begun + n) found.0 (omega arith) (omega (arith, e)) found.1)
      ∙ skip n begun (begun + n) pc refl (omega (arith, e, le)) (λ j r low lt. after j r low (omega (arith, lt, e)))

  module _ (count pc begun : ℕ) (within : count ≤ length copies) (is : IsBegun copies count pc begun)
      (inside : pc < length (expand stored copies count (length stored))) where
    skipped : slice_get (expand stored copies count (length stored)) pc ≡ slice_get (expand stored copies begun (length stored)) pc
    skipped = skip (count - begun) begun count pc (omega (arith, is.within)) within is.after

    there : (x : Instruction) × (slice_get (expand stored copies count (length stored)) pc ≡ Some x)
    there =
        (get_or (expand stored copies count (length stored)) pc insts.Accept, slice_get-get_or (expand stored copies count (length stored)) pc insts.Accept inside)

    -- before all copies
    pub found-first : begun ≡ 0 → (pc < length stored) × (slice_get (expand stored copies count (length stored)) pc ≡ slice_get stored pc)
    found-first none =
        let e : slice_get (expand stored copies begun (length stored)) pc ≡ slice_get (take (length stored) stored) pc =
        ap (λ (j : ℕ). slice_get (expand stored copies j (length stored)) pc) none in
        let lt : pc < length (take (length stored) stored) = slice_get_within (take (length stored) stored) pc there.0 (sym e ∙ sym skipped ∙ there.1) in
        let lt' : pc < length stored = omega (arith, lt, length-take (length stored) stored) in
        (lt', skipped ∙ e ∙ get-take (length stored) stored pc lt')

    module _ (j : ℕ) (r : Copies) (next : suc j ≡ begun) (last : slice_get copies j ≡ Some r) where
      here : slice_get (expand stored copies count (length stored)) pc ≡ slice_get (expand stored copies (suc j) (length stored)) pc
      here = skipped ∙ ap (λ (n : ℕ). slice_get (expand stored copies n (length stored)) pc) (sym next)

      ends : pc < end_of r + (length stored - r.stored)
      ends =
          let lt : pc < length (expand stored copies (suc j) (length stored)) =
          slice_get_within (expand stored copies (suc j) (length stored)) pc there.0 (sym here ∙ there.1) in
          omega (arith, lt, expand-length stored copies are j r last (length stored) (are j r last).within (omega arith))

      starts : r.start ≤ pc
      starts = is.before j r (omega (arith, next)) last

      -- after the last copies
      pub found-after : end_of r ≤ pc → (r.stored + (pc - end_of r) < length stored) ×
          (slice_get (expand stored copies count (length stored)) pc ≡ slice_get stored (r.stored + (pc - end_of r)))
      found-after past =
          (omega (arith, ends, past, (are j r last).within), here ∙ expand-after stored copies are j r last (length stored) pc past ends)

      -- among the last copies
      module _ (among : pc < end_of r) where
        abbrev back : ℕ
        back = ((pc - r.start) / r.width + 1) * r.width

        pub found-original : (back ≤ pc) × (back ≤ r.count * r.width) × (pc - back < length (expand stored copies j (length stored)))
        found-original =
            let at = copy-at stored copies are j r last pc starts among in
            let the = are j r last in
            let start : r.start ≡ length (expand stored copies j r.stored) = the.start in
            let x = get_or (expand stored copies j r.stored) (pc - back) insts.Accept in
            let short : slice_get (expand stored copies j r.stored) (pc - back) ≡ Some x =
            slice_get-get_or (expand stored copies j r.stored) (pc - back) insts.Accept (omega (arith, at.3, start)) in
            let more = expand-more j r.stored (length stored) (pc - back) (omega (arith, slice_get_within copies j r last)) the.within (omega arith)
            (after-within j r last) (omega (arith, at.3, start)) in
            let many : back ≤ r.count * r.width = mul-le-mul_right r.width at.0 in
            (omega (arith, at.1), many, slice_get_within (expand stored copies j (length stored)) (pc - back) x (more ∙ short))

        pub found-among : (x : Instruction) → slice_get (expand stored copies j (length stored)) (pc - back) ≡ Some x →
            (NamesBelow r.start x) × (slice_get (expand stored copies count (length stored)) pc ≡ Some (moved_in r.from back x))
        found-among x found =
            let at = copy-at stored copies are j r last pc starts among in
            let the = are j r last in
            let start : r.start ≡ length (expand stored copies j r.stored) = the.start in
            let more = expand-more j r.stored (length stored) (pc - back) (omega (arith, slice_get_within copies j r last)) the.within (omega arith)
            (after-within j r last) (omega (arith, at.3, start)) in
            let short : slice_get (expand stored copies j r.stored) (pc - back) ≡ Some x = sym more ∙ found in (
              the.named (pc - back) x at.2 short,
              here ∙ ap (slice_get (expand stored copies (suc j) (length stored))) (sym at.1)
                  ∙ expand-among stored copies are j r last (length stored) ((pc - r.start) / r.width + 1) (pc - back) x at.0 at.2 (omega (arith, at.1, among)) short,
            )

  -- The starts of the copies increase.
  pub starts-rise : IsNonDecreasingBy (λ (r : Copies). r.start) copies
  starts-rise i j d le lt = elim (cases_lt i j) [
    | inl before ↦
        (let r = get_or copies i d in
        let s = get_or copies j d in
        let rise = records-rise stored copies are (j - i - 1) i j r s (omega (arith, before)) (slice_get-get_or copies i d (omega (arith, before, lt))) (slice_get-get_or copies j d lt) in
        omega (arith, rise.1))
    | inr here ↦ (let same : i ≡ j = omega (arith, le, here) in let e : (get_or copies i d).start ≡ (get_or copies j d).start = ap (λ (n : ℕ). (get_or copies n d).start) same in omega (arith, e))
  ]

-- what `partition_point` finds
module _ (copies : List Copies) where
  pub begun-found : (count pc begun : ℕ) →
      IsPartitionPoint (λ (r : Copies). leb r.start pc ≡ true) (λ (r : Copies). leb r.start pc ≡ false) (take count copies) begun →
      begun ≤ length (take count copies) → count ≤ length copies → IsBegun copies count pc begun
  begun-found count pc begun point bound le = record {
    within = omega (arith, bound, length-take count copies);
    before = λ j r lt found.
        let is : get_or (take count copies) j r ≡ r = there' j r (omega (arith, lt, bound, length-take count copies)) found in
        leb-true r.start pc (subst (λ (q : Copies). leb q.start pc ≡ true) is (point.0 j r (omega arith) lt));
    after = λ j r low lt found.
        let is : get_or (take count copies) j r ≡ r = there' j r lt found in
        leb-false r.start pc (subst (λ (q : Copies). leb q.start pc ≡ false) is (point.1 j r low (omega (arith, lt, le, length-take count copies))));
  }
    where
      there' : (j : ℕ) (r : Copies) → j < count → slice_get copies j ≡ Some r → get_or (take count copies) j r ≡ r
      there' j r lt found =
          let e : slice_get (take count copies) j ≡ Some r = get-take count copies j lt ∙ found in
          let e' = slice_get-get_or (take count copies) j r (slice_get_within (take count copies) j r e) in
          same_Some (get_or (take count copies) j r) r (sym e' ∙ e)

-- Without copies all instructions are stored.
pub none-begins : (stored : List Instruction) (copies : List Copies) → slice_get copies 0 ≡ None → Begins stored (expanded stored copies)
none-begins stored [] none = subst (λ (xs : List Instruction). Begins stored xs) (sym (take_all (length stored) stored (omega arith))) (record { within = omega arith; same = λ pc lt. refl })
none-begins stored (r ∷ rs) none = cc

-- What the last copies that start at the instruction with the index or before tell of it. They are those with the index j.
pub record Last (stored : List Instruction) (copies : List Copies) (count pc j : ℕ) (r : Copies) : Type 0 where
  pub low : r.start ≤ pc
  pub some : 0 < r.width
  pub all : end_of r ≤ length (expanded stored copies)
  pub after : end_of r ≤ pc → (r.stored + (pc - end_of r) < length stored) ×
      (slice_get (expand stored copies count (length stored)) pc ≡ slice_get stored (r.stored + (pc - end_of r)))
  pub original : pc < end_of r → (((pc - r.start) / r.width + 1) * r.width ≤ pc) × (((pc - r.start) / r.width + 1) * r.width ≤ r.count * r.width) ×
      (pc - ((pc - r.start) / r.width + 1) * r.width < length (expand stored copies j (length stored)))
  pub among : pc < end_of r → (x : Instruction) → slice_get (expand stored copies j (length stored)) (pc - ((pc - r.start) / r.width + 1) * r.width) ≡ Some x →
      (NamesBelow r.start x) ×
      (slice_get (expand stored copies count (length stored)) pc ≡ Some (moved_in r.from (((pc - r.start) / r.width + 1) * r.width) x))

pub found-last : (is : Instructions) (count pc begun : ℕ) (r : Copies) → count ≤ length is.copies.items → IsBegun is.copies.items count pc begun →
    pc < length (expand is.stored.items is.copies.items count (length is.stored.items)) → begun ≢ 0 → r ≡ get_or is.copies.items (begun - 1) r →
    Last is.stored.items is.copies.items count pc (begun - 1) r
found-last is count pc begun r within begins inside some e =
    let next : suc (begun - 1) ≡ begun = omega (arith, some) in
    let last : slice_get is.copies.items (begun - 1) ≡ Some r =
    slice_get_read is.copies.items (length is.copies.items) (begun - 1) r refl (omega (arith, next, begins.within, within)) e in
    record {
      low = starts is.stored.items is.copies.items is.are count pc begun within begins inside (begun - 1) r next last;
      some = (is.are (begun - 1) r last).some;
      all = records-end is.stored.items is.copies.items is.are (begun - 1) r last;
      after = found-after is.stored.items is.copies.items is.are count pc begun within begins inside (begun - 1) r next last;
      original = found-original is.stored.items is.copies.items is.are count pc begun within begins inside (begun - 1) r next last;
      among = found-among is.stored.items is.copies.items is.are count pc begun within begins inside (begun - 1) r next last;
    }
