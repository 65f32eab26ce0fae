-- Copies of the last instructions are added to those of a routine.
use Rattle.std.proofs.Common.{◌≡◌, ℕ, suc, ◌+◌, ◌-◌, ◌*◌, ◌/◌, ◌≤◌, ◌<◌, inl, inr, List, [], ◌∷◌, ◌++◌, All, length, map, slice_get, get_or, Some, refl, sym, ap, subst, ◌∙◌, arith}
use Rattle.std.proofs.lemmas.Bool.{cases_lt}
use Rattle.std.proofs.lemmas.List.Elements.{All-map, All-weaker}
use Rattle.std.proofs.lemmas.Option.{slice_get_within, slice_get-get_or, same_Some}
use Rattle.regress_program.specs.Compiled.{Extends}
use Rattle.regress_program.specs.Copies.{NamesBelow, end_of, shift, names, renamed_in, moved_in, times, expand, expanded, AreCopies}
use Rattle.regress_program.specs.Listed.{Appends, IsBegun, all_of}
use Rattle.regress_program.specs.declared.copies.Copies.{Copies}
use Rattle.regress_program.specs.declared.copies.Instructions.{Instructions}
use Rattle.regress_program.specs.declared.instruction.Instruction.{Instruction}
use Rattle.regress_program.specs.declared.instruction.Instruction.TheVariants as insts
use Rattle.regress_program.proofs.AppendLemmas.{NamesBelow-more}
use Rattle.regress_program.proofs.CodeLemmas.{length-push, get-append-last, Extends-then, Extends-push}
use Rattle.regress_program.proofs.ExpandedPush.{expanded-copy, copies-copy}
use Rattle.regress_program.proofs.FindLemmas.{found-original, found-among, starts-rise}
use Rattle.regress_program.proofs.TimesLemmas.{times-length, times-below}

-- ---- a moved instruction names moved ones

names-renamed : (f : ℕ → ℕ) (i : Instruction) → names (renamed_in f i) ≡ map f (names i)
names-renamed f insts.Accept = refl
names-renamed f insts.Fail = refl
names-renamed f (insts.Leaf leaf next) = refl
names-renamed f (insts.Characters leaf count next) = refl
names-renamed f (insts.Split first second) = refl
names-renamed f (insts.BeginLoop greedy body next) = refl
names-renamed f (insts.Repeat greedy body next) = refl
names-renamed f (insts.EndLoop next) = refl
names-renamed f (insts.Unset start end next) = refl
names-renamed f (insts.BeginGroup next) = refl
names-renamed f (insts.EndGroup id next) = refl
names-renamed f (insts.Look negate routine next) = refl

shift-most : (from n m k : ℕ) → k < m → shift from n k < m + n
shift-most from n m k lt = grind (arith, lt)

pub names-moved : (from n m : ℕ) (i : Instruction) → NamesBelow m i → NamesBelow (m + n) (moved_in from n i)
names-moved from n m i below =
    subst (All (λ k. k < m + n)) (sym (names-renamed (shift from n) i))
    (All-map (λ k. k < m + n) (shift from n) (names i)
    (All-weaker (λ k. k < m) (λ k. shift from n k < m + n) (λ k lt. shift-most from n m k lt) (names i) below))

-- ---- the copies are the last instructions

all-expanded : (is : Instructions) → all_of is ≡ expanded is.stored.items is.copies.items
unfolding all_of
all-expanded is = refl

module _ (a : Instructions) (stored : List Instruction) (copies : List Copies) (r : Copies) (same : stored ≡ a.stored.items) (added : copies ≡ a.copies.items ++ r ∷ [])
    (last : r.stored ≡ length a.stored.items) (start : r.start ≡ length (all_of a)) (some : 0 < r.width) (from_start : r.from + r.width ≤ r.start)
    (named : (pc : ℕ) (i : Instruction) → r.start ≤ pc + r.width → slice_get (all_of a) pc ≡ Some i → NamesBelow r.start i) where
  pub copy-expanded : expanded stored copies ≡ times (moved_in r.from r.width) r.width r.count (all_of a)
  copy-expanded =
      ap (λ xs. expanded xs copies) same ∙ ap (λ rs. expanded a.stored.items rs) added ∙ expanded-copy a.stored.items a.copies.items r last
      ∙ ap (times (moved_in r.from r.width) r.width r.count) (sym (all-expanded a))

  copy-length : length (expanded stored copies) ≡ end_of r
  copy-length =
      ap length copy-expanded
      ∙ times-length (moved_in r.from r.width) r.width r.count (all_of a) (omega (arith, from_start, start)) ∙ omega (arith, start)

  pub copy-invariant : AreCopies stored copies × (a.len + r.count * r.width ≡ length (expanded stored copies))
  copy-invariant =
      let len : length (all_of a) ≡ length (expanded a.stored.items a.copies.items) = ap length (all-expanded a) in (
        subst (λ xs. AreCopies xs copies) (sym same) (subst (λ rs. AreCopies a.stored.items rs) (sym added)
            (copies-copy a.stored.items a.copies.items r a.are last (omega (arith, start, len)) some (omega (arith, from_start)) from_start
            (λ pc i low found. named pc i low (ap (λ xs. slice_get xs pc) (all-expanded a) ∙ found)))),
        omega (arith, copy-length, start, len, a.counted),
      )

  -- Among all instructions are no others.
  copied-named : (pc : ℕ) (i : Instruction) → r.start ≤ pc → slice_get (expanded stored copies) pc ≡ Some i → NamesBelow (end_of r) i
  copied-named pc i low found =
      let are = copy-invariant.0 in
      let count : length copies ≡ length a.copies.items + 1 = ap length added ∙ length-push a.copies.items r in
      let inside : pc < length (expanded stored copies) = slice_get_within (expanded stored copies) pc i found in
      let last' : slice_get copies (length a.copies.items) ≡ Some r = ap (λ rs. slice_get rs (length a.copies.items)) added ∙ get-append-last a.copies.items r in
      let begun : IsBegun copies (length copies) pc (length copies) = record {
        within = omega arith;
        before = λ j s lt is.
            let rise = starts-rise stored copies are j (length a.copies.items) r (omega (arith, lt, count)) (omega (arith, count)) in
            starts-below j s pc is rise (get_or-is copies (length a.copies.items) r last') low;
        after = λ j s le lt is. absurd (omega (arith, le, lt));
      } in
      let among : pc < end_of r = omega (arith, inside, copy-length) in
      let within : length copies ≤ length copies = omega arith in
      let next : suc (length a.copies.items) ≡ length copies = omega (arith, count) in
      let original = found-original stored copies are (length copies) pc (length copies) within begun inside (length a.copies.items) r next last' among in
      let at : ℕ = pc - ((pc - r.start) / r.width + 1) * r.width in
      let back : ℕ = ((pc - r.start) / r.width + 1) * r.width in
      let x = get_or (expand stored copies (length a.copies.items) (length stored)) at insts.Accept in
      let there = found-among stored copies are (length copies) pc (length copies) within begun inside (length a.copies.items) r next last' among x
      (slice_get-get_or (expand stored copies (length a.copies.items) (length stored)) at insts.Accept original.2) in
      let is : moved_in r.from back x ≡ i = same_Some (moved_in r.from back x) i (sym there.1 ∙ found) in
      subst (NamesBelow (end_of r)) is
      (NamesBelow-more (r.start + back) (end_of r) (moved_in r.from back x) (omega (arith, original.1)) (names-moved r.from back r.start x there.0))
    where
      get_or-is : (rs : List Copies) (k : ℕ) (q : Copies) → slice_get rs k ≡ Some q → get_or rs k q ≡ q
      get_or-is rs k q found = same_Some (get_or rs k q) q (sym (slice_get-get_or rs k q (slice_get_within rs k q found)) ∙ found)

      starts-below : (j : ℕ) (s : Copies) (pc : ℕ) → slice_get copies j ≡ Some s → (get_or copies j r).start ≤ (get_or copies (length a.copies.items) r).start →
          get_or copies (length a.copies.items) r ≡ r → r.start ≤ pc → s.start ≤ pc
      starts-below j s pc is rise e low =
          let here : get_or copies j r ≡ s = same_Some (get_or copies j r) s (sym (slice_get-get_or copies j r (slice_get_within copies j s is)) ∙ is) in
          let e' : (get_or copies (length a.copies.items) r).start ≡ r.start = ap (λ (q : Copies). q.start) e in
          let here' : (get_or copies j r).start ≡ s.start = ap (λ (q : Copies). q.start) here in
          omega (arith, rise, e', here', low)

module _ (a b base : Instructions) (r : Copies) (same : b.stored.items ≡ a.stored.items) (added : b.copies.items ≡ a.copies.items ++ r ∷ [])
    (last : r.stored ≡ length a.stored.items) (start : r.start ≡ length (all_of a)) (some : 0 < r.width) (from_start : r.from + r.width ≤ r.start)
    (named : (pc : ℕ) (i : Instruction) → r.start ≤ pc + r.width → slice_get (all_of a) pc ≡ Some i → NamesBelow r.start i) where
  pub all_of-copy : all_of b ≡ times (moved_in r.from r.width) r.width r.count (all_of a)
  all_of-copy = all-expanded b ∙ copy-expanded a b.stored.items b.copies.items r same added last start some from_start named

  pub Appends-copy : length (all_of base) + r.width ≤ r.start → Appends base a → Appends base b
  Appends-copy low grown =
      let len : length (all_of b) ≡ end_of r =
      ap length (all-expanded b) ∙ copy-length a b.stored.items b.copies.items r same added last start some from_start named in
      let count : length b.copies.items ≡ length a.copies.items + 1 = ap length added ∙ length-push a.copies.items r in
      let more : Extends (all_of a) (all_of b) = record {
        grown = omega (arith, len, start);
        same = λ pc lt. ap (λ xs. slice_get xs pc) all_of-copy
            ∙ times-below (moved_in r.from r.width) r.width r.count (all_of a) pc (omega (arith, from_start, start)) lt;
      } in
      record {
        stored = subst (Extends base.stored.items) (sym same) grown.stored;
        copies = subst (Extends base.copies.items) (sym added)
            (Extends-then base.copies.items a.copies.items (a.copies.items ++ r ∷ []) grown.copies (Extends-push a.copies.items r));
        all = Extends-then (all_of base) (all_of a) (all_of b) grown.all more;
        apart = λ j s le found. elim (cases_lt j (length a.copies.items)) [
          | inl lt ↦ grown.apart j s le (sym (old-record j lt) ∙ found)
          | inr ge ↦
              (let here : j ≡ length a.copies.items = omega (arith, ge, slice_get_within b.copies.items j s found, count) in
              let is : r ≡ s = same_Some r s (sym (new-record j here) ∙ found) in
              subst (λ (q : Copies). (length base.stored.items ≤ q.stored) × (length (all_of base) + q.width ≤ q.start)) is
              (omega (arith, last, grown.stored.grown), low))
        ];
        named = λ pc i le found. elim (cases_lt pc (length (all_of a))) [
          | inl lt ↦ NamesBelow-more (length (all_of a)) (length (all_of b)) i more.grown (grown.named pc i le (sym (more.same pc lt) ∙ found))
          | inr ge ↦
              subst (λ (n : ℕ). NamesBelow n i) (sym len)
              (copied-named a b.stored.items b.copies.items r same added last start some from_start named pc i (omega (arith, ge, start))
              (ap (λ xs. slice_get xs pc) (sym (all-expanded b)) ∙ found))
        ];
      }
    where
      old-record : (j : ℕ) → j < length a.copies.items → slice_get b.copies.items j ≡ slice_get a.copies.items j
      old-record j lt = ap (λ rs. slice_get rs j) added ∙ (Extends-push a.copies.items r).same j lt

      new-record : (j : ℕ) → j ≡ length a.copies.items → slice_get b.copies.items j ≡ Some r
      new-record j here = ap (slice_get b.copies.items) here ∙ ap (λ rs. slice_get rs (length a.copies.items)) added ∙ get-append-last a.copies.items r
