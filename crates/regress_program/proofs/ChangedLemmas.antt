-- The range of a routine has the groups that its instructions change.
use Rattle.std.proofs.Common.{◌≡◌, ℕ, zero, suc, ◌+◌, ◌-◌, ◌≤◌, ◌<◌, Bool, true, false, min, max, nat_le, List, [], ◌∷◌, ◌++◌, length, take, slice_get, slice_index_or, Some, if◌then◌else◌, refl, sym, ap, ◌∙◌, subst, arith}
use Rattle.std.proofs.lemmas.List.{length-append, length-take, get_or_append_left, get_or-append-add}
use Rattle.regress_program.specs.declared.ranges.GroupRange.{GroupRange}
use Rattle.regress_program.specs.Program.{Op, accept, fail, part, split, begin_loop, repeat, end_loop, unsets, begin_group, end_group, look, Routine}
use Rattle.regress_program.specs.Ranges.{no_groups, is_empty, IsIn, hull, changed_by, changed_by_all, ranges_after, ranges_of}
use Rattle.regress_program.specs.Adds.{IsRangeWithin}
use Rattle.regress_program.specs.Shape.{Fits, AllFit, IsProgram}
use Rattle.std.proofs.lemmas.Option.{slice_get_within}

not-empty : (r : GroupRange) (id : ℕ) → IsIn r id → is_empty r ≡ true → ⊥
not-empty r id is empty = by is.0 is.1
  where
    by : r.start ≤ id → id < r.end → ⊥
    by le lt = grind arith

module _ (a b : GroupRange) (id : ℕ) where
  abbrev hull_by : Bool → Bool → GroupRange
  hull_by x y = if x then b else if y then a else record { start = min a.start b.start; end = max a.end b.end }

  hull-left : IsIn a id → IsIn (hull a b) id
  hull-left is = by (is_empty a) (is_empty b) refl
    where
      by : (x y : Bool) → is_empty a ≡ x → IsIn (hull_by x y) id
      by true y e = absurd (not-empty a id is e)
      by false true e = is
      by false false e = (omega (arith, is.0), omega (arith, is.1))

  hull-right : IsIn b id → IsIn (hull a b) id
  hull-right is = by (is_empty a) (is_empty b) refl
    where
      by : (x y : Bool) → is_empty b ≡ y → IsIn (hull_by x y) id
      by true y e = is
      by false true e = absurd (not-empty b id is e)
      by false false e = (omega (arith, is.0), omega (arith, is.1))

-- What an instruction changes is in the range of all instructions.
changed-all : (earlier : List GroupRange) (ops : List Op) (pc : ℕ) (op : Op) (id : ℕ) → slice_get ops pc ≡ Some op → IsIn (changed_by earlier op) id →
    IsIn (changed_by_all earlier ops) id
changed-all earlier [] pc op id is changed = cc
changed-all earlier (o ∷ ops) zero op id is changed =
    let same : op ≡ o = cc in
    hull-left (changed_by earlier o) (changed_by_all earlier ops) id (subst (λ x. IsIn (changed_by earlier x) id) same changed)
changed-all earlier (o ∷ ops) (suc pc) op id is changed =
    hull-right (changed_by earlier o) (changed_by_all earlier ops) id (changed-all earlier ops pc op id is changed)

-- Where no instruction changes a group outside a range, all of them change none.
hull-within : (start end : ℕ) (a b : GroupRange) → IsRangeWithin start end a → IsRangeWithin start end b → IsRangeWithin start end (hull a b)
hull-within low high a b one two = by (is_empty a) (is_empty b) refl refl
  where
    some : (r : GroupRange) → is_empty r ≡ false → r.start < r.end
    some r is = lt_of r.end r.start is
      where
        lt_of : (m n : ℕ) → nat_le m n ≡ false → n < m
        lt_of m n e = grind arith

    by : (x y : Bool) → is_empty a ≡ x → is_empty b ≡ y →
        IsRangeWithin low high (if x then b else if y then a else record { start = min a.start b.start; end = max a.end b.end })
    by true y left right = two
    by false true left right = one
    by false false left right = λ id is.
        let a-some : a.start < a.end = some a left in
        let b-some : b.start < b.end = some b right in
        let a-first = one a.start (omega arith, a-some) in
        let a-last = one (a.end - 1) (omega (arith, a-some), omega (arith, a-some)) in
        let b-first = two b.start (omega arith, b-some) in
        let b-last = two (b.end - 1) (omega (arith, b-some), omega (arith, b-some)) in
        (omega (arith, is.0, a-first.0, b-first.0), omega (arith, is.1, a-last.1, b-last.1, a-some, b-some))

all-within : (start end : ℕ) (ranges : List GroupRange) (ops : List Op) →
    ((pc : ℕ) (op : Op) → slice_get ops pc ≡ Some op → IsRangeWithin start end (changed_by ranges op)) →
    IsRangeWithin start end (changed_by_all ranges ops)
all-within start end ranges [] each = λ id is. absurd (omega (arith, is.1))
all-within start end ranges (op ∷ ops) each =
    hull-within start end (changed_by ranges op) (changed_by_all ranges ops) (each 0 op refl)
    (all-within start end ranges ops (λ pc o found. each (suc pc) o found))

-- ---- the ranges of a program

abbrev range_in : List GroupRange → ℕ → GroupRange
range_in ranges i = slice_index_or ranges i no_groups

-- The ranges of earlier routines stay.
ranges-keep : (ranges : List GroupRange) (program : List Routine) (j : ℕ) → j < length ranges →
    range_in (ranges_after ranges program) j ≡ range_in ranges j
ranges-keep ranges [] j lt = refl
ranges-keep ranges (r ∷ rs) j lt =
    let last = changed_by_all ranges r.ops ∷ [] in
    ranges-keep (ranges ++ last) rs j (omega (arith, lt, length-append ranges last)) ∙ get_or_append_left ranges last no_groups j lt

-- The range of the routine is that of its instructions, by the ranges of the n routines before it.
record IsRangeOf (ranges : List GroupRange) (n : ℕ) (r : Routine) : Type 0 where
  earlier : List GroupRange
  at_index : range_in ranges n ≡ changed_by_all earlier r.ops
  before : (j : ℕ) → j < n → range_in ranges j ≡ range_in earlier j

range-at : (ranges : List GroupRange) (program : List Routine) (i : ℕ) (r : Routine) → slice_get program i ≡ Some r →
    IsRangeOf (ranges_after ranges program) (length ranges + i) r
range-at ranges [] i r is = cc
range-at ranges (q ∷ rs) zero r is =
    let same : q ≡ r = cc in
    let last = changed_by_all ranges q.ops ∷ [] in
    let count = length-append ranges last in
    record {
      earlier = ranges;
      at_index = ranges-keep (ranges ++ last) rs (length ranges + 0) (omega (arith, count))
          ∙ get_or-append-add ranges last 0 no_groups ∙ ap (λ (x : Routine). changed_by_all ranges x.ops) same;
      before = λ j lt. ranges-keep ranges (q ∷ rs) j (omega (arith, lt));
    }
range-at ranges (q ∷ rs) (suc i) r is =
    let last = changed_by_all ranges q.ops ∷ [] in
    let n : length (ranges ++ last) + i ≡ length ranges + suc i = omega (arith, length-append ranges last) in
    subst (λ k. IsRangeOf (ranges_after ranges (q ∷ rs)) k r) n (range-at (ranges ++ last) rs i r is)

-- an instruction that names only routines before n
changed-same : (ranges earlier : List GroupRange) (before : List Routine) (n width pc : ℕ) (op : Op) →
    ((j : ℕ) → j < n → range_in ranges j ≡ range_in earlier j) → length before ≤ n → Fits before width pc op →
    changed_by ranges op ≡ changed_by earlier op
changed-same ranges earlier before n width pc accept same le fits = refl
changed-same ranges earlier before n width pc fail same le fits = refl
changed-same ranges earlier before n width pc (part t next) same le fits = refl
changed-same ranges earlier before n width pc (split first second) same le fits = refl
changed-same ranges earlier before n width pc (begin_loop greedy body next) same le fits = refl
changed-same ranges earlier before n width pc (repeat greedy body next) same le fits = refl
changed-same ranges earlier before n width pc (end_loop next) same le fits = refl
changed-same ranges earlier before n width pc (unsets start end next) same le fits = refl
changed-same ranges earlier before n width pc (begin_group next) same le fits = refl
changed-same ranges earlier before n width pc (end_group id next) same le fits = refl
changed-same ranges earlier before n width pc (look true j next) same le fits = refl
changed-same ranges earlier before n width pc (look false j next) same le fits = same j (omega (arith, fits.0, le))

-- What an instruction changes is in the range of its routine.
pub changed-in : (program : List Routine) → IsProgram program → (i : ℕ) (r : Routine) → slice_get program i ≡ Some r →
    (pc : ℕ) (op : Op) → pc < length r.ops → slice_get r.ops pc ≡ Some op → (id : ℕ) → IsIn (changed_by (ranges_of program) op) id →
    IsIn (range_in (ranges_of program) i) id
changed-in program is_program i r is pc op lt is_op id changed =
    let n : 0 + i ≡ i = omega arith in
    let of : IsRangeOf (ranges_of program) i r = subst (λ k. IsRangeOf (ranges_of program) k r) n (range-at [] program i r is) in
    let same = changed-same (ranges_of program) of.earlier (take i program) i (length r.ops) pc op of.before (omega (arith, length-take i program))
    ((is_program i r is).fit pc op (omega arith) lt is_op) in
    subst (λ x. IsIn x id) (sym of.at_index)
    (changed-all of.earlier r.ops pc op id is_op (subst (λ x. IsIn x id) same changed))

-- A routine, of which the lookarounds are among the routines before it, changes no group outside a range if no instruction does.
pub range-within : (program before : List Routine) (i : ℕ) (r : Routine) → slice_get program i ≡ Some r → length before ≤ i →
    AllFit before r.ops 0 (length r.ops) → (start end : ℕ) →
    ((pc : ℕ) (op : Op) → slice_get r.ops pc ≡ Some op → IsRangeWithin start end (changed_by (ranges_of program) op)) →
    IsRangeWithin start end (range_in (ranges_of program) i)
range-within program before i r is le fit low high each =
    let n : 0 + i ≡ i = omega arith in
    let of : IsRangeOf (ranges_of program) i r = subst (λ k. IsRangeOf (ranges_of program) k r) n (range-at [] program i r is) in
    subst (λ x. IsRangeWithin low high x) (sym of.at_index)
    (all-within low high of.earlier r.ops
    (λ pc op found.
    subst (λ x. IsRangeWithin low high x)
    (changed-same (ranges_of program) of.earlier before i (length r.ops) pc op of.before le (fit pc op (omega arith) (slice_get_within r.ops pc op found) found))
    (each pc op found)))
