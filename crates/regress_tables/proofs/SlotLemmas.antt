-- What a walk knows of captures, slot by slot.
use Rattle.std.proofs.Common.{◌≡◌, ℕ, zero, suc, ◌+◌, ◌≤◌, ◌<◌, ◌⊎◌, inl, inr, Bool, true, false, ◌&&◌, List, [], ◌∷◌, ◌++◌, length, replicate, take, set, slice_get, Option, Some, None, refl, sym, ap, ap₂, ◌∙◌, arith, nat_le, nat_lt, if◌then◌else◌}
use Rattle.std.proofs.lemmas.Bool.{cases_eq, cases_lt}
use Rattle.std.proofs.lemmas.List.{ext_get_or, length-set}
use Rattle.regress_tree.specs.Repetition.{unset_from}
use Rattle.regress_tree.specs.Steps.{CaptureSpan}
use Rattle.regress_program.specs.declared.ranges.GroupRange.{GroupRange}
use Rattle.regress_program.specs.Isolated.{Captures, IsReplaced, capture_at}
use Rattle.regress_program.specs.Ranges.{IsIn, no_groups}
use Rattle.regress_tables.specs.declared.slots.Slot.{Slot}
use Rattle.regress_tables.specs.declared.slots.Slot.TheVariants as slots
use Rattle.regress_tables.specs.Slots.{value, resolved_from, resolved}
use Rattle.regress_tables.specs.Walked.{OneSpan, SetInside, SlotsSet, UnsetSlots}

-- An id is in a range or not.
pub cases_in : (range : GroupRange) (id : ℕ) → IsIn range id ⊎ (IsIn range id → ⊥)
cases_in range id =
    elim (cases_lt id range.start) [
      | inl below ↦ inr (λ is. omega (arith, below, is.0))
      | inr from ↦ elim (cases_lt id range.end) [
        | inl before ↦ inl (from, before)
        | inr past ↦ inr (λ is. omega (arith, past, is.1))
      ]
    ]

-- ---- slots that are set one by one

pub get-set_same : {X : Type 0} (xs : List X) (i : ℕ) (x : X) → i < length xs → slice_get (set xs i x) i ≡ Some x
get-set_same [] i x lt = absurd (omega (arith, lt))
get-set_same (y ∷ ys) zero x lt = refl
get-set_same (y ∷ ys) (suc i) x lt = get-set_same ys i x (omega (arith, lt))

pub get-set_other : {X : Type 0} (xs : List X) (i j : ℕ) (x : X) → (j ≡ i → ⊥) → slice_get (set xs i x) j ≡ slice_get xs j
get-set_other [] i j x other = refl
get-set_other (y ∷ ys) zero zero x other = absurd (other refl)
get-set_other (y ∷ ys) zero (suc j) x other = refl
get-set_other (y ∷ ys) (suc i) zero x other = refl
get-set_other (y ∷ ys) (suc i) (suc j) x other = get-set_other ys i j x (λ e. other (ap suc e))

pub set-none : (range : GroupRange) (slot : Slot) (ss : List Slot) → range.end ≤ range.start → SlotsSet range slot ss ss
set-none range slot ss le = record {
  count = refl;
  inside = λ id lt is. absurd (omega (arith, le, is.0, is.1));
  outside = λ id out. refl;
}

-- one more slot
pub set-more : (start k : ℕ) (slot : Slot) (before after : List Slot) → start ≤ k → k < length before →
    SlotsSet (record { start = start; end = k }) slot before after → SlotsSet (record { start = start; end = k + 1 }) slot before (set after k slot)
set-more start k slot before after le lt so_far = record {
  count = length-set after k slot ∙ so_far.count;
  inside = λ id within is. elim (cases_eq id k) [
    | inl same ↦ ap (λ n. slice_get (set after k slot) n) same ∙ get-set_same after k slot (omega (arith, lt, so_far.count))
    | inr other ↦ get-set_other after k id slot other ∙ so_far.inside id within (is.0, omega (arith, is.1, other))
  ];
  outside = λ id out. get-set_other after k id slot (λ same. out (omega (arith, le, same), omega (arith, same)))
      ∙ so_far.outside id (λ is. out (is.0, omega (arith, is.1)));
}

-- a group that has captured a span
pub one-span : (id from to : ℕ) (ss : List Slot) → id < length ss → OneSpan id ss (set ss id (slots.Span from to))
one-span id from to ss lt = record {
  from = from;
  to = to;
  set = set-more id id (slots.Span from to) ss ss (omega arith) lt (set-none _ _ ss (omega arith));
}

-- a group that does not exist
pub no-span : (id : ℕ) (ss : List Slot) → length ss ≤ id → OneSpan id ss ss
no-span id ss le = record {
  from = 0;
  to = 0;
  set = record {
    count = refl;
    inside = λ i lt is. absurd (omega (arith, lt, le, is.0));
    outside = λ i out. refl;
  };
}

-- ---- what slots mean

-- the capture of a slot, none if there is no such slot
abbrev pub value_at : (capture_of : (routine position id : ℕ) → Option CaptureSpan) (id : ℕ) → Option Slot → Option CaptureSpan
value_at capture_of id None = None
value_at capture_of id (Some s) = value capture_of id s

-- Lists of captures are equal if each capture is.
pub same_captures : (xs ys : Captures) → length xs ≡ length ys → ((id : ℕ) → id < length xs → capture_at xs id ≡ capture_at ys id) → xs ≡ ys
same_captures xs ys count same = ext_get_or None xs ys count same

pub length-unset : (k start end : ℕ) (cs : Captures) → length (unset_from k start end cs) ≡ length cs
length-unset k start end [] = refl
length-unset k start end (c ∷ cs) = ap suc (length-unset (k + 1) start end cs)

in-test : (start end k : ℕ) → start ≤ k → k < end → (nat_le start k && nat_lt k end) ≡ true
in-test start end k le lt = grind arith

out-test : (start end k : ℕ) → ((start ≤ k) × (k < end) → ⊥) → (nat_le start k && nat_lt k end) ≡ false
out-test start end k out =
    elim (cases_lt k start) [
      | inl below ↦ below-test start end k below
      | inr from ↦ elim (cases_lt k end) [
        | inl before ↦ absurd (out (from, before))
        | inr past ↦ past-test start end k past
      ]
    ]
  where
    below-test : (start end k : ℕ) → k < start → (nat_le start k && nat_lt k end) ≡ false
    below-test start end k lt = grind arith

    past-test : (start end k : ℕ) → end ≤ k → (nat_le start k && nat_lt k end) ≡ false
    past-test start end k le = grind arith

pub unset-in : (k start end i : ℕ) (cs : Captures) → start ≤ k + i → k + i < end → capture_at (unset_from k start end cs) i ≡ None
unset-in k start end i [] le lt = refl
unset-in k start end zero (c ∷ cs) le lt =
    ap (λ (b : Bool). if b then None else c) (in-test start end k (omega (arith, le)) (omega (arith, lt)))
unset-in k start end (suc i) (c ∷ cs) le lt = unset-in (k + 1) start end i cs (omega (arith, le)) (omega (arith, lt))

pub unset-out : (k start end i : ℕ) (cs : Captures) → ((start ≤ k + i) × (k + i < end) → ⊥) →
    capture_at (unset_from k start end cs) i ≡ capture_at cs i
unset-out k start end i [] out = refl
unset-out k start end zero (c ∷ cs) out =
    ap (λ (b : Bool). if b then None else c) (out-test start end k (λ is. out (omega (arith, is.0), omega (arith, is.1))))
unset-out k start end (suc i) (c ∷ cs) out =
    unset-out (k + 1) start end i cs (λ is. out (omega (arith, is.0), omega (arith, is.1)))

module _ (capture_of : (routine position id : ℕ) → Option CaptureSpan) where
  pub resolved_from-at : (k i : ℕ) (ss : List Slot) → capture_at (resolved_from capture_of k ss) i ≡ value_at capture_of (k + i) (slice_get ss i)
  resolved_from-at k i [] = refl
  resolved_from-at k zero (s ∷ ss) = ap (λ n. value capture_of n s) (omega arith)
  resolved_from-at k (suc i) (s ∷ ss) =
      resolved_from-at (k + 1) i ss ∙ ap (λ n. value_at capture_of n (slice_get ss i)) (omega arith)

  -- the capture of a group
  pub resolved-at : (id : ℕ) (ss : List Slot) → capture_at (resolved capture_of ss) id ≡ value_at capture_of id (slice_get ss id)
  resolved-at id ss = resolved_from-at 0 id ss ∙ ap (λ n. value_at capture_of n (slice_get ss id)) (omega arith)

  length-resolved_from : (k : ℕ) (ss : List Slot) → length (resolved_from capture_of k ss) ≡ length ss
  length-resolved_from k [] = refl
  length-resolved_from k (s ∷ ss) = ap suc (length-resolved_from (k + 1) ss)

  pub length-resolved : (ss : List Slot) → length (resolved capture_of ss) ≡ length ss
  length-resolved ss = length-resolved_from 0 ss

  resolved_from-more : (k i : ℕ) (s : Slot) (ss : List Slot) → slice_get ss i ≡ Some s →
      resolved_from capture_of k (take (suc i) ss) ≡ resolved_from capture_of k (take i ss) ++ value capture_of (k + i) s ∷ []
  resolved_from-more k i s [] is = cc
  resolved_from-more k zero s (x ∷ xs) is =
      let same : x ≡ s = cc in
      ap₂ (λ y n. value capture_of n y ∷ []) same (omega arith)
  resolved_from-more k (suc i) s (x ∷ xs) is =
      ap (λ ys. value capture_of k x ∷ ys)
      (resolved_from-more (k + 1) i s xs is
      ∙ ap (λ n. resolved_from capture_of (k + 1) (take i xs) ++ value capture_of n s ∷ []) (omega arith))

  -- one more slot
  pub resolved-more : (i : ℕ) (s : Slot) (ss : List Slot) → slice_get ss i ≡ Some s →
      resolved capture_of (take (i + 1) ss) ≡ resolved capture_of (take i ss) ++ value capture_of i s ∷ []
  resolved-more i s ss is =
      let n : i + 1 ≡ suc i = omega arith in
      ap (λ m. resolved capture_of (take m ss)) n
      ∙ resolved_from-more 0 i s ss is ∙ ap (λ n. resolved capture_of (take i ss) ++ value capture_of n s ∷ []) (omega arith)

  resolved_from-set : (k i : ℕ) (s : Slot) (ss : List Slot) →
      resolved_from capture_of k (set ss i s) ≡ set (resolved_from capture_of k ss) i (value capture_of (k + i) s)
  resolved_from-set k i s [] = refl
  resolved_from-set k zero s (x ∷ xs) = ap (λ n. value capture_of n s ∷ resolved_from capture_of (k + 1) xs) (omega arith)
  resolved_from-set k (suc i) s (x ∷ xs) =
      ap (λ ys. value capture_of k x ∷ ys)
      (resolved_from-set (k + 1) i s xs ∙ ap (λ n. set (resolved_from capture_of (k + 1) xs) i (value capture_of n s)) (omega arith))

  -- one slot set
  pub resolved-set : (i : ℕ) (s : Slot) (ss : List Slot) → resolved capture_of (set ss i s) ≡ set (resolved capture_of ss) i (value capture_of i s)
  resolved-set i s ss =
      resolved_from-set 0 i s ss ∙ ap (λ n. set (resolved capture_of ss) i (value capture_of n s)) (omega arith)

  -- groups unset
  pub resolved-unset : (start end : ℕ) (before after : List Slot) → UnsetSlots start end before after →
      resolved capture_of after ≡ unset_from 0 start end (resolved capture_of before)
  resolved-unset start end before after set =
      same_captures (resolved capture_of after) (unset_from 0 start end (resolved capture_of before))
      (length-resolved after ∙ set.count ∙ sym (length-resolved before) ∙ sym (length-unset 0 start end (resolved capture_of before)))
      (λ id lt. resolved-at id after ∙ by id (omega (arith, lt, length-resolved after, set.count)) (cases_in (record { start = start; end = end }) id))
    where
      by : (id : ℕ) → id < length before → IsIn (record { start = start; end = end }) id ⊎ (IsIn (record { start = start; end = end }) id → ⊥) →
          value_at capture_of id (slice_get after id) ≡ capture_at (unset_from 0 start end (resolved capture_of before)) id
      by id lt (inl is) =
          ap (value_at capture_of id) (set.inside id lt is)
          ∙ sym (unset-in 0 start end id (resolved capture_of before) (omega (arith, is.0)) (omega (arith, is.1)))
      by id lt (inr out) =
          ap (value_at capture_of id) (set.outside id out) ∙ sym (resolved-at id before)
          ∙ sym (unset-out 0 start end id (resolved capture_of before) (λ is. out (omega (arith, is.0), omega (arith, is.1))))

  -- no group set
  pub resolved-same : (before after : List Slot) {slot : Slot} → SlotsSet no_groups slot before after → resolved capture_of after ≡ resolved capture_of before
  resolved-same before after set =
      same_captures (resolved capture_of after) (resolved capture_of before)
      (length-resolved after ∙ set.count ∙ sym (length-resolved before))
      (λ id lt. resolved-at id after ∙ ap (value_at capture_of id) (set.outside id (λ is. omega (arith, is.1))) ∙ sym (resolved-at id before))

  -- The captures that a routine sets, from a position, are those that its first outcome has.
  pub resolved-replaced : (range : GroupRange) (first : Captures) (routine position : ℕ) (before after : List Slot) (captures : Captures) →
      IsReplaced range first (resolved capture_of before) captures → SetInside range routine position before after →
      ((id : ℕ) → capture_at first id ≡ capture_of routine position id) → captures ≡ resolved capture_of after
  resolved-replaced range first routine position before after captures replaced set is =
      same_captures captures (resolved capture_of after)
      (replaced.count ∙ length-resolved before ∙ sym set.count ∙ sym (length-resolved after))
      (λ id lt. by id (omega (arith, lt, replaced.count, length-resolved before)) (cases_in range id) ∙ sym (resolved-at id after))
    where
      by : (id : ℕ) → id < length before → IsIn range id ⊎ (IsIn range id → ⊥) → capture_at captures id ≡ value_at capture_of id (slice_get after id)
      by id lt (inl within) = replaced.inside id within ∙ is id ∙ sym (ap (value_at capture_of id) (set.inside id lt within))
      by id lt (inr out) = replaced.outside id out ∙ resolved-at id before ∙ ap (value_at capture_of id) (sym (set.outside id out))

  none_from : (k n : ℕ) → resolved_from capture_of k (replicate n slots.Unset) ≡ replicate n None
  none_from k zero = refl
  none_from k (suc n) = ap (λ xs. None ∷ xs) (none_from (k + 1) n)

  -- every group unset
  pub resolved-none : (n : ℕ) → resolved capture_of (replicate n slots.Unset) ≡ replicate n None
  resolved-none n = none_from 0 n
