-- Slots that are replaced by what they mean.
use Rattle.std.proofs.Common.{◌≡◌, ℕ, zero, suc, ◌+◌, ◌-◌, ◌*◌, ◌≤◌, ◌<◌, ◌⊎◌, List, [], ◌∷◌, length, replicate, slice_get, take, Option, Some, None, refl, sym, ap, ap₂, ◌∙◌, subst, inl, inr, arith}
use Rattle.std.proofs.Math.Nat.{mul-le-mul, mul-le-mul_left, mul-le-mul_right}
use Rattle.std.proofs.lemmas.Bool.{cases_eq}
use Rattle.std.proofs.lemmas.Option.{slice_get_within}
use Rattle.regress_tree.specs.Steps.{CaptureSpan}
use Rattle.regress_program.specs.Compiled.{total}
use Rattle.regress_program.specs.Isolated.{capture_at, first_captures}
use Rattle.regress_program.specs.Program.{Out, Routine}
use Rattle.regress_tables.specs.declared.first.FirstOutcome.{FirstOutcome}
use Rattle.regress_tables.specs.declared.filled.Filled.{Filled}
use Rattle.regress_tables.specs.declared.slots.Slot.{Slot}
use Rattle.regress_tables.specs.declared.slots.Slot.TheVariants as slots
use Rattle.regress_tables.specs.Searchable.{AreFound, AreResolved, AreTaken, IsEnd, IsFirstOutcome, Solves, captures_in, width_at}
use Rattle.regress_tables.specs.Slots.{AreInside, resolved, resolved_from, value}
use Rattle.regress_program.proofs.lemmas.Totals.{total-more}

module _ (capture_of : (routine position id : ℕ) → Option CaptureSpan) where
  resolved_from-same : (k : ℕ) (a b : List Slot) → length a ≡ length b →
      ((id : ℕ) (s t : Slot) → slice_get a id ≡ Some s → slice_get b id ≡ Some t → value capture_of (k + id) s ≡ value capture_of (k + id) t) →
      resolved_from capture_of k a ≡ resolved_from capture_of k b
  resolved_from-same k [] [] len same = refl
  resolved_from-same k [] (t ∷ b) len same = cc
  resolved_from-same k (s ∷ a) [] len same = cc
  resolved_from-same k (s ∷ a) (t ∷ b) len same =
      let here : k + 0 ≡ k = omega arith in
      ap₂ ◌∷◌ (subst (λ i. value capture_of i s ≡ value capture_of i t) here (same 0 s t refl refl))
      (resolved_from-same (k + 1) a b (omega (arith, len))
      (λ id s' t' is is'. let e : k + (id + 1) ≡ (k + 1) + id = omega arith in
      let e' : suc id ≡ id + 1 = omega arith in
      subst (λ i. value capture_of i s' ≡ value capture_of i t') e (subst (λ j. value capture_of (k + j) s' ≡ value capture_of (k + j) t') e' (same (suc id) s' t' is is'))))

  -- Slots with the same captures.
  pub resolved-same : (a b : List Slot) → length a ≡ length b →
      ((id : ℕ) (s t : Slot) → slice_get a id ≡ Some s → slice_get b id ≡ Some t → value capture_of id s ≡ value capture_of id t) →
      resolved capture_of a ≡ resolved capture_of b
  resolved-same a b len same =
      resolved_from-same 0 a b len
      (λ id s t is is'. let e : id ≡ 0 + id = omega arith in subst (λ i. value capture_of i s ≡ value capture_of i t) e (same id s t is is'))

  capture_from : (k : ℕ) (a : List Slot) (id : ℕ) (s : Slot) → slice_get a id ≡ Some s → capture_at (resolved_from capture_of k a) id ≡ value capture_of (k + id) s
  capture_from k [] id s is = cc
  capture_from k (t ∷ a) zero s is = let same : t ≡ s = cc in let here : k ≡ k + 0 = omega arith in ap (value capture_of k) same ∙ ap (λ i. value capture_of i s) here
  capture_from k (t ∷ a) (suc id) s is =
      let e : (k + 1) + id ≡ k + suc id = omega arith in capture_from (k + 1) a id s is ∙ ap (λ i. value capture_of i s) e

  pub capture-resolved : (a : List Slot) (id : ℕ) (s : Slot) → slice_get a id ≡ Some s → capture_at (resolved capture_of a) id ≡ value capture_of id s
  capture-resolved a id s is = let e : 0 + id ≡ id = omega arith in capture_from 0 a id s is ∙ ap (λ i. value capture_of i s) e

replicate-get : {X : Type 0} (n : ℕ) (x y : X) (i : ℕ) → slice_get (replicate n x) i ≡ Some y → y ≡ x
replicate-get zero x y i is = cc
replicate-get (suc n) x y zero is = cc
replicate-get (suc n) x y (suc i) is = replicate-get n x y i is

pub found_some : (f : Filled) (routine position n : ℕ) (o : FirstOutcome) → IsFirstOutcome f routine n position (Some o) → IsEnd f routine n o → AreFound f routine position o.slots.items
found_some f routine position n o first ends = record {
  captures = λ outs solves id s is.
      let of = captures_in f outs n in
      let some = first outs solves in
      subst (λ m. value (captures_in f outs m) id s ≡ captures_in f outs m routine position id) (sym ends.count)
      (sym (capture-resolved of o.slots.items id s is) ∙ sym (ap (λ xs. capture_at (first_captures xs) id) some.1));
  inside = ends.captures;
}

pub found_none : (f : Filled) (routine position n : ℕ) (found : List Slot) → IsFirstOutcome f routine n position None → found ≡ replicate n slots.Unset → length found ≡ n →
    AreFound f routine position found
found_none f routine position n found first is count = record {
  captures = λ outs solves id s at.
      let unset = replicate-get n slots.Unset s id (ap (λ xs. slice_get xs id) (sym is) ∙ at) in
      subst (λ m. value (captures_in f outs m) id s ≡ captures_in f outs m routine position id) (sym count)
      (ap (value (captures_in f outs n) id) unset ∙ sym (ap (λ xs. capture_at (first_captures xs) id) (first outs solves)));
  inside = λ id r q at.
      let unset = replicate-get n slots.Unset (slots.Inside r q) id (ap (λ xs. slice_get xs id) (sym is) ∙ at) in
      cc;
}

is-inside : (s : Slot) (r q : ℕ) → (s ≡ slots.Inside r q) ⊎ (s ≡ slots.Inside r q → ⊥)
is-inside slots.Unset r q = inr (λ e. cc)
is-inside (slots.Span a b) r q = inr (λ e. cc)
is-inside (slots.Inside r' q') r q =
    elim (cases_eq r' r) [
      | inl same ↦ elim (cases_eq q' q) [
        | inl same' ↦ inl (ap₂ slots.Inside same same')
        | inr other ↦ inr (λ e. other (ap position_in e))
      ]
      | inr other ↦ inr (λ e. other (ap routine_in e))
    ]
  where
    routine_in : Slot → ℕ
    routine_in slots.Unset = 0
    routine_in (slots.Span a b) = 0
    routine_in (slots.Inside r q) = r

    position_in : Slot → ℕ
    position_in slots.Unset = 0
    position_in (slots.Span a b) = 0
    position_in (slots.Inside r q) = q

pub get-some : {X : Type 0} (xs : List X) (i : ℕ) → i < length xs → (x : X) × (slice_get xs i ≡ Some x)
get-some [] i lt = absurd (omega (arith, lt))
get-some (x ∷ xs) zero lt = (x, refl)
get-some (x ∷ xs) (suc i) lt = get-some xs i (omega (arith, lt))

-- Taking what the routine has captured changes nothing.
pub taken_same : (f : Filled) (routine position : ℕ) (found before after : List Slot) → length found ≡ length before → AreFound f routine position found →
    AreTaken routine position found before after → (outs : ℕ → Out) → Solves f outs →
    resolved (captures_in f outs (length before)) after ≡ resolved (captures_in f outs (length before)) before
taken_same f routine position found before after count is taken outs solves =
    resolved-same of after before taken.count by
  where
    of : ℕ → ℕ → ℕ → Option CaptureSpan
    of = captures_in f outs (length before)

    by : (id : ℕ) (s t : Slot) → slice_get after id ≡ Some s → slice_get before id ≡ Some t → value of id s ≡ value of id t
    by id s t at was =
        elim (is-inside t routine position) [
          | inl same ↦
              let here = taken.taken id (was ∙ ap Some same) in
              let value' = subst (λ m. value (captures_in f outs m) id s ≡ captures_in f outs m routine position id) count (is.captures outs solves id s (sym here ∙ at)) in
              value' ∙ sym (ap (value of id) same)
          | inr other ↦
              let kept = taken.kept id (λ e. let e' : Some t ≡ Some (slots.Inside routine position) = sym was ∙ e in let e'' : t ≡ slots.Inside routine position = cc in other e'') in
              let s_t : Some s ≡ Some t = sym at ∙ kept ∙ was in let same : s ≡ t = cc in ap (value of id) same
        ]

-- Where the slots come from.
pub taken_from : (routine position : ℕ) (found before after : List Slot) → AreTaken routine position found before after → (id : ℕ) (s : Slot) → slice_get after id ≡ Some s →
    (slice_get found id ≡ Some s) ⊎ ((slice_get before id ≡ Some s) × (s ≡ slots.Inside routine position → ⊥))
taken_from routine position found before after taken id s at =
    let was = get-some before id (omega (arith, slice_get_within after id s at, taken.count)) in
    elim (is-inside was.0 routine position) [
      | inl same ↦ inl (sym (taken.taken id (was.1 ∙ ap Some same)) ∙ at)
      | inr other ↦
          let kept = taken.kept id (λ e. let e' : Some was.0 ≡ Some (slots.Inside routine position) = sym was.1 ∙ e in let e'' : was.0 ≡ slots.Inside routine position = cc in other e'') in
          inr (sym kept ∙ at, λ e. let e' : Some was.0 ≡ Some s = sym was.1 ∙ sym kept ∙ at in let e'' : was.0 ≡ slots.Inside routine position = let e3 : was.0 ≡ s = cc in e3 ∙ e in other e'')
    ]

pub taken_inside : (f : Filled) (routine position : ℕ) (found before after : List Slot) → AreFound f routine position found → AreTaken routine position found before after →
    AreInside (routine + 1) (length f.input.text.now) f.inner before → AreInside (routine + 1) (length f.input.text.now) f.inner after
taken_inside f routine position found before after is taken inside id r q at =
    elim (taken_from routine position found before after taken id (slots.Inside r q) at) [
      | inl here ↦ let i = is.inside id r q here in (omega (arith, i.0), i.1, i.2)
      | inr kept ↦ inside id r q kept.0
    ]

-- One group more, and those before it, are not set by the routine.
pub taken_below : (f : Filled) (routine position id : ℕ) (found before after : List Slot) → AreFound f routine position found → AreTaken routine position found before after →
    slice_get before id ≡ Some (slots.Inside routine position) →
    ((j r q : ℕ) → j < id → slice_get before j ≡ Some (slots.Inside r q) → r < routine) →
    (j r q : ℕ) → j < id + 1 → slice_get after j ≡ Some (slots.Inside r q) → r < routine
taken_below f routine position id found before after is taken set below j r q lt at =
    elim (taken_from routine position found before after taken j (slots.Inside r q) at) [
      | inl here ↦ (is.inside j r q here).0
      | inr kept ↦ elim (cases_eq j id) [
        | inl same ↦
            let e : Some (slots.Inside r q) ≡ Some (slots.Inside routine position) = sym kept.0 ∙ ap (slice_get before) same ∙ set in
            let e' : slots.Inside r q ≡ slots.Inside routine position = cc in
            absurd (kept.1 e')
        | inr other ↦ below j r q (omega (arith, lt, other)) kept.0
      ]
    ]

pub product_more : (id c : ℕ) → (id + 1) * c ≡ id * c + c
product_more id c = grind arith

pub product_form : (w inner m : ℕ) → inner * (2 * w * m) ≡ 2 * w * inner * m
product_form w inner m = grind arith

-- The captures are those of `start`, and the routine has set no group before `id` any more.
pub record IsPartly (f : Filled) (routine id : ℕ) (start slots' : List Slot) : Type 0 where
  pub count : length slots' ≡ length start
  pub inside : AreInside (routine + 1) (length f.input.text.now) f.inner slots'
  pub below : (j r q : ℕ) → j < id → slice_get slots' j ≡ Some (slots.Inside r q) → r < routine
  pub same : (outs : ℕ → Out) → Solves f outs → resolved (captures_in f outs (length start)) slots' ≡ resolved (captures_in f outs (length start)) start

module _ (f : Filled) (routine : ℕ) (start : List Slot) where
  pub partly_none : AreInside (routine + 1) (length f.input.text.now) f.inner start → IsPartly f routine 0 start start
  partly_none inside = record {
    count = refl;
    inside = inside;
    below = λ j r q lt is. absurd (omega (arith, lt));
    same = λ outs solves. refl;
  }

  pub partly_kept : (id : ℕ) (slots' : List Slot) → IsPartly f routine id start slots' → ((position : ℕ) → slice_get slots' id ≡ Some (slots.Inside routine position) → ⊥) →
      IsPartly f routine (id + 1) start slots'
  partly_kept id slots' is none = record {
    count = is.count;
    inside = is.inside;
    below = λ j r q lt at.
        elim (cases_eq j id) [
          | inl same ↦
              let at' : slice_get slots' id ≡ Some (slots.Inside r q) = ap (slice_get slots') (sym same) ∙ at in
              elim (cases_eq r routine) [
                | inl same' ↦ absurd (none q (at' ∙ ap (λ x. Some (slots.Inside x q)) same'))
                | inr other ↦ omega (arith, (is.inside j r q at).0, other)
              ]
          | inr other ↦ is.below j r q (omega (arith, lt, other)) at
        ];
    same = is.same;
  }

  pub partly_taken : (id position : ℕ) (found before after : List Slot) → IsPartly f routine id start before → slice_get before id ≡ Some (slots.Inside routine position) →
      length found ≡ length before → AreFound f routine position found → AreTaken routine position found before after → IsPartly f routine (id + 1) start after
  partly_taken id position found before after is set count are taken = record {
    count = taken.count ∙ is.count;
    inside = taken_inside f routine position found before after are taken is.inside;
    below = taken_below f routine position id found before after are taken set is.below;
    same = λ outs solves.
        subst (λ n. resolved (captures_in f outs n) after ≡ resolved (captures_in f outs n) before) is.count
        (taken_same f routine position found before after count are taken outs solves)
        ∙ is.same outs solves;
  }

  pub partly_all : (slots' : List Slot) → IsPartly f routine f.inner start slots' → AreResolved f routine start slots'
  partly_all slots' is = record {
    count = is.count;
    inside = λ id r q at. let i = is.inside id r q at in (is.below id r q i.2 at, i.1, i.2);
    same = is.same;
  }

-- one step after another
pub resolved-trans : (f : Filled) (r r' : ℕ) (a b c : List Slot) → AreResolved f r a b → AreResolved f r' b c → AreResolved f r' a c
resolved-trans f r r' a b c one two = record {
  count = two.count ∙ one.count;
  inside = two.inside;
  same = λ outs solves.
      subst (λ n. resolved (captures_in f outs n) c ≡ resolved (captures_in f outs n) b) one.count (two.same outs solves) ∙ one.same outs solves;
}

pub resolved-none : (f : Filled) (r : ℕ) (a : List Slot) → AreInside r (length f.input.text.now) f.inner a → AreResolved f r a a
resolved-none f r a inside = record { count = refl; inside = inside; same = λ outs solves. refl }

-- one routine more
pub total_next : (program : List Routine) (i : ℕ) → i < length program → total (take (i + 1) program) ≡ total (take i program) + width_at program i
total_next program i lt =
    let r = get-some program i lt in
    total-more program i r.0 r.1 ∙ ap (λ o. total (take i program) + width o) (sym r.1)
  where
    width : Option Routine → ℕ
    width None = 0
    width (Some r) = length r.ops

pub steps_next : (t w inner m : ℕ) → 2 * (t + w) * inner * m ≡ 2 * t * inner * m + 2 * w * inner * m
steps_next t w inner m = grind arith

-- the positions that are tried, the walk, and the steps of finding what lookarounds capture
pub leftmost_steps : (w whole part inner m start' end from s t u end' : ℕ) → w ≤ whole → part ≤ whole → start' ≤ end → from ≤ start' → s ≤ start' - from →
    t ≤ s + 1 + 2 * w * (end + 1 - start') → u ≤ t + 2 * part * inner * m → end' ≡ end →
    u ≤ (2 * whole + 1) * (end' + 1 - from) + 2 * whole * inner * m
leftmost_steps w whole part inner m start' end from s t u end' few fewer on low before walk more same =
    let d = end + 1 - start' in
    let all = end' + 1 - from in
    let walk' : 2 * w * d ≤ 2 * whole * all = mul-le-mul (let h : 2 * w ≤ 2 * whole = omega (arith, few) in h) (let h : d ≤ all = omega (arith, on, low, same) in h) in
    let more' : 2 * part * inner * m ≤ 2 * whole * inner * m = mul-le-mul_right m (mul-le-mul_right inner (let h : 2 * part ≤ 2 * whole = omega (arith, fewer) in h)) in
    let one : (2 * whole + 1) * all ≡ 2 * whole * all + all = grind arith in
    omega (arith, walk, walk', more, more', one, before, on, low, same)

-- the same, where a match counts b steps more, and so does each instruction of the walks
pub weighted_steps : (b whole inner m all tried walked steps : ℕ) → 1 ≤ tried → tried + walked ≤ (2 * whole + 1) * all + 2 * whole * inner * m →
    steps ≤ tried + b + (1 + b) * walked → steps ≤ (1 + b) * (2 * whole + 1) * all + 2 * whole * inner * (1 + b) * m
weighted_steps b whole inner m all tried walked steps one bound is =
    let some : b * 1 ≤ b * tried = mul-le-mul_left b one in
    let times : (1 + b) * (tried + walked) ≤ (1 + b) * ((2 * whole + 1) * all + 2 * whole * inner * m) = mul-le-mul_left (1 + b) bound in
    let left : (1 + b) * (tried + walked) ≡ tried + b * tried + (1 + b) * walked = grind arith in
    let right : (1 + b) * ((2 * whole + 1) * all + 2 * whole * inner * m) ≡ (1 + b) * (2 * whole + 1) * all + 2 * whole * inner * (1 + b) * m = grind arith in
    omega (arith, some, times, left, right, is)
