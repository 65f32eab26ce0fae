-- Choices that are skipped.
use Rattle.std.proofs.Common.{◌≡◌, ℕ, zero, suc, ◌-◌, ◌≤◌, ◌<◌, Bool, true, false, not, List, ◌++◌, length, get_or, slice_get, Option, Some, None, option_and_then, refl, sym, ap, ◌∙◌, subst, arith}
use Rattle.std.proofs.lemmas.Option.{option_and_then_some, slice_get_within}
use Rattle.regress_base.specs.ByteBitmap.{contains}
use Rattle.regress_base.specs.declared.bytesearch.bitmap.ByteBitmap.{ByteBitmap}
use Rattle.regress_leaves.specs.Subject.{subject}
use Rattle.regress_program.specs.Cost.{Cost}
use Rattle.regress_program.specs.Program.{Out, goto}
use Rattle.regress_tree.specs.Reading.{direction_if}
use Rattle.regress_tree.specs.Steps.{MatchState}
use Rattle.regress_backtrack.specs.Costs.{HasCost}
use Rattle.regress_code.specs.declared.next_bytes.NextBytes.{NextBytes}
use Rattle.regress_code.specs.declared.next_bytes.NextBytes.TheVariants as kinds
use Rattle.regress_backtrack.specs.declared.input.Input.{Input}
use Rattle.regress_program.specs.declared.instruction.Instruction.{Instruction}
use Rattle.regress_program.specs.declared.instruction.Instruction.TheVariants as insts
use Rattle.regress_backtrack.specs.declared.machine.Place.{Place}
use Rattle.regress_code.specs.Choices.{preferred}
use Rattle.regress_code.specs.NextBytes.{IsOutside, next_to}
use Rattle.regress_backtrack.specs.Machine.{Groups, at}
use Rattle.regress_backtrack.specs.Next.{IsInput, Solve, instructions_in, routine_of}
use Rattle.regress_code.specs.Skips.{AreSkipped, IsBeside, is_excluded, is_skipped}
use Rattle.regress_code.proofs.lemmas.Choices.{preferred_is}
use Rattle.regress_backtrack.proofs.CostLemmas.{second_cost}
use Rattle.regress_backtrack.proofs.RunLemmas.{solved}

-- an instruction that is skipped, with what it names
record Skipped (next_bytes : List NextBytes) (instructions : List Instruction) (b pc : ℕ) : Type 0 where
  first : ℕ
  set : ByteBitmap
  after : 0 < pc
  is : slice_get instructions pc ≡ Some (insts.Split first (pc - 1))
  next_byte : slice_get next_bytes first ≡ Some (kinds.Bytes set)
  out : contains set b ≡ false

not_true : (b : Bool) → not b ≡ true → b ≡ false
not_true true is = let bad : ⊥ = cc in absurd bad
not_true false is = refl

pub excluded_set : (o : Option NextBytes) (b : ℕ) → is_excluded o b ≡ true → (set : ByteBitmap) × (o ≡ Some (kinds.Bytes set)) × (contains set b ≡ false)
excluded_set None b is = let bad : ⊥ = cc in absurd bad
excluded_set (Some kinds.Any) b is = let bad : ⊥ = cc in absurd bad
excluded_set (Some (kinds.Bytes set)) b is = (set, refl, not_true _ is)

skipped_by : (next_bytes : List NextBytes) (instructions : List Instruction) (b pc : ℕ) → is_skipped next_bytes b pc (slice_get instructions pc) ≡ true →
    Skipped next_bytes instructions b pc
skipped_by next_bytes instructions b pc is =
    let choice = preferred pc (slice_get instructions pc) in
    let found : (set : ByteBitmap) × (option_and_then (slice_get next_bytes) choice ≡ Some (kinds.Bytes set)) × (contains set b ≡ false) =
    excluded_set (option_and_then (slice_get next_bytes) choice) b is in
    option_and_then_some (slice_get next_bytes) choice (kinds.Bytes found.0) found.1
    (λ first preferred_first next_byte.
    let split = preferred_is pc first (slice_get instructions pc) preferred_first in
    record { first = first; set = found.0; after = split.0; is = split.1; next_byte = next_byte; out = found.2 })

-- there are as many instructions as are skipped
pub skipped_within : (next_bytes : List NextBytes) (instructions : List Instruction) (b pc count : ℕ) → AreSkipped next_bytes instructions b pc count → count ≤ pc
skipped_within next_bytes instructions b pc zero all = omega arith
skipped_within next_bytes instructions b pc (suc n) all =
    let last = skipped_by next_bytes instructions b (pc - n) (all n (omega arith)) in
    let after : 0 < pc - n = last.after in
    omega (arith, after)

-- ---- the outcomes stay the same

module _ (input : Input) (is : IsInput input) (p : Place) (b : ℕ)
    (beside : IsBeside (direction_if input.rules.backwards) input.text.now p.position b) (outs : ℕ → Out) (g : Groups) (solve : Solve input outs) where
  abbrev pub outs_from : ℕ → List MatchState
  outs_from pc = outs input.index (at (record p { pc = pc }) g)

  pub outside : (set : ByteBitmap) → contains set b ≡ false → IsOutside (routine_of input).direction set input.text.now p.position
  outside set out =
      let same : get_or input.text.now (next_to (routine_of input).direction p.position) 0 ≡ b =
      ap (λ d. get_or input.text.now (next_to d p.position) 0) (sym is.direction) ∙ beside.is in
      record {
        after = beside.after;
        before = beside.before;
        byte = subst (λ k. k < 256) (sym same) beside.small;
        out = ap (contains set) same ∙ out;
      }

  one_skipped : (pc : ℕ) → Skipped input.next_bytes.now (instructions_in input) b pc → outs_from (pc - 1) ≡ outs_from pc
  one_skipped pc skipped =
      let u = subject input.rules input.text.now in
      let here : Place = record p { pc = pc } in
      let i = insts.Split skipped.first (pc - 1) in
      let fails = is.next_bytes outs solve skipped.first (kinds.Bytes skipped.set) skipped.next_byte (goto skipped.first (at here g)) refl
      (outside skipped.set skipped.out) in
      let before : p.position < length input.text.now = beside.before in
      sym
      (solved input is here i (slice_get_within (instructions_in input) pc i skipped.is) skipped.is u.setting u.bytes outs u.direction g solve is.direction
      (omega (arith, before))
      ∙ ap (λ xs. xs ++ outs input.index (goto (pc - 1) (at here g))) fails)

  pub all_skipped : (pc count : ℕ) → AreSkipped input.next_bytes.now (instructions_in input) b pc count → outs_from (pc - count) ≡ outs_from pc
  all_skipped pc zero all = ap outs_from (omega arith)
  all_skipped pc (suc n) all =
      let last = skipped_by input.next_bytes.now (instructions_in input) b (pc - n) (all n (omega arith)) in
      let number : pc - suc n ≡ (pc - n) - 1 = omega arith in
      ap outs_from number ∙ one_skipped (pc - n) last ∙ all_skipped pc n (λ j lt. all j (omega (arith, lt)))

-- the cost of a place is at least that of one that is reached by skipping choices
pub skipped_cost : (input : Input) → IsInput input → (p : Place) (b : ℕ) (outs : ℕ → Out) (costs : ℕ → Cost) → HasCost input outs costs → (g : Groups) →
    p.position ≤ length input.text.now → (pc count : ℕ) → AreSkipped input.next_bytes.now (instructions_in input) b pc count →
    costs input.index (at (record p { pc = pc - count }) g) ≤ costs input.index (at (record p { pc = pc }) g)
skipped_cost input is p b outs costs has g le pc zero all =
    let same : pc - zero ≡ pc = omega arith in
    let here = ap (λ k. costs input.index (at (record p { pc = k }) g)) same in
    omega (arith, here)
skipped_cost input is p b outs costs has g le pc (suc n) all =
    let last = skipped_by input.next_bytes.now (instructions_in input) b (pc - n) (all n (omega arith)) in
    let i = insts.Split last.first ((pc - n) - 1) in
    let one = second_cost input is outs costs has g (record p { pc = pc - n }) last.first ((pc - n) - 1)
    (slice_get_within (instructions_in input) (pc - n) i last.is) last.is le in
    let more = skipped_cost input is p b outs costs has g le pc n (λ j lt. all j (omega (arith, lt))) in
    let number : pc - suc n ≡ (pc - n) - 1 = omega arith in
    let here = ap (λ k. costs input.index (at (record p { pc = k }) g)) number in
    omega (arith, one, more, here)
