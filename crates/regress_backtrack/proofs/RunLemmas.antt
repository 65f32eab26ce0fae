-- Runs and lookarounds.
use Rattle.std.proofs.Common.{◌≡◌, ℕ, ◌+◌, ◌*◌, sum_by, ◌<◌, ◌≤◌, ◌==◌, Bool, true, false, not, ◌||◌, List, [], ◌∷◌, ◌++◌, flat_map, length, take, Option, Some, All, slice_get, option_map, refl, sym, ap, ap₂, ◌∙◌, subst, append-nil, arith, reverse}
use Rattle.std.proofs.lemmas.List.{length-map}
use Rattle.std.proofs.lemmas.List.Elements.{All-nil, All-cons}
use Rattle.std.proofs.lemmas.Option.{slice_get-map}
use Rattle.regress_tree.specs.Lookaround.{looked, lookaround_matcher}
use Rattle.regress_tree.specs.Reading.{Direction}
use Rattle.regress_tree.specs.Steps.{MatchState, Matcher, CaptureSpan, Setting}
use Rattle.regress_found.specs.Found.{state}
use Rattle.regress_program.specs.declared.instruction.Instruction.{Instruction}
use Rattle.regress_program.specs.Cost.{Cost, IsCost, cost_after, cost_of}
use Rattle.regress_program.specs.Program.{Out, Routine, reach, start, matcher_of, outcomes_by, outcomes_at, IsSolution}
use Rattle.regress_program.specs.Shape.{Fits, IsProgram}
use Rattle.regress_code.specs.Code.{code_routines}
use Rattle.regress_backtrack.specs.Costs.{cost_ahead, points_cost}
use Rattle.regress_program.specs.Views.{op_in}
use Rattle.regress_backtrack.specs.declared.input.Input.{Input}
use Rattle.regress_backtrack.specs.declared.machine.Machine.{Machine}
use Rattle.regress_backtrack.specs.declared.machine.Place.{Place}
use Rattle.regress_backtrack.specs.declared.run.Response.{Response}
use Rattle.regress_backtrack.specs.declared.run.Response.TheVariants as responses
use Rattle.regress_backtrack.specs.declared.step.Next.{Next}
use Rattle.regress_backtrack.specs.declared.step.Next.TheVariants as nexts
use Rattle.regress_backtrack.specs.Machine.{Groups, at, groups_of, points}
use Rattle.regress_backtrack.specs.Memory.{AreWithin}
use Rattle.regress_backtrack.specs.Next.{CanStep, IsInput, Inside, ahead, Leads, instructions_in, routine_of}
use Rattle.regress_backtrack.specs.Run.{IsResponseOf, IsAfter}
use Rattle.regress_program.specs.declared.instruction.Instruction.TheVariants as insts
use Rattle.regress_backtrack.proofs.InputLemmas.{routine-is}
use Rattle.regress_backtrack.proofs.MachineLemmas.{points-none}
use Rattle.regress_backtrack.proofs.StepLemmas.{Goes, goes_on, goes_back, Remains, on_inside, back_inside}

-- ---- one instruction

module _ (input : Input) (is : IsInput input) (p : Place) (i : Instruction) (lt : p.pc < length (instructions_in input))
    (read : slice_get (instructions_in input) p.pc ≡ Some i) where
  pub op-is : slice_get (routine_of input).ops p.pc ≡ Some (op_in input.code.now.program.leaves.items i)
  op-is = slice_get-map (op_in input.code.now.program.leaves.items) (instructions_in input) p.pc ∙ ap (option_map (op_in input.code.now.program.leaves.items)) read

  pub width-is : length (routine_of input).ops ≡ length (instructions_in input)
  width-is = length-map (instructions_in input) (op_in input.code.now.program.leaves.items)

  pub can_step : IsProgram (code_routines input.code.now) → p.position ≤ length input.text.now → CanStep input (op_in input.code.now.program.leaves.items i) p
  can_step program le = record {
    pc = lt;
    position = le;
    fits = subst (λ w. Fits (take input.index (code_routines input.code.now)) w p.pc (op_in input.code.now.program.leaves.items i)) width-is
        ((program input.index (routine_of input) (routine-is input is)).fit p.pc (op_in input.code.now.program.leaves.items i) (omega arith) (omega (arith, width-is, lt)) op-is);
  }

  -- the outcomes at the instruction
  pub solved : (setting : Setting) (bytes : List ℕ) (outs : ℕ → Out) (d : Direction) (g : Groups) →
      IsSolution setting bytes (code_routines input.code.now) outs → d ≡ (routine_of input).direction → p.position ≤ length bytes →
      outs input.index (at p g) ≡ outcomes_by setting bytes d (matcher_of setting bytes (code_routines input.code.now) outs) (outs input.index) (op_in input.code.now.program.leaves.items i)
      (at p g)
  solved setting bytes outs d g solution direction le =
      solution input.index (routine_of input) (routine-is input is) (at p g) (omega arith) (omega (arith, width-is, lt)) le
      ∙ ap₂ (λ x o. outcomes_at setting bytes x (matcher_of setting bytes (code_routines input.code.now) outs) (outs input.index) o (at p g))
      (sym direction) op-is

  -- the outcomes at the instruction lead on
  pub advanced : (m m' : Machine) (n : Next) (setting : Setting) (bytes : List ℕ) (outs : ℕ → Out) (d : Direction) →
      IsSolution setting bytes (code_routines input.code.now) outs → d ≡ (routine_of input).direction → p.position ≤ length bytes →
      Goes (outs input.index) m m' (outcomes_by setting bytes d (matcher_of setting bytes (code_routines input.code.now) outs) (outs input.index) (op_in input.code.now.program.leaves.items i)
      (at p (groups_of m))) n → Leads (flat_map (outs input.index) (at p (groups_of m) ∷ points m)) (outs input.index) m' n
  advanced m m' n setting bytes outs d solution direction le goes =
      subst (λ ss. Goes (outs input.index) m m' ss n) (sym (solved setting bytes outs d (groups_of m) solution direction le)) goes

-- of two alternatives, one that has no outcome is left out
pub only_first : (first second rest : List MatchState) → second ≡ [] → (first ++ second) ++ rest ≡ first ++ rest
only_first first second rest none = ap (λ xs. (first ++ xs) ++ rest) none ∙ ap (λ xs. xs ++ rest) (append-nil first)

pub only_second : (first second rest : List MatchState) → first ≡ [] → (first ++ second) ++ rest ≡ second ++ rest
only_second first second rest none = ap (λ xs. (xs ++ second) ++ rest) none

-- what a lookaround names
pub look_fits : (input : Input) (i : Instruction) (p : Place) (negate : Bool) (routine next : ℕ) → i ≡ insts.Look negate routine next →
    CanStep input (op_in input.code.now.program.leaves.items i) p →
    (routine < length (take input.index (code_routines input.code.now))) × (next < length (instructions_in input))
look_fits input i p negate routine next is can =
    let fits = subst (Fits (take input.index (code_routines input.code.now)) (length (instructions_in input)) p.pc) (ap (op_in input.code.now.program.leaves.items) is) can.fits in
    (fits.0, omega (arith, fits.1, can.pc))

-- ---- the outcomes that remain

pub on_same : (states : List MatchState) (out : Out) (m : Machine) (n : Next) (p : Place) → n ≡ nexts.On p → Leads states out m n →
    states ≡ flat_map out (at p (groups_of m) ∷ points m)
on_same states out m n p is leads = subst (Leads states out m) is leads

pub back_same : (states : List MatchState) (out : Out) (m : Machine) (n : Next) → n ≡ nexts.Back → Leads states out m n → states ≡ flat_map out (points m)
back_same states out m n is leads = subst (Leads states out m) is leads

pub accept_same : (states : List MatchState) (out : Out) (m : Machine) (n : Next) (k : ℕ) → n ≡ nexts.Accept k → Leads states out m n →
    (rest : List MatchState) × (states ≡ state m.captures.items k ∷ rest)
accept_same states out m n k is leads = subst (Leads states out m) is leads

pub on_all : (input : Input) (m : Machine) (n : Next) (p : Place) → n ≡ nexts.On p → All (Inside input) (ahead m n) →
    All (Inside input) (at p (groups_of m) ∷ points m)
on_all input m n p is all = subst (λ x. All (Inside input) (ahead m x)) is all

pub back_all : (input : Input) (m : Machine) (n : Next) → n ≡ nexts.Back → All (Inside input) (ahead m n) → All (Inside input) (points m)
back_all input m n is all = subst (λ x. All (Inside input) (ahead m x)) is all

-- ---- the start of a run

pub begins-inside : (input : Input) (is : IsInput input) (m : Machine) (start' : ℕ) → IsProgram (code_routines input.code.now) →
    m.stack.entries.items ≡ [] → start' ≤ length input.text.now →
    All (Inside input) (at (record { pc = input.first; moved = true; position = start' }) (groups_of m) ∷ points m)
begins-inside input is m start' program clear le =
    let width : length (routine_of input).ops ≡ length (instructions_in input) = length-map (instructions_in input) (op_in input.code.now.program.leaves.items) in
    let entry = (program input.index (routine_of input) (routine-is input is)).entry in
    let p : Place = record { pc = input.first; moved = true; position = start' } in
    All-cons (Inside input) (at p (groups_of m)) (points m) (record { pc = omega (arith, is.first, entry, width); position = le })
    (subst (All (Inside input)) (sym (points-none m clear)) (All-nil (Inside input)))

-- where a run starts
begins_at : (input : Input) (is : IsInput input) (m : Machine) (captures : List (Option CaptureSpan)) (start' : ℕ) (setting : Setting) (bytes : List ℕ) →
    m.stack.begins.items ≡ [] → m.captures.items ≡ captures →
    start setting bytes (slice_get (code_routines input.code.now) input.index) (state captures start')
    ≡ at (record { pc = input.first; moved = true; position = start' }) (groups_of m)
begins_at input is m captures start' setting bytes none same =
    ap (λ o. start setting bytes o (state captures start')) (routine-is input is)
    ∙ ap (λ k. record { pc = k; moved = true; state = state captures start'; begins = [] }) (sym is.first)
    ∙ ap₂ (λ cs bs. record { pc = input.first; moved = true; state = state cs start'; begins = reverse bs }) (sym same) (sym none)

pub begins-same : (input : Input) (is : IsInput input) (m : Machine) (captures : List (Option CaptureSpan)) (start' : ℕ) (setting : Setting) (bytes : List ℕ)
    (outs : ℕ → Out) → m.stack.entries.items ≡ [] → m.stack.begins.items ≡ [] → m.captures.items ≡ captures →
    matcher_of setting bytes (code_routines input.code.now) outs input.index (state captures start')
    ≡ flat_map (outs input.index) (at (record { pc = input.first; moved = true; position = start' }) (groups_of m) ∷ points m)
begins-same input is m captures start' setting bytes outs clear none same =
    ap (outs input.index) (begins_at input is m captures start' setting bytes none same)
    ∙ sym (append-nil _)
    ∙ ap (λ ps. flat_map (outs input.index) (at (record { pc = input.first; moved = true; position = start' }) (groups_of m) ∷ ps)) (sym (points-none m clear))

pub begins_cost : (input : Input) (is : IsInput input) (m : Machine) (captures : List (Option CaptureSpan)) (start' : ℕ) (setting : Setting) (bytes : List ℕ)
    (costs : ℕ → Cost) (remaining : ℕ) → m.stack.entries.items ≡ [] → m.stack.begins.items ≡ [] → m.captures.items ≡ captures →
    remaining + (costs input.index (at (record { pc = input.first; moved = true; position = start' }) (groups_of m)) + points_cost (costs input.index) m)
    ≤ remaining + cost_of setting bytes (code_routines input.code.now) costs input.index (state captures start')
begins_cost input is m captures start' setting bytes costs remaining clear none same =
    let here = ap (costs input.index) (begins_at input is m captures start' setting bytes none same) in
    let rest = ap (sum_by (costs input.index)) (points-none m clear) in
    omega (arith, here, rest)

-- what is so of a run for an equal input
pub same_run : (P : Setting → List ℕ → List Routine → ℕ → List (Option CaptureSpan) → Type 0) (s s' : Setting) (b b' : List ℕ) (p p' : List Routine)
    (i i' : ℕ) (cs cs' : List (Option CaptureSpan)) → P s' b' p' i' cs' → s' ≡ s → b' ≡ b → p' ≡ p → i' ≡ i → cs' ≡ cs → P s b p i cs
same_run P s s' b b' p p' i i' cs cs' holds es eb ep ei ec =
    subst (λ x. P x b p i cs) es
    (subst (λ x. P s' x p i cs) eb (subst (λ x. P s' b' x i cs) ep (subst (λ x. P s' b' p' x cs) ei (subst (λ x. P s' b' p' i' x) ec holds))))

pub same_response : (m : Machine) (r : Response) (outs : ℕ → Out) (k : ℕ) (s s' : Setting) (b b' : List ℕ) (p p' : List Routine) (i i' : ℕ)
    (cs cs' : List (Option CaptureSpan)) → (IsSolution s' b' p' outs → IsResponseOf (matcher_of s' b' p' outs i' (state cs' k)) m r) →
    s' ≡ s → b' ≡ b → p' ≡ p → i' ≡ i → cs' ≡ cs → IsSolution s b p outs → IsResponseOf (matcher_of s b p outs i (state cs k)) m r
same_response m r outs k = same_run (λ s b p i cs. IsSolution s b p outs → IsResponseOf (matcher_of s b p outs i (state cs k)) m r)

pub same_cost : (remaining remaining' : ℕ) (outs : ℕ → Out) (costs : ℕ → Cost) (k : ℕ) (s s' : Setting) (b b' : List ℕ) (p p' : List Routine) (i i' : ℕ)
    (cs cs' : List (Option CaptureSpan)) → (IsCost s' b' p' outs costs → remaining ≤ remaining' + cost_of s' b' p' costs i' (state cs' k)) →
    s' ≡ s → b' ≡ b → p' ≡ p → i' ≡ i → cs' ≡ cs → IsCost s b p outs costs → remaining ≤ remaining' + cost_of s b p costs i (state cs k)
same_cost remaining remaining' outs costs k = same_run (λ s b p i cs. IsCost s b p outs costs → remaining ≤ remaining' + cost_of s b p costs i (state cs k))

-- entries that the cost of a run bounds
pub same_entries : (entries : ℕ) (outs : ℕ → Out) (costs : ℕ → Cost) (k : ℕ) (s s' : Setting) (b b' : List ℕ) (p p' : List Routine) (i i' : ℕ)
    (cs cs' : List (Option CaptureSpan)) → (IsCost s' b' p' outs costs → entries ≤ 64 * cost_of s' b' p' costs i' (state cs' k)) →
    s' ≡ s → b' ≡ b → p' ≡ p → i' ≡ i → cs' ≡ cs → IsCost s b p outs costs → entries ≤ 64 * cost_of s b p costs i (state cs k)
same_entries entries outs costs k = same_run (λ s b p i cs. IsCost s b p outs costs → entries ≤ 64 * cost_of s b p costs i (state cs k))

-- stacks that stay within an equal room
pub same_within : (room room' : ℕ) (m m' : Machine) → room' ≡ room → (AreWithin room' m → AreWithin room' m') → AreWithin room m → AreWithin room m'
same_within room room' m m' same within =
    subst (λ k. AreWithin k m → AreWithin k m') same within

-- ---- lookarounds

same_here : (k : ℕ) → (k == k) ≡ true
same_here k = grind arith

or_false : (b : Bool) → (b || false) ≡ b
or_false true = refl
or_false false = refl

stays-moved : (b : Bool) (k : ℕ) → (b || not (k == k)) ≡ b
stays-moved b k = ap (λ x. b || not x) (same_here k) ∙ or_false b

module _ (out : Out) (m m' : Machine) (same : points m' ≡ points m) (begins : (groups_of m').begins ≡ (groups_of m).begins) (p : Place) (next : ℕ) where
  -- on from the lookaround
  reach-after : (t : MatchState) → t ≡ state m'.captures.items p.position → at (record p { pc = next }) (groups_of m') ≡ reach next (at p (groups_of m)) t
  reach-after t is =
      ap₂ (λ x bs. record { pc = next; moved = x; state = state m'.captures.items p.position; begins = bs }) (sym (stays-moved p.moved p.position)) begins
      ∙ ap (reach next (at p (groups_of m))) (sym is)

  holds : (states : List MatchState) (n : Next) → n ≡ nexts.On (record p { pc = next }) → states ≡ state m'.captures.items p.position ∷ [] →
      Goes out m m' (flat_map (λ t. out (reach next (at p (groups_of m)) t)) states) n
  holds states n is found =
      goes_on out m m' _ n (record p { pc = next }) _ is (reach-after _ refl) same
      (ap (flat_map (λ t. out (reach next (at p (groups_of m)) t))) found ∙ append-nil _)

  fails : (states : List MatchState) (n : Next) → n ≡ nexts.Back → states ≡ [] →
      Goes out m m' (flat_map (λ t. out (reach next (at p (groups_of m)) t)) states) n
  fails states n is none = goes_back out m m' _ n is same (ap (flat_map (λ t. out (reach next (at p (groups_of m)) t))) none)

  pub look_goes : (negate : Bool) (body : Matcher) (inner : Machine) (r : Response) (n : Next) →
      IsResponseOf (body (state m.captures.items p.position)) inner r → m'.captures.items ≡ inner.captures.items →
      (r ≡ responses.NoMatch → inner.captures.items ≡ m.captures.items) → IsAfter r negate (record p { pc = next }) n →
      Goes out m m' (flat_map (λ t. out (reach next (at p (groups_of m)) t)) (lookaround_matcher negate body (state m.captures.items p.position))) n
  unfolding lookaround_matcher
  look_goes true body inner (responses.Matched k) n responds captures none is =
      fails _ n is (ap (looked true (state m.captures.items p.position)) responds.1)
  look_goes false body inner (responses.Matched k) n responds captures none is =
      holds _ n is (ap (looked false (state m.captures.items p.position)) responds.1 ∙ ap (λ cs. state cs p.position ∷ []) (sym captures))
  look_goes true body inner responses.NoMatch n responds captures none is =
      holds _ n is (ap (looked true (state m.captures.items p.position)) responds ∙ ap (λ cs. state cs p.position ∷ []) (sym (captures ∙ none refl)))
  look_goes false body inner responses.NoMatch n responds captures none is =
      fails _ n is (ap (looked false (state m.captures.items p.position)) responds)
  look_goes negate body inner responses.OutOfSteps n responds captures none is =
      subst (Goes out m m' _) (sym is) tt

  -- on from the lookaround
  goes_cost : (cost : Cost) (states : List MatchState) (n : Next) → n ≡ nexts.On (record p { pc = next }) → states ≡ state m'.captures.items p.position ∷ [] →
      cost_ahead cost m' n ≤ cost_after cost next (at p (groups_of m)) states + points_cost cost m
  goes_cost cost states n is found =
      let a = at p (groups_of m) in
      let here = ap cost (reach-after (state m'.captures.items p.position) refl) in
      let one = ap (cost_after cost next a) found in
      let rest = ap (sum_by cost) same in
      subst (λ x. cost_ahead cost m' x ≤ cost_after cost next a states + points_cost cost m) (sym is) (omega (arith, here, one, rest))

  stops_cost : (cost : Cost) (k : ℕ) (n : Next) → n ≡ nexts.Back → cost_ahead cost m' n ≤ k + points_cost cost m
  stops_cost cost k n is =
      let rest = ap (sum_by cost) same in
      subst (λ x. cost_ahead cost m' x ≤ k + points_cost cost m) (sym is) (omega (arith, rest))

  pub look_cost : (cost : Cost) (negate : Bool) (body : Matcher) (inner : Machine) (r : Response) (n : Next) →
      IsResponseOf (body (state m.captures.items p.position)) inner r → m'.captures.items ≡ inner.captures.items →
      (r ≡ responses.NoMatch → inner.captures.items ≡ m.captures.items) → IsAfter r negate (record p { pc = next }) n →
      cost_ahead cost m' n
      ≤ cost_after cost next (at p (groups_of m)) (lookaround_matcher negate body (state m.captures.items p.position)) + points_cost cost m
  unfolding lookaround_matcher
  look_cost cost true body inner (responses.Matched k) n responds captures none is = stops_cost cost _ n is
  look_cost cost false body inner (responses.Matched k) n responds captures none is =
      goes_cost cost _ n is (ap (looked false (state m.captures.items p.position)) responds.1 ∙ ap (λ cs. state cs p.position ∷ []) (sym captures))
  look_cost cost true body inner responses.NoMatch n responds captures none is =
      goes_cost cost _ n is (ap (looked true (state m.captures.items p.position)) responds ∙ ap (λ cs. state cs p.position ∷ []) (sym (captures ∙ none refl)))
  look_cost cost false body inner responses.NoMatch n responds captures none is = stops_cost cost _ n is
  look_cost cost negate body inner responses.OutOfSteps n responds captures none is =
      subst (λ x. cost_ahead cost m' x ≤ cost_after cost next (at p (groups_of m)) (lookaround_matcher negate body (state m.captures.items p.position))
      + points_cost cost m) (sym is) (omega arith)

-- the points after a lookaround
pub look_inside : (input : Input) (m m' : Machine) (r : Response) (negate : Bool) (p : Place) (n : Next) → points m' ≡ points m → IsAfter r negate p n →
    p.pc < length (instructions_in input) → p.position ≤ length input.text.now → Remains input m m' n
look_inside input m m' (responses.Matched k) true p n same is lt le = back_inside input m m' n is same
look_inside input m m' (responses.Matched k) false p n same is lt le = on_inside input m m' n p is same (record { pc = lt; position = le })
look_inside input m m' responses.NoMatch true p n same is lt le = on_inside input m m' n p is same (record { pc = lt; position = le })
look_inside input m m' responses.NoMatch false p n same is lt le = back_inside input m m' n is same
look_inside input m m' responses.OutOfSteps negate p n same is lt le = λ all.
    subst (λ x. All (Inside input) (ahead m' x)) (sym is) (All-nil (Inside input))
