-- Routines that match one leaf.
use Rattle.std.proofs.Common.{◌≡◌, ℕ, ◌+◌, ◌≤◌, ◌<◌, Bool, true, false, List, [], flat_map, length, take, All, Option, Some, None, IfSome, MatchOption, slice_get, refl, sym, ap, ◌∙◌, subst, append-nil, arith}
use Rattle.regress_tree.specs.Matching.{steps}
use Rattle.regress_tree.specs.Steps.{CaptureSpan, Setting}
use Rattle.regress_tree.specs.Tree.{tree}
use Rattle.regress_leaves.specs.Leaves.{put}
use Rattle.regress_leaves.specs.Subject.{subject}
use Rattle.regress_leaves.specs.declared.test.Test.{Test}
use Rattle.regress_found.specs.Found.{state}
use Rattle.regress_program.specs.Cost.{Cost, bytes_ahead, compared, cost_after, cost_of}
use Rattle.regress_program.specs.Program.{Out, matcher_of, reach, start}
use Rattle.regress_program.specs.Shape.{Fits, IsPart, IsProgram}
use Rattle.regress_program.specs.Stays.{IsReached}
use Rattle.regress_program.specs.Views.{leaf_tree, op_in, part_of}
use Rattle.regress_program.specs.declared.instruction.Instruction.TheVariants as insts
use Rattle.regress_program.proofs.lemmas.Onward.{Stays-tree}
use Rattle.regress_code.specs.Code.{code_routines}
use Rattle.std.proofs.lemmas.List.{length-map}
use Rattle.std.proofs.lemmas.List.Elements.{All-head}
use Rattle.regress_backtrack.specs.Costs.{HasCost, op_cost}
use Rattle.regress_backtrack.specs.Machine.{Groups, at}
use Rattle.regress_backtrack.specs.Next.{CanStep, IsInput, Solve, instructions_in, routine_of}
use Rattle.regress_backtrack.specs.Run.{IsAfter, IsLeafBody}
use Rattle.regress_backtrack.specs.declared.input.Input.{Input}
use Rattle.regress_backtrack.specs.declared.machine.Place.{Place}
use Rattle.regress_backtrack.specs.declared.run.Response.{Response}
use Rattle.regress_backtrack.specs.declared.run.Response.TheVariants as responses
use Rattle.regress_backtrack.specs.declared.step.Next.{Next}
use Rattle.regress_backtrack.specs.declared.step.Next.TheVariants as nexts
use Rattle.regress_backtrack.proofs.CostLemmas.{costed}
use Rattle.regress_backtrack.proofs.InputLemmas.{routine-is}
use Rattle.regress_backtrack.proofs.RunLemmas.{can_step, solved}

-- a routine starts inside it
pub entry-in : (input : Input) → IsInput input → IsProgram (code_routines input.code.now) → input.first < length (instructions_in input)
entry-in input is program =
    let width : length (routine_of input).ops ≡ length (instructions_in input) = length-map (instructions_in input) (op_in input.code.now.program.leaves.items) in
    let entry = (program input.index (routine_of input) (routine-is input is)).entry in
    omega (arith, is.first, entry, width)

-- a leaf, and the instruction that accepts
pub leaf_body-is : {X : Type 0} (test : X → Test) (input : Input) (leaf next : ℕ) → input.first < length (instructions_in input) →
    slice_get (instructions_in input) input.first ≡ Some (insts.Leaf leaf next) → next < length (instructions_in input) →
    slice_get (instructions_in input) next ≡ Some insts.Accept → (o : Option X) →
    MatchOption o (slice_get input.code.now.program.leaves.items leaf ≡ None) (λ x. slice_get input.code.now.program.leaves.items leaf ≡ Some (test x)) →
    IfSome o (λ x. IsLeafBody input (test x))
leaf_body-is test input leaf next first_in is next_in accepts None named = tt
leaf_body-is test input leaf next first_in is next_in accepts (Some x) named =
    record { leaf = leaf; next = next; first_in = first_in; is = is; next_in = next_in; accepts = accepts; is_test = named }

module _ (input : Input) (is : IsInput input) (program : IsProgram (code_routines input.code.now)) (test : Test) (body : IsLeafBody input test)
    (captures : List (Option CaptureSpan)) (position : ℕ) (le : position ≤ length input.text.now) where
  abbrev groups : Groups
  groups = record { captures = captures; begins = [] }

  abbrev first : Place
  first = record { pc = input.first; moved = true; position = position }

  abbrev last : ℕ → Place
  last q = record { pc = body.next; moved = true; position = q }

  begin : (setting : Setting) (bytes : List ℕ) →
      start setting bytes (slice_get (code_routines input.code.now) input.index) (state captures position) ≡ at first groups
  begin setting bytes =
      ap (λ o. start setting bytes o (state captures position)) (routine-is input is)
      ∙ ap (λ k. record { pc = k; moved = true; state = state captures position; begins = [] }) (sym is.first)

  -- the leaf has at most one outcome
  pub leaf_part : IsPart (tree test.node)
  leaf_part =
      let can : CanStep input (part_of (slice_get input.code.now.program.leaves.items body.leaf) body.next) first =
      can_step input is first (insts.Leaf body.leaf body.next) body.first_in body.is program le in
      (subst (λ o. Fits (take input.index (code_routines input.code.now)) (length (instructions_in input)) input.first (part_of o body.next)) body.is_test can.fits).0

  abbrev Ends : (to : Option ℕ) → Type 0
  Ends to = (let u = subject input.rules input.text.now in
      steps u.setting u.bytes u.direction (tree test.node) (state captures position) ≡ put (state captures position) to)

  -- it ends inside the text
  reached : (q : ℕ) → Ends (Some q) → q ≤ length input.text.now
  reached q ends =
      let u = subject input.rules input.text.now in
      let s = state captures position in
      let all = subst (All (IsReached u.bytes u.direction s)) ends ((Stays-tree u.setting u.bytes u.direction (tree test.node)).reached s le) in
      (All-head (IsReached u.bytes u.direction s) (record s { position = q }) [] all).inside

  accepted : (outs : ℕ → Out) → Solve input outs → (to : Option ℕ) → Ends to →
      flat_map (λ t. outs input.index (reach body.next (at first groups) t)) (put (state captures position) to) ≡ put (state captures position) to
  accepted outs solve None ends = refl
  accepted outs solve (Some q) ends =
      let u = subject input.rules input.text.now in
      append-nil _
      ∙ solved input is (last q) insts.Accept body.next_in body.accepts u.setting u.bytes outs u.direction groups solve is.direction (reached q ends)

  -- the outcomes of the leaf are those of the routine
  pub leaf_outcomes : (outs : ℕ → Out) → Solve input outs → (to : Option ℕ) → Ends to →
      (let u = subject input.rules input.text.now in
      matcher_of u.setting u.bytes (code_routines input.code.now) outs input.index (state captures position) ≡ put (state captures position) to)
  leaf_outcomes outs solve to ends =
      let u = subject input.rules input.text.now in
      let out = outs input.index in
      ap out (begin u.setting u.bytes)
      ∙ solved input is first (insts.Leaf body.leaf body.next) body.first_in body.is u.setting u.bytes outs u.direction groups solve is.direction le
      ∙ ap (λ o. flat_map (λ t. out (reach body.next (at first groups) t)) (steps u.setting u.bytes u.direction (leaf_tree o) (state captures position))) body.is_test
      ∙ ap (flat_map (λ t. out (reach body.next (at first groups) t))) ends
      ∙ accepted outs solve to ends

  accept_cost : (outs : ℕ → Out) (costs : ℕ → Cost) → HasCost input outs costs → (q : ℕ) → q ≤ length input.text.now →
      costs input.index (at (last q) groups) ≡ 1
  accept_cost outs costs has q inside = costed input is outs costs has groups (last q) insts.Accept body.next_in body.accepts inside

  -- the steps of a run
  pub leaf_steps : (outs : ℕ → Out) (costs : ℕ → Cost) → HasCost input outs costs → (to : Option ℕ) → Ends to →
      (let u = subject input.rules input.text.now in
      compared (bytes_ahead u.direction (length u.bytes) position) (tree test.node) (state captures position) + 1 + length (put (state captures position) to)
      ≤ cost_of u.setting u.bytes (code_routines input.code.now) costs input.index (state captures position))
  leaf_steps outs costs has None ends =
      let u = subject input.rules input.text.now in
      let here = ap (costs input.index) (begin u.setting u.bytes) in
      let one = costed input is outs costs has groups first (insts.Leaf body.leaf body.next) body.first_in body.is le in
      let leaf = ap (λ o. op_cost input outs costs (part_of o body.next) (at first groups)) body.is_test in
      omega (arith, here, one, leaf)
  leaf_steps outs costs has (Some q) ends =
      let u = subject input.rules input.text.now in
      let here = ap (costs input.index) (begin u.setting u.bytes) in
      let one = costed input is outs costs has groups first (insts.Leaf body.leaf body.next) body.first_in body.is le in
      let leaf = ap (λ o. op_cost input outs costs (part_of o body.next) (at first groups)) body.is_test in
      let on = ap (cost_after (costs input.index) body.next (at first groups)) ends in
      let accept = accept_cost outs costs has q (reached q ends) in
      omega (arith, here, one, leaf, on, accept)

-- A lookaround whose body ended without reaching the step limit goes on or fails.
pub after-goes : (r : Response) (negate : Bool) (p : Place) (n : Next) → (r ≡ responses.OutOfSteps → ⊥) → IsAfter r negate p n → n ≡ nexts.OutOfSteps → ⊥
after-goes (responses.Matched k) true p n goes is out = let bad : ⊥ = cc in bad
after-goes (responses.Matched k) false p n goes is out = let bad : ⊥ = cc in bad
after-goes responses.NoMatch true p n goes is out = let bad : ⊥ = cc in bad
after-goes responses.NoMatch false p n goes is out = let bad : ⊥ = cc in bad
after-goes responses.OutOfSteps negate p n goes is out = goes refl
