-- Choices of a row whose strings do not occur at a position.
use Rattle.std.proofs.Common.{◌≡◌, ℕ, zero, suc, ◌+◌, ◌-◌, ◌≤◌, ◌<◌, Bool, false, List, [], ◌++◌, flat_map, length, Option, Some, None, slice_get, refl, sym, ap, ◌∙◌, subst, arith}
use Rattle.std.proofs.lemmas.Option.{option_and_then_some, slice_get_within}
use Rattle.regress_leaves.specs.Subject.{subject}
use Rattle.regress_leaves.specs.declared.test.Test.{Test}
use Rattle.regress_program.specs.Cost.{Cost}
use Rattle.regress_program.specs.Program.{Out, goto, reach}
use Rattle.regress_program.specs.Views.{leaf_tree}
use Rattle.regress_program.specs.declared.instruction.Instruction.{Instruction}
use Rattle.regress_program.specs.declared.instruction.Instruction.TheVariants as insts
use Rattle.regress_strings.specs.Strings.{occurs_at}
use Rattle.regress_tree.specs.Matching.{steps}
use Rattle.regress_tree.specs.Reading.{direction_if}
use Rattle.regress_tree.specs.Steps.{MatchState}
use Rattle.regress_tree.specs.Tree.{tree}
use Rattle.regress_code.specs.declared.rows.Row.{Row}
use Rattle.regress_code.specs.Choices.{preferred}
use Rattle.regress_code.specs.NextBytes.{FoldsIf}
use Rattle.regress_code.specs.Rows.{BeginsWithString, IsBegun, IsPassed, IsRow, first_leaf, leaf_of}
use Rattle.regress_code.proofs.lemmas.Choices.{preferred_is}
use Rattle.regress_backtrack.specs.Costs.{HasCost}
use Rattle.regress_backtrack.specs.declared.input.Input.{Input}
use Rattle.regress_backtrack.specs.declared.machine.Place.{Place}
use Rattle.regress_backtrack.specs.Machine.{Groups, at}
use Rattle.regress_backtrack.specs.Next.{IsInput, Solve, instructions_in}
use Rattle.regress_backtrack.proofs.CostLemmas.{costed}
use Rattle.regress_backtrack.proofs.RunLemmas.{solved}

-- a choice between an alternative that begins with a string, and the instruction before the choice, with what it names
record Choice (folds : Bool) (leaves : List Test) (instructions : List Instruction) (pc : ℕ) (string : List ℕ) : Type 0 where
  first : ℕ
  leaf : ℕ
  next : ℕ
  test : Test
  after : 0 < pc
  is : slice_get instructions pc ≡ Some (insts.Split first (pc - 1))
  is_first : slice_get instructions first ≡ Some (insts.Leaf leaf next)
  is_test : slice_get leaves leaf ≡ Some test
  begins : BeginsWithString folds string (tree test.node)

leaf_is : (leaves : List Test) (test : Test) (o : Option Instruction) → leaf_of leaves o ≡ Some test →
    (leaf : ℕ) × ((next : ℕ) × ((o ≡ Some (insts.Leaf leaf next)) × (slice_get leaves leaf ≡ Some test)))
leaf_is leaves test (Some (insts.Leaf leaf next)) is = (leaf, (next, (refl, is)))
leaf_is leaves test None is = let bad : ⊥ = cc in absurd bad
leaf_is leaves test (Some insts.Accept) is = let bad : ⊥ = cc in absurd bad
leaf_is leaves test (Some insts.Fail) is = let bad : ⊥ = cc in absurd bad
leaf_is leaves test (Some (insts.Split first second)) is = let bad : ⊥ = cc in absurd bad
leaf_is leaves test (Some (insts.Characters leaf count next)) is = let bad : ⊥ = cc in absurd bad
leaf_is leaves test (Some (insts.BeginLoop greedy body next)) is = let bad : ⊥ = cc in absurd bad
leaf_is leaves test (Some (insts.Repeat greedy body next)) is = let bad : ⊥ = cc in absurd bad
leaf_is leaves test (Some (insts.EndLoop next)) is = let bad : ⊥ = cc in absurd bad
leaf_is leaves test (Some (insts.Unset start end next)) is = let bad : ⊥ = cc in absurd bad
leaf_is leaves test (Some (insts.BeginGroup next)) is = let bad : ⊥ = cc in absurd bad
leaf_is leaves test (Some (insts.EndGroup id next)) is = let bad : ⊥ = cc in absurd bad
leaf_is leaves test (Some (insts.Look negate routine next)) is = let bad : ⊥ = cc in absurd bad

begun_is : (folds : Bool) (string : List ℕ) (o : Option Test) → IsBegun folds string o →
    (test : Test) × ((o ≡ Some test) × BeginsWithString folds string (tree test.node))
begun_is folds string None begun = absurd begun
begun_is folds string (Some test) begun = (test, (refl, begun))

choice_by : (folds : Bool) (leaves : List Test) (instructions : List Instruction) (pc : ℕ) (string : List ℕ) → IsBegun folds string (first_leaf leaves instructions pc) →
    Choice folds leaves instructions pc string
choice_by folds leaves instructions pc string begun =
    let test = begun_is folds string (first_leaf leaves instructions pc) begun in
    option_and_then_some (λ k. leaf_of leaves (slice_get instructions k)) (preferred pc (slice_get instructions pc)) test.0 test.1.0
    (λ first preferred_first first_is.
    let split = preferred_is pc first (slice_get instructions pc) preferred_first in
    let leaf = leaf_is leaves test.0 (slice_get instructions first) first_is in
    record {
      first = first;
      leaf = leaf.0;
      next = leaf.1.0;
      test = test.0;
      after = split.0;
      is = split.1;
      is_first = leaf.1.1.0;
      is_test = leaf.1.1.1;
      begins = test.1.1;
    })

module _ (input : Input) (is : IsInput input) (p : Place) (row : Row)
    (in_row : IsRow input.code.now.folds input.code.now.program.leaves.items (instructions_in input) input.rules.backwards row)
    (folded : FoldsIf input.code.now.folds (subject input.rules input.text.now).setting) (le : p.position ≤ length input.text.now) (g : Groups) where
  abbrev leaves : List Test
  leaves = input.code.now.program.leaves.items

  -- the choice with the index `pc`, whose string does not occur there
  choice_at : (pc : ℕ) → (passed : IsPassed row input.text.now p.position pc) → Choice input.code.now.folds leaves (instructions_in input) pc passed.string
  choice_at pc passed =
      let number : row.lowest + (pc - row.lowest) ≡ pc = omega (arith, passed.from) in
      choice_by input.code.now.folds leaves (instructions_in input) pc passed.string
      (subst (λ k. IsBegun input.code.now.folds passed.string (first_leaf leaves (instructions_in input) k)) number (in_row.choices (pc - row.lowest) passed.string passed.is))

  module _ (outs : ℕ → Out) (solve : Solve input outs) where
    abbrev outs_from : ℕ → List MatchState
    outs_from pc = outs input.index (at (record p { pc = pc }) g)

    -- its preferred alternative has no outcome
    first_fails : (pc : ℕ) (string : List ℕ) (choice : Choice input.code.now.folds leaves (instructions_in input) pc string) → occurs_at input.text.now p.position string ≡ false →
        outs_from choice.first ≡ []
    first_fails pc string choice out =
        let u = subject input.rules input.text.now in
        let here : Place = record p { pc = choice.first } in
        let a = at here g in
        let i = insts.Leaf choice.leaf choice.next in
        let rest = λ (states : List MatchState). flat_map (λ to. outs input.index (reach choice.next a to)) states in
        solved input is here i (slice_get_within (instructions_in input) choice.first i choice.is_first) choice.is_first u.setting u.bytes outs u.direction g solve is.direction le
        ∙ ap (λ o. rest (steps u.setting u.bytes u.direction (leaf_tree o) a.state)) choice.is_test
        ∙ ap (λ b. rest (steps u.setting u.bytes (direction_if b) (tree choice.test.node) a.state)) in_row.forwards
        ∙ ap rest (choice.begins u.setting folded u.bytes a.state out)

    one_passed : (pc : ℕ) → IsPassed row input.text.now p.position pc → outs_from (pc - 1) ≡ outs_from pc
    one_passed pc passed =
        let u = subject input.rules input.text.now in
        let choice = choice_at pc passed in
        let here : Place = record p { pc = pc } in
        let i = insts.Split choice.first (pc - 1) in
        sym
        (solved input is here i (slice_get_within (instructions_in input) pc i choice.is) choice.is u.setting u.bytes outs u.direction g solve is.direction le
        ∙ ap (λ xs. xs ++ outs input.index (goto (pc - 1) (at here g))) (first_fails pc passed.string choice passed.fails))

    all_passed : (pc count : ℕ) → count ≤ pc → ((j : ℕ) → pc - count < j → j ≤ pc → IsPassed row input.text.now p.position j) →
        outs_from (pc - count) ≡ outs_from pc
    all_passed pc zero few all = ap outs_from (omega arith)
    all_passed pc (suc n) few all =
        let number : pc - suc n ≡ (pc - n) - 1 = omega arith in
        ap outs_from number
        ∙ one_passed (pc - n) (all (pc - n) (omega (arith, few)) (omega arith))
        ∙ all_passed pc n (omega (arith, few)) (λ j low high. all j (omega (arith, low)) high)

    -- the instruction at which the run goes on has the same outcomes
    pub same_passed : (pc next : ℕ) → next ≤ pc → ((j : ℕ) → next < j → j ≤ pc → IsPassed row input.text.now p.position j) → outs_from next ≡ outs_from pc
    same_passed pc next before all =
        let number : pc - (pc - next) ≡ next = omega (arith, before) in
        ap outs_from (sym number) ∙ all_passed pc (pc - next) (omega arith) (λ j low high. all j (omega (arith, low, before)) high)

  module _ (outs : ℕ → Out) (costs : ℕ → Cost) (has : HasCost input outs costs) where
    abbrev cost_from : ℕ → ℕ
    cost_from pc = costs input.index (at (record p { pc = pc }) g)

    one_cost : (pc : ℕ) → IsPassed row input.text.now p.position pc → cost_from (pc - 1) ≤ cost_from pc
    one_cost pc passed =
        let choice = choice_at pc passed in
        let i = insts.Split choice.first (pc - 1) in
        let same = costed input is outs costs has g (record p { pc = pc }) i (slice_get_within (instructions_in input) pc i choice.is) choice.is le in
        omega (arith, same)

    all_cost : (pc count : ℕ) → count ≤ pc → ((j : ℕ) → pc - count < j → j ≤ pc → IsPassed row input.text.now p.position j) →
        cost_from (pc - count) ≤ cost_from pc
    all_cost pc zero few all =
        let here = ap cost_from (the_same pc) in
        omega (arith, here)
      where
        the_same : (k : ℕ) → k - zero ≡ k
        the_same k = omega arith
    all_cost pc (suc n) few all =
        let number : pc - suc n ≡ (pc - n) - 1 = omega arith in
        let here = ap cost_from number in
        let one = one_cost (pc - n) (all (pc - n) (omega (arith, few)) (omega arith)) in
        let more = all_cost pc n (omega (arith, few)) (λ j low high. all j (omega (arith, low)) high) in
        omega (arith, here, one, more)

    -- and costs no more
    pub passed_cost : (pc next : ℕ) → next ≤ pc → ((j : ℕ) → next < j → j ≤ pc → IsPassed row input.text.now p.position j) → cost_from next ≤ cost_from pc
    passed_cost pc next before all =
        let number : pc - (pc - next) ≡ next = omega (arith, before) in
        let here = ap cost_from number in
        let less = all_cost pc (pc - next) (omega arith) (λ j low high. all j (omega (arith, low, before)) high) in
        omega (arith, here, less)
