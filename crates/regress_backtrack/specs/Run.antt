-- The result of a run.
use Rattle.regress_found.specs.Found.{state}
use Rattle.std.specs.Prelude.{◌≡◌, ℕ, ◌<◌, Bool, not, List, [], ◌∷◌, if◌then◌else◌, length, slice_get, Some}
use Rattle.regress_tree.specs.Steps.{MatchState}
use Rattle.regress_leaves.specs.declared.test.Test.{Test}
use Rattle.regress_program.specs.declared.instruction.Instruction.TheVariants as insts
use Rattle.regress_backtrack.specs.Next.{instructions_in}
use Rattle.regress_backtrack.specs.declared.input.Input.{Input}
use Rattle.regress_backtrack.specs.declared.machine.Machine.{Machine}
use Rattle.regress_backtrack.specs.declared.run.Response.{Response}
use Rattle.regress_backtrack.specs.declared.run.Response.TheVariants as responses
use Rattle.regress_backtrack.specs.declared.machine.Place.{Place}
use Rattle.regress_backtrack.specs.declared.step.Next.{Next}
use Rattle.regress_backtrack.specs.declared.step.Next.TheVariants as nexts

-- The result is the first of the outcomes, or that there is none. Out of steps it states nothing.
abbrev pub IsResponseOf : List MatchState → Machine → Response → Type 0
IsResponseOf outcomes m (responses.Matched k) = (rest : List MatchState) × (outcomes ≡ state m.captures.items k ∷ rest)
IsResponseOf outcomes m responses.NoMatch = outcomes ≡ []
IsResponseOf outcomes m responses.OutOfSteps = Unit {0}

-- on from this place if a lookaround holds
abbrev pub on_if : (holds : Bool) → Place → Next
on_if holds p = if holds then nexts.On p else nexts.Back

-- What follows a lookaround, by the result of its body.
abbrev pub IsAfter : Response → (negate : Bool) → Place → Next → Type 0
IsAfter (responses.Matched k) negate p next = next ≡ on_if (not negate) p
IsAfter responses.NoMatch negate p next = next ≡ on_if negate p
IsAfter responses.OutOfSteps negate p next = next ≡ nexts.OutOfSteps

-- The routine matches this leaf, and accepts after it.
pub record IsLeafBody (input : Input) (test : Test) : Type 0 where
  pub leaf : ℕ
  pub next : ℕ
  pub first_in : input.first < length (instructions_in input)
  pub is : slice_get (instructions_in input) input.first ≡ Some (insts.Leaf leaf next)
  pub next_in : next < length (instructions_in input)
  pub accepts : slice_get (instructions_in input) next ≡ Some insts.Accept
  pub is_test : slice_get input.code.now.program.leaves.items leaf ≡ Some test
