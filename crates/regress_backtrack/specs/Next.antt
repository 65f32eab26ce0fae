-- What an instruction leads to.
use Rattle.std.specs.Prelude.{◌≡◌, ℕ, ◌≤◌, ◌<◌, Bool, true, false, List, [], ◌∷◌, flat_map, length, slice_get, Option, None, Some, take}
use Rattle.std.specs.Coded.{Unit-prop}
use Rattle.std.proofs.Props.{props}
use Rattle.regress_tree.specs.Reading.{Direction, direction_if}
use Rattle.regress_tree.specs.Steps.{MatchState}
use Rattle.regress_found.specs.Found.{state}
use Rattle.regress_program.specs.Listed.{Begins, listed}
use Rattle.regress_program.specs.Program.{At, IsSolution, Op, look, Out, Routine}
use Rattle.regress_program.specs.Shape.{Fits}
use Rattle.regress_leaves.specs.Subject.{subject}
use Rattle.regress_leaves.specs.declared.test.Test.{Test}
use Rattle.regress_code.specs.Code.{code_routines}
use Rattle.regress_code.specs.declared.next_bytes.NextBytes.{NextBytes}
use Rattle.regress_code.specs.declared.next_bytes.NextBytes.TheVariants as kinds
use Rattle.regress_code.specs.NextBytes.{AreNextBytes, Bounds, FoldsIf}
use Rattle.regress_code.specs.Possessive.{ArePossessive}
use Rattle.regress_code.specs.Rows.{AreRows, IsBegun}
use Rattle.regress_code.specs.Skips.{AreSkips}
use Rattle.regress_program.specs.Unique.{Direction-set}
use Rattle.regress_program.specs.Views.{routine_in}
use Rattle.regress_program.specs.contracts.instruction.Routine as routine
use Rattle.regress_program.specs.declared.instruction.Instruction.{Instruction}
use Rattle.regress_backtrack.specs.declared.input.Input.{Input}
use Rattle.regress_backtrack.specs.declared.machine.Machine.{Machine}
use Rattle.regress_backtrack.specs.declared.machine.Place.{Place}
use Rattle.regress_backtrack.specs.declared.step.Next.{Next}
use Rattle.regress_backtrack.specs.declared.step.Next.TheVariants as nexts
use Rattle.regress_backtrack.specs.Machine.{Groups, at, groups_of, points}

-- The instruction is a lookaround.
abbrev pub is_look : Op → Bool
is_look (look negate routine next) = true
is_look op = false

-- inside a routine of this width, and a text of this length
pub record Within (width length : ℕ) (a : At) : Type 0 where
  pub pc : a.pc < width
  pub position : a.state.position ≤ length

-- The outcomes solve the program.
abbrev pub Solve : Input → (ℕ → Out) → Type 0
Solve input outs = IsSolution (subject input.rules input.text.now).setting input.text.now (code_routines input.code.now) outs

-- A run has no outcome from a place.
abbrev pub Fails : Input → Place → Type 0
Fails input p = (outs : ℕ → Out) (g : Groups) → Solve input outs → outs input.index (at p g) ≡ []

-- the instructions of the routine
abbrev pub instructions_in : Input → List Instruction
instructions_in input = listed input.routine.now

-- what the routine does
abbrev pub routine_of : Input → Routine
routine_of input = routine_in input.code.now.program.leaves.items input.routine.now

-- where a run of the routine from a position starts
abbrev pub start_at : Input → (position : ℕ) → Place
start_at input position = record { pc = input.first; moved = true; position = position }

-- inside the routine and the text
abbrev pub Inside : Input → At → Type 0
Inside input = Within (length (instructions_in input)) (length input.text.now)

-- The input is for the routine with its index.
pub record IsInput (input : Input) : Type 0 where
  pub is : slice_get input.code.now.program.routines.items input.index ≡ Some input.routine.now
  pub direction : direction_if input.rules.backwards ≡ (routine_of input).direction
  pub first : input.first ≡ (routine_of input).entry
  pub leading : Begins input.leading.now (instructions_in input)
  pub next_bytes : (outs : ℕ → Out) → Solve input outs → AreNextBytes input.next_bytes.now (routine_of input).direction input.text.now (outs input.index)
  pub skips : AreSkips input.skips.now input.next_bytes.now (instructions_in input)
  pub rows : AreRows input.code.now.folds input.rows.now input.code.now.program.leaves.items (instructions_in input) input.rules.backwards
  pub folds : 0 < length input.rows.now → FoldsIf input.code.now.folds (subject input.rules input.text.now).setting
  pub possessive : ArePossessive input.possessive.now input.next_bytes.now input.code.now.program.leaves.items (instructions_in input)

-- A run is at this instruction.
pub record CanStep (input : Input) (op : Op) (p : Place) : Type 0 where
  pub pc : p.pc < length (instructions_in input)
  pub position : p.position ≤ length input.text.now
  pub fits : Fits (take input.index (code_routines input.code.now)) (length (instructions_in input)) p.pc op

-- the points from which a run goes on, the first one first
abbrev pub ahead : Machine → Next → List At
ahead m (nexts.On p) = at p (groups_of m) ∷ points m
ahead m nexts.Back = points m
ahead m (nexts.Accept k) = []
ahead m nexts.OutOfSteps = []

-- The states are the outcomes from these points, or begin with the one that is found.
abbrev pub Leads : List MatchState → Out → Machine → Next → Type 0
Leads states out m (nexts.On p) = states ≡ flat_map out (at p (groups_of m) ∷ points m)
Leads states out m nexts.Back = states ≡ flat_map out (points m)
Leads states out m (nexts.Accept k) = (rest : List MatchState) × (states ≡ state m.captures.items k ∷ rest)
Leads states out m nexts.OutOfSteps = Unit {0}

Bounds-prop : (next_byte : NextBytes) (d : Direction) (text : List ℕ) (position : ℕ) (states : List MatchState) → IsProp (Bounds next_byte d text position states)
Bounds-prop kinds.Any d text position states = Unit-prop
Bounds-prop (kinds.Bytes set) d text position states = hlevel props

IsBegun-prop : (folds : Bool) (string : List ℕ) (o : Option Test) → IsProp (IsBegun folds string o)
IsBegun-prop folds string None = hlevel props
IsBegun-prop folds string (Some test) = hlevel props

-- The property has at most one proof.
pub IsInput-prop : (input : Input) → IsProp (IsInput input)
IsInput-prop input = hlevel (props, routine.the_row.coded, Direction-set, Bounds-prop, IsBegun-prop)
