-- Rows of choices between alternatives that begin with strings.
use Rattle.std.specs.Prelude.{◌≡◌, ℕ, ◌+◌, ◌-◌, ◌≤◌, ◌<◌, Bool, false, List, [], length, slice_get, Option, Some, None, option_and_then}
use Rattle.std.proofs.Props.{props}
use Rattle.regress_tree.specs.Matching.{steps}
use Rattle.regress_tree.specs.Reading.{forwards}
use Rattle.regress_tree.specs.Steps.{MatchState, Setting}
use Rattle.regress_tree.specs.Tree.{Tree, tree}
use Rattle.regress_strings.specs.Strings.{occurs_at, strings_of}
use Rattle.regress_leaves.specs.declared.test.Test.{Test}
use Rattle.regress_program.specs.Listed.{listed}
use Rattle.regress_program.specs.declared.instruction.Instruction.{Instruction}
use Rattle.regress_program.specs.declared.instruction.Instruction.TheVariants as insts
use Rattle.regress_program.specs.declared.instruction.Routine as declared
use Rattle.regress_code.specs.declared.analysis.Analysis.{Analysis}
use Rattle.regress_code.specs.declared.rows.Row.{Row}
use Rattle.regress_code.specs.Choices.{preferred}
use Rattle.regress_code.specs.NextBytes.{FoldsIf}

-- In the forward direction the tree has no outcome at a position where the string does not occur.
abbrev pub BeginsWithString : (folds : Bool) → (string : List ℕ) → Tree → Type 0
BeginsWithString folds string t = (setting : Setting) → FoldsIf folds setting → (text : List ℕ) (s : MatchState) →
    occurs_at text s.position string ≡ false → steps setting text forwards t s ≡ []

-- the leaf that an instruction matches
abbrev pub leaf_of : List Test → Option Instruction → Option Test
leaf_of leaves (Some (insts.Leaf leaf next)) = slice_get leaves leaf
leaf_of leaves i = None

-- the leaf with which the preferred alternative of such a choice begins
abbrev pub first_leaf : List Test → List Instruction → (pc : ℕ) → Option Test
first_leaf leaves instructions pc =
    option_and_then (λ first. leaf_of leaves (slice_get instructions first)) (preferred pc (slice_get instructions pc))

-- There is such a leaf, and it begins with the string.
abbrev pub IsBegun : (folds : Bool) → (string : List ℕ) → Option Test → Type 0
IsBegun folds string None = ⊥
IsBegun folds string (Some test) = BeginsWithString folds string (tree test.node)

-- From the index `lowest` on there is a choice for each string, whose preferred alternative begins with a leaf that begins
-- with the string, and whose other one is the instruction before it.
abbrev pub AreChoices : (folds : Bool) → List Test → List Instruction → (lowest : ℕ) → List (List ℕ) → Type 0
AreChoices folds leaves instructions lowest strings = (k : ℕ) (string : List ℕ) → slice_get strings k ≡ Some string →
    IsBegun folds string (first_leaf leaves instructions (lowest + k))

-- The instructions match forwards, and the row has such choices.
pub record IsRow (folds : Bool) (leaves : List Test) (instructions : List Instruction) (backwards : Bool) (row : Row) : Type 0 where
  pub forwards : backwards ≡ false
  pub choices : AreChoices folds leaves instructions row.lowest (strings_of row.strings)

-- These are rows of the instructions.
abbrev pub AreRows : (folds : Bool) → List Row → List Test → List Instruction → (backwards : Bool) → Type 0
AreRows folds rows leaves instructions backwards = (i : ℕ) (row : Row) → slice_get rows i ≡ Some row → IsRow folds leaves instructions backwards row

-- The instruction with the index `pc` is a choice of the row.
abbrev pub IsChoiceOf : Row → (pc : ℕ) → Type 0
IsChoiceOf row pc = (row.lowest ≤ pc) × (pc < row.lowest + length (strings_of row.strings))

-- The instruction with the index `pc` is a choice of the row, and its string does not occur in the text at the position.
pub record IsPassed (row : Row) (text : List ℕ) (position pc : ℕ) : Type 0 where
  pub from : row.lowest ≤ pc
  pub string : List ℕ
  pub is : slice_get (strings_of row.strings) (pc - row.lowest) ≡ Some string
  pub fails : occurs_at text position string ≡ false

-- Each routine has its rows.
abbrev pub HaveRows : (folds : Bool) → List Test → List declared.Routine → List Analysis → Type 0
HaveRows folds leaves routines analyses = (i : ℕ) (a : Analysis) → slice_get analyses i ≡ Some a → (r : declared.Routine) → slice_get routines i ≡ Some r →
    AreRows folds a.rows.items leaves (listed r) r.backwards

IsBegun-prop : (folds : Bool) (string : List ℕ) (o : Option Test) → IsProp (IsBegun folds string o)
IsBegun-prop folds string None = hlevel props
IsBegun-prop folds string (Some test) = hlevel props

-- The property has at most one proof.
pub HaveRows-prop : (folds : Bool) (leaves : List Test) (routines : List declared.Routine) (analyses : List Analysis) → IsProp (HaveRows folds leaves routines analyses)
HaveRows-prop folds leaves routines analyses = hlevel (props, IsBegun-prop)
