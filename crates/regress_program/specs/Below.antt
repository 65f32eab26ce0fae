-- The order in which the states of a routine are evaluated.
use Rattle.std.specs.Prelude.{ℕ, ◌+◌, ◌-◌, ◌*◌, ◌≤◌, ◌<◌, Bool, if◌then◌else◌}
use Rattle.regress_tree.specs.Reading.{Direction, forwards, backwards}
use Rattle.regress_program.specs.Program.{At}

-- the number of rows before that of a position
abbrev pub row_of : Direction → (length position : ℕ) → ℕ
row_of forwards length position = length - position
row_of backwards length position = position

-- the index of a state in its row
abbrev pub column : (width : ℕ) (moved : Bool) (pc : ℕ) → ℕ
column width moved pc = if moved then width + pc else pc

-- the number of states of a routine before a state, in the order in which they are evaluated
unfoldable pub place : (width length : ℕ) → Direction → (pc : ℕ) (moved : Bool) (position : ℕ) → ℕ
place width length d pc moved position = row_of d length position * (2 * width) + column width moved pc

-- a routine's states before that at one place are evaluated before it
abbrev pub place_of : (width length : ℕ) → Direction → At → ℕ
place_of width length d a = place width length d a.pc a.moved a.state.position

-- The state b is evaluated before a. It is inside the routine and the text.
pub record Below (width length : ℕ) (d : Direction) (a b : At) : Type 0 where
  pub pc : b.pc < width
  pub position : b.state.position ≤ length
  pub lower : place_of width length d b < place_of width length d a
