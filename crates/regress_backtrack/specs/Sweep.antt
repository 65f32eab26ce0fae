-- Loops over one character, whose iterations are run at once.
use Rattle.std.specs.Prelude.{◌≡◌, ℕ, ◌<◌, true, false, length, slice_get, Some}
use Rattle.regress_base.specs.declared.bytesearch.bitmap.ByteBitmap.{ByteBitmap}
use Rattle.regress_backtrack.specs.declared.alternatives.Looping.{Looping}
use Rattle.regress_backtrack.specs.declared.input.Input.{Input}
use Rattle.regress_program.specs.declared.instruction.Instruction.TheVariants as insts
use Rattle.regress_leaves.specs.declared.start.Start.TheVariants as starts
use Rattle.regress_leaves.specs.declared.test.Test.{Test}
use Rattle.regress_backtrack.specs.Next.{instructions_in}
use Rattle.regress_code.specs.Possessive.{IsCharacter}

-- The body of the greedy loop is a leaf that matches one character, forwards, and goes on at the end of an iteration.
pub record IsSwept (input : Input) (looping : Looping) (set : ByteBitmap) (repeat_pc : ℕ) : Type 0 where
  pub leaf : ℕ
  pub test : Test
  pub body : slice_get (instructions_in input) looping.body ≡ Some (insts.Leaf leaf repeat_pc)
  pub repeat_in : repeat_pc < length (instructions_in input)
  pub repeats : slice_get (instructions_in input) repeat_pc ≡ Some (insts.Repeat true looping.body looping.next)
  pub is_test : slice_get input.code.now.program.leaves.items leaf ≡ Some test
  pub starts : test.start ≡ starts.Ascii set
  pub forwards : input.rules.backwards ≡ false

-- The instruction `pc` matches a leaf that matches one character, and goes on at `next`. The set has the ASCII characters
-- that the leaf matches.
pub record IsCharacterAt (input : Input) (pc next : ℕ) (set : ByteBitmap) : Type 0 where
  pub inside : pc < length (instructions_in input)
  pub character : IsCharacter input.code.now.program.leaves.items (instructions_in input) pc next set
