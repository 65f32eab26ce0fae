-- Possessive loops: what follows begins with none of their characters.
use Rattle.std.specs.Prelude.{◌≡◌, ℕ, ◌<◌, Bool, true, List, length, slice_get, Some}
use Rattle.std.proofs.Props.{props}
use Rattle.regress_base.specs.ByteBitmap.{contains}
use Rattle.regress_base.specs.declared.bytesearch.bitmap.ByteBitmap.{ByteBitmap}
use Rattle.regress_leaves.specs.declared.start.Start.TheVariants as starts
use Rattle.regress_leaves.specs.declared.test.Test.{Test}
use Rattle.regress_program.specs.Listed.{listed}
use Rattle.regress_program.specs.declared.instruction.Instruction.{Instruction}
use Rattle.regress_program.specs.declared.instruction.Instruction.TheVariants as insts
use Rattle.regress_program.specs.declared.instruction.Routine as declared
use Rattle.regress_code.specs.declared.analysis.Analysis.{Analysis}
use Rattle.regress_code.specs.declared.next_bytes.NextBytes.{NextBytes}
use Rattle.regress_code.specs.Skips.{is_excluded}

-- The instruction with the index `pc` matches a leaf that matches one character, and goes on at `next`. The set has the
-- ASCII characters that the leaf matches.
pub record IsCharacter (leaves : List Test) (instructions : List Instruction) (pc next : ℕ) (set : ByteBitmap) : Type 0 where
  pub leaf : ℕ
  pub test : Test
  pub is : slice_get instructions pc ≡ Some (insts.Leaf leaf next)
  pub is_test : slice_get leaves leaf ≡ Some test
  pub starts : test.start ≡ starts.Ascii set

-- The instruction with the index `pc` ends an iteration of a greedy loop over such a leaf, and `next` follows the loop.
pub record IsLoopOver (leaves : List Test) (instructions : List Instruction) (pc next : ℕ) (set : ByteBitmap) : Type 0 where
  pub body : ℕ
  pub is : slice_get instructions pc ≡ Some (insts.Repeat true body next)
  pub character : IsCharacter leaves instructions body pc set

-- The next bytes of an instruction exclude each ASCII character of the set.
abbrev pub ExcludesAscii : List NextBytes → (pc : ℕ) → ByteBitmap → Type 0
ExcludesAscii next_bytes pc set = (b : ℕ) → b < 128 → contains set b ≡ true → is_excluded (slice_get next_bytes pc) b ≡ true

-- The instruction with the index `pc` and the body of the loop whose iteration it ends are among the instructions. If
-- the loop is such a one, the next bytes of what follows exclude each ASCII character that the leaf matches.
pub record IsPossessive (next_bytes : List NextBytes) (leaves : List Test) (instructions : List Instruction) (pc : ℕ) : Type 0 where
  pub inside : pc < length instructions
  pub body : (body next : ℕ) → slice_get instructions pc ≡ Some (insts.Repeat true body next) → body < length instructions
  pub excludes : (next : ℕ) (set : ByteBitmap) → IsLoopOver leaves instructions pc next set → ExcludesAscii next_bytes next set

-- This holds of each instruction that is marked.
abbrev pub ArePossessive : List Bool → List NextBytes → List Test → List Instruction → Type 0
ArePossessive possessive next_bytes leaves instructions = (pc : ℕ) → slice_get possessive pc ≡ Some true → IsPossessive next_bytes leaves instructions pc

-- This holds in each routine.
abbrev pub HavePossessive : List Test → List declared.Routine → List Analysis → Type 0
HavePossessive leaves routines analyses = (i : ℕ) (a : Analysis) → slice_get analyses i ≡ Some a → (r : declared.Routine) → slice_get routines i ≡ Some r →
    ArePossessive a.possessive.items a.next_bytes.items leaves (listed r)

-- The property has at most one proof.
pub HavePossessive-prop : (leaves : List Test) (routines : List declared.Routine) (analyses : List Analysis) → IsProp (HavePossessive leaves routines analyses)
HavePossessive-prop leaves routines analyses = hlevel props
