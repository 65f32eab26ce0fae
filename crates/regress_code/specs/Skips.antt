-- The choices that a run skips, by the byte next to its position.
use Rattle.std.specs.Prelude.{◌≡◌, ℕ, ◌-◌, ◌<◌, Bool, true, false, not, List, [], length, slice_get, get_or, Option, Some, None, option_and_then}
use Rattle.std.proofs.Props.{props}
use Rattle.regress_base.specs.ByteBitmap.{contains}
use Rattle.regress_base.specs.declared.bytesearch.bitmap.ByteBitmap.{ByteBitmap}
use Rattle.regress_tree.specs.Reading.{Direction}
use Rattle.regress_code.specs.declared.analysis.Analysis.{Analysis}
use Rattle.regress_code.specs.declared.next_bytes.NextBytes.{NextBytes}
use Rattle.regress_code.specs.declared.next_bytes.NextBytes.TheVariants as kinds
use Rattle.regress_program.specs.Listed.{listed}
use Rattle.regress_program.specs.declared.instruction.Instruction.{Instruction}
use Rattle.regress_program.specs.declared.instruction.Routine as declared
use Rattle.regress_code.specs.declared.skips.Skip.{Skip}
use Rattle.regress_code.specs.declared.skips.Skip.TheVariants as skips
use Rattle.regress_code.specs.Choices.{preferred}
use Rattle.regress_code.specs.NextBytes.{next_to}

-- There are next bytes, and they exclude the byte.
abbrev pub is_excluded : Option NextBytes → (b : ℕ) → Bool
is_excluded (Some (kinds.Bytes set)) b = not (contains set b)
is_excluded (Some kinds.Any) b = false
is_excluded None b = false

-- The instruction with the index `pc` is a choice between an alternative whose next bytes exclude the byte, and the
-- instruction before it.
abbrev pub is_skipped : List NextBytes → (b pc : ℕ) → Option Instruction → Bool
is_skipped next_bytes b pc i = is_excluded (option_and_then (slice_get next_bytes) (preferred pc i)) b

-- This holds of each byte outside the set.
abbrev pub IsPreferred : List NextBytes → (pc : ℕ) → Option Instruction → ByteBitmap → Type 0
IsPreferred next_bytes pc i set = (b : ℕ) → contains set b ≡ false → is_skipped next_bytes b pc i ≡ true

-- this holds of `count` instructions from `pc` downwards
abbrev pub AreSkipped : List NextBytes → List Instruction → (b pc count : ℕ) → Type 0
AreSkipped next_bytes instructions b pc count = (j : ℕ) → j < count → is_skipped next_bytes b (pc - j) (slice_get instructions (pc - j)) ≡ true

-- For each byte the list has a number of instructions that are skipped from `pc` on.
abbrev pub AreCounts : List NextBytes → List Instruction → (pc : ℕ) → List ℕ → Type 0
AreCounts next_bytes instructions pc counts = (b n : ℕ) → slice_get counts b ≡ Some n → AreSkipped next_bytes instructions b pc n

-- the counts of a skip, none if it has none
abbrev pub counts_in : Skip → List ℕ
counts_in skips.Unknown = []
counts_in (skips.Counts counts) = counts.items
counts_in (skips.Row row) = []

-- These are the skips of the instructions.
abbrev pub AreSkips : List Skip → List NextBytes → List Instruction → Type 0
AreSkips all next_bytes instructions = (pc : ℕ) (p : Skip) → slice_get all pc ≡ Some p → AreCounts next_bytes instructions pc (counts_in p)

-- Each routine has its skips.
abbrev pub HaveSkips : List declared.Routine → List Analysis → Type 0
HaveSkips routines analyses = (i : ℕ) (a : Analysis) → slice_get analyses i ≡ Some a → (r : declared.Routine) → slice_get routines i ≡ Some r →
    AreSkips a.skips.items a.next_bytes.items (listed r)

-- The byte is next to the position, which is neither the start nor the end of the text.
pub record IsBeside (d : Direction) (text : List ℕ) (position b : ℕ) : Type 0 where
  pub after : 0 < position
  pub before : position < length text
  pub is : get_or text (next_to d position) 0 ≡ b
  pub small : b < 256

-- The property has at most one proof.
pub HaveSkips-prop : (routines : List declared.Routine) (analyses : List Analysis) → IsProp (HaveSkips routines analyses)
HaveSkips-prop routines analyses = hlevel props
