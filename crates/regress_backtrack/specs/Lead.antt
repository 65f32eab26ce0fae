-- Loops over one character at the start of a pattern.
use Rattle.std.specs.Prelude.{◌≡◌, ◌⊎◌, ℕ, ◌+◌, ◌≤◌, ◌<◌, true, false, List, length, slice_get, slice_index, IfSome, MatchOption, Some}
use Rattle.regress_base.specs.ByteBitmap.{contains}
use Rattle.regress_base.specs.declared.bytesearch.bitmap.ByteBitmap.{ByteBitmap}
use Rattle.regress_backtrack.specs.declared.input.Input.{Input}
use Rattle.regress_backtrack.specs.declared.lead.Lead.{Lead}
use Rattle.regress_code.specs.Possessive.{IsPossessive}
use Rattle.regress_leaves.specs.Starts.{AreIn}
use Rattle.regress_program.specs.declared.instruction.Instruction.TheVariants as insts
use Rattle.regress_backtrack.specs.Next.{instructions_in}
use Rattle.regress_backtrack.specs.Sweep.{IsCharacterAt, IsSwept}

-- The instruction `pc` begins a greedy loop without a maximum, whose body is a leaf that matches one character, forwards.
pub record IsBegun (input : Input) (lead : Lead) (pc : ℕ) : Type 0 where
  pub repeat_pc : ℕ
  pub swept : IsSwept input lead.looping lead.set.now repeat_pc
  pub body_in : lead.looping.body < length (instructions_in input)
  pub pc_in : pc < length (instructions_in input)
  pub begins : slice_get (instructions_in input) pc ≡ Some (insts.BeginLoop true lead.looping.body lead.looping.next)
  pub possessive : lead.possessive ≡ true → IsPossessive input.next_bytes.now input.code.now.program.leaves.items (instructions_in input) repeat_pc

-- The instruction `pc` matches a leaf that matches one character, and then the loop begins.
pub record BeginsAfterOne (input : Input) (lead : Lead) (pc : ℕ) (before : ByteBitmap) : Type 0 where
  pub next : ℕ
  pub one : IsCharacterAt input pc next before
  pub begun : IsBegun input lead next

-- The instruction `pc` begins the loop, or matches the leaf before it.
abbrev pub BeginsAt : Input → Lead → (pc : ℕ) → Type 0
BeginsAt input lead pc = MatchOption lead.before (IsBegun input lead pc) (λ before. BeginsAfterOne input lead pc before.now)

-- The instruction `first` tries such a leaf, and after it goes on at `pc`, or goes on there without it.
pub record IsOptional (input : Input) (first pc : ℕ) (optional : ByteBitmap) : Type 0 where
  pub choice : ℕ
  pub first_in : first < length (instructions_in input)
  pub splits : slice_get (instructions_in input) first ≡ Some (insts.Split choice pc)
  pub one : IsCharacterAt input choice pc optional

-- The instruction `pc` begins a capture group with these contents.
pub record BeginsGroup (input : Input) (pc contents : ℕ) : Type 0 where
  pub inside : pc < length (instructions_in input)
  pub begins : slice_get (instructions_in input) pc ≡ Some (insts.BeginGroup contents)

-- Either `contents` is the instruction `pc`, or these are the contents of a capture group that begins there.
abbrev pub LeadsInto : Input → (pc contents : ℕ) → Type 0
LeadsInto input pc contents = (contents ≡ pc) ⊎ BeginsGroup input pc contents

-- The loop, with the leaf before it if there is one, begins at `pc`, or in a capture group that begins there.
pub record BeginsWithin (input : Input) (lead : Lead) (pc : ℕ) : Type 0 where
  pub contents : ℕ
  pub into : LeadsInto input pc contents
  pub begins : BeginsAt input lead contents
  pub ungrouped : lead.grouped ≡ false → contents ≡ pc

-- It begins at `first`, or after an optional leaf that begins there.
pub record BeginsFrom (input : Input) (lead : Lead) (first : ℕ) : Type 0 where
  pub pc : ℕ
  pub optional : MatchOption lead.optional (pc ≡ first) (λ optional. IsOptional input first pc optional.now)
  pub rest : BeginsWithin input lead pc

-- It begins at the start of the routine, or in a capture group that begins there.
pub record IsLead (input : Input) (lead : Lead) : Type 0 where
  pub start : ℕ
  pub into : LeadsInto input input.first start
  pub begins : BeginsFrom input lead start
  pub ungrouped : lead.grouped ≡ false → start ≡ input.first

-- The character at the position is an ASCII character of the set.
pub record IsIn (set : ByteBitmap) (text : List ℕ) (position : ℕ) : Type 0 where
  pub inside : position < length text
  pub ascii : slice_index text position < 128
  pub member : contains set (slice_index text position) ≡ true

-- From `low` on the leaf before the loop, if there is one, and the loop match characters up to `end`.
pub record IsLed (lead : Lead) (text : List ℕ) (low end : ℕ) : Type 0 where
  pub loop : ℕ
  pub count : ℕ
  pub begins : MatchOption lead.before (loop ≡ low) (λ before. (loop ≡ low + 1) × IsIn before.now text low)
  pub are_in : AreIn lead.set.now text loop count
  pub within : loop + count ≤ length text
  pub ends : end ≡ loop + count

-- No optional leaf matches the ASCII character at the position.
abbrev pub IsRequired : Lead → (text : List ℕ) → (position : ℕ) → Type 0
IsRequired lead text position = IfSome lead.optional (λ optional. IsIn optional.now text position → ⊥)

-- The character at the position is ASCII, and there is a leaf before the loop, which does not match it.
pub record IsBeforeLeaf (lead : Lead) (text : List ℕ) (position : ℕ) : Type 0 where
  pub inside : position < length text
  pub ascii : slice_index text position < 128
  pub other : MatchOption lead.before ⊥ (λ before. IsIn before.now text position → ⊥)
