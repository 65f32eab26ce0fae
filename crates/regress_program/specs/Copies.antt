-- Instructions whose copies are not stored.
use Rattle.std.specs.Prelude.{◌≡◌, ℕ, zero, suc, ◌+◌, ◌-◌, ◌*◌, ◌≤◌, ◌<◌, nat_lt, if◌then◌else◌, List, [], ◌∷◌, ◌++◌, All, length, map, take, drop, slice_get, Option, Some, None}
use Rattle.regress_program.specs.declared.copies.Copies.{Copies}
use Rattle.regress_program.specs.declared.instruction.Instruction.{Instruction}
use Rattle.regress_program.specs.declared.instruction.Instruction.TheVariants as insts

-- The index of an instruction, where those from `from` on have moved by n.
abbrev pub shift : (from n : ℕ) → ℕ → ℕ
shift from n pc = if nat_lt pc from then pc else pc + n

-- an instruction, where those that it names have other indices
abbrev pub renamed_in : (ℕ → ℕ) → Instruction → Instruction
renamed_in f insts.Accept = insts.Accept
renamed_in f insts.Fail = insts.Fail
renamed_in f (insts.Leaf leaf next) = insts.Leaf leaf (f next)
renamed_in f (insts.Characters leaf count next) = insts.Characters leaf count (f next)
renamed_in f (insts.Split first second) = insts.Split (f first) (f second)
renamed_in f (insts.BeginLoop greedy body next) = insts.BeginLoop greedy (f body) (f next)
renamed_in f (insts.Repeat greedy body next) = insts.Repeat greedy (f body) (f next)
renamed_in f (insts.EndLoop next) = insts.EndLoop (f next)
renamed_in f (insts.Unset start end next) = insts.Unset start end (f next)
renamed_in f (insts.BeginGroup next) = insts.BeginGroup (f next)
renamed_in f (insts.EndGroup id next) = insts.EndGroup id (f next)
renamed_in f (insts.Look negate routine next) = insts.Look negate routine (f next)

-- the instructions that an instruction names
abbrev pub names : Instruction → List ℕ
names insts.Accept = []
names insts.Fail = []
names (insts.Leaf leaf next) = next ∷ []
names (insts.Characters leaf count next) = next ∷ []
names (insts.Split first second) = first ∷ second ∷ []
names (insts.BeginLoop greedy body next) = body ∷ next ∷ []
names (insts.Repeat greedy body next) = body ∷ next ∷ []
names (insts.EndLoop next) = next ∷ []
names (insts.Unset start end next) = next ∷ []
names (insts.BeginGroup next) = next ∷ []
names (insts.EndGroup id next) = next ∷ []
names (insts.Look negate routine next) = next ∷ []

-- The instruction names only some of the first n.
abbrev pub NamesBelow : (n : ℕ) → Instruction → Type 0
NamesBelow n i = All (λ k. k < n) (names i)

-- an instruction that names moved ones
abbrev pub moved_in : (from n : ℕ) → Instruction → Instruction
moved_in from n i = renamed_in (shift from n) i

module _ {X : Type 0} (move : X → X) where
  -- the last `width` elements once more, changed
  abbrev pub again : (width : ℕ) → List X → List X
  again width xs = xs ++ map move (drop (length xs - width) xs)

  -- the same `count` times
  abbrev pub times : (width count : ℕ) → List X → List X
  times width zero xs = xs
  times width (suc count) xs = times width count (again width xs)

-- the index after the copies
abbrev pub end_of : Copies → ℕ
end_of r = r.start + r.count * r.width

-- copies, and the stored instructions after them
abbrev pub with_copies : (stored : List Instruction) → (before : ℕ → List Instruction) → (k : ℕ) → Option Copies → List Instruction
with_copies stored before k None = before k
with_copies stored before k (Some r) = times (moved_in r.from r.width) r.width r.count (before r.stored) ++ take (k - r.stored) (drop r.stored stored)

module _ (stored : List Instruction) (copies : List Copies) where
  -- all instructions, by the first j copies and the first k stored instructions
  abbrev pub expand : (j k : ℕ) → List Instruction
  expand zero k = take k stored
  expand (suc j) k = with_copies stored (λ s. expand j s) k (slice_get copies j)

  -- all instructions
  abbrev pub expanded : List Instruction
  expanded = expand (length copies) (length stored)

  -- The copies j are of the last instructions before them.
  pub record IsCopies (j : ℕ) (r : Copies) : Type 0 where
    pub start : r.start ≡ length (expand j r.stored)
    pub some : 0 < r.width
    pub fits : r.width ≤ r.start
    pub from_start : r.from + r.width ≤ r.start
    pub within : r.stored ≤ length stored
    pub named : (pc : ℕ) (i : Instruction) → r.start ≤ pc + r.width → slice_get (expand j r.stored) pc ≡ Some i → NamesBelow r.start i
    -- after those before them
    pub before : (i : ℕ) (s : Copies) → suc i ≡ j → slice_get copies i ≡ Some s → s.stored ≤ r.stored

  abbrev pub AreCopies : Type 0
  AreCopies = (j : ℕ) (r : Copies) → slice_get copies j ≡ Some r → IsCopies j r
