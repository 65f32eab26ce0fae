-- A program that is being compiled, as plain data.
use Rattle.std.specs.Prelude.{◌≡◌, ◌<◌, ◌≤◌, ◌⊎◌, true, false, ℕ, ◌+◌, List, length}
use Rattle.regress_tree.specs.Reading.{Direction}
use Rattle.regress_base.specs.declared.types.Quantifier.{Quantifier}
use Rattle.regress_leaves.specs.declared.test.Test.{Test}
use Rattle.regress_prefilter.specs.OneCharacter.{takes_one}
use Rattle.regress_tree.specs.Repetition.{iteration}
use Rattle.regress_tree.specs.Tree.{Tree}
use Rattle.regress_program.specs.Adds.{Covers, CoversRoutine, Holds, HoldsRoutine}
use Rattle.regress_program.specs.Compiled.{Matching, matching, repeated, Code, Compiled, HasRoutine}
use Rattle.regress_program.specs.Contents.{Contents, nothing, in_iteration, in_iterations}
use Rattle.regress_program.specs.LeavesOf.{HasLeaves}
use Rattle.regress_program.specs.Listed.{Appends, all_of, stored_total}
use Rattle.regress_program.specs.Program.{Op}
use Rattle.regress_program.specs.Pushed.{Pushed}
use Rattle.regress_program.specs.Size.{every, is_copied, size_of_iteration, sized, stored_of}
use Rattle.regress_program.specs.Views.{leaf_in, ops_in, program_in}
use Rattle.regress_program.specs.declared.counts.Counts.{Counts}
use Rattle.regress_program.specs.declared.loops.Iterations.{Iterations}
use Rattle.regress_program.specs.declared.compiler.Compiler.{Compiler}

-- the finished routines, the instructions of the next one, and what the limit allows, with these leaves
abbrev pub code_in : List Test → Compiler → Code
code_in leaves c = record { routines = program_in leaves c.routines.items; ops = ops_in leaves (all_of c.instructions); left = c.left }

-- Instructions have been added, which start at `entry`, and whose meaning is known with each list of leaves.
pub record Coded (old new : Compiler) (entry : ℕ) (Means : List Test → Type 0) : Type 0 where
  pub begins : entry < length (all_of new.instructions)
  pub appends : Appends old.instructions new.instructions
  pub means : (leaves : List Test) → Means leaves

-- With these leaves, the instructions that have been added match f from `entry` on, and then go on at `next`. They are of
-- the part c of the pattern, have all that it contains, and are tidy from `entry` on if it is. They name n leaves from
-- `from` on.
pub record EmitsWith (leaves : List Test) (old new : Compiler) (from n : ℕ) (f : Matching) (c : Contents) (next entry : ℕ) : Type 0 where
  pub after : new.next_leaf ≡ from + n
  pub compiled : Compiled (code_in leaves old) (code_in leaves new) f next entry
  pub holds : Holds (code_in leaves old) (code_in leaves new) c next entry
  pub covers : Covers (code_in leaves old) (code_in leaves new) c

-- This holds with leaves that are these trees from `from` on.
abbrev pub Emits : (old new : Compiler) → (from : ℕ) → List Tree → Matching → Contents → (next entry : ℕ) → Type 0
Emits old new from ts f c next entry =
    Coded old new entry (λ leaves. HasLeaves leaves from ts → EmitsWith leaves old new from (length ts) f c next entry)

-- The same for a number of copies. Without any, no leaf is named, and nothing that the part contains is added.
pub record CopiesWith (leaves : List Test) (old new : Compiler) (from n copies : ℕ) (f : Matching) (c : Contents) (next entry : ℕ) : Type 0 where
  pub after : 0 < copies → new.next_leaf ≡ from + n
  pub compiled : Compiled (code_in leaves old) (code_in leaves new) f next entry
  pub holds : Holds (code_in leaves old) (code_in leaves new) c next entry
  pub covers : 0 < copies → Covers (code_in leaves old) (code_in leaves new) c

abbrev pub EmitsCopies : (old new : Compiler) → (from : ℕ) → List Tree → (copies : ℕ) → Matching → Contents → (next entry : ℕ) → Type 0
EmitsCopies old new from ts copies f c next entry =
    Coded old new entry (λ leaves. HasLeaves leaves from ts → CopiesWith leaves old new from (length ts) copies f c next entry)

-- With these leaves, the instructions that have been added match f, and contain no back reference and change no group.
pub record CharactersWith (leaves : List Test) (old new : Compiler) (f : Matching) (next entry : ℕ) : Type 0 where
  pub compiled : Compiled (code_in leaves old) (code_in leaves new) f next entry
  pub holds : Holds (code_in leaves old) (code_in leaves new) nothing next entry

-- The instructions that have been added match characters with one leaf.
abbrev pub EmitsCharacters : (old new : Compiler) → (leaf : ℕ) → (Matching → Matching) → (next entry : ℕ) → Type 0
EmitsCharacters old new leaf f next entry = Coded old new entry (λ leaves. takes_one (leaf_in leaves leaf) ≡ true →
    CharactersWith leaves old new (f (matching (leaf_in leaves leaf))) next entry)

-- the same, with those of the routine that is being compiled
abbrev pub stored_in : Compiler → ℕ
stored_in c = length c.instructions.stored.items + stored_total c.routines.items

-- Instructions have been added, those of finished routines included. Their number depends on how many of n iterations
-- count: those that are stored, or all. Copies of a lookaround share its routine, so there may be less than all.
pub record Spends (old new : Compiler) (counts : Counts) (n : (counted : ℕ → ℕ) → ℕ) : Type 0 where
  pub stored : new.stored_left + n (stored_of counts) ≡ old.stored_left
  pub all : old.left ≤ new.left + n every
  pub exact : is_copied counts ≡ false → new.left + n every ≡ old.left
  pub room : new.left + length (all_of new.instructions) ≤ old.left + length (all_of old.instructions)
  pub kept : new.stored_left + stored_in new ≡ old.stored_left + stored_in old

-- That many more exceed the limits.
abbrev pub Exceeds : Compiler → Counts → (n : (counted : ℕ → ℕ) → ℕ) → Type 0
Exceeds c counts n = (c.stored_left < n (stored_of counts)) ⊎ (c.left < n every)

-- The instruction at the end has been added.
pub record EmitsOne (old new : Compiler) (op : List Test → Op) (at : ℕ) : Type 0 where
  pub at_end : at ≡ length (all_of old.instructions)
  pub grown : length (all_of new.instructions) ≡ length (all_of old.instructions) + 1
  pub means : (leaves : List Test) → Pushed (code_in leaves old) (code_in leaves new) (op leaves) at

-- With these leaves, the last routine has been added, which matches f in the direction d. It changes only groups that the
-- part c changes, and what has been added is of the part, and has all that it contains. It names n leaves.
pub record RoutineWith (leaves : List Test) (old new : Compiler) (n : ℕ) (f : Matching) (c : Contents) (d : Direction) (i : ℕ) : Type 0 where
  pub after : new.next_leaf ≡ old.next_leaf + n
  pub has : HasRoutine (code_in leaves old) (code_in leaves new) f d i
  pub holds : HoldsRoutine (code_in leaves old) (code_in leaves new) c i
  pub covers : CoversRoutine (code_in leaves old) (code_in leaves new) c i

-- This holds with leaves that are these trees from the next one on.
pub record EmitsRoutine (old new : Compiler) (ts : List Tree) (f : Matching) (c : Contents) (d : Direction) (i : ℕ) : Type 0 where
  pub same : new.instructions ≡ old.instructions
  pub means : (leaves : List Test) → HasLeaves leaves old.next_leaf ts → RoutineWith leaves old new (length ts) f c d i

-- one iteration of a loop over f
abbrev pub iterating : Iterations → Matching → Matching
iterating i f d setting bytes = iteration i.start i.end (f d setting bytes)

-- what an iteration contains, and what such iterations do, of a body that contains c
abbrev pub iteration_of : Iterations → Contents → Contents
iteration_of i c = in_iteration i.start i.end c

abbrev pub loop_of : Iterations → Contents → Contents
loop_of i c = in_iterations (iteration_of i c)

-- a loop over f
abbrev pub looping : Iterations → Quantifier → Matching → Matching
looping i q f = repeated q i.start i.end f

-- how many instructions one iteration of a loop over the tree has
abbrev pub iteration_size : Iterations → Tree → (counted : ℕ → ℕ) → ℕ
iteration_size i t counted = size_of_iteration i.counts i.start i.end (sized i.counts counted t)
