-- Instructions and routines as plain data, with the leaves that they name.
use Rattle.std.specs.Prelude.{ℕ, false, [], List, map, Option, Some, None, slice_get}
use Rattle.regress_leaves.specs.Leaves.{exactly}
use Rattle.regress_leaves.specs.declared.test.Test.{Test}
use Rattle.regress_tree.specs.Reading.{direction_if}
use Rattle.regress_tree.specs.Tree.{Tree, tree, leaf, string_set}
use Rattle.regress_program.specs.Listed.{listed}
use Rattle.regress_program.specs.Program.{Op, accept, fail, part, split, begin_loop, repeat, end_loop, unsets, begin_group, end_group, look, Routine}
use Rattle.regress_program.specs.declared.instruction.Instruction.{Instruction}
use Rattle.regress_program.specs.declared.instruction.Instruction.TheVariants as insts
use Rattle.regress_program.specs.declared.instruction.Routine as declared

-- what a leaf matches; none is a set without strings, which matches nothing
abbrev pub leaf_tree : Option Test → Tree
leaf_tree None = leaf (string_set [] false)
leaf_tree (Some t) = tree t.node

-- the leaf with an index
abbrev pub leaf_in : List Test → ℕ → Tree
leaf_in leaves i = leaf_tree (slice_get leaves i)

-- what an instruction with this leaf does
abbrev pub part_of : Option Test → (next : ℕ) → Op
part_of t next = part (leaf_tree t) next

-- what an instruction does that matches a number of characters with this leaf
abbrev pub characters_of : Option Test → (count next : ℕ) → Op
characters_of t count next = part (exactly count (leaf_tree t)) next

-- what an instruction does, with these leaves
abbrev pub op_in : List Test → Instruction → Op
op_in leaves insts.Accept = accept
op_in leaves insts.Fail = fail
op_in leaves (insts.Leaf i next) = part_of (slice_get leaves i) next
op_in leaves (insts.Characters i count next) = characters_of (slice_get leaves i) count next
op_in leaves (insts.Split first second) = split first second
op_in leaves (insts.BeginLoop greedy body next) = begin_loop greedy body next
op_in leaves (insts.Repeat greedy body next) = repeat greedy body next
op_in leaves (insts.EndLoop next) = end_loop next
op_in leaves (insts.Unset start end next) = unsets start end next
op_in leaves (insts.BeginGroup next) = begin_group next
op_in leaves (insts.EndGroup id next) = end_group id next
op_in leaves (insts.Look negate routine next) = look negate routine next

-- what a list of instructions does
abbrev pub ops_in : List Test → List Instruction → List Op
ops_in leaves = map (op_in leaves)

-- what a routine does
abbrev pub routine_in : List Test → declared.Routine → Routine
routine_in leaves r = record { ops = ops_in leaves (listed r); entry = r.entry; direction = direction_if r.backwards }

-- what the routines of a program do
abbrev pub program_in : List Test → List declared.Routine → List Routine
program_in leaves = map (routine_in leaves)
