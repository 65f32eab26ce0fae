-- Instructions that have been moved: copies of earlier ones.
use Rattle.std.specs.Prelude.{◌≡◌, ℕ, ◌+◌, ◌≤◌, ◌<◌, List, length, slice_get, Some}
use Rattle.regress_program.specs.Compiled.{Extends, Code}
use Rattle.regress_program.specs.Copies.{shift}
use Rattle.regress_program.specs.Program.{Op, accept, fail, part, split, begin_loop, repeat, end_loop, unsets, begin_group, end_group, look, Out}

-- an instruction, where those that it names have other indices
abbrev pub renamed : (ℕ → ℕ) → Op → Op
renamed f accept = accept
renamed f fail = fail
renamed f (part t next) = part t (f next)
renamed f (split first second) = split (f first) (f second)
renamed f (begin_loop greedy body next) = begin_loop greedy (f body) (f next)
renamed f (repeat greedy body next) = repeat greedy (f body) (f next)
renamed f (end_loop next) = end_loop (f next)
renamed f (unsets start end next) = unsets start end (f next)
renamed f (begin_group next) = begin_group (f next)
renamed f (end_group id next) = end_group id (f next)
renamed f (look negate routine next) = look negate routine (f next)

-- an instruction that names moved ones
abbrev pub moved_op : (from n : ℕ) → Op → Op
moved_op from n op = renamed (shift from n) op

-- outcomes, where each instruction goes on as the moved one
abbrev pub moved_out : (from n : ℕ) → Out → Out
moved_out from n out a = out (record a { pc = shift from n a.pc })

-- The instructions low to high - 1 of `ops` are also in `others`, moved by n.
pub record HasMoved (from n low high : ℕ) (ops others : List Op) : Type 0 where
  pub same : (i : ℕ) (op : Op) → low ≤ i → i < high → slice_get ops i ≡ Some op → slice_get others (i + n) ≡ Some (moved_op from n op)

-- Instructions have been added to c, which is then e: those that have been added to a, which is then b, moved by n.
-- Those from `from` on are named by moved indices.
pub record Moves (a b c e : Code) (from n : ℕ) : Type 0 where
  pub before : Extends b.routines c.routines
  pub routines : e.routines ≡ c.routines
  pub after : from ≤ length a.ops
  pub start : length c.ops ≡ length a.ops + n
  pub end : length e.ops ≡ length b.ops + n
  pub kept : (i : ℕ) → i < length c.ops → slice_get e.ops i ≡ slice_get c.ops i
  pub moved : (i : ℕ) (op : Op) → length a.ops ≤ i → slice_get b.ops i ≡ Some op → slice_get e.ops (i + n) ≡ Some (moved_op from n op)
  pub left : e.left + length e.ops ≡ c.left + length c.ops
