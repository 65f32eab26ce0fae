-- Linear programs: those without back references, and in which no lookaround that succeeds changes captures.
use Rattle.std.specs.Prelude.{◌==◌, if◌then◌else◌, Bool, true, false, not, ◌&&◌, ◌||◌, List, nat_lt, slice_get, Option, Some, None}
use Rattle.std.specs.List.{list_all, list_any}
use Rattle.regress_base.specs.declared.types.Quantifier.{Quantifier}
use Rattle.regress_tree.specs.Shapes.{is_zero}
use Rattle.regress_tree.specs.Tree.{back_ref, Wrapper, capture_group, loop, loop_one, lookaround, Tree, Trees, leaf, cat, alt, wrapped, no_trees, more_trees}
use Rattle.regress_program.specs.declared.nonlinear.Nonlinear.{Nonlinear}
use Rattle.regress_program.specs.declared.nonlinear.Nonlinear.TheVariants.{BackReference, CapturingLookaround}
use Rattle.regress_program.specs.Program.{Op, part, unsets, end_group, look, Routine}

-- The loop has no iterations, so it has no instructions.
abbrev pub is_never : Quantifier → Bool
is_never q = (q.min == 0) && is_zero q.max

-- the node is such a loop
abbrev pub never_runs : Wrapper → Bool
never_runs (loop quantifier start end) = is_never quantifier
never_runs (loop_one quantifier) = is_never quantifier
never_runs w = false

module _ (test : Tree → Bool) where
  -- Some node outside of loops without iterations passes the test.
  abbrev mutual
    pub some_compiled : Tree → Bool
    some_compiled (leaf l) = test (leaf l)
    some_compiled (cat parts) = test (cat parts) || some_compiled_of parts
    some_compiled (alt left right) = test (alt left right) || (some_compiled left || some_compiled right)
    some_compiled (wrapped w body) = not (never_runs w) && (test (wrapped w body) || some_compiled body)

    pub some_compiled_of : Trees → Bool
    some_compiled_of no_trees = false
    some_compiled_of (more_trees t ts) = some_compiled t || some_compiled_of ts

-- the tree is a back reference
abbrev pub is_back_ref : Tree → Bool
is_back_ref (leaf (back_ref group icase)) = true
is_back_ref t = false

-- The tree has a back reference, other than in a loop without iterations.
abbrev pub has_back_reference : Tree → Bool
has_back_reference = some_compiled is_back_ref

-- The part has a capture group, or a loop around one, other than in a lookaround or in a loop without iterations.
abbrev mutual
  pub changes_some : Tree → Bool
  changes_some (leaf l) = false
  changes_some (cat parts) = changes_some_of parts
  changes_some (alt left right) = changes_some left || changes_some right
  changes_some (wrapped (capture_group id name) body) = true
  changes_some (wrapped (loop quantifier start end) body) = not (is_never quantifier) && (nat_lt start end || changes_some body)
  changes_some (wrapped (loop_one quantifier) body) = not (is_never quantifier) && changes_some body
  changes_some (wrapped (lookaround negate backwards start end) body) = false

  pub changes_some_of : Trees → Bool
  changes_some_of no_trees = false
  changes_some_of (more_trees t ts) = changes_some t || changes_some_of ts

-- the node is a lookaround that is not negated, and whose body does
abbrev pub is_capturing_node : Tree → Bool
is_capturing_node (wrapped (lookaround negate backwards start end) body) = not negate && changes_some body
is_capturing_node t = false

-- The tree has such a lookaround, other than in a loop without iterations.
abbrev pub has_capturing_lookaround : Tree → Bool
has_capturing_lookaround = some_compiled is_capturing_node

-- The tree is linear: it has neither.
abbrev pub is_linear_tree : Tree → Bool
is_linear_tree t = not (has_back_reference t) && not (has_capturing_lookaround t)

-- Why the tree is not linear: it has a back reference, or if not, a lookaround that captures; none if it is linear.
abbrev pub reason_of : Tree → Option Nonlinear
reason_of t =
    if has_back_reference t then Some BackReference
    else if has_capturing_lookaround t then Some CapturingLookaround
    else None

-- the instruction is a back reference
abbrev pub is_back_reference : Op → Bool
is_back_reference (part t next) = is_back_ref t
is_back_reference op = false

-- the instruction sets or resets a capture
abbrev pub changes_captures : Op → Bool
changes_captures (unsets start end next) = nat_lt start end
changes_captures (end_group id next) = true
changes_captures op = false

-- an instruction of the routine sets or resets a capture
abbrev pub is_capturing : Option Routine → Bool
is_capturing None = false
is_capturing (Some r) = list_any changes_captures r.ops

-- the instruction is a lookaround that is not negated, and whose routine sets or resets a capture
abbrev pub is_capturing_lookaround : List Routine → Op → Bool
is_capturing_lookaround program (look negate routine next) = not negate && is_capturing (slice_get program routine)
is_capturing_lookaround program op = false

-- The instruction is linear: it is neither of these.
abbrev pub is_linear_op : List Routine → Op → Bool
is_linear_op program op = not (is_back_reference op) && not (is_capturing_lookaround program op)

-- The program is linear: each instruction is.
abbrev pub is_linear : List Routine → Bool
is_linear program = list_all (λ r. list_all (is_linear_op program) r.ops) program

-- The instruction is of this kind.
abbrev pub is_reason : List Routine → Nonlinear → Op → Bool
is_reason program BackReference op = is_back_reference op
is_reason program CapturingLookaround op = is_capturing_lookaround program op

-- An instruction of the program is of this kind.
abbrev pub has_reason : List Routine → Nonlinear → Bool
has_reason program why = list_any (λ r. list_any (is_reason program why) r.ops) program

-- Why the program is not linear: it has a back reference, or if not, a lookaround that captures; none if it is linear.
abbrev pub reason : List Routine → Option Nonlinear
reason program =
    if has_reason program BackReference then Some BackReference
    else if has_reason program CapturingLookaround then Some CapturingLookaround
    else None
