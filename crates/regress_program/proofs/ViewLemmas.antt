-- What was compiled, for lists of nodes and strings from an index on.
use Rattle.std.proofs.Common.{◌≡◌, ℕ, ◌+◌, ◌-◌, ◌≤◌, ◌<◌, true, slice_get, List, [], ◌∷◌, length, drop, get_or, sym, ap, subst, ◌∙◌, arith}
use Rattle.std.proofs.lemmas.List.{drop_more, length-map}
use Rattle.regress_tree.specs.Reading.{forwards}
use Rattle.regress_tree.specs.Tree.{empty, goal, char, byte_sequence, byte_set, char_set, match_any, match_any_except_line_terminator, anchor, word_boundary, bracket, back_ref, string_set, Tree, leaf, cat, alt, wrapped, tree, trees}
use Rattle.regress_tree.specs.declared.ir.node.Node.{Node}
use Rattle.regress_leaves.specs.Leaves.{has_one_outcome}
use Rattle.regress_leaves.specs.declared.test.Test.{Test}
use Rattle.regress_program.specs.Compiled.{World, matching, Code, Compiled, HasRoutine, IsPattern}
use Rattle.regress_program.specs.Program.{matcher_of}
use Rattle.regress_program.specs.Shape.{IsPart, IsProgram}
use Rattle.regress_program.specs.Views.{op_in, ops_in, program_in}
use Rattle.regress_program.specs.declared.instruction.Instruction.{Instruction}
use Rattle.regress_program.specs.declared.instruction.Routine as declared
use Rattle.regress_program.proofs.CodeLemmas.{Extends-same}
use Rattle.regress_program.proofs.CompileLemmas.{compiled_nothing, compiled_then}

pub below : (leaves : List Test) (items : List Instruction) (next : ℕ) → next < length items → next < length (ops_in leaves items)
below leaves items next lt = omega (arith, length-map items (op_in leaves), lt)

-- ---- leaves

pub part_if_leaf : (t : Tree) → has_one_outcome t ≡ true → IsPart t
part_if_leaf (leaf empty) is = tt
part_if_leaf (leaf goal) is = tt
part_if_leaf (leaf (char c)) is = tt
part_if_leaf (leaf (byte_sequence bytes)) is = tt
part_if_leaf (leaf (byte_set members)) is = tt
part_if_leaf (leaf (char_set members)) is = tt
part_if_leaf (leaf match_any) is = tt
part_if_leaf (leaf match_any_except_line_terminator) is = tt
part_if_leaf (leaf (anchor kind multiline)) is = tt
part_if_leaf (leaf (word_boundary invert unicode_icase)) is = tt
part_if_leaf (leaf (bracket invert intervals)) is = tt
part_if_leaf (leaf (back_ref group icase)) is = tt
part_if_leaf (leaf (string_set ss icase)) is = cc
part_if_leaf (cat parts) is = cc
part_if_leaf (alt left right) is = cc
part_if_leaf (wrapped w body) is = cc

pub nothing_at_empty : (a : Code) (t : Tree) (next : ℕ) → t ≡ leaf empty → next < length a.ops → Compiled a a (matching t) next next
nothing_at_empty a t next is lt = subst (λ u. Compiled a a (matching u) next next) (sym is) (compiled_nothing a next lt)

pub nothing_at_goal : (a : Code) (t : Tree) (next : ℕ) → t ≡ leaf goal → next < length a.ops → Compiled a a (matching t) next next
nothing_at_goal a t next is lt = subst (λ u. Compiled a a (matching u) next next) (sym is) (compiled_nothing a next lt)

-- ---- sequences

pub from_index : {X : Type 0} (xs : List X) (i j : ℕ) (x : X) → j ≡ i - 1 → 0 < i → i ≤ length xs → x ≡ get_or xs j x → drop j xs ≡ x ∷ drop i xs
from_index xs i j x at some within is =
    let next : j + 1 ≡ i = omega (arith, at, some) in
    drop_more xs j x (omega (arith, at, some, within)) ∙ ap (λ y. y ∷ drop (j + 1) xs) (sym is) ∙ ap (λ k. x ∷ drop k xs) next

pub sequence_more : (a b c : Code) (parts : List Node) (i j : ℕ) (x : Node) (next entry entry' : ℕ) → j ≡ i - 1 → 0 < i → i ≤ length parts →
    x ≡ get_or parts j x → Compiled a b (matching (cat (trees (drop i parts)))) next entry → Compiled b c (matching (tree x)) entry entry' →
    Compiled a c (matching (cat (trees (drop j parts)))) next entry'
sequence_more a b c parts i j x next entry entry' at some within is rest first =
    subst (λ xs. Compiled a c (matching (cat (trees xs))) next entry') (sym (from_index parts i j x at some within is))
    (compiled_then a b c (matching (tree x)) (matching (cat (trees (drop i parts)))) next entry entry' rest first)

-- ---- the last routine

pub no_routines : (leaves : List Test) (routines : List declared.Routine) → routines ≡ [] → IsProgram (program_in leaves routines)
no_routines leaves routines none = subst (λ rs. IsProgram (program_in leaves rs)) (sym none) (λ i r is. let bad : ⊥ = cc in absurd bad)

pub is_pattern : (a b : Code) (t : Tree) (i : ℕ) → HasRoutine a b (matching t) forwards i → IsPattern b.routines t
is_pattern a b t i has =
    let last : length b.routines - 1 ≡ i = omega (arith, has.last) in
    record {
      routine = has.routine;
      last = ap (slice_get b.routines) last ∙ has.at_index;
      direction = has.direction;
      means = λ setting bytes outs solution s inside.
          let w : World b.routines = record {
            setting = setting;
            bytes = bytes;
            program = b.routines;
            outs = outs;
            extends = Extends-same b.routines;
            solution = solution;
          } in
          ap (λ k. matcher_of setting bytes b.routines outs k s) last ∙ has.means w s inside;
    }
