-- Characters that no leaf tells apart.
use Rattle.std.proofs.Common.{zero, suc, ◌≡◌, ℕ, true, List, [], ◌∷◌, map, slice_get, Option, Some, None, refl, sym, ap, subst}
use Rattle.std.proofs.lemmas.Option.{none-some, same_Some}
use Rattle.regress_leaves.specs.declared.test.Test.{Test}
use Rattle.regress_prefilter.specs.OneCharacter.{takes_one, test_of}
use Rattle.regress_program.specs.Program.{Op, part}
use Rattle.regress_program.specs.Views.{characters_of, op_in, ops_in, part_of}
use Rattle.regress_program.specs.declared.instruction.Instruction.{Instruction}
use Rattle.regress_program.specs.declared.instruction.Instruction.TheVariants as insts
use Rattle.regress_tree.specs.Tree.{Tree, tree}
use Rattle.regress_tables.specs.Symbols.{AreAlike, AreAlikeIn}

-- No instruction tells apart what no leaf does.
pub alike-in : (leaves : List Test) (items : List Instruction) (a b : ℕ) → AreAlike leaves a b → AreAlikeIn (ops_in leaves items) a b
alike-in leaves items a b alike pc t next is one = by items pc is
  where
    tree-of : Op → Option Tree
    tree-of (part t next) = Some t
    tree-of op = None

    of-leaf : (i : ℕ) (o : Option Test) (n : ℕ) → slice_get leaves i ≡ o → part_of o n ≡ part t next → test_of t a ≡ test_of t b
    of-leaf i None n at e = let same = same_Some _ _ (ap tree-of e) in let bad = subst (λ x. takes_one x ≡ true) (sym same) one in cc
    of-leaf i (Some test) n at e =
        let same = same_Some (tree test.node) t (ap tree-of e) in
        subst (λ x. test_of x a ≡ test_of x b) same (alike i test at (subst (λ x. takes_one x ≡ true) (sym same) one))

    of-characters : (o : Option Test) (count n : ℕ) → characters_of o count n ≡ part t next → test_of t a ≡ test_of t b
    of-characters o count n e = let bad = subst (λ x. takes_one x ≡ true) (sym (same_Some _ _ (ap tree-of e))) one in cc

    of : (i : Instruction) → op_in leaves i ≡ part t next → test_of t a ≡ test_of t b
    of insts.Accept e = cc
    of insts.Fail e = cc
    of (insts.Leaf i n) e = of-leaf i (slice_get leaves i) n refl e
    of (insts.Characters i count n) e = of-characters (slice_get leaves i) count n e
    of (insts.Split first second) e = cc
    of (insts.BeginLoop greedy body n) e = cc
    of (insts.Repeat greedy body n) e = cc
    of (insts.EndLoop n) e = cc
    of (insts.Unset start end n) e = cc
    of (insts.BeginGroup n) e = cc
    of (insts.EndGroup id n) e = cc
    of (insts.Look negate routine n) e = cc

    by : (xs : List Instruction) (k : ℕ) → slice_get (map (op_in leaves) xs) k ≡ Some (part t next) → test_of t a ≡ test_of t b
    by [] k e = absurd (none-some (part t next) e)
    by (x ∷ xs) zero e = of x (same_Some (op_in leaves x) (part t next) e)
    by (x ∷ xs) (suc k) e = by xs k e
