-- No leaf so far tells the two apart.
use Rattle.std.proofs.Common.{◌≡◌, ◌<◌, ℕ, true, Some, slice_get}
use Rattle.regress_leaves.specs.declared.test.Test.{Test}
use Rattle.regress_prefilter.specs.OneCharacter.{takes_one, test_of}
use Rattle.regress_tree.specs.Tree.{tree}
use Rattle.regress_tables.proofs.symbols.are_alike.Given as goal

abbrev pub invariant-loop-test : goal.invariant-loop-test
invariant-loop-test l = (i : ℕ) (t : Test) → i < l.test-index → slice_get l.tests i ≡ Some t → takes_one (tree t.node) ≡ true →
    test_of (tree t.node) l.a ≡ test_of (tree t.node) l.b
