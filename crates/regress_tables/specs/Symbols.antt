-- Characters that leaves do not tell apart.
use Rattle.std.specs.Prelude.{◌≡◌, ℕ, true, List, slice_get, Some}
use Rattle.regress_leaves.specs.declared.test.Test.{Test}
use Rattle.regress_prefilter.specs.OneCharacter.{takes_one, test_of}
use Rattle.regress_program.specs.Program.{Op, part}
use Rattle.regress_tree.specs.Tree.{Tree, tree}

-- No leaf that matches one character tells the two apart.
abbrev pub AreAlike : List Test → (a b : ℕ) → Type 0
AreAlike tests a b = (i : ℕ) (t : Test) → slice_get tests i ≡ Some t → takes_one (tree t.node) ≡ true → test_of (tree t.node) a ≡ test_of (tree t.node) b

-- No instruction that matches one character does.
abbrev pub AreAlikeIn : List Op → (a b : ℕ) → Type 0
AreAlikeIn ops a b = (pc : ℕ) (t : Tree) (next : ℕ) → slice_get ops pc ≡ Some (part t next) → takes_one t ≡ true → test_of t a ≡ test_of t b
