-- The left side of an `Alt`.
use Rattle.std.specs.Prelude.{◌≡◌, Option, OnSome}
use Rattle.std.specs.Borrow.{MutBor}
use Rattle.std.specs.declared.alloc.Global.{Global}
use Rattle.std.specs.declared.boxed.Box.{Box}
use Rattle.regress_tree.specs.declared.ir.node.Node.{Node}
use Rattle.regress_tree.specs.Tree.{Tree, alt, tree}

-- The tree is an `Alt` with this left side.
pub record HasLeft (t left : Tree) : Type 0 where
  pub right : Tree
  pub is : t ≡ alt left right

-- an `Alt` with its left side replaced, or any other tree unchanged
abbrev pub with_left : Tree → Tree → Tree
with_left (alt old right) left = alt left right
with_left t left = t

-- The final value of a node whose left side was borrowed.
abbrev pub LeftAfter : Option (MutBor (Box Node Global)) → Node → Node → Box Node Global → Type 0
LeftAfter lent old new left = OnSome lent (tree new ≡ with_left (tree old) (tree left.value))
