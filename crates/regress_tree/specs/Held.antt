-- The body of a wrapper.
use denote.RattleType.{RattleType}
use Rattle.std.specs.Prelude.{◌≡◌, Bool, true, false, Option, OnSome}
use Rattle.std.specs.Borrow.{MutBor}
use Rattle.std.specs.contracts.alloc.Global as global
use Rattle.std.specs.contracts.boxed.Box as box
use Rattle.std.specs.contracts.impls.GlobalAllocator.TheImpl.{ghosts}
use Rattle.std.specs.declared.alloc.Global.{Global}
use Rattle.std.specs.declared.boxed.Box.{Box}
use Rattle.regress_tree.specs.contracts.ir.node.Node.{the_row}
use Rattle.regress_tree.specs.declared.ir.node.Node.{Node}
use Rattle.regress_tree.specs.Tree.{Wrapper, Tree, wrapped, tree}
use Rattle.regress_tree.specs.Visits.{is_backwards_in}

-- The node has a body: it is a group, a loop or a lookaround.
abbrev pub is_wrapper : Tree → Bool
is_wrapper (wrapped w body) = true
is_wrapper t = false

-- The tree is a wrapper with this body.
pub record HasBody (t body : Tree) : Type 0 where
  pub wrapper : Wrapper
  pub is : t ≡ wrapped wrapper body

-- a wrapper with its body replaced, or any other tree unchanged
abbrev pub with_body : Tree → Tree → Tree
with_body (wrapped w old) body = wrapped w body
with_body t body = t

-- whether the body of a tree is matched backwards, given whether the tree is
abbrev pub body_is_backwards : Tree → Bool → Bool
body_is_backwards (wrapped w body) lookbehind = is_backwards_in w lookbehind
body_is_backwards t lookbehind = lookbehind

-- the type of a box of a node, in the logic
abbrev pub box_list : RattleType
box_list = box.the_row the_row global.the_row ghosts

-- The final value of a node whose body was borrowed.
abbrev pub BodyAfter : Option (MutBor (Box Node Global)) → Node → Node → Box Node Global → Type 0
BodyAfter lent old new body = OnSome lent (tree new ≡ with_body (tree old) (tree body.value))
