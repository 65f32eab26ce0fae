-- The spine of an alternation, which is the chain of its right sides, with its links reversed: each `Alt` on it has its
-- left side, and instead of its right side the `Alt` above it.
use Rattle.std.specs.Prelude.{◌≡◌, ℕ, ◌+◌, Bool, true, false}
use Rattle.regress_tree.specs.Tree.{Tree, alt}
use Rattle.regress_tree.specs.Shapes.{LacksShape}

-- The node is an `Alt`.
abbrev pub is_alt : Tree → Bool
is_alt (alt left right) = true
is_alt t = false

-- An `Alt` with its left side is moved from the top of one tree to the top of another.
pub record Shifted (from onto from' onto' : Tree) : Type 0 where
  pub left : Tree
  pub was : from ≡ alt left from'
  pub is : onto' ≡ alt left onto

-- the whole tree, with t at the end of the spine
abbrev pub reattach : Tree → Tree → Tree
reattach (alt left above) t = reattach above (alt left t)
reattach none t = t

-- the number of `Alt`s on the reversed spine
abbrev pub spine_length : Tree → ℕ
spine_length (alt left above) = spine_length above + 1
spine_length none = 0

-- No node in a left side has the shape.
abbrev pub LeftsLackShape : (Tree → Bool) → Tree → Type 0
LeftsLackShape shape (alt left above) = LacksShape shape left × LeftsLackShape shape above
LeftsLackShape shape none = Unit {0}
