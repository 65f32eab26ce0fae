-- The nodes that have no object of their own in the JSON. No public contract cites this.
use Rattle.std.specs.Prelude.{ℕ, ◌+◌}
use Rattle.regress_tree.specs.Tree.{Tree, alt}

-- the number of `Alt`s on the right spine of a right side
abbrev pub alternations : Tree → ℕ
alternations (alt left right) = 1 + alternations right
alternations other = 0
