-- The minimum length of a leaf's matches in bytes.
use Rattle.std.specs.Prelude.{ℕ, length}
use Rattle.regress_front.specs.Tree.{Leaf, char, byte_sequence, byte_set, char_set, match_any, match_any_except_line_terminator, bracket, Tree, leaf}

-- a character counts as one byte, and a backreference or a set of strings as none
abbrev pub least_of_leaf : Leaf → ℕ
least_of_leaf (byte_sequence bytes) = length bytes
least_of_leaf (char c) = 1
least_of_leaf (byte_set bytes) = 1
least_of_leaf (char_set characters) = 1
least_of_leaf (bracket invert intervals) = 1
least_of_leaf match_any = 1
least_of_leaf match_any_except_line_terminator = 1
least_of_leaf l = 0

-- a node that is not a leaf counts as none
abbrev pub least_here : Tree → ℕ
least_here (leaf l) = least_of_leaf l
least_here t = 0
