-- Leaves that match one character.
use Rattle.std.specs.Prelude.{ℕ, Bool, true, false, not, ◌==◌, List, length, Option, Some, None, if◌then◌else◌}
use Rattle.regress_base.specs.Brackets.{is_accepted}
use Rattle.regress_base.specs.Listing.{lists}
use Rattle.regress_tree.specs.Assertions.{is_line_terminator}
use Rattle.regress_tree.specs.Reading.{Read, read_after}
use Rattle.regress_tree.specs.Tree.{Leaf, char, byte_sequence, byte_set, char_set, match_any, match_any_except_line_terminator, bracket, Tree, leaf}

-- the character that was read, if the position after it is n
abbrev pub up_to_position : ℕ → Option Read → Option ℕ
up_to_position n None = None
up_to_position n (Some read) = if read.position == n then Some read.character else None

-- the character whose UTF-8 encoding is exactly these bytes, if there is one
abbrev pub sole_character : List ℕ → Option ℕ
sole_character written = up_to_position (length written) (read_after written 0)

-- whether there is a character
abbrev pub is_one : Option ℕ → Bool
is_one None = false
is_one (Some c) = true

-- whether the character is x
abbrev pub is_this : Option ℕ → ℕ → Bool
is_this None x = false
is_this (Some c) x = x == c

-- the leaf matches exactly one character, one that passes its test
abbrev pub takes_one_leaf : Leaf → Bool
takes_one_leaf (char c) = true
takes_one_leaf (byte_sequence written) = is_one (sole_character written)
takes_one_leaf (byte_set members) = true
takes_one_leaf (char_set members) = true
takes_one_leaf match_any = true
takes_one_leaf match_any_except_line_terminator = true
takes_one_leaf (bracket invert intervals) = true
takes_one_leaf l = false

-- the tree is a leaf that matches exactly one character
abbrev pub takes_one : Tree → Bool
takes_one (leaf l) = takes_one_leaf l
takes_one t = false

-- whether the leaf matches the character
abbrev pub leaf_test : Leaf → ℕ → Bool
leaf_test (char c) x = x == c
leaf_test (byte_sequence written) x = is_this (sole_character written) x
leaf_test (byte_set members) x = lists members x
leaf_test (char_set members) x = lists members x
leaf_test match_any x = true
leaf_test match_any_except_line_terminator x = not (is_line_terminator x)
leaf_test (bracket invert intervals) x = is_accepted invert intervals x
leaf_test l x = false

-- the test of a tree that is a leaf
abbrev pub test_of : Tree → ℕ → Bool
test_of (leaf l) x = leaf_test l x
test_of t x = false
