-- What is warned of in an alternation, given the trees of its two sides. `a|b|c` is `Alt(a, Alt(b, c))`, so each
-- alternative but the last is a left side, and the next one is on the right.
use Rattle.std.specs.Prelude.{ℕ, ◌-◌, Bool, true, false, not, ◌&&◌, ◌||◌, ◌==◌, List, ◌∷◌, drop}
use Rattle.regress_base.specs.declared.types.AnchorType.{AnchorType}
use Rattle.regress_base.specs.declared.types.AnchorType.TheVariants.{StartOfLine, EndOfLine}
use Rattle.regress_tree.specs.NodeTests.{is_empty}
use Rattle.regress_tree.specs.Tree.{Leaf, char, char_set, anchor, Tree, Trees, leaf, cat, alt, no_trees, more_trees}
use Rattle.regress_lexer.specs.Source.{Source, bar, is_at}
use Rattle.regress_parse.specs.declared.span.Span.{Span}

-- The source of the alternation begins with `|`, or the last alternative is `Empty` and the source ends with `|`. The
-- second is not so for `(?:)`, which may be meant, nor for the empty string of a class.
abbrev pub has_empty_alternative : Source → Span → (right : Tree) → Bool
has_empty_alternative source span right =
    is_at bar (drop span.start source) || is_empty right && is_at bar (drop (span.end - 1) source)

-- the first alternative of a right side
abbrev pub first_alternative : Tree → Tree
first_alternative (alt left right) = left
first_alternative t = t

-- the parts of an alternative
abbrev pub parts_of : Tree → Trees
parts_of (cat parts) = parts
parts_of t = more_trees t no_trees

-- ---- an alternative that the one before it hides

abbrev pub same_first : List ℕ → List ℕ → Bool
same_first (c ∷ cs) (d ∷ ds) = c == d
same_first cs ds = false

-- Both are a literal, and match the same characters: one, or with the flag i its case variants. Two such sets are the
-- same, or share no character.
abbrev pub same_literal : Leaf → Leaf → Bool
same_literal (char c) (char d) = c == d
same_literal (char_set cs) (char_set ds) = same_first cs ds
same_literal l m = false

abbrev pub are_same_literal : Tree → Tree → Bool
are_same_literal (leaf l) (leaf m) = same_literal l m
are_same_literal t u = false

-- The first list has only literals, and the second one begins with them.
abbrev pub begins_with : (literals parts : Trees) → Bool
begins_with no_trees us = true
begins_with (more_trees t ts) no_trees = false
begins_with (more_trees t ts) (more_trees u us) = are_same_literal t u && begins_with ts us

-- The alternative after the left side begins with all of it.
abbrev pub hides_next : (left right : Tree) → Bool
hides_next left right = begins_with (parts_of left) (parts_of (first_alternative right))

-- ---- anchors that belong to one alternative only

abbrev pub same_anchor : AnchorType → AnchorType → Bool
same_anchor StartOfLine StartOfLine = true
same_anchor EndOfLine EndOfLine = true
same_anchor a b = false

abbrev pub is_anchor_leaf : AnchorType → Leaf → Bool
is_anchor_leaf kind (anchor a multiline) = same_anchor kind a
is_anchor_leaf kind l = false

-- the tree is `^` or `$`
abbrev pub is_anchor : AnchorType → Tree → Bool
is_anchor kind (leaf l) = is_anchor_leaf kind l
is_anchor kind t = false

abbrev pub some_part_is_anchor : AnchorType → Trees → Bool
some_part_is_anchor kind no_trees = false
some_part_is_anchor kind (more_trees t ts) = is_anchor kind t || some_part_is_anchor kind ts

-- A part of the alternative is `^` or `$`.
abbrev pub has_anchor : AnchorType → Tree → Bool
has_anchor kind t = some_part_is_anchor kind (parts_of t)

-- the alternative has the one anchor and not the other one
abbrev pub has_only : (kind other : AnchorType) → Tree → Bool
has_only kind other t = has_anchor kind t && not (has_anchor other t)

-- Of these alternatives the last one has `$` and no `^`, and the others have neither.
abbrev pub ends_with_anchor : Tree → Bool
ends_with_anchor (alt left right) = not (has_anchor StartOfLine left) && not (has_anchor EndOfLine left) && ends_with_anchor right
ends_with_anchor t = has_only EndOfLine StartOfLine t

-- The left side has `^` and no `$`, the last alternative has `$` and no `^`, and those between have neither.
abbrev pub splits_anchors : (left right : Tree) → Bool
splits_anchors left right = has_only StartOfLine EndOfLine left && ends_with_anchor right
