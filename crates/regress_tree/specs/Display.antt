-- The printed form of a tree: a line for each node, each node before its children.
use Rattle.std.specs.Prelude.{ℕ, ◌-◌, Bool, true, false, List, [], ◌++◌, length, min, replicate, codes, flat_map, Option, Some, None, if◌then◌else◌, nat_le}
use Rattle.std.specs.List.{join_by, repeat}
use Rattle.std.specs.Fmt.{decimal, digits}
use Rattle.regress_base.specs.Intervals.{Bounds}
use Rattle.regress_base.specs.declared.types.AnchorType.{AnchorType}
use Rattle.regress_base.specs.declared.types.AnchorType.TheVariants.{StartOfLine, EndOfLine}
use Rattle.regress_base.specs.declared.types.Quantifier.{Quantifier}
use Rattle.regress_tree.specs.Tree.{Leaf, empty, goal, char, byte_sequence, byte_set, char_set, match_any, match_any_except_line_terminator, anchor, word_boundary, bracket, back_ref, string_set, Wrapper, capture_group, loop, loop_one, lookaround, Tree, Trees, leaf, cat, alt, wrapped, no_trees, more_trees}
use Rattle.regress_tree.specs.Visits.{deeper}

-- `true` or `false`
abbrev pub truth : Bool → List ℕ
truth b = if b then codes "true" else codes "false"

-- a number in lower-case hexadecimal, without leading zeros
abbrev pub hexadecimal : ℕ → List ℕ
hexadecimal n = digits 16 false n

-- a code point as `U+0041`: upper case, at least four digits
abbrev pub code_point : ℕ → List ℕ
code_point c = let numeral = digits 16 true c in codes "U+" ++ replicate (4 - length numeral) 48 ++ numeral

-- an interval as `U+0041-U+005A`
abbrev pub interval : Bounds → List ℕ
interval iv = code_point iv.first ++ codes "-" ++ code_point iv.last

-- a maximum as `None` or `Some(2)`
abbrev pub maximum : Option ℕ → List ℕ
maximum None = codes "None"
maximum (Some n) = codes "Some(" ++ decimal n ++ codes ")"

-- a quantifier as `Quantifier { min: 2, max: Some(2), greedy: true }`
abbrev pub quantifier : Quantifier → List ℕ
quantifier q = codes "Quantifier { min: " ++ decimal q.min ++ codes ", max: " ++ maximum q.max ++ codes ", greedy: " ++ truth q.greedy ++ codes " }"

-- the name of a kind of anchor
abbrev pub anchored : AnchorType → List ℕ
anchored StartOfLine = codes "StartOfLine"
anchored EndOfLine = codes "EndOfLine"

-- the text on the line of a node that contains no node
abbrev pub leaf_text : Leaf → List ℕ
leaf_text empty = codes "Empty"
leaf_text goal = codes "Goal"
leaf_text (char c) = codes "'" ++ decimal c ++ codes "'"
leaf_text (byte_sequence bytes) = codes "ByteSeq" ++ decimal (length bytes) ++ codes " 0x" ++ flat_map hexadecimal bytes
leaf_text (byte_set bytes) = codes "ByteSet" ++ decimal (length bytes) ++ flat_map (λ b. codes " 0x" ++ hexadecimal b) bytes
leaf_text (char_set characters) = codes "CharSet " ++ join_by (λ c. codes "0x" ++ hexadecimal c) (codes ", ") characters
leaf_text match_any = codes "MatchAny"
leaf_text match_any_except_line_terminator = codes "MatchAnyExceptLineTerminator"
leaf_text (anchor kind multiline) = codes "Anchor " ++ anchored kind ++ codes " multiline=" ++ truth multiline
leaf_text (word_boundary false unicode_icase) = codes "WordBoundary \"\\\\b\" "
leaf_text (word_boundary true unicode_icase) = codes "WordBoundary \"\\\\B\" "
leaf_text (bracket invert intervals) = codes "Bracket BracketContents { invert: " ++ truth invert
    ++ codes ", cps: CodePointSet { ivs: [" ++ join_by interval (codes ", ") intervals ++ codes "] } }"
leaf_text (back_ref group icase) = codes "BackRef " ++ decimal group ++ codes " "
leaf_text (string_set strings icase) = codes "StringSet count=" ++ decimal (length strings) ++ codes ", icase=" ++ truth icase

-- the text on the line of a node with a body
abbrev pub wrapper_text : Wrapper → List ℕ
wrapper_text (capture_group id None) = codes "CaptureGroup " ++ decimal id
wrapper_text (capture_group id (Some name)) = codes "CaptureGroup " ++ decimal id ++ codes " \"" ++ name ++ codes "\""
wrapper_text (loop q start end) = codes "Loop (groups " ++ decimal start ++ codes ".." ++ decimal end ++ codes ") " ++ quantifier q
wrapper_text (loop_one q) = codes "Loop1Char " ++ quantifier q
wrapper_text (lookaround negate backwards start end) = codes "LookaroundAssertion "
    ++ (if negate then codes "negative " else codes "positive ") ++ (if backwards then codes "backwards " else codes "forwards ")
    ++ decimal start ++ codes " " ++ decimal end

-- the text on the line of a node
abbrev pub node_text : Tree → List ℕ
node_text (leaf l) = leaf_text l
node_text (cat parts) = codes "Cat"
node_text (alt left right) = codes "Alt"
node_text (wrapped w body) = wrapper_text w

-- The indent at a depth: two dots for each node around, at most 120 times, and then the excess as a number.
abbrev pub indent : ℕ → List ℕ
indent depth = repeat (min depth 120) (codes "..") ++ (if nat_le depth 120 then [] else codes "(+" ++ decimal (depth - 120) ++ codes ").. ")

-- the line with this text, at a depth
abbrev pub line : ℕ → List ℕ → List ℕ
line depth text = indent depth ++ text ++ codes "\n"

-- the lines of a tree whose root is at a depth
abbrev mutual
  pub printed_at : ℕ → Tree → List ℕ
  printed_at depth (leaf l) = line depth (leaf_text l)
  printed_at depth (cat parts) = line depth (codes "Cat") ++ printed_in_list (deeper depth) parts
  printed_at depth (alt left right) = line depth (codes "Alt") ++ (printed_at (deeper depth) left ++ printed_at (deeper depth) right)
  printed_at depth (wrapped w body) = line depth (wrapper_text w) ++ printed_at (deeper depth) body

  pub printed_in_list : ℕ → Trees → List ℕ
  printed_in_list depth no_trees = []
  printed_in_list depth (more_trees t ts) = printed_at depth t ++ printed_in_list depth ts

-- the lines of a whole tree
abbrev pub printed : Tree → List ℕ
printed t = printed_at 0 t
