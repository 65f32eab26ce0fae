-- A tree as JSON (RFC 8259): one object for each node, whose `kind` and members are named as in `Node`.
use Rattle.std.specs.Prelude.{ℕ, ◌+◌, Bool, true, false, List, [], ◌∷◌, ◌++◌, codes, Option, Some, None, if◌then◌else◌, nat_le, ◌==◌, ◌||◌, ◌&&◌, map}
use Rattle.std.specs.Int.Digits.{digits_of}
use Rattle.std.specs.List.{join_by, slice_get}
use Rattle.regress_base.specs.Intervals.{Bounds}
use Rattle.regress_base.specs.declared.types.Flags.{Flags}
use Rattle.regress_base.specs.declared.types.Quantifier.{Quantifier}
use Rattle.regress_tree.specs.Display.{anchored, truth}
use Rattle.regress_tree.specs.Tree.{Leaf, empty, goal, char, byte_sequence, byte_set, char_set, match_any, match_any_except_line_terminator, anchor, word_boundary, bracket, back_ref, string_set, Wrapper, capture_group, loop, loop_one, lookaround, Tree, Trees, leaf, cat, alt, wrapped, no_trees, more_trees}
use Rattle.regress_tree.specs.Visits.{nodes, nodes_in_list}
use Rattle.regress_parse.specs.declared.span.Span.{Span}

-- the decimal digits of a number, the highest first; `0` for 0
unfoldable pub numeral : ℕ → List ℕ
numeral n = if n == 0 then codes "0" else map (λ d. 48 + d) (digits_of 10 n)

-- `[97,98]`
abbrev pub numbers : List ℕ → List ℕ
numbers ns = codes "[" ++ join_by numeral (codes ",") ns ++ codes "]"

-- `[97,122]`, for `a` to `z`
abbrev pub pair : ℕ → ℕ → List ℕ
pair first last = codes "[" ++ numeral first ++ codes "," ++ numeral last ++ codes "]"

-- an interval, as a pair of its first and its last code point
abbrev pub interval : Bounds → List ℕ
interval iv = pair iv.first iv.last

-- a number, or `null`
abbrev pub number_or_null : Option ℕ → List ℕ
number_or_null None = codes "null"
number_or_null (Some n) = numeral n

-- `{"min":2,"max":null,"greedy":true}`
abbrev pub quantifier : Quantifier → List ℕ
quantifier q = codes "{\"min\":" ++ numeral q.min ++ codes ",\"max\":" ++ number_or_null q.max ++ codes ",\"greedy\":" ++ truth q.greedy ++ codes "}"

-- an ASCII letter, a digit, `_`, `$`, or a byte of a character that isn't ASCII
abbrev pub is_word_byte : ℕ → Bool
is_word_byte b = (nat_le 48 b && nat_le b 57) || (nat_le 65 b && nat_le b 90) || (nat_le 97 b && nat_le b 122)
    || b == 95 || b == 36 || nat_le 128 b

-- each byte is a word byte
abbrev pub is_word : List ℕ → Bool
is_word [] = true
is_word (b ∷ bs) = is_word_byte b && is_word bs

-- a name: a string if each of its bytes is a word byte, as for every name of a pattern, else a list of its bytes;
-- `null` if there is none
abbrev pub name : Option (List ℕ) → List ℕ
name None = codes "null"
name (Some bytes) = if is_word bytes then codes "\"" ++ bytes ++ codes "\"" else numbers bytes

-- the object of a leaf of this kind with bytes, without its end
abbrev pub node_of_bytes : List ℕ → List ℕ → List ℕ
node_of_bytes kind bytes = codes "{\"kind\":\"" ++ kind ++ codes "\",\"bytes\":" ++ numbers bytes

-- the object of a leaf, without its end
abbrev pub leaf_json : Leaf → List ℕ
leaf_json empty = codes "{\"kind\":\"Empty\""
leaf_json goal = codes "{\"kind\":\"Goal\""
leaf_json (char c) = codes "{\"kind\":\"Char\",\"c\":" ++ numeral c
leaf_json (byte_sequence bytes) = node_of_bytes (codes "ByteSequence") bytes
leaf_json (byte_set bytes) = node_of_bytes (codes "ByteSet") bytes
leaf_json (char_set characters) = codes "{\"kind\":\"CharSet\",\"characters\":" ++ numbers characters
leaf_json match_any = codes "{\"kind\":\"MatchAny\""
leaf_json match_any_except_line_terminator = codes "{\"kind\":\"MatchAnyExceptLineTerminator\""
leaf_json (anchor kind multiline) = codes "{\"kind\":\"Anchor\",\"anchor_type\":\"" ++ anchored kind ++ codes "\",\"multiline\":" ++ truth multiline
leaf_json (word_boundary invert unicode_icase) =
    codes "{\"kind\":\"WordBoundary\",\"invert\":" ++ truth invert ++ codes ",\"unicode_icase\":" ++ truth unicode_icase
leaf_json (bracket invert intervals) =
    codes "{\"kind\":\"Bracket\",\"invert\":" ++ truth invert ++ codes ",\"cps\":[" ++ join_by interval (codes ",") intervals ++ codes "]"
leaf_json (back_ref group icase) = codes "{\"kind\":\"BackRef\",\"group\":" ++ numeral group ++ codes ",\"icase\":" ++ truth icase
leaf_json (string_set strings icase) =
    codes "{\"kind\":\"StringSet\",\"alternatives\":[" ++ join_by numbers (codes ",") strings ++ codes "],\"icase\":" ++ truth icase

-- the text before the node inside
abbrev pub front : Wrapper → List ℕ
front (capture_group id n) = codes "{\"kind\":\"CaptureGroup\",\"id\":" ++ numeral id ++ codes ",\"name\":" ++ name n ++ codes ",\"contents\":"
front (loop q start end) =
    codes "{\"kind\":\"Loop\",\"enclosed_groups\":" ++ pair start end ++ codes ",\"quant\":" ++ quantifier q ++ codes ",\"loopee\":"
front (loop_one q) = codes "{\"kind\":\"Loop1CharBody\",\"quant\":" ++ quantifier q ++ codes ",\"loopee\":"
front (lookaround negate backwards start end) = codes "{\"kind\":\"LookaroundAssertion\",\"negate\":" ++ truth negate
    ++ codes ",\"backwards\":" ++ truth backwards ++ codes ",\"start_group\":" ++ numeral start
    ++ codes ",\"end_group\":" ++ numeral end ++ codes ",\"contents\":"

-- the text before the nodes inside; all members, if there are none
abbrev pub opening : Tree → List ℕ
opening (leaf l) = leaf_json l
opening (cat parts) = codes "{\"kind\":\"Cat\",\"parts\":["
opening (alt left right) = codes "{\"kind\":\"Alt\",\"alternatives\":["
opening (wrapped w body) = front w

-- the text before a part
abbrev pub comma : Bool → List ℕ
comma first = if first then [] else codes ","

-- Objects whose nodes are numbered in postorder. The mark of a node's number is written at the end of its object.
module _ (mark : ℕ → List ℕ) where
  -- the end of the object of the node with this number
  abbrev pub ending : ℕ → List ℕ
  ending number = mark number ++ codes "}"

  -- `at` is the number of the first node
  abbrev mutual
    -- An `Alt` whose right side is another `Alt` is one object with the alternatives of both; the number of the right
    -- one is skipped.
    pub node_json : (at : ℕ) → Tree → List ℕ
    node_json at (leaf l) = opening (leaf l) ++ ending at
    node_json at (cat parts) = opening (cat parts) ++ list_json at true parts ++ (codes "]" ++ ending (at + nodes_in_list parts))
    node_json at (alt left right) =
        opening (alt left right) ++ (node_json at left ++ further_json (at + nodes left) right)
        ++ (codes "]" ++ ending (at + (nodes left + nodes right)))
    node_json at (wrapped w body) = opening (wrapped w body) ++ node_json at body ++ ending (at + nodes body)

    -- the alternatives after the first one
    pub further_json : (at : ℕ) → Tree → List ℕ
    further_json at (leaf l) = codes "," ++ (opening (leaf l) ++ ending at)
    further_json at (cat parts) = codes "," ++ (opening (cat parts) ++ list_json at true parts ++ (codes "]" ++ ending (at + nodes_in_list parts)))
    further_json at (alt left right) = codes "," ++ (node_json at left ++ further_json (at + nodes left) right)
    further_json at (wrapped w body) = codes "," ++ (opening (wrapped w body) ++ node_json at body ++ ending (at + nodes body))

    -- parts, separated by commas; the flag is true for the first part of a `Cat`
    pub list_json : (at : ℕ) → Bool → Trees → List ℕ
    list_json at first no_trees = []
    list_json at first (more_trees t ts) = comma first ++ (node_json at t ++ list_json (at + nodes t) false ts)

-- `{"icase":false,"multiline":false,"dot_all":false,"unicode":false,"unicode_sets":false}`
abbrev pub flags_json : Flags → List ℕ
flags_json f = codes "{\"icase\":" ++ truth f.icase ++ codes ",\"multiline\":" ++ truth f.multiline ++ codes ",\"dot_all\":" ++ truth f.dot_all
    ++ codes ",\"unicode\":" ++ truth f.unicode ++ codes ",\"unicode_sets\":" ++ truth f.unicode_sets ++ codes "}"

-- the span of a node, if it is known
abbrev pub span_or_none : Option Span → List ℕ
span_or_none None = []
span_or_none (Some s) = codes ",\"span\":[" ++ numeral s.start ++ codes "," ++ numeral s.end ++ codes "]"

-- the span with that number
abbrev pub span_mark : List Span → ℕ → List ℕ
span_mark spans number = span_or_none (slice_get spans number)

-- a pattern: its flags, and its tree with the spans of its nodes in postorder
abbrev pub spanned_json_of : Flags → Tree → List Span → List ℕ
spanned_json_of f t spans = codes "{\"flags\":" ++ flags_json f ++ codes ",\"node\":" ++ node_json (span_mark spans) 0 t ++ codes "}"

-- a pattern without spans
abbrev pub json_of : Flags → Tree → List ℕ
json_of f t = spanned_json_of f t []
