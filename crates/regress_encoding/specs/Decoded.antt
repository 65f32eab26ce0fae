-- The tree that a list of words encodes. A list that encodes no tree decodes to some tree.
use Rattle.std.specs.Prelude.{ℕ, zero, suc, ◌+◌, ◌*◌, ◌^◌, Bool, ◌==◌, if◌then◌else◌, List, [], ◌∷◌, length, Option, Some, None}
use Rattle.regress_base.specs.Intervals.{Bounds}
use Rattle.regress_base.specs.declared.types.AnchorType.{AnchorType}
use Rattle.regress_base.specs.declared.types.AnchorType.TheVariants.{StartOfLine, EndOfLine}
use Rattle.regress_base.specs.declared.types.Quantifier.{Quantifier}
use Rattle.regress_tree.specs.Tree.{Leaf, empty, goal, char, byte_sequence, byte_set, char_set, match_any, match_any_except_line_terminator, anchor, word_boundary, bracket, back_ref, string_set, Wrapper, capture_group, loop, loop_one, lookaround, Tree, Trees, leaf, cat, alt, wrapped, no_trees, more_trees}

-- the value that is decoded at the start of the words, and the remaining words
abbrev pub Reads : Type 0 → Type 0
Reads A = List ℕ → A × List ℕ

-- one word, or 0 where none remains
abbrev pub read_word : Reads ℕ
read_word [] = (0, [])
read_word (w ∷ ws) = (w, ws)

-- a flag
abbrev pub read_truth : Reads Bool
read_truth ws = let w = read_word ws in (w.0 == 1, w.1)

-- a 64-bit number from two words, the low half first
abbrev pub read_wide : Reads ℕ
read_wide ws = let low = read_word ws in let high = read_word low.1 in (2 ^ 32 * high.0 + low.0, high.1)

-- n values in sequence
abbrev pub read_repeated : {A : Type 0} → Reads A → ℕ → Reads (List A)
read_repeated read zero ws = ([], ws)
read_repeated read (suc n) ws = let first = read ws in let others = read_repeated read n first.1 in (first.0 ∷ others.0, others.1)

-- the number of values, and then the values
abbrev pub read_list : {A : Type 0} → Reads A → Reads (List A)
read_list read ws = let count = read_wide ws in read_repeated read count.0 count.1

-- a list of numbers
abbrev pub read_listed : Reads (List ℕ)
read_listed = read_list read_word

-- an interval
abbrev pub read_interval : Reads Bounds
read_interval ws = let first = read_word ws in let last = read_word first.1 in (record { first = first.0; last = last.0 }, last.1)

-- the kind of an anchor
abbrev pub read_anchor : Reads AnchorType
read_anchor ws = let w = read_word ws in (if w.0 == 0 then StartOfLine else EndOfLine, w.1)

-- whether there is a value, and then the value
abbrev pub read_option : {A : Type 0} → Reads A → Reads (Option A)
read_option read ws =
    let there = read_word ws in
    let value = read there.1 in
    if there.0 == 1 then (Some value.0, value.1) else (None, there.1)

-- a quantifier
abbrev pub read_quantifier : Reads Quantifier
read_quantifier ws =
    let greedy = read_truth ws in
    let min = read_wide greedy.1 in
    let most = read_option read_wide min.1 in
    (record { min = min.0; max = most.0; greedy = greedy.0 }, most.1)

abbrev pub read_leaf : Leaf → Reads Tree
read_leaf l ws = (leaf l, ws)

abbrev pub read_listed_leaf : (List ℕ → Leaf) → Reads Tree
read_listed_leaf kind ws = let xs = read_listed ws in (leaf (kind xs.0), xs.1)

abbrev pub read_char : Reads Tree
read_char ws = let c = read_word ws in (leaf (char c.0), c.1)

abbrev pub read_anchor_leaf : Reads Tree
read_anchor_leaf ws = let kind = read_anchor ws in let multiline = read_truth kind.1 in (leaf (anchor kind.0 multiline.0), multiline.1)

abbrev pub read_word_boundary : Reads Tree
read_word_boundary ws = let invert = read_truth ws in let icase = read_truth invert.1 in (leaf (word_boundary invert.0 icase.0), icase.1)

abbrev pub read_bracket : Reads Tree
read_bracket ws = let invert = read_truth ws in let ivs = read_list read_interval invert.1 in (leaf (bracket invert.0 ivs.0), ivs.1)

abbrev pub read_back_ref : Reads Tree
read_back_ref ws = let group = read_word ws in let icase = read_truth group.1 in (leaf (back_ref group.0 icase.0), icase.1)

abbrev pub read_string_set : Reads Tree
read_string_set ws = let icase = read_truth ws in let strings = read_list read_listed icase.1 in (leaf (string_set strings.0 icase.0), strings.1)

-- a wrapper, and then its body
abbrev pub read_body : (Reads Tree) → Wrapper × List ℕ → Tree × List ℕ
read_body read w = let body = read w.1 in (wrapped w.0 body.0, body.1)

abbrev pub read_capture_group : Reads Wrapper
read_capture_group ws = let id = read_word ws in let name = read_option read_listed id.1 in (capture_group id.0 name.0, name.1)

abbrev pub read_loop : Reads Wrapper
read_loop ws =
    let start = read_word ws in
    let end = read_word start.1 in
    let q = read_quantifier end.1 in
    (loop q.0 start.0 end.0, q.1)

abbrev pub read_loop_one : Reads Wrapper
read_loop_one ws = let q = read_quantifier ws in (loop_one q.0, q.1)

abbrev pub read_lookaround : Reads Wrapper
read_lookaround ws =
    let negate = read_truth ws in
    let backwards = read_truth negate.1 in
    let start = read_word backwards.1 in
    let end = read_word start.1 in
    (lookaround negate.0 backwards.0 start.0 end.0, end.1)

abbrev pub decode_siblings : Reads Tree → ℕ → Reads Trees
decode_siblings read zero ws = (no_trees, ws)
decode_siblings read (suc n) ws = let first = read ws in let others = decode_siblings read n first.1 in (more_trees first.0 others.0, others.1)

abbrev pub read_cat : Reads Tree → Reads Tree
read_cat read ws = let count = read_wide ws in let parts = decode_siblings read count.0 count.1 in (cat parts.0, parts.1)

abbrev pub read_alt : Reads Tree → Reads Tree
read_alt read ws = let left = read ws in let right = read left.1 in (alt left.0 right.0, right.1)

-- a tree after the word of its kind
abbrev pub read_kind : Reads Tree → ℕ → Reads Tree
read_kind read kind ws =
    if kind == 1 then read_leaf goal ws
    else if kind == 2 then read_char ws
    else if kind == 3 then read_listed_leaf byte_sequence ws
    else if kind == 4 then read_listed_leaf byte_set ws
    else if kind == 5 then read_listed_leaf char_set ws
    else if kind == 6 then read_cat read ws
    else if kind == 7 then read_alt read ws
    else if kind == 8 then read_leaf match_any ws
    else if kind == 9 then read_leaf match_any_except_line_terminator ws
    else if kind == 10 then read_anchor_leaf ws
    else if kind == 11 then read_word_boundary ws
    else if kind == 12 then read_body read (read_capture_group ws)
    else if kind == 13 then read_bracket ws
    else if kind == 14 then read_body read (read_loop ws)
    else if kind == 15 then read_body read (read_loop_one ws)
    else if kind == 16 then read_body read (read_lookaround ws)
    else if kind == 17 then read_back_ref ws
    else if kind == 18 then read_string_set ws
    else read_leaf empty ws

-- a tree whose children are decoded by `read`
abbrev pub read_level : Reads Tree → Reads Tree
read_level read ws = let kind = read_word ws in read_kind read kind.0 kind.1

-- a tree of at most this nesting depth
abbrev pub decode_tree : ℕ → Reads Tree
decode_tree zero ws = (leaf empty, ws)
decode_tree (suc nesting) ws = read_level (decode_tree nesting) ws

-- The tree that the words encode. Its nesting depth is at most the number of words.
abbrev pub decode : List ℕ → Tree
decode words = (decode_tree (length words) words).0
