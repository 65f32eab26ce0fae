-- The encoding of a tree as 32-bit words: each node before those inside it, as the word of its kind and then its fields
-- in order.
use Rattle.std.specs.Prelude.{ℕ, suc, ◌/◌, ◌%◌, ◌^◌, Bool, true, false, List, [], ◌∷◌, ◌++◌, length, flat_map, Option, Some, None}
use Rattle.regress_base.specs.Intervals.{Bounds}
use Rattle.regress_base.specs.declared.types.AnchorType.{AnchorType}
use Rattle.regress_base.specs.declared.types.AnchorType.TheVariants.{StartOfLine, EndOfLine}
use Rattle.regress_base.specs.declared.types.Quantifier.{Quantifier}
use Rattle.regress_tree.specs.Tree.{Leaf, empty, goal, char, byte_sequence, byte_set, char_set, match_any, match_any_except_line_terminator, anchor, word_boundary, bracket, back_ref, string_set, Wrapper, capture_group, loop, loop_one, lookaround, Tree, Trees, leaf, cat, alt, wrapped, no_trees, more_trees}

-- a flag as one word
abbrev pub truth_word : Bool → ℕ
truth_word false = 0
truth_word true = 1

-- a 64-bit number as two words, the low half first
abbrev pub wide : ℕ → List ℕ
wide n = n % 2 ^ 32 ∷ n / 2 ^ 32 ∷ []

-- the number of elements, and then each element as one word
abbrev pub listed : List ℕ → List ℕ
listed xs = wide (length xs) ++ xs

-- the first and the last code point of an interval
abbrev pub interval_words : Bounds → List ℕ
interval_words iv = iv.first ∷ iv.last ∷ []

-- the kind of an anchor as one word
abbrev pub anchor_word : AnchorType → ℕ
anchor_word StartOfLine = 0
anchor_word EndOfLine = 1

-- whether there is a number, and then the number
abbrev pub most_words : Option ℕ → List ℕ
most_words None = 0 ∷ []
most_words (Some n) = 1 ∷ wide n

-- whether there is a name, and then its bytes
abbrev pub name_words : Option (List ℕ) → List ℕ
name_words None = 0 ∷ []
name_words (Some name) = 1 ∷ listed name

-- greedy or not, the minimum and the maximum
abbrev pub quantifier_words : Quantifier → List ℕ
quantifier_words q = truth_word q.greedy ∷ wide q.min ++ most_words q.max

-- the words of a leaf: its kind and then its fields
abbrev pub leaf_words : Leaf → List ℕ
leaf_words empty = 0 ∷ []
leaf_words goal = 1 ∷ []
leaf_words (char c) = 2 ∷ c ∷ []
leaf_words (byte_sequence bytes) = 3 ∷ listed bytes
leaf_words (byte_set bytes) = 4 ∷ listed bytes
leaf_words (char_set characters) = 5 ∷ listed characters
leaf_words match_any = 8 ∷ []
leaf_words match_any_except_line_terminator = 9 ∷ []
leaf_words (anchor kind multiline) = 10 ∷ anchor_word kind ∷ truth_word multiline ∷ []
leaf_words (word_boundary invert unicode_icase) = 11 ∷ truth_word invert ∷ truth_word unicode_icase ∷ []
leaf_words (bracket invert intervals) = 13 ∷ truth_word invert ∷ wide (length intervals) ++ flat_map interval_words intervals
leaf_words (back_ref group icase) = 17 ∷ group ∷ truth_word icase ∷ []
leaf_words (string_set strings icase) = 18 ∷ truth_word icase ∷ wide (length strings) ++ flat_map listed strings

-- the words of a wrapper, without its body
abbrev pub wrapper_words : Wrapper → List ℕ
wrapper_words (capture_group id name) = 12 ∷ id ∷ name_words name
wrapper_words (loop q start end) = 14 ∷ start ∷ end ∷ quantifier_words q
wrapper_words (loop_one q) = 15 ∷ quantifier_words q
wrapper_words (lookaround negate backwards start end) = 16 ∷ truth_word negate ∷ truth_word backwards ∷ start ∷ end ∷ []

-- the number of trees of a list
abbrev pub trees_count : Trees → ℕ
trees_count no_trees = 0
trees_count (more_trees t ts) = suc (trees_count ts)

-- the words of a node, without those of its children
abbrev pub node_words : Tree → List ℕ
node_words (leaf l) = leaf_words l
node_words (cat parts) = 6 ∷ wide (trees_count parts)
node_words (alt left right) = 7 ∷ []
node_words (wrapped w body) = wrapper_words w

abbrev mutual
  -- the encoding of a tree
  pub encode : Tree → List ℕ
  encode (leaf l) = leaf_words l
  encode (cat parts) = (6 ∷ wide (trees_count parts)) ++ encode_list parts
  encode (alt left right) = (7 ∷ []) ++ (encode left ++ encode right)
  encode (wrapped w body) = wrapper_words w ++ encode body

  -- the encodings of the trees of a list in order
  pub encode_list : Trees → List ℕ
  encode_list no_trees = []
  encode_list (more_trees t ts) = encode t ++ encode_list ts
