-- Decoding the encoding of a tree yields the tree.
use Rattle.std.proofs.Common.{◌≡◌, ◌≤◌, ℕ, zero, suc, ◌^◌, Bool, true, false, ◌==◌, List, [], ◌∷◌, ◌++◌, length, flat_map, refl, sym, ap, ◌∙◌, arith, append_assoc, append-nil}
use Rattle.std.specs.Prelude.{Option, Some, None}
use Rattle.std.proofs.Math.Nat.{div-add-mod}
use Rattle.std.proofs.lemmas.List.{length-append}
use Rattle.regress_base.specs.Intervals.{Bounds}
use Rattle.regress_base.specs.declared.types.AnchorType.TheVariants.{StartOfLine, EndOfLine}
use Rattle.regress_base.specs.declared.types.Quantifier.{Quantifier}
use Rattle.regress_tree.specs.Tree.{Leaf, empty, goal, char, byte_sequence, byte_set, char_set, match_any, match_any_except_line_terminator, anchor, word_boundary, bracket, back_ref, string_set, Wrapper, capture_group, loop, loop_one, lookaround, Tree, Trees, leaf, cat, alt, wrapped, no_trees, more_trees}
use Rattle.regress_encoding.specs.Encoding.{truth_word, wide, listed, interval_words, most_words, name_words, quantifier_words, leaf_words, wrapper_words, trees_count, encode, encode_list}
use Rattle.regress_encoding.specs.Decoded.{Reads, read_word, read_wide, read_repeated, read_list, read_listed, read_interval, read_option, read_quantifier, read_body, decode_siblings, read_alt, read_level, decode_tree, decode}

truth-read : (b : Bool) → (truth_word b == 1) ≡ b
truth-read false = refl
truth-read true = refl

-- both halves of a 64-bit number
wide-read : (n : ℕ) (rest : List ℕ) → read_wide (wide n ++ rest) ≡ (n, rest)
wide-read n rest = ap (λ m. (m, rest)) (div-add-mod n (2 ^ 32))

times-read : {A : Type 0} (read : Reads A) (words : A → List ℕ) → ((x : A) (rest : List ℕ) → read (words x ++ rest) ≡ (x, rest)) →
    (xs : List A) (rest : List ℕ) → read_repeated read (length xs) (flat_map words xs ++ rest) ≡ (xs, rest)
times-read read words each [] rest = refl
times-read read words each (x ∷ xs) rest =
    ap (read_repeated read (suc (length xs))) (append_assoc (words x) (flat_map words xs) rest)
    ∙ ap (λ r. let others = read_repeated read (length xs) r.1 in (r.0 ∷ others.0, others.1)) (each x (flat_map words xs ++ rest))
    ∙ ap (λ others. (x ∷ others.0, others.1)) (times-read read words each xs rest)

list-read : {A : Type 0} (read : Reads A) (words : A → List ℕ) → ((x : A) (rest : List ℕ) → read (words x ++ rest) ≡ (x, rest)) →
    (xs : List A) (rest : List ℕ) → read_list read ((wide (length xs) ++ flat_map words xs) ++ rest) ≡ (xs, rest)
list-read read words each xs rest =
    ap (λ n. read_repeated read n (flat_map words xs ++ rest)) (div-add-mod (length xs) (2 ^ 32)) ∙ times-read read words each xs rest

words-read : (xs rest : List ℕ) → read_repeated read_word (length xs) (xs ++ rest) ≡ (xs, rest)
words-read [] rest = refl
words-read (x ∷ xs) rest = ap (λ others. (x ∷ others.0, others.1)) (words-read xs rest)

listed-read : (xs rest : List ℕ) → read_listed (listed xs ++ rest) ≡ (xs, rest)
listed-read xs rest = ap (λ n. read_repeated read_word n (xs ++ rest)) (div-add-mod (length xs) (2 ^ 32)) ∙ words-read xs rest

interval-read : (iv : Bounds) (rest : List ℕ) → read_interval (interval_words iv ++ rest) ≡ (iv, rest)
interval-read iv rest = refl

most-read : (n : Option ℕ) (rest : List ℕ) → read_option read_wide (most_words n ++ rest) ≡ (n, rest)
most-read None rest = refl
most-read (Some n) rest = ap (λ r. (Some r.0, r.1)) (wide-read n rest)

name-read : (name : Option (List ℕ)) (rest : List ℕ) → read_option read_listed (name_words name ++ rest) ≡ (name, rest)
name-read None rest = refl
name-read (Some name) rest = ap (λ r. (Some r.0, r.1)) (listed-read name rest)

quantifier-read : (q : Quantifier) (rest : List ℕ) → read_quantifier (quantifier_words q ++ rest) ≡ (q, rest)
quantifier-read q rest =
    let most = read_option read_wide (most_words q.max ++ rest) in
    ap (λ greedy. (record { min = (read_wide (wide q.min)).0; max = most.0; greedy = greedy }, most.1)) (truth-read q.greedy)
    ∙ ap (λ least. (record { min = least; max = most.0; greedy = q.greedy }, most.1)) (div-add-mod q.min (2 ^ 32))
    ∙ ap (λ r. (record { min = q.min; max = r.0; greedy = q.greedy }, r.1)) (most-read q.max rest)

leaf-read : (read : Reads Tree) (l : Leaf) (rest : List ℕ) → read_level read (leaf_words l ++ rest) ≡ (leaf l, rest)
leaf-read read empty rest = refl
leaf-read read goal rest = refl
leaf-read read (char c) rest = refl
leaf-read read (byte_sequence bytes) rest = ap (λ r. (leaf (byte_sequence r.0), r.1)) (listed-read bytes rest)
leaf-read read (byte_set bytes) rest = ap (λ r. (leaf (byte_set r.0), r.1)) (listed-read bytes rest)
leaf-read read (char_set characters) rest = ap (λ r. (leaf (char_set r.0), r.1)) (listed-read characters rest)
leaf-read read match_any rest = refl
leaf-read read match_any_except_line_terminator rest = refl
leaf-read read (anchor StartOfLine false) rest = refl
leaf-read read (anchor StartOfLine true) rest = refl
leaf-read read (anchor EndOfLine false) rest = refl
leaf-read read (anchor EndOfLine true) rest = refl
leaf-read read (word_boundary false false) rest = refl
leaf-read read (word_boundary false true) rest = refl
leaf-read read (word_boundary true false) rest = refl
leaf-read read (word_boundary true true) rest = refl
leaf-read read (bracket false ivs) rest =
    ap (λ r. (leaf (bracket false r.0), r.1)) (list-read read_interval interval_words interval-read ivs rest)
leaf-read read (bracket true ivs) rest =
    ap (λ r. (leaf (bracket true r.0), r.1)) (list-read read_interval interval_words interval-read ivs rest)
leaf-read read (back_ref group false) rest = refl
leaf-read read (back_ref group true) rest = refl
leaf-read read (string_set strings false) rest =
    ap (λ r. (leaf (string_set r.0 false), r.1)) (list-read read_listed listed listed-read strings rest)
leaf-read read (string_set strings true) rest =
    ap (λ r. (leaf (string_set r.0 true), r.1)) (list-read read_listed listed listed-read strings rest)

wrapper-read : (read : Reads Tree) (w : Wrapper) (body : Tree) (words rest : List ℕ) → read words ≡ (body, rest) →
    read_level read (wrapper_words w ++ words) ≡ (wrapped w body, rest)
wrapper-read read (capture_group id name) body words rest e =
    ap (λ r. read_body read (capture_group id r.0, r.1)) (name-read name words) ∙ ap (λ b. (wrapped (capture_group id name) b.0, b.1)) e
wrapper-read read (loop q start end) body words rest e =
    ap (λ r. read_body read (loop r.0 start end, r.1)) (quantifier-read q words) ∙ ap (λ b. (wrapped (loop q start end) b.0, b.1)) e
wrapper-read read (loop_one q) body words rest e =
    ap (λ r. read_body read (loop_one r.0, r.1)) (quantifier-read q words) ∙ ap (λ b. (wrapped (loop_one q) b.0, b.1)) e
wrapper-read read (lookaround false false start end) body words rest e = ap (λ b. (wrapped (lookaround false false start end) b.0, b.1)) e
wrapper-read read (lookaround false true start end) body words rest e = ap (λ b. (wrapped (lookaround false true start end) b.0, b.1)) e
wrapper-read read (lookaround true false start end) body words rest e = ap (λ b. (wrapped (lookaround true false start end) b.0, b.1)) e
wrapper-read read (lookaround true true start end) body words rest e = ap (λ b. (wrapped (lookaround true true start end) b.0, b.1)) e

leaf-some : (l : Leaf) → 1 ≤ length (leaf_words l)
leaf-some empty = omega arith
leaf-some goal = omega arith
leaf-some (char c) = omega arith
leaf-some (byte_sequence bytes) = omega arith
leaf-some (byte_set bytes) = omega arith
leaf-some (char_set characters) = omega arith
leaf-some match_any = omega arith
leaf-some match_any_except_line_terminator = omega arith
leaf-some (anchor kind multiline) = omega arith
leaf-some (word_boundary invert unicode_icase) = omega arith
leaf-some (bracket invert ivs) = omega arith
leaf-some (back_ref group icase) = omega arith
leaf-some (string_set strings icase) = omega arith

wrapper-some : (w : Wrapper) → 1 ≤ length (wrapper_words w)
wrapper-some (capture_group id name) = omega arith
wrapper-some (loop q start end) = omega arith
wrapper-some (loop_one q) = omega arith
wrapper-some (lookaround negate backwards start end) = omega arith

-- A wrapper takes at least one word; the other words encode its body and what follows.
body-shorter : (w : Wrapper) (words : List ℕ) (n : ℕ) → length (wrapper_words w ++ words) ≤ suc n → length words ≤ n
body-shorter w words n h =
    let some = wrapper-some w in
    let sum = length-append (wrapper_words w) words in
    omega arith

left-shorter : (xs ys : List ℕ) (n : ℕ) → length (xs ++ ys) ≤ n → length xs ≤ n
left-shorter xs ys n h = let sum = length-append xs ys in omega arith

right-shorter : (xs ys : List ℕ) (n : ℕ) → length (xs ++ ys) ≤ n → length ys ≤ n
right-shorter xs ys n h = let sum = length-append xs ys in omega arith

some : (t : Tree) → 1 ≤ length (encode t)
some (leaf l) = leaf-some l
some (cat parts) = omega arith
some (alt left right) = omega arith
some (wrapped w body) =
    let own = wrapper-some w in
    let sum = length-append (wrapper_words w) (encode body) in
    omega arith

none-shorter : (t : Tree) → length (encode t) ≤ zero → ⊥
none-shorter t h = let own = some t in omega arith

mutual
  tree-read : (n : ℕ) (t : Tree) (rest : List ℕ) → length (encode t) ≤ n → decode_tree n (encode t ++ rest) ≡ (t, rest)
  tree-read zero t rest h = absurd (none-shorter t h)
  tree-read (suc n) (leaf l) rest h = leaf-read (decode_tree n) l rest
  tree-read (suc n) (cat parts) rest h =
      let short : length (encode_list parts) ≤ n = omega arith in
      ap (λ count. let r = decode_siblings (decode_tree n) count (encode_list parts ++ rest) in (cat r.0, r.1)) (div-add-mod (trees_count parts) (2 ^ 32))
      ∙ ap (λ r. (cat r.0, r.1)) (siblings-read n parts rest short)
  tree-read (suc n) (alt left right) rest h =
      let short : length (encode left ++ encode right) ≤ n = omega arith in
      ap (read_alt (decode_tree n)) (append_assoc (encode left) (encode right) rest)
      ∙ ap (λ a. let b = decode_tree n a.1 in (alt a.0 b.0, b.1)) (tree-read n left (encode right ++ rest) (left-shorter (encode left) (encode right) n short))
      ∙ ap (λ b. (alt left b.0, b.1)) (tree-read n right rest (right-shorter (encode left) (encode right) n short))
  tree-read (suc n) (wrapped w body) rest h =
      ap (read_level (decode_tree n)) (append_assoc (wrapper_words w) (encode body) rest)
      ∙ wrapper-read (decode_tree n) w body (encode body ++ rest) rest (tree-read n body rest (body-shorter w (encode body) n h))

  siblings-read : (n : ℕ) (ts : Trees) (rest : List ℕ) → length (encode_list ts) ≤ n → decode_siblings (decode_tree n) (trees_count ts) (encode_list ts ++ rest) ≡ (ts, rest)
  siblings-read n no_trees rest h = refl
  siblings-read n (more_trees t ts) rest h =
      ap (decode_siblings (decode_tree n) (suc (trees_count ts))) (append_assoc (encode t) (encode_list ts) rest)
      ∙ ap (λ a. let others = decode_siblings (decode_tree n) (trees_count ts) a.1 in (more_trees a.0 others.0, others.1))
      (tree-read n t (encode_list ts ++ rest) (left-shorter (encode t) (encode_list ts) n h))
      ∙ ap (λ others. (more_trees t others.0, others.1)) (siblings-read n ts rest (right-shorter (encode t) (encode_list ts) n h))

pub decode-encode : (t : Tree) → decode (encode t) ≡ t
decode-encode t =
    let words = encode t in
    let same : length words ≤ length words = omega arith in
    ap (λ ws. (decode_tree (length words) ws).0) (sym (append-nil words)) ∙ ap (λ r. r.0) (tree-read (length words) t [] same)
