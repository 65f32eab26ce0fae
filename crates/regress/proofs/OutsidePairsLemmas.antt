-- The test of the tree is that of the syntax tree.
use Rattle.std.proofs.Common.{◌≡◌, ◌∙◌, ℕ, suc, ◌==◌, Bool, true, false, not, ◌&&◌, ◌||◌, List, [], ◌∷◌, length, Option, Some, None, if◌then◌else◌, refl, sym, ap, ap₂, arith}
use Rattle.std.specs.List.{list_all}
use Rattle.std.proofs.lemmas.Bool.{ne_eqb}
use Rattle.regress_front.specs.Intervals.{Bounds, intervals_of}
use Rattle.regress_front.specs.Reading.{Direction, forwards, backwards}
use Rattle.regress_front.specs.Meaning.{is_in_class, longest_first, referred}
use Rattle.regress_front.specs.Syntax.{Name, names, is_joined, Atom, literal, dot, anchor, boundary, class_escape, class, class_set, string_property, back_reference, grouping, modified, capture, look, Pattern, Terms, Item, one, either, no_terms, more_terms, atom, group}
use Rattle.regress_front.specs.Table.{Table, class_of}
use Rattle.regress_front.specs.Tree.{empty, char, match_any, match_any_except_line_terminator, bracket, string_set, Tree, Trees, leaf, no_trees, more_trees, list, append_trees, reverse_trees}
use Rattle.regress_front.specs.TreeOf.{concatenation, leaf_of_members, or_empty, references, strings_or_points, tree_of, tree_of_atom, tree_of_item, tree_of_pattern, tree_of_quantified, tree_of_references, trees_of_terms}
use Rattle.regress_front.specs.declared.types.Quantifier.{Quantifier}
use Rattle.regress_ecma.specs.SurrogatePairs.{is_outside_pairs, are_outside_pairs, atom_is_outside, is_outside, are_terms_outside, is_item_outside, atom_consumes, is_required, consumes, terms_consume, item_consumes, matches_outside_pairs}
use Rattle.regress.specs.OutsidePairs.{tree_is_outside, trees_are_outside, tree_consumes, some_tree_consumes, tree_matches_outside_pairs}

and_true : (b : Bool) → (b && true) ≡ b
and_true true = refl
and_true false = refl

or_false : (b : Bool) → (b || false) ≡ b
or_false true = refl
or_false false = refl

some_left : (n : ℕ) → (suc n == 0) ≡ false
some_left n = ne_eqb (suc n) 0 (omega arith)

-- ---- sequences

outside-append : (ts us : Trees) → trees_are_outside (append_trees ts us) ≡ (trees_are_outside us && trees_are_outside ts)
outside-append no_trees us = sym (and_true (trees_are_outside us))
outside-append (more_trees t ts) us =
    ap (λ (b : Bool). tree_is_outside t && b) (outside-append ts us) ∙ swapped (tree_is_outside t) (trees_are_outside us) (trees_are_outside ts)
  where
    swapped : (a b c : Bool) → (a && (b && c)) ≡ (b && (a && c))
    swapped true b c = refl
    swapped false true c = refl
    swapped false false c = refl

outside-reverse : (ts : Trees) → trees_are_outside (reverse_trees ts) ≡ trees_are_outside ts
outside-reverse no_trees = refl
outside-reverse (more_trees t ts) =
    outside-append (reverse_trees ts) (more_trees t no_trees)
    ∙ ap₂ (λ (a b : Bool). a && b) (and_true (tree_is_outside t)) (outside-reverse ts)

outside-concatenation : (d : Direction) (ts : Trees) → tree_is_outside (concatenation d ts) ≡ trees_are_outside ts
outside-concatenation d no_trees = refl
outside-concatenation d (more_trees t no_trees) = sym (and_true (tree_is_outside t))
outside-concatenation forwards (more_trees t (more_trees u us)) = refl
outside-concatenation backwards (more_trees t (more_trees u us)) = outside-reverse (more_trees t (more_trees u us))

consumes-append : (ts us : Trees) → some_tree_consumes (append_trees ts us) ≡ (some_tree_consumes us || some_tree_consumes ts)
consumes-append no_trees us = sym (or_false (some_tree_consumes us))
consumes-append (more_trees t ts) us =
    ap (λ (b : Bool). tree_consumes t || b) (consumes-append ts us) ∙ swapped (tree_consumes t) (some_tree_consumes us) (some_tree_consumes ts)
  where
    swapped : (a b c : Bool) → (a || (b || c)) ≡ (b || (a || c))
    swapped true true c = refl
    swapped true false c = refl
    swapped false b c = refl

consumes-reverse : (ts : Trees) → some_tree_consumes (reverse_trees ts) ≡ some_tree_consumes ts
consumes-reverse no_trees = refl
consumes-reverse (more_trees t ts) =
    consumes-append (reverse_trees ts) (more_trees t no_trees)
    ∙ ap₂ (λ (a b : Bool). a || b) (or_false (tree_consumes t)) (consumes-reverse ts)

consumes-concatenation : (d : Direction) (ts : Trees) → tree_consumes (concatenation d ts) ≡ some_tree_consumes ts
consumes-concatenation d no_trees = refl
consumes-concatenation d (more_trees t no_trees) = sym (or_false (tree_consumes t))
consumes-concatenation forwards (more_trees t (more_trees u us)) = refl
consumes-concatenation backwards (more_trees t (more_trees u us)) = consumes-reverse (more_trees t (more_trees u us))

-- ---- atoms

members-outside : (cs : List ℕ) → tree_is_outside (leaf (leaf_of_members cs)) ≡ list_all is_outside_pairs cs
members-outside [] = refl
members-outside (c ∷ []) = sym (and_true (is_outside_pairs c))
members-outside (c ∷ d ∷ cs) = refl

members-consume : (cs : List ℕ) → tree_consumes (leaf (leaf_of_members cs)) ≡ true
members-consume [] = refl
members-consume (c ∷ []) = refl
members-consume (c ∷ d ∷ cs) = refl

-- a class with the flag v, where `none` says that it has no strings
set-outside : (none negated has_empty icase : Bool) (strings : List (List ℕ)) (closed : List Bounds) →
    tree_is_outside (strings_or_points (not none) (negated || not (length closed == 0)) has_empty (string_set strings icase) (bracket negated closed))
    ≡ (none && (not negated && are_outside_pairs closed))
set-outside false negated has_empty icase strings closed = by_points (negated || not (length closed == 0)) has_empty
  where
    by_points : (points has_empty : Bool) →
        tree_is_outside (strings_or_points true points has_empty (string_set strings icase) (bracket negated closed)) ≡ false
    by_points true has_empty = refl
    by_points false true = refl
    by_points false false = refl
set-outside true true has_empty icase strings closed = by_empty has_empty
  where
    by_empty : (has_empty : Bool) → tree_is_outside (or_empty has_empty (leaf (bracket true closed))) ≡ false
    by_empty true = refl
    by_empty false = refl
set-outside true false has_empty icase strings [] = by_empty has_empty
  where
    by_empty : (has_empty : Bool) → tree_is_outside (if has_empty then leaf empty else leaf (bracket false [])) ≡ true
    by_empty true = refl
    by_empty false = refl
set-outside true false has_empty icase strings (b ∷ closed) =
    ap (λ (e : Bool). tree_is_outside (strings_or_points false (not e) has_empty (string_set strings icase) (bracket false (b ∷ closed))))
    (some_left (length closed))
    ∙ by_empty has_empty
  where
    by_empty : (has_empty : Bool) → tree_is_outside (or_empty has_empty (leaf (bracket false (b ∷ closed)))) ≡ are_outside_pairs (b ∷ closed)
    by_empty true = and_true (are_outside_pairs (b ∷ closed))
    by_empty false = refl

set-consumes : (some points has_empty icase negated : Bool) (strings : List (List ℕ)) (closed : List Bounds) →
    tree_consumes (strings_or_points some points has_empty (string_set strings icase) (bracket negated closed)) ≡ not has_empty
set-consumes true true true icase negated strings closed = refl
set-consumes true true false icase negated strings closed = refl
set-consumes true false true icase negated strings closed = refl
set-consumes true false false icase negated strings closed = refl
set-consumes false true true icase negated strings closed = refl
set-consumes false true false icase negated strings closed = refl
set-consumes false false true icase negated strings closed = refl
set-consumes false false false icase negated strings closed = refl

references-outside : (joined icase : Bool) (ks : List ℕ) → tree_is_outside (tree_of_references joined (references icase ks)) ≡ (length ks == 0)
references-outside true icase [] = refl
references-outside true icase (k ∷ []) = sym (some_left 0)
references-outside true icase (k ∷ l ∷ ks) = sym (some_left (suc (length ks)))
references-outside false icase [] = refl
references-outside false icase (k ∷ []) = sym (some_left 0)
references-outside false icase (k ∷ l ∷ ks) = sym (some_left (suc (length ks)))

none_consumes : (icase : Bool) (ks : List ℕ) → some_tree_consumes (list (references icase ks)) ≡ false
none_consumes icase [] = refl
none_consumes icase (k ∷ ks) = none_consumes icase ks

references-consume : (joined icase : Bool) (ks : List ℕ) →
    tree_consumes (tree_of_references joined (references icase ks)) ≡ (length ks == 0 && not joined)
references-consume true icase [] = refl
references-consume true icase (k ∷ []) = sym (ap (λ (b : Bool). b && false) (some_left 0))
references-consume true icase (k ∷ l ∷ ks) = none_consumes icase ks ∙ sym (ap (λ (b : Bool). b && false) (some_left (suc (length ks))))
references-consume false icase [] = refl
references-consume false icase (k ∷ []) = sym (ap (λ (b : Bool). b && true) (some_left 0))
references-consume false icase (k ∷ l ∷ ks) = sym (ap (λ (b : Bool). b && true) (some_left (suc (length ks))))

module _ (table : Table) (all : List (Option Name)) where
  atom-outside : (a : Atom) → tree_is_outside (tree_of_atom table all a) ≡ atom_is_outside table all a
  atom-outside (literal flags c) = by_test flags.icase
    where
      by_test : (i : Bool) →
          tree_is_outside (leaf (if i then leaf_of_members (class_of table true flags.unicode c) else char c))
          ≡ (if i then list_all is_outside_pairs (class_of table true flags.unicode c) else is_outside_pairs c)
      by_test true = members-outside (class_of table true flags.unicode c)
      by_test false = refl
  atom-outside (dot flags) = by_test flags.dot_all
    where
      by_test : (s : Bool) → tree_is_outside (leaf (if s then match_any else match_any_except_line_terminator)) ≡ false
      by_test true = refl
      by_test false = refl
  atom-outside (anchor flags kind) = refl
  atom-outside (boundary flags inverted) = refl
  atom-outside (class_escape flags kind negated) = refl
  atom-outside (class flags inverted members) = refl
  atom-outside (class_set flags negated value) =
      set-outside (length value.strings == 0) negated value.has_empty flags.icase (longest_first value.strings)
      (intervals_of (is_in_class table flags false value.members))
  atom-outside (string_property flags written) = refl
  atom-outside (back_reference flags to) = references-outside (is_joined to) flags.icase (referred all to)

  atom-consumes : (a : Atom) → tree_consumes (tree_of_atom table all a) ≡ atom_consumes table all a
  atom-consumes (literal flags c) = by_test flags.icase
    where
      by_test : (i : Bool) → tree_consumes (leaf (if i then leaf_of_members (class_of table true flags.unicode c) else char c)) ≡ true
      by_test true = members-consume (class_of table true flags.unicode c)
      by_test false = refl
  atom-consumes (dot flags) = by_test flags.dot_all
    where
      by_test : (s : Bool) → tree_consumes (leaf (if s then match_any else match_any_except_line_terminator)) ≡ true
      by_test true = refl
      by_test false = refl
  atom-consumes (anchor flags kind) = refl
  atom-consumes (boundary flags inverted) = refl
  atom-consumes (class_escape flags kind negated) = refl
  atom-consumes (class flags inverted members) = refl
  atom-consumes (class_set flags negated value) =
      set-consumes (not (length value.strings == 0)) (negated || not (length (intervals_of (is_in_class table flags false value.members)) == 0))
      value.has_empty flags.icase negated (longest_first value.strings) (intervals_of (is_in_class table flags false value.members))
  atom-consumes (string_property flags written) = refl
  atom-consumes (back_reference flags to) = references-consume (is_joined to) flags.icase (referred all to)

  -- ---- patterns

  quantified-outside : (q : Option Quantifier) (start end : ℕ) (body : Tree) → tree_is_outside (tree_of_quantified q start end body) ≡ tree_is_outside body
  quantified-outside None start end body = refl
  quantified-outside (Some q) start end body = refl

  quantified-consumes : (q : Option Quantifier) (start end : ℕ) (body : Tree) →
      tree_consumes (tree_of_quantified q start end body) ≡ (is_required q && tree_consumes body)
  quantified-consumes None start end body = refl
  quantified-consumes (Some q) start end body = refl

  mutual
    pattern-outside : (d : Direction) (n : ℕ) (p : Pattern) → tree_is_outside (tree_of_pattern table all d n p) ≡ is_outside table all p
    pattern-outside d n (one ts) = outside-concatenation d (trees_of_terms table all d n ts) ∙ terms-outside d n ts
    pattern-outside d n (either ts p) =
        ap₂ (λ (a b : Bool). a && b) (outside-concatenation d (trees_of_terms table all d n ts) ∙ terms-outside d n ts) (pattern-outside d _ p)

    terms-outside : (d : Direction) (n : ℕ) (ts : Terms) → trees_are_outside (trees_of_terms table all d n ts) ≡ are_terms_outside table all ts
    terms-outside d n no_terms = refl
    terms-outside d n (more_terms x q xs) =
        ap₂ (λ (a b : Bool). a && b) (quantified-outside q _ _ (tree_of_item table all d n x) ∙ item-outside d n x) (terms-outside d _ xs)

    item-outside : (d : Direction) (n : ℕ) (x : Item) → tree_is_outside (tree_of_item table all d n x) ≡ is_item_outside table all x
    item-outside d n (atom a) = atom-outside a
    item-outside d n (group grouping p) = pattern-outside d _ p
    item-outside d n (group (modified change) p) = pattern-outside d _ p
    item-outside d n (group (capture name) p) = pattern-outside d _ p
    item-outside d n (group (look negate direction) p) = pattern-outside direction _ p

  mutual
    pattern-consumes : (d : Direction) (n : ℕ) (p : Pattern) → tree_consumes (tree_of_pattern table all d n p) ≡ consumes table all p
    pattern-consumes d n (one ts) = consumes-concatenation d (trees_of_terms table all d n ts) ∙ terms-consume d n ts
    pattern-consumes d n (either ts p) =
        ap₂ (λ (a b : Bool). a && b) (consumes-concatenation d (trees_of_terms table all d n ts) ∙ terms-consume d n ts) (pattern-consumes d _ p)

    terms-consume : (d : Direction) (n : ℕ) (ts : Terms) → some_tree_consumes (trees_of_terms table all d n ts) ≡ terms_consume table all ts
    terms-consume d n no_terms = refl
    terms-consume d n (more_terms x q xs) =
        ap₂ (λ (a b : Bool). a || b)
        (quantified-consumes q _ _ (tree_of_item table all d n x) ∙ ap (λ (b : Bool). is_required q && b) (item-consumes d n x)) (terms-consume d _ xs)

    item-consumes : (d : Direction) (n : ℕ) (x : Item) → tree_consumes (tree_of_item table all d n x) ≡ item_consumes table all x
    item-consumes d n (atom a) = atom-consumes a
    item-consumes d n (group grouping p) = pattern-consumes d _ p
    item-consumes d n (group (modified change) p) = pattern-consumes d _ p
    item-consumes d n (group (capture name) p) = pattern-consumes d _ p
    item-consumes d n (group (look negate direction) p) = refl

pub outside-tree_of : (table : Table) (p : Pattern) → tree_matches_outside_pairs (tree_of table p) ≡ matches_outside_pairs table p
outside-tree_of table p =
    ap₂ (λ (a b : Bool). a && b)
    (and_true (tree_is_outside (tree_of_pattern table (names p) forwards 0 p)) ∙ pattern-outside table (names p) forwards 0 p)
    (or_false (tree_consumes (tree_of_pattern table (names p) forwards 0 p)) ∙ pattern-consumes table (names p) forwards 0 p)
