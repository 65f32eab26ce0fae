-- The capture groups of a pattern's tree are those of the pattern, numbered in the order in which they open.
use Rattle.std.proofs.Common.{◌≡◌, ℕ, ◌+◌, Bool, true, false, cond, ◌&&◌, ◌==◌, nat_le, nat_lt, List, [], ◌∷◌, ◌++◌, length, Option, Some, None, option_map, count_by, All, encode_utf8_all, refl, sym, ap, ap₂, subst, ◌∙◌, arith, append-nil}
use Rattle.std.specs.List.Sorted.{IsPermutation}
use Rattle.std.proofs.lemmas.List.{length-append}
use Rattle.std.proofs.lemmas.List.Elements.{All-head, All-tail}
use Rattle.std.proofs.lemmas.List.Sums.{sum_by-cons}
use Rattle.std.proofs.lemmas.List.Sorted.{IsPermutation-refl, IsPermutation-trans, IsPermutation-append_left, IsPermutation-append_right, length_permutation, sum_by-IsPermutation}
use Rattle.std.proofs.lemmas.Bool.Decides.{nat_tests}
use Rattle.regress_base.specs.Intervals.{intervals_of}
use Rattle.regress_tree.specs.Reading.{Direction, forwards, backwards}
use Rattle.regress_base.specs.Table.{Table}
use Rattle.regress_base.specs.declared.types.Quantifier.{Quantifier}
use Rattle.regress_tree.specs.Tree.{list, Tree, Trees, no_trees, more_trees}
use Rattle.regress_tree.specs.WellFormed.{Capture, captures, captures_of_trees, HasGroups}
use Rattle.regress_tree.proofs.lemmas.ReversedParts.{captures-reverse_trees}
use Rattle.regress_syntax.specs.Syntax.{Name, Atom, literal, dot, anchor, boundary, class_escape, class, class_set, string_property, back_reference, is_joined, Group, grouping, modified, capture, look, Pattern, Terms, Item, one, either, no_terms, more_terms, atom, group, opened_by, counts, counts_of_quantifier, counts_of_terms, counts_of_term, counts_of_item, names, names_of_group, names_of_terms, names_of_item, direction_of_group}
use Rattle.regress_syntax.specs.Meaning.{is_in_class, referred}
use Rattle.regress_parse.specs.Groups.{numbered, pattern_groups}
use Rattle.regress_parse.specs.TreeOf.{concatenation, tree_of_group, tree_of_quantified, references, alternation, tree_of_references, tree_of_atom, tree_of_pattern, trees_of_terms, tree_of_item, tree_of, in_direction}
use Rattle.regress_parse.specs.ClassParts.{class_parts}
use Rattle.regress_parse.proofs.ClassTreeLemmas.{tree_of_class-parts}
use Rattle.regress_parse.proofs.PartLemmas.{alternation-has, joined-has, references-have, class_parts-have}

numbered-append : (n k : ℕ) (xs ys : List (Option Name)) → length xs ≡ k → numbered n (xs ++ ys) ≡ numbered n xs ++ numbered (n + k) ys
numbered-append n k [] ys e = let same : n ≡ n + k = omega arith in ap (λ m. numbered m ys) same
numbered-append n k (x ∷ xs) ys e =
    let same : n + 1 + length xs ≡ n + k = omega arith in
    ap (λ cs. record { id = n; name = option_map encode_utf8_all x } ∷ cs)
    (numbered-append (n + 1) (length xs) xs ys refl ∙ ap (λ m. numbered (n + 1) xs ++ numbered m ys) same)

length-numbered : (n : ℕ) (xs : List (Option Name)) → length (numbered n xs) ≡ length xs
length-numbered n [] = refl
length-numbered n (x ∷ xs) = omega (arith, length-numbered (n + 1) xs)

-- ---- one name for each group, `None` for an unnamed one

length-names_of_group : (kind : Group) → length (names_of_group kind) ≡ opened_by kind
length-names_of_group grouping = refl
length-names_of_group (modified change) = refl
length-names_of_group (capture name) = refl
length-names_of_group (look negate direction) = refl

-- A quantifier opens no group.
groups_of_times : (q : Option Quantifier) → (counts_of_quantifier q).groups ≡ 0
groups_of_times None = refl
groups_of_times (Some q) = refl

mutual
  pub length-names : (p : Pattern) → length (names p) ≡ (counts p).groups
  length-names (one ts) = length-names_of_terms ts
  length-names (either ts p) =
      length-append (names_of_terms ts) (names p) ∙ ap₂ (λ a b. a + b) (length-names_of_terms ts) (length-names p)

  length-names_of_terms : (ts : Terms) → length (names_of_terms ts) ≡ (counts_of_terms ts).groups
  length-names_of_terms no_terms = refl
  length-names_of_terms (more_terms x q xs) =
      omega (
        arith,
        length-append (names_of_item x) (names_of_terms xs),
        length-names_of_item x,
        groups_of_times q,
        length-names_of_terms xs,
      )

  length-names_of_item : (x : Item) → length (names_of_item x) ≡ (counts_of_item x).groups
  length-names_of_item (atom a) = refl
  length-names_of_item (group kind p) =
      length-append (names_of_group kind) (names p) ∙ ap₂ (λ a b. a + b) (length-names_of_group kind) (length-names p)

length-names_of_term : (x : Item) (q : Option Quantifier) → length (names_of_item x) ≡ (counts_of_term x q).groups
length-names_of_term x q = omega (arith, length-names_of_item x, groups_of_times q)

-- ---- what a group and a quantifier add to the groups of a tree

captures-tree_of_group : (start end : ℕ) (kind : Group) (body : Tree) →
    captures (tree_of_group start end kind body) ≡ numbered start (names_of_group kind) ++ captures body
captures-tree_of_group start end grouping body = refl
captures-tree_of_group start end (modified change) body = refl
captures-tree_of_group start end (capture name) body = refl
captures-tree_of_group start end (look negate direction) body = refl

captures-tree_of_quantified : (q : Option Quantifier) (start end : ℕ) (body : Tree) → captures (tree_of_quantified q start end body) ≡ captures body
captures-tree_of_quantified None start end body = refl
captures-tree_of_quantified (Some q) start end body = refl

abbrev CapturesNothing : Tree → Type 0
CapturesNothing t = captures t ≡ []

captures-alternation : (ts : List Tree) → All CapturesNothing ts → captures (alternation ts) ≡ []
captures-alternation = alternation-has CapturesNothing refl (λ t u h k. ap₂ (λ xs ys. xs ++ ys) h k)

captures-list : (ts : List Tree) → All CapturesNothing ts → captures_of_trees (list ts) ≡ []
captures-list [] h = refl
captures-list (t ∷ ts) h =
    ap₂ (λ xs ys. xs ++ ys) (All-head CapturesNothing t ts h) (captures-list ts (All-tail CapturesNothing t ts h))

captures-concatenation : (ts : List Tree) → All CapturesNothing ts → captures (concatenation forwards (list ts)) ≡ []
captures-concatenation = joined-has CapturesNothing refl captures-list

-- References capture nothing.
captures-references : (joined icase : Bool) (ks : List ℕ) → captures (tree_of_references joined (references icase ks)) ≡ []
captures-references true icase ks = captures-concatenation (references icase ks) (references-have CapturesNothing icase ks (λ i k lt. refl))
captures-references false icase ks = captures-alternation (references icase ks) (references-have CapturesNothing icase ks (λ i k lt. refl))

captures-tree_of_atom : (table : Table) (all : List (Option Name)) (a : Atom) → captures (tree_of_atom table all a) ≡ []
captures-tree_of_atom table all (literal flags c) = refl
captures-tree_of_atom table all (dot flags) = refl
captures-tree_of_atom table all (anchor flags kind) = refl
captures-tree_of_atom table all (boundary flags inverted) = refl
captures-tree_of_atom table all (class_escape flags kind negated) = refl
captures-tree_of_atom table all (class flags inverted members) = refl
captures-tree_of_atom table all (class_set flags negated value) =
    ap captures (tree_of_class-parts flags.icase negated value (intervals_of (is_in_class table flags false value.members)))
    ∙ captures-alternation (class_parts flags.icase negated value (intervals_of (is_in_class table flags false value.members)))
    (class_parts-have CapturesNothing flags.icase negated value (intervals_of (is_in_class table flags false value.members)) refl refl refl)
captures-tree_of_atom table all (string_property flags written) = refl
captures-tree_of_atom table all (back_reference flags to) = captures-references (is_joined to) flags.icase (referred all to)

-- ---- the tree has the groups of its pattern, in either direction

captures-reversed : (d : Direction) (ts : Trees) → IsPermutation (captures_of_trees ts) (captures_of_trees (in_direction d ts))
captures-reversed forwards ts = IsPermutation-refl (captures_of_trees ts)
captures-reversed backwards ts = captures-reverse_trees ts

captures-joined : (d : Direction) (list : Trees) → IsPermutation (captures_of_trees list) (captures (concatenation d list))
captures-joined d no_trees = IsPermutation-refl []
captures-joined d (more_trees t no_trees) =
    subst (IsPermutation (captures t ++ [])) (append-nil (captures t)) (IsPermutation-refl (captures t ++ []))
captures-joined d (more_trees t (more_trees u us)) = captures-reversed d (more_trees t (more_trees u us))

-- Two parts, of which the second is after the k groups of the first.
both_permuted : (n k : ℕ) (xs ys : List (Option Name)) (cs ds : List Capture) → length xs ≡ k → IsPermutation (numbered n xs) cs →
    IsPermutation (numbered (n + k) ys) ds → IsPermutation (numbered n (xs ++ ys)) (cs ++ ds)
both_permuted n k xs ys cs ds e first second =
    subst (λ zs. IsPermutation zs (cs ++ ds)) (sym (numbered-append n k xs ys e))
    (IsPermutation-trans _ _ _
    (IsPermutation-append_left (numbered (n + k) ys) (numbered n xs) cs first)
    (IsPermutation-append_right cs (numbered (n + k) ys) ds second))

module _ (table : Table) (all : List (Option Name)) where
  mutual
    -- After n opened groups, the tree has the pattern's names and the ids from n on, in some order.
    pub permuted-tree_of_pattern : (d : Direction) (n : ℕ) (p : Pattern) →
        IsPermutation (numbered n (names p)) (captures (tree_of_pattern table all d n p))
    permuted-tree_of_pattern d n (one ts) =
        IsPermutation-trans _ _ _ (permuted-trees_of_terms d n ts) (captures-joined d (trees_of_terms table all d n ts))
    permuted-tree_of_pattern d n (either ts p) =
        both_permuted n _ _ _ _ _ (length-names_of_terms ts)
        (IsPermutation-trans _ _ _ (permuted-trees_of_terms d n ts) (captures-joined d (trees_of_terms table all d n ts)))
        (permuted-tree_of_pattern d (n + (counts_of_terms ts).groups) p)

    permuted-trees_of_terms : (d : Direction) (n : ℕ) (ts : Terms) →
        IsPermutation (numbered n (names_of_terms ts)) (captures_of_trees (trees_of_terms table all d n ts))
    permuted-trees_of_terms d n no_terms = IsPermutation-refl []
    permuted-trees_of_terms d n (more_terms x q xs) =
        both_permuted n _ _ _ _ _ (length-names_of_term x q)
        (subst (IsPermutation _) (sym (captures-tree_of_quantified q n (n + (counts_of_item x).groups) (tree_of_item table all d n x)))
        (permuted-tree_of_item d n x))
        (permuted-trees_of_terms d (n + (counts_of_term x q).groups) xs)

    permuted-tree_of_item : (d : Direction) (n : ℕ) (x : Item) →
        IsPermutation (numbered n (names_of_item x)) (captures (tree_of_item table all d n x))
    permuted-tree_of_item d n (atom a) = subst (IsPermutation []) (sym (captures-tree_of_atom table all a)) (IsPermutation-refl [])
    permuted-tree_of_item d n (group kind p) =
        subst (IsPermutation _)
        (sym (captures-tree_of_group n (n + (counts_of_item (group kind p)).groups) kind
        (tree_of_pattern table all (direction_of_group kind d) (n + opened_by kind) p)))
        (both_permuted n _ _ _ _ _ (length-names_of_group kind) (IsPermutation-refl (numbered n (names_of_group kind)))
        (permuted-tree_of_pattern (direction_of_group kind d) (n + opened_by kind) p))

  -- The tree has as many captures as the pattern has groups.
  pub length-captures-tree_of_pattern : (d : Direction) (n : ℕ) (p : Pattern) →
      length (captures (tree_of_pattern table all d n p)) ≡ (counts p).groups
  length-captures-tree_of_pattern d n p =
      length_permutation _ _ (permuted-tree_of_pattern d n p) ∙ length-numbered n (names p) ∙ length-names p

-- ---- ids

-- 1 if k is less than n, else 0
abbrev pub below : ℕ → ℕ → ℕ
below k n = cond (nat_lt k n) 1 0

abbrev pub count_id : ℕ → List Capture → ℕ
count_id k = count_by (λ c. c.id == k)

below-add-one : (k n : ℕ) → below k n + cond (n == k) 1 0 ≡ below k (n + 1)
below-add-one k n = grind (arith, nat_tests)

count_id-numbered : (k n : ℕ) (xs : List (Option Name)) → below k n + count_id k (numbered n xs) ≡ below k (n + length xs)
count_id-numbered k n [] = let same : n + 0 ≡ n = omega arith in omega (arith, ap (below k) same)
count_id-numbered k n (x ∷ xs) =
    let same : n + 1 + length xs ≡ n + length (x ∷ xs) = omega arith in
    let first = sum_by-cons (λ c. cond (c.id == k) 1 0) (record { id = n; name = option_map encode_utf8_all x }) (numbered (n + 1) xs) in
    omega (arith, first, below-add-one k n, count_id-numbered k (n + 1) xs, ap (below k) same)

-- After n opened groups, the ids are those from n on, each once.
count_id-permuted : (k n m : ℕ) (xs : List (Option Name)) (cs : List Capture) → length xs ≡ m → IsPermutation (numbered n xs) cs →
    below k n + count_id k cs ≡ below k (n + m)
count_id-permuted k n m xs cs e permuted =
    omega (
      arith,
      sum_by-IsPermutation (λ c. cond (c.id == k) 1 0) (numbered n xs) cs permuted,
      count_id-numbered k n xs,
      ap (λ j. below k (n + j)) e,
    )

between : (k n m : ℕ) → below k n + cond (nat_le n k && nat_lt k (n + m)) 1 0 ≡ below k (n + m)
between k n m = grind (arith, nat_tests)

module _ (table : Table) (all : List (Option Name)) where
  -- The ids of an item are inside the range of the loop around it.
  pub HasGroups-tree_of_item : (d : Direction) (n : ℕ) (x : Item) → HasGroups n (n + (counts_of_item x).groups) (tree_of_item table all d n x)
  HasGroups-tree_of_item d n x k =
      omega (
        arith,
        count_id-permuted k n _ _ _ (length-names_of_item x) (permuted-tree_of_item table all d n x),
        between k n (counts_of_item x).groups,
      )

  -- The ids of a pattern are inside the range of the lookaround around it.
  pub HasGroups-tree_of_pattern : (d : Direction) (n : ℕ) (p : Pattern) → HasGroups n (n + (counts p).groups) (tree_of_pattern table all d n p)
  HasGroups-tree_of_pattern d n p k =
      omega (
        arith,
        count_id-permuted k n _ _ _ (length-names p) (permuted-tree_of_pattern table all d n p),
        between k n (counts p).groups,
      )

-- ---- the whole tree

captures-of_whole : (table : Table) (p : Pattern) →
    captures (tree_of table p) ≡ captures (tree_of_pattern table (names p) forwards 0 p)
captures-of_whole table p = append-nil (captures (tree_of_pattern table (names p) forwards 0 p))

-- The tree has the groups of the pattern, in some order.
pub permuted-tree_of : (table : Table) (p : Pattern) → IsPermutation (pattern_groups p) (captures (tree_of table p))
permuted-tree_of table p =
    subst (IsPermutation (pattern_groups p)) (sym (captures-of_whole table p)) (permuted-tree_of_pattern table (names p) forwards 0 p)

pub length-pattern_groups : (p : Pattern) → length (pattern_groups p) ≡ (counts p).groups
length-pattern_groups p = length-numbered 0 (names p) ∙ length-names p

pub length-captures-tree_of : (table : Table) (p : Pattern) → length (captures (tree_of table p)) ≡ (counts p).groups
length-captures-tree_of table p =
    ap length (captures-of_whole table p) ∙ length-captures-tree_of_pattern table (names p) forwards 0 p

pub count_id-tree_of : (table : Table) (p : Pattern) (k : ℕ) →
    count_by (λ c. c.id == k) (captures (tree_of table p)) ≡ cond (nat_lt k (length (captures (tree_of table p)))) 1 0
count_id-tree_of table p k =
    let none : below k 0 ≡ 0 = grind (arith, nat_tests) in
    let same : 0 + (counts p).groups ≡ length (captures (tree_of table p)) = omega (arith, length-captures-tree_of table p) in
    let ids = count_id-permuted k 0 _ _ _ (length-names p) (permuted-tree_of_pattern table (names p) forwards 0 p) in
    omega (arith, none, ap (count_id k) (captures-of_whole table p), ids, ap (below k) same)
