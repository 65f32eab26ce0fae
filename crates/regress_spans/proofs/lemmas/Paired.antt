-- The nodes and the spans of `spanned_in` are those of the tree, in postorder, and those of `spans_in`.
use Rattle.std.proofs.Common.{◌≡◌, ◌≢◌, ℕ, ◌+◌, ◌==◌, List, [], ◌∷◌, ◌++◌, length, map, replicate, Option, Some, None, refl, sym, ap, ap₂, ◌∙◌, arith}
use Rattle.std.specs.List.{zip}
use Rattle.std.proofs.lemmas.Bool.{cond-false, ne_eqb}
use Rattle.std.proofs.lemmas.List.{length-append, append-nil, append_assoc, map-append}
use Rattle.regress_base.specs.Table.{Table}
use Rattle.regress_base.specs.declared.types.Quantifier.{Quantifier}
use Rattle.regress_tree.specs.Reading.{Direction, forwards, backwards}
use Rattle.regress_tree.specs.Steps.{Setting}
use Rattle.regress_tree.specs.Tree.{empty, goal, Tree, Trees, leaf, cat, alt, wrapped, no_trees, more_trees, append_trees, reverse_trees}
use Rattle.regress_tree.specs.Visits.{nodes, nodes_in_list}
use Rattle.regress_lexer.specs.declared.dialect.Dialect.{Dialect}
use Rattle.regress_lexer.specs.Source.{Source, closing, bar}
use Rattle.regress_syntax.specs.Syntax.{Name, Group, grouping, modified, capture, look, Pattern, Terms, Item, one, either, no_terms, more_terms, atom, group, opened_by, counts_of_item, counts_of_terms, counts_of_term, direction_of_group}
use Rattle.regress_syntax.specs.Productions.{Context, context_inside}
use Rattle.regress_syntax.specs.Grammar.{IsPattern, AreTerms, IsItem}
use Rattle.regress_parse.specs.Accepted.{own_context_in, IsDerivedIn}
use Rattle.regress_parse.specs.TreeOf.{concatenation, tree_of_group, tree_of_quantified, tree_of_atom, tree_of_pattern, trees_of_terms, tree_of_item, tree_of, in_direction}
use Rattle.regress_parse.specs.declared.span.Span.{Span}
use Rattle.regress_parse.specs.Spans.{span_of_times, span_of_group, how_many, span_of_alternative, in_tree_order, between, spans_of_pattern, spans_of_terms, spans_of_item, spans_in}
use Rattle.regress_spans.specs.Paired.{postorder, postorder_of_list, beside, spanned_of_pattern, spanned_of_terms, spanned_of_item, spanned_in}

abbrev pub tree_at : Tree × Span → Tree
tree_at x = x.0

abbrev pub span_at : Tree × Span → Span
span_at x = x.1

-- ---- lists of pairs

both : {B : Type 0} (f : Tree × Span → B) (xs ys : List (Tree × Span)) (us vs : List B) → map f xs ≡ us → map f ys ≡ vs → map f (xs ++ ys) ≡ us ++ vs
both f xs ys us vs e1 e2 = map-append f xs ys ∙ ap₂ (λ first rest. first ++ rest) e1 e2

zipped : (xs : List (Tree × Span)) → zip (map tree_at xs) (map span_at xs) ≡ xs
zipped [] = refl
zipped (x ∷ xs) = ap (λ ys. x ∷ ys) (zipped xs)

spans-beside : (t : Tree) (ss : List Span) → map span_at (beside t ss) ≡ ss
spans-beside t [] = refl
spans-beside t (s ∷ ss) = ap (λ rest. s ∷ rest) (spans-beside t ss)

-- each of these trees with the same span
trees-with : (s : Span) (ts : List Tree) → map tree_at (map (λ node. (node, s)) ts) ≡ ts
trees-with s [] = refl
trees-with s (t ∷ ts) = ap (λ us. t ∷ us) (trees-with s ts)

spans-with : (s : Span) (ts : List Tree) → map span_at (map (λ (node : Tree). (node, s)) ts) ≡ replicate (length ts) s
spans-with s [] = refl
spans-with s (t ∷ ts) = ap (λ rest. s ∷ rest) (spans-with s ts)

-- ---- trees in postorder

mutual
  pub length-postorder : (t : Tree) → length (postorder t) ≡ nodes t
  length-postorder (leaf l) = refl
  length-postorder (cat parts) = omega (arith, length-append (postorder_of_list parts) (cat parts ∷ []), length-postorder_of_list parts)
  length-postorder (alt left right) =
      omega (
        arith,
        length-append (postorder left ++ postorder right) (alt left right ∷ []),
        length-append (postorder left) (postorder right),
        length-postorder left,
        length-postorder right,
      )
  length-postorder (wrapped w body) = omega (arith, length-append (postorder body) (wrapped w body ∷ []), length-postorder body)

  length-postorder_of_list : (ts : Trees) → length (postorder_of_list ts) ≡ nodes_in_list ts
  length-postorder_of_list no_trees = refl
  length-postorder_of_list (more_trees t ts) =
      omega (arith, length-append (postorder t) (postorder_of_list ts), length-postorder t, length-postorder_of_list ts)

postorder-append : (ts us : Trees) → postorder_of_list (append_trees ts us) ≡ postorder_of_list ts ++ postorder_of_list us
postorder-append no_trees us = refl
postorder-append (more_trees t ts) us =
    ap (λ vs. postorder t ++ vs) (postorder-append ts us) ∙ sym (append_assoc (postorder t) (postorder_of_list ts) (postorder_of_list us))

-- A list of one tree is the same in both directions.
postorder-single : (d : Direction) (t : Tree) → postorder_of_list (in_direction d (more_trees t no_trees)) ≡ postorder t
postorder-single forwards t = append-nil (postorder t)
postorder-single backwards t = append-nil (postorder t)

-- ---- the nodes that a production makes

trees-times : (q : Option Quantifier) (start end : ℕ) (t : Tree) (s : Span) (xs : List (Tree × Span)) → map tree_at xs ≡ postorder t →
    map tree_at (xs ++ beside (tree_of_quantified q start end t) (span_of_times q s)) ≡ postorder (tree_of_quantified q start end t)
trees-times None start end t s xs e = both tree_at xs [] (postorder t) [] e refl ∙ append-nil (postorder t)
trees-times (Some q) start end t s xs e =
    both tree_at xs ((tree_of_quantified (Some q) start end t, s) ∷ []) (postorder t) (tree_of_quantified (Some q) start end t ∷ []) e refl

trees-group : (kind : Group) (start end : ℕ) (t : Tree) (s : Span) (xs : List (Tree × Span)) → map tree_at xs ≡ postorder t →
    map tree_at (xs ++ beside (tree_of_group start end kind t) (span_of_group kind s)) ≡ postorder (tree_of_group start end kind t)
trees-group grouping start end t s xs e = both tree_at xs [] (postorder t) [] e refl ∙ append-nil (postorder t)
trees-group (modified change) start end t s xs e = both tree_at xs [] (postorder t) [] e refl ∙ append-nil (postorder t)
trees-group (capture name) start end t s xs e =
    both tree_at xs ((tree_of_group start end (capture name) t, s) ∷ []) (postorder t) (tree_of_group start end (capture name) t ∷ []) e refl
trees-group (look negate direction) start end t s xs e =
    both tree_at xs ((tree_of_group start end (look negate direction) t, s) ∷ []) (postorder t) (tree_of_group start end (look negate direction) t ∷ []) e refl

several : (n : ℕ) (s : Span) → span_of_alternative (1 + (1 + n)) s ≡ s ∷ []
several n s =
    let ne : 1 + (1 + n) ≢ 1 = λ e. omega (arith, e) in
    cond-false (1 + (1 + n) == 1) _ _ (ne_eqb (1 + (1 + n)) 1 ne)

module _ (table : Table) (names : List (Option Name)) where
  trees-alternative : (d : Direction) (n : ℕ) (ts : Terms) (s : Span) (xs : List (Tree × Span)) →
      map tree_at xs ≡ postorder_of_list (in_direction d (trees_of_terms table names d n ts)) →
      map tree_at (xs ++ beside (concatenation d (trees_of_terms table names d n ts)) (span_of_alternative (how_many ts) s))
      ≡ postorder (concatenation d (trees_of_terms table names d n ts))
  trees-alternative forwards n no_terms s xs e = both tree_at xs ((leaf empty, s) ∷ []) [] (leaf empty ∷ []) e refl
  trees-alternative backwards n no_terms s xs e = both tree_at xs ((leaf empty, s) ∷ []) [] (leaf empty ∷ []) e refl
  trees-alternative d n (more_terms x q no_terms) s xs e =
      let t = concatenation d (trees_of_terms table names d n (more_terms x q no_terms)) in
      both tree_at xs [] (postorder t) [] (e ∙ postorder-single d t) refl ∙ append-nil (postorder t)
  trees-alternative d n (more_terms x q (more_terms y r ts)) s xs e =
      let trees = in_direction d (trees_of_terms table names d n (more_terms x q (more_terms y r ts))) in
      both tree_at xs (beside (cat trees) (span_of_alternative (1 + (1 + how_many ts)) s)) (postorder_of_list trees) (cat trees ∷ []) e
      (ap (λ ss. map tree_at (beside (cat trees) ss)) (several (how_many ts) s))

trees-in_order : (d : Direction) (t : Tree) (ts : Trees) (xs ys : List (Tree × Span)) →
    map tree_at xs ≡ postorder t → map tree_at ys ≡ postorder_of_list (in_direction d ts) →
    map tree_at (in_tree_order d xs ys) ≡ postorder_of_list (in_direction d (more_trees t ts))
trees-in_order forwards t ts xs ys e1 e2 = both tree_at xs ys (postorder t) (postorder_of_list ts) e1 e2
trees-in_order backwards t ts xs ys e1 e2 =
    both tree_at ys xs (postorder_of_list (reverse_trees ts)) (postorder t ++ []) e2 (e1 ∙ sym (append-nil (postorder t)))
    ∙ sym (postorder-append (reverse_trees ts) (more_trees t no_trees))

spans-in_order : (d : Direction) (xs ys : List (Tree × Span)) (ss others : List Span) → map span_at xs ≡ ss → map span_at ys ≡ others →
    map span_at (in_tree_order d xs ys) ≡ in_tree_order d ss others
spans-in_order forwards xs ys ss others e1 e2 = both span_at xs ys ss others e1 e2
spans-in_order backwards xs ys ss others e1 e2 = both span_at ys xs others ss e2 e1

module _ (whole : ℕ) where
  -- ---- the nodes

  mutual
    trees_of_pattern : (ctx : Context) (d : Direction) (n : ℕ) (p : Pattern) (t rest : Source) (h : IsPattern ctx p t rest) →
        map tree_at (spanned_of_pattern whole ctx d n p t rest h) ≡ postorder (tree_of_pattern ctx.setting.table ctx.names d n p)
    trees_of_pattern ctx d n (one ts) t rest h =
        trees-alternative ctx.setting.table ctx.names d n ts (between whole t rest) (spanned_of_terms whole ctx d n ts t rest h.0)
        (trees_of_list ctx d n ts t rest h.0)
    trees_of_pattern ctx d n (either ts p) t rest h =
        let m = n + (counts_of_terms ts).groups in
        let first = concatenation d (trees_of_terms ctx.setting.table ctx.names d n ts) in
        let others = tree_of_pattern ctx.setting.table ctx.names d m p in
        let terms = spanned_of_terms whole ctx d n ts t (bar ∷ h.0) h.1 in
        let alternative = terms ++ beside first (span_of_alternative (how_many ts) (between whole t (bar ∷ h.0))) in
        both tree_at (alternative ++ spanned_of_pattern whole ctx d m p h.0 rest h.2) ((alt first others, between whole t rest) ∷ [])
        (postorder first ++ postorder others) (alt first others ∷ [])
        (both tree_at alternative (spanned_of_pattern whole ctx d m p h.0 rest h.2) (postorder first) (postorder others)
        (trees-alternative ctx.setting.table ctx.names d n ts (between whole t (bar ∷ h.0)) terms (trees_of_list ctx d n ts t (bar ∷ h.0) h.1))
        (trees_of_pattern ctx d m p h.0 rest h.2))
        refl

    trees_of_list : (ctx : Context) (d : Direction) (n : ℕ) (ts : Terms) (t rest : Source) (h : AreTerms ctx ts t rest) →
        map tree_at (spanned_of_terms whole ctx d n ts t rest h) ≡ postorder_of_list (in_direction d (trees_of_terms ctx.setting.table ctx.names d n ts))
    trees_of_list ctx forwards n no_terms t rest h = refl
    trees_of_list ctx backwards n no_terms t rest h = refl
    trees_of_list ctx d n (more_terms x q xs) t rest h =
        let end = n + (counts_of_item x).groups in
        let after = n + (counts_of_term x q).groups in
        let inner = tree_of_item ctx.setting.table ctx.names d n x in
        let item = spanned_of_item whole ctx d n x t h.0 h.2 in
        let looped = tree_of_quantified q n end inner in
        trees-in_order d looped (trees_of_terms ctx.setting.table ctx.names d after xs)
        (item ++ beside looped (span_of_times q (between whole t h.1))) (spanned_of_terms whole ctx d after xs h.1 rest h.4)
        (trees-times q n end inner (between whole t h.1) item (trees_of_one ctx d n x t h.0 h.2))
        (trees_of_list ctx d after xs h.1 rest h.4)

    trees_of_one : (ctx : Context) (d : Direction) (n : ℕ) (x : Item) (t rest : Source) (h : IsItem ctx x t rest) →
        map tree_at (spanned_of_item whole ctx d n x t rest h) ≡ postorder (tree_of_item ctx.setting.table ctx.names d n x)
    trees_of_one ctx d n (atom a) t rest h = trees-with (between whole t rest) (postorder (tree_of_atom ctx.setting.table ctx.names a))
    trees_of_one ctx d n (group kind p) t rest h =
        let inner = direction_of_group kind d in
        let m = n + opened_by kind in
        trees-group kind n (n + (counts_of_item (group kind p)).groups) (tree_of_pattern ctx.setting.table ctx.names inner m p) (between whole t rest)
        (spanned_of_pattern whole (context_inside kind ctx) inner m p h.0 (closing ∷ rest) h.2)
        (inside kind (trees_of_pattern (context_inside kind ctx) inner m p h.0 (closing ∷ rest) h.2))
      where
        -- A group changes neither the table nor the names.
        inside : {xs : List Tree} (kind : Group) →
            xs ≡ postorder (tree_of_pattern (context_inside kind ctx).setting.table (context_inside kind ctx).names (direction_of_group kind d)
            (n + opened_by kind) p) →
            xs ≡ postorder (tree_of_pattern ctx.setting.table ctx.names (direction_of_group kind d) (n + opened_by kind) p)
        inside grouping e = e
        inside (modified change) e = e
        inside (capture name) e = e
        inside (look negate direction) e = e

  -- ---- the spans

  mutual
    spans_in_pattern : (ctx : Context) (d : Direction) (n : ℕ) (p : Pattern) (t rest : Source) (h : IsPattern ctx p t rest) →
        map span_at (spanned_of_pattern whole ctx d n p t rest h) ≡ spans_of_pattern whole ctx d p t rest h
    spans_in_pattern ctx d n (one ts) t rest h =
        both span_at (spanned_of_terms whole ctx d n ts t rest h.0) _ (spans_of_terms whole ctx d ts t rest h.0) _
        (spans_in_terms ctx d n ts t rest h.0)
        (spans-beside (concatenation d (trees_of_terms ctx.setting.table ctx.names d n ts)) (span_of_alternative (how_many ts) (between whole t rest)))
    spans_in_pattern ctx d n (either ts p) t rest h =
        let m = n + (counts_of_terms ts).groups in
        let here = span_of_alternative (how_many ts) (between whole t (bar ∷ h.0)) in
        let first = concatenation d (trees_of_terms ctx.setting.table ctx.names d n ts) in
        let terms = spanned_of_terms whole ctx d n ts t (bar ∷ h.0) h.1 in
        let spans = spans_of_terms whole ctx d ts t (bar ∷ h.0) h.1 in
        let others = spanned_of_pattern whole ctx d m p h.0 rest h.2 in
        both span_at (terms ++ beside first here ++ others) _ (spans ++ here ++ spans_of_pattern whole ctx d p h.0 rest h.2) (between whole t rest ∷ [])
        (both span_at (terms ++ beside first here) others (spans ++ here) (spans_of_pattern whole ctx d p h.0 rest h.2)
        (both span_at terms (beside first here) spans here (spans_in_terms ctx d n ts t (bar ∷ h.0) h.1) (spans-beside first here))
        (spans_in_pattern ctx d m p h.0 rest h.2))
        refl

    spans_in_terms : (ctx : Context) (d : Direction) (n : ℕ) (ts : Terms) (t rest : Source) (h : AreTerms ctx ts t rest) →
        map span_at (spanned_of_terms whole ctx d n ts t rest h) ≡ spans_of_terms whole ctx d ts t rest h
    spans_in_terms ctx d n no_terms t rest h = refl
    spans_in_terms ctx d n (more_terms x q xs) t rest h =
        let after = n + (counts_of_term x q).groups in
        let times = span_of_times q (between whole t h.1) in
        let looped = tree_of_quantified q n (n + (counts_of_item x).groups) (tree_of_item ctx.setting.table ctx.names d n x) in
        let item = spanned_of_item whole ctx d n x t h.0 h.2 in
        let spans = spans_of_item whole ctx d x t h.0 h.2 in
        spans-in_order d (item ++ beside looped times) (spanned_of_terms whole ctx d after xs h.1 rest h.4)
        (spans ++ times) (spans_of_terms whole ctx d xs h.1 rest h.4)
        (both span_at item (beside looped times) spans times (spans_in_item ctx d n x t h.0 h.2) (spans-beside looped times))
        (spans_in_terms ctx d after xs h.1 rest h.4)

    spans_in_item : (ctx : Context) (d : Direction) (n : ℕ) (x : Item) (t rest : Source) (h : IsItem ctx x t rest) →
        map span_at (spanned_of_item whole ctx d n x t rest h) ≡ spans_of_item whole ctx d x t rest h
    spans_in_item ctx d n (atom a) t rest h =
        let tree = tree_of_atom ctx.setting.table ctx.names a in
        spans-with (between whole t rest) (postorder tree) ∙ ap (λ k. replicate k (between whole t rest)) (length-postorder tree)
    spans_in_item ctx d n (group kind p) t rest h =
        let inner = direction_of_group kind d in
        let m = n + opened_by kind in
        let here = span_of_group kind (between whole t rest) in
        let whole_group = tree_of_item ctx.setting.table ctx.names d n (group kind p) in
        both span_at (spanned_of_pattern whole (context_inside kind ctx) inner m p h.0 (closing ∷ rest) h.2) (beside whole_group here)
        (spans_of_pattern whole (context_inside kind ctx) inner p h.0 (closing ∷ rest) h.2) here
        (spans_in_pattern (context_inside kind ctx) inner m p h.0 (closing ∷ rest) h.2) (spans-beside whole_group here)

-- ---- a whole pattern

module _ (dialect : Dialect) (setting : Setting) (source : Source) (p : Pattern) (derived : IsDerivedIn dialect setting source p) where
  pub nodes_of_spanned : map tree_at (spanned_in dialect setting source p derived) ≡ postorder (tree_of setting.table p)
  nodes_of_spanned =
      let whole = length source in
      let ctx = own_context_in dialect setting p in
      let body = tree_of_pattern setting.table ctx.names forwards 0 p in
      both tree_at (spanned_of_pattern whole ctx forwards 0 p source [] derived) _ (postorder body) (leaf goal ∷ tree_of setting.table p ∷ [])
      (trees_of_pattern whole ctx forwards 0 p source [] derived) refl
      ∙ sym (append_assoc (postorder body) (leaf goal ∷ []) (tree_of setting.table p ∷ []))

  pub spans_of_spanned : map span_at (spanned_in dialect setting source p derived) ≡ spans_in dialect setting source p derived
  spans_of_spanned =
      let whole = length source in
      let ctx = own_context_in dialect setting p in
      both span_at (spanned_of_pattern whole ctx forwards 0 p source [] derived) _
      (spans_of_pattern whole ctx forwards p source [] derived) (between whole [] [] ∷ between whole source [] ∷ [])
      (spans_in_pattern whole ctx forwards 0 p source [] derived) refl

  -- the nodes and the spans side by side
  pub paired : zip (postorder (tree_of setting.table p)) (spans_in dialect setting source p derived) ≡ spanned_in dialect setting source p derived
  paired = ap₂ zip (sym nodes_of_spanned) (sym spans_of_spanned) ∙ zipped (spanned_in dialect setting source p derived)
