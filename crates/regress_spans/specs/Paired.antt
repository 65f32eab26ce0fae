-- Each node of a tree beside its span, in postorder. It is defined along the grammar's derivation of the pattern, as
-- `Spans` is: each span is beside the tree that the same production makes.
use Rattle.std.specs.Prelude.{ℕ, ◌+◌, List, [], ◌∷◌, ◌++◌, length, map}
use Rattle.regress_tree.specs.Reading.{Direction, forwards}
use Rattle.regress_tree.specs.Steps.{Setting}
use Rattle.regress_tree.specs.Tree.{goal, Tree, Trees, leaf, cat, alt, wrapped, no_trees, more_trees}
use Rattle.regress_lexer.specs.declared.dialect.Dialect.{Dialect}
use Rattle.regress_lexer.specs.declared.dialect.Dialect.TheVariants.{Regress}
use Rattle.regress_lexer.specs.Source.{Source, closing, bar}
use Rattle.regress_syntax.specs.Syntax.{Pattern, Terms, Item, one, either, no_terms, more_terms, atom, group, opened_by, counts_of_item, counts_of_terms, counts_of_term, direction_of_group}
use Rattle.regress_syntax.specs.Productions.{Context, context_inside}
use Rattle.regress_syntax.specs.Grammar.{IsPattern, AreTerms, IsItem}
use Rattle.regress_parse.specs.Accepted.{own_context_in, IsDerivedIn, IsDerived}
use Rattle.regress_parse.specs.TreeOf.{concatenation, tree_of_quantified, tree_of_atom, tree_of_pattern, trees_of_terms, tree_of_item, tree_of}
use Rattle.regress_parse.specs.declared.span.Span.{Span}
use Rattle.regress_parse.specs.Spans.{in_tree_order, span_of_times, span_of_group, how_many, span_of_alternative, between}

-- the nodes of a tree in postorder, each as the tree at it: the children from left to right, and then the node itself
abbrev mutual
  pub postorder : Tree → List Tree
  postorder (leaf l) = leaf l ∷ []
  postorder (cat parts) = postorder_of_list parts ++ cat parts ∷ []
  postorder (alt left right) = postorder left ++ postorder right ++ alt left right ∷ []
  postorder (wrapped w body) = postorder body ++ wrapped w body ∷ []

  pub postorder_of_list : Trees → List Tree
  postorder_of_list no_trees = []
  postorder_of_list (more_trees t ts) = postorder t ++ postorder_of_list ts

-- a tree beside its span, if a production makes a node of its own
abbrev pub beside : Tree → List Span → List (Tree × Span)
beside t = map (λ s. (t, s))

-- the length of the whole source, in code points
module _ (whole : ℕ) where
  -- the nodes, with their spans, of what the grammar derives between `t` and `rest`, after n opened groups
  abbrev mutual
    pub spanned_of_pattern : (ctx : Context) → Direction → ℕ → (p : Pattern) (t rest : Source) → IsPattern ctx p t rest → List (Tree × Span)
    spanned_of_pattern ctx d n (one ts) t rest (terms, last) =
        spanned_of_terms ctx d n ts t rest terms
        ++ beside (concatenation d (trees_of_terms ctx.setting.table ctx.names d n ts)) (span_of_alternative (how_many ts) (between whole t rest))
    spanned_of_pattern ctx d n (either ts p) t rest (mid, terms, others) =
        spanned_of_terms ctx d n ts t (bar ∷ mid) terms
        ++ beside (concatenation d (trees_of_terms ctx.setting.table ctx.names d n ts)) (span_of_alternative (how_many ts) (between whole t (bar ∷ mid)))
        ++ spanned_of_pattern ctx d (n + (counts_of_terms ts).groups) p mid rest others
        ++ (tree_of_pattern ctx.setting.table ctx.names d n (either ts p), between whole t rest) ∷ []

    -- each item with its quantifier
    pub spanned_of_terms : (ctx : Context) → Direction → ℕ → (ts : Terms) (t rest : Source) → AreTerms ctx ts t rest → List (Tree × Span)
    spanned_of_terms ctx d n no_terms t rest ends = []
    spanned_of_terms ctx d n (more_terms x q xs) t rest (mid, after, item, times, others) =
        let looped = tree_of_quantified q n (n + (counts_of_item x).groups) (tree_of_item ctx.setting.table ctx.names d n x) in
        in_tree_order d
        (spanned_of_item ctx d n x t mid item ++ beside looped (span_of_times q (between whole t after)))
        (spanned_of_terms ctx d (n + (counts_of_term x q).groups) xs after rest others)

    -- Each node of an item without a body has the span of the item.
    pub spanned_of_item : (ctx : Context) → Direction → ℕ → (x : Item) (t rest : Source) → IsItem ctx x t rest → List (Tree × Span)
    spanned_of_item ctx d n (atom a) t rest head =
        map (λ node. (node, between whole t rest)) (postorder (tree_of_atom ctx.setting.table ctx.names a))
    spanned_of_item ctx d n (group kind p) t rest (mid, head, body) =
        spanned_of_pattern (context_inside kind ctx) (direction_of_group kind d) (n + opened_by kind) p mid (closing ∷ rest) body
        ++ beside (tree_of_item ctx.setting.table ctx.names d n (group kind p)) (span_of_group kind (between whole t rest))

-- The nodes of the tree of a whole pattern in a dialect, with their spans: at the end the final `Goal`, and the root.
abbrev pub spanned_in : (dialect : Dialect) (setting : Setting) (source : Source) (p : Pattern) → IsDerivedIn dialect setting source p → List (Tree × Span)
spanned_in dialect setting source p derived =
    let whole = length source in
    spanned_of_pattern whole (own_context_in dialect setting p) forwards 0 p source [] derived
    ++ (leaf goal, between whole [] []) ∷ (tree_of setting.table p, between whole source []) ∷ []

-- the same in the dialect of `try_parse_with_spans`
abbrev pub spanned_of : (setting : Setting) (source : Source) (p : Pattern) → IsDerived setting source p → List (Tree × Span)
spanned_of = spanned_in Regress
