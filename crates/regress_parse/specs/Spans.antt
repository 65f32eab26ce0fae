-- The position of each node of a tree in its pattern: one span for each node, in postorder, defined along the grammar's
-- derivation of the pattern.
use Rattle.std.specs.Prelude.{ℕ, ◌+◌, ◌-◌, ◌≤◌, Bool, true, false, List, [], ◌∷◌, ◌++◌, length, replicate, Option, Some, None, if◌then◌else◌, ◌==◌}
use Rattle.regress_base.specs.declared.types.Quantifier.{Quantifier}
use Rattle.regress_tree.specs.Reading.{Direction, forwards, backwards}
use Rattle.regress_tree.specs.Steps.{Setting}
use Rattle.regress_tree.specs.Visits.{nodes}
use Rattle.regress_lexer.specs.declared.dialect.Dialect.{Dialect}
use Rattle.regress_lexer.specs.declared.dialect.Dialect.TheVariants.{Regress}
use Rattle.regress_lexer.specs.Source.{Source, closing, bar}
use Rattle.regress_syntax.specs.Syntax.{Group, grouping, modified, capture, look, Pattern, Terms, Item, one, either, no_terms, more_terms, atom, group, direction_of_group}
use Rattle.regress_syntax.specs.Productions.{Context, context_inside}
use Rattle.regress_syntax.specs.Grammar.{IsPattern, AreTerms, IsItem}
use Rattle.regress_parse.specs.Accepted.{own_context_in, IsDerivedIn, IsDerived}
use Rattle.regress_parse.specs.TreeOf.{tree_of_atom}
use Rattle.regress_parse.specs.declared.span.Span.{Span}

-- the span is inside the other one, and its start is at most its end
pub record IsWithin (outer s : Span) : Type 0 where
  pub start : outer.start ≤ s.start
  pub ordered : s.start ≤ s.end
  pub end : s.end ≤ outer.end

-- one span is inside the other, or they share no code point
pub data IsInsideOrApart (s outer : Span) : Type 0 where
  is_inside : IsWithin outer s → IsInsideOrApart s outer
  ends_before : s.end ≤ outer.start → IsInsideOrApart s outer
  begins_after : outer.end ≤ s.start → IsInsideOrApart s outer

-- the span of the loop around an item, if a quantifier follows it
abbrev pub span_of_times : Option Quantifier → Span → List Span
span_of_times None s = []
span_of_times (Some q) s = s ∷ []

-- A group has a node of its own.
abbrev pub has_node : Group → Bool
has_node grouping = false
has_node (modified change) = false
has_node (capture name) = true
has_node (look negate direction) = true

abbrev pub span_of_group : Group → Span → List Span
span_of_group kind s = if has_node kind then s ∷ [] else []

abbrev pub how_many : Terms → ℕ
how_many no_terms = 0
how_many (more_terms x q xs) = 1 + how_many xs

-- A single term needs no further node. For no terms there is an `Empty`, for several a `Cat` around them.
abbrev pub span_of_alternative : ℕ → Span → List Span
span_of_alternative terms s = if terms == 1 then [] else s ∷ []

-- What belongs to the first part and to the others, in the order of the tree: reversed where matching runs backwards.
abbrev pub in_tree_order : {X : Type 0} → Direction → List X → List X → List X
in_tree_order forwards first others = first ++ others
in_tree_order backwards first others = others ++ first

-- the length of the whole source, in code points
module _ (whole : ℕ) where
  -- the span from the position where `t` remains to the one where `rest` remains
  abbrev pub between : Source → Source → Span
  between t rest = record { start = whole - length t; end = whole - length rest }

  -- the spans of what the grammar derives between `t` and `rest`
  abbrev mutual
    pub spans_of_pattern : (ctx : Context) → Direction → (p : Pattern) (t rest : Source) → IsPattern ctx p t rest → List Span
    spans_of_pattern ctx d (one ts) t rest (terms, last) =
        spans_of_terms ctx d ts t rest terms ++ span_of_alternative (how_many ts) (between t rest)
    spans_of_pattern ctx d (either ts p) t rest (mid, terms, others) =
        spans_of_terms ctx d ts t (bar ∷ mid) terms ++ span_of_alternative (how_many ts) (between t (bar ∷ mid))
        ++ spans_of_pattern ctx d p mid rest others
        ++ between t rest ∷ []

    -- each item with its quantifier
    pub spans_of_terms : (ctx : Context) → Direction → (ts : Terms) (t rest : Source) → AreTerms ctx ts t rest → List Span
    spans_of_terms ctx d no_terms t rest ends = []
    spans_of_terms ctx d (more_terms x q xs) t rest (mid, after, item, times, others) =
        in_tree_order d (spans_of_item ctx d x t mid item ++ span_of_times q (between t after)) (spans_of_terms ctx d xs after rest others)

    -- Each node of an item without a body has the span of the item.
    pub spans_of_item : (ctx : Context) → Direction → (x : Item) (t rest : Source) → IsItem ctx x t rest → List Span
    spans_of_item ctx d (atom a) t rest head = replicate (nodes (tree_of_atom ctx.setting.table ctx.names a)) (between t rest)
    spans_of_item ctx d (group kind p) t rest (mid, head, body) =
        spans_of_pattern (context_inside kind ctx) (direction_of_group kind d) p mid (closing ∷ rest) body
        ++ span_of_group kind (between t rest)

-- The spans of the tree of a whole pattern in a dialect. After those of its nodes come the final `Goal`, empty and at the
-- end, and the root, which has all of the pattern.
abbrev pub spans_in : (dialect : Dialect) (setting : Setting) (source : Source) (p : Pattern) → IsDerivedIn dialect setting source p → List Span
spans_in dialect setting source p derived =
    spans_of_pattern (length source) (own_context_in dialect setting p) forwards p source [] derived
    ++ between (length source) [] [] ∷ between (length source) source [] ∷ []

-- the same in the dialect of `try_parse`
abbrev pub spans_of : (setting : Setting) (source : Source) (p : Pattern) → IsDerived setting source p → List Span
spans_of = spans_in Regress
