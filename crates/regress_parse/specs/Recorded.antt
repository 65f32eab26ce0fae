-- Which spans the parser's functions append. Of the public contracts none cites this.
use Rattle.std.specs.Prelude.{◌≡◌, ℕ, ◌-◌, Bool, List, [], ◌∷◌, ◌++◌, length, Option, Some, Vec}
use Rattle.std.specs.declared.alloc.Global.{Global}
use Rattle.regress_base.specs.declared.types.Quantifier.{Quantifier}
use Rattle.regress_tree.specs.Reading.{Direction, forwards}
use Rattle.regress_tree.specs.Tree.{Tree, Trees, leaf, cat, alt, wrapped, no_trees, more_trees}
use Rattle.regress_lexer.specs.Source.{Source}
use Rattle.regress_syntax.specs.Syntax.{Pattern, Terms, Item}
use Rattle.regress_syntax.specs.Productions.{Context, head_of_item, allows, optional_quantifier_at}
use Rattle.regress_syntax.specs.Grammar.{IsPattern, AreTerms, IsItem}
use Rattle.regress_parse.specs.declared.span.Span.{Span}
use Rattle.regress_parse.specs.Spans.{span_of_times, span_of_alternative, how_many, between, spans_of_pattern, spans_of_terms, spans_of_item}

-- Each tree of the list is a leaf.
abbrev pub AreLeaves : Trees → Type 0
AreLeaves no_trees = Unit {0}
AreLeaves (more_trees (leaf l) ts) = AreLeaves ts
AreLeaves (more_trees other ts) = ⊥

-- one node, or a chain of `Alt` nodes whose alternatives are leaves
abbrev pub IsChain : Tree → Type 0
IsChain (leaf l) = Unit {0}
IsChain (alt (leaf l) right) = IsChain right
IsChain other = ⊥

-- that, or a `Cat` of leaves
abbrev pub IsFlat : Tree → Type 0
IsFlat (cat parts) = AreLeaves parts
IsFlat (leaf l) = IsChain (leaf l)
IsFlat (alt left right) = IsChain (alt left right)
IsFlat (wrapped w body) = IsChain (wrapped w body)

-- the spans of parts in reverse order
abbrev pub joined_in_reverse : List (Vec Span Global) → List Span
joined_in_reverse [] = []
joined_in_reverse (part ∷ parts) = joined_in_reverse parts ++ part.items

-- the span from the position where `left` code points remained to the one where `rest` remains
abbrev pub span_to : (whole left : ℕ) → (rest : Source) → Span
span_to whole left rest = record { start = whole - left; end = whole - length rest }

-- the spans of nested `Alt` nodes that end at `rest`, innermost first; each is given by the number of code points that
-- remain from its start on
abbrev pub alternations : (whole : ℕ) → List ℕ → (rest : Source) → List Span
alternations whole [] rest = []
alternations whole (left ∷ lefts) rest = alternations whole lefts rest ++ span_to whole left rest ∷ []

-- The parser is after the part, and the part's spans are appended.
pub record Adds (before : List Span) (new : Source) (now : List Span) (after : Source) (part : List Span) : Type 0 where
  pub rest : new ≡ after
  pub spans : now ≡ before ++ part

-- What was recorded between two positions, if the grammar derives a pattern from the first one; then the same for the
-- other symbols of the grammar.
module _ (whole : ℕ) (ctx : Context) where
  -- The spans of the nodes of the pattern were appended.
  abbrev pub RecordsPattern : Direction → Source → List Span → Source → List Span → Type 0
  RecordsPattern d t before new now =
      (p : Pattern) (rest : Source) (h : IsPattern ctx p t rest) → Adds before new now rest (spans_of_pattern whole ctx d p t rest h)

  -- the same for the terms of an alternative and the node around them, which exists unless there is exactly one term
  abbrev pub RecordsAlternative : Direction → Source → List Span → Source → List Span → Type 0
  RecordsAlternative d t before new now =
      (ts : Terms) (rest : Source) (h : AreTerms ctx ts t rest) →
      Adds before new now rest (spans_of_terms whole ctx d ts t rest h ++ span_of_alternative (how_many ts) (between whole t rest))

  -- the same for an item and its quantifier
  abbrev pub RecordsTerm : Direction → Source → List Span → Source → List Span → Type 0
  RecordsTerm d t before new now =
      (x : Item) (q : Option Quantifier) (mid rest : Source) (h : IsItem ctx x t mid) →
      optional_quantifier_at ctx (allows ctx (head_of_item x)) mid ≡ Some (q, rest) →
      Adds before new now rest (spans_of_item whole ctx d x t mid h ++ span_of_times q (between whole t rest))

  -- the same for an item, with whether a quantifier may follow it
  abbrev pub RecordsItem : Direction → Source → List Span → Source → List Span → (allowed : Bool) → Type 0
  RecordsItem d t before new now allowed =
      (x : Item) (rest : Source) (h : IsItem ctx x t rest) →
      (allowed ≡ allows ctx (head_of_item x)) × Adds before new now rest (spans_of_item whole ctx d x t rest h)

-- These are the spans of the whole source, in postorder, and then those of the final `Goal` and of the root.
abbrev pub HasSpans : Context → Source → List Span → Type 0
HasSpans ctx t now =
    (p : Pattern) (h : IsPattern ctx p t []) →
    now ≡ spans_of_pattern (length t) ctx forwards p t [] h ++ between (length t) [] [] ∷ between (length t) t [] ∷ []
