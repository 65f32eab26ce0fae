-- The result of a call for the encoding of a tree with the spans of its nodes.
use Rattle.std.specs.Prelude.{◌≡◌, ◌<◌, ◌++◌, ◌⊎◌, ℕ, false, List, Option, None, Some, drop, length, map, slice_get, zip}
use Rattle.regress_tree.specs.Steps.{Setting}
use Rattle.regress_tree.specs.Tree.{Tree}
use Rattle.regress_tree.specs.Visits.{nodes}
use Rattle.regress_lexer.specs.Source.{Source}
use Rattle.regress_lexer.specs.declared.dialect.Dialect.{Dialect}
use Rattle.regress_syntax.specs.Syntax.{Pattern}
use Rattle.regress_parse.specs.Accepted.{IsAcceptedIn}
use Rattle.regress_parse.specs.Rejected.{NoneIsAcceptedIn}
use Rattle.regress_parse.specs.declared.span.Span.{Span}
use Rattle.regress_spans.specs.Paired.{postorder, spanned_in}
use Rattle.regress_encoding.specs.Order.{numbers_of}
use Rattle.regress_encoding.specs.Encoding.{encode}
use Rattle.regress_capi.specs.Results.{IsErrorIn, IsResult}
use Rattle.regress_capi.specs.declared.spanning.NodeSpan.{NodeSpan}

-- The tree is that of the pattern that the source denotes, and these are the spans of its nodes in postorder: the
-- production that makes a node gives its span.
pub record ArePlaced (dialect : Dialect) (setting : Setting) (source : Source) (t : Tree) (spans : List Span) : Type 0 where
  pub result : IsResult dialect setting source false t
  pub pattern : Pattern
  pub accepted : IsAcceptedIn dialect setting source pattern
  pub paired : zip (postorder t) spans ≡ spanned_in dialect setting source pattern accepted.derived
  pub each : length spans ≡ nodes t

-- the span of a node; an empty one at the start if there is none
abbrev pub node_span : Option Span → NodeSpan
node_span None = record { start = 0; end = 0 }
node_span (Some span) = record { start = span.start; end = span.end }

-- the span with a number
abbrev pub span_at : List Span → ℕ → NodeSpan
span_at spans number = node_span (slice_get spans number)

-- The words encode such a tree, and there is the span of each node in the order in which the nodes are encoded.
abbrev pub AreSpannedWords : Dialect → Setting → Source → List ℕ → List NodeSpan → Type 0
AreSpannedWords dialect setting source words spans =
    (t : Tree) × (placed : List Span) × ArePlaced dialect setting source t placed × (words ≡ encode t) × (spans ≡ map (span_at placed) (numbers_of 0 t))

module _ (P : List ℕ → List NodeSpan → Type 0) (needed spans_needed : ℕ) (old_words : List ℕ) (old_spans : List NodeSpan) where
  -- All items of two lists with this property are at the starts of the buffers.
  abbrev pub GivesBoth : (words : List ℕ) (spans : List NodeSpan) → Type 0
  GivesBoth words spans = (xs : List ℕ) × (ys : List NodeSpan) × P xs ys × (needed ≡ length xs) × (spans_needed ≡ length ys)
      × (words ≡ xs ++ drop (length xs) old_words) × (spans ≡ ys ++ drop (length ys) old_spans)

  -- A buffer is shorter than a list of two with this property.
  abbrev pub IsOneTooSmall : Type 0
  IsOneTooSmall = (xs : List ℕ) × (ys : List NodeSpan) × P xs ys × (needed ≡ length xs) × (spans_needed ≡ length ys)
      × ((length old_words < length xs) ⊎ (length old_spans < length ys))

-- The status, `needed`, `spans_needed`, `kind`, `position`, and the buffers before and after. `Asked` states that the
-- arguments are valid.
pub data SpannedResult (Asked : Type 0) (dialect : Dialect) (setting : Setting) (source : Source) (old_words : List ℕ) (old_spans : List NodeSpan) :
    (status needed spans_needed kind position : ℕ) (words : List ℕ) (spans : List NodeSpan) → Type 0 where
  -- the whole encoding and all spans are written
  spanned_written : {needed spans_needed : ℕ} {words : List ℕ} {spans : List NodeSpan} → Asked →
      GivesBoth (AreSpannedWords dialect setting source) needed spans_needed old_words old_spans words spans →
      SpannedResult Asked dialect setting source old_words old_spans 0 needed spans_needed 0 0 words spans
  -- the pattern is rejected, with the kind and the position of its syntax error
  spanned_rejected : {kind position : ℕ} → Asked → NoneIsAcceptedIn dialect setting source → IsErrorIn dialect setting source kind position →
      SpannedResult Asked dialect setting source old_words old_spans 5 0 0 kind position old_words old_spans
  -- an allocation failed
  spanned_out_of_memory : Asked → SpannedResult Asked dialect setting source old_words old_spans 2 0 0 0 0 old_words old_spans
  -- a buffer is too small
  spanned_little : {needed spans_needed : ℕ} → Asked → IsOneTooSmall (AreSpannedWords dialect setting source) needed spans_needed old_words old_spans →
      SpannedResult Asked dialect setting source old_words old_spans 3 needed spans_needed 0 0 old_words old_spans
  -- the arguments are invalid
  spanned_bad : (Asked → ⊥) → SpannedResult Asked dialect setting source old_words old_spans 4 0 0 0 0 old_words old_spans
