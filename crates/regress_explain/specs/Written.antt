-- What is written to a page.
use Rattle.std.specs.Prelude.{◌≡◌, ⊤, ℕ, List, [], ◌∷◌, ◌++◌, All}
use Rattle.regress_parse.specs.declared.span.Span.{Span}
use Rattle.regress_outline.specs.declared.lines.Line.{Line}
use Rattle.regress_explain.specs.declared.markup.Element.TheVariants.{Link, Small}
use Rattle.regress_explain.specs.declared.markup.Tag.{Tag}
use Rattle.regress_explain.specs.declared.markup.Tag.TheVariants.{Close}
use Rattle.regress_explain.specs.Page.{LeadsBack, Piece, element_pieces, pieces_bytes, tag}

-- The page is continued by pieces of which P holds.
pub record Adds (P : List Piece → Type 0) (before after : List ℕ) : Type 0 where
  pub pieces : List Piece
  pub has : P pieces
  pub added : after ≡ before ++ pieces_bytes pieces

abbrev pub IsAnything : List Piece → Type 0
IsAnything pieces = ⊤

-- P holds of the pieces, and they have no link to the picture.
pub record HasNoLead (P : List Piece → Type 0) (pieces : List Piece) : Type 0 where
  pub has : P pieces
  pub none : (lines : List ℕ) → (number : ℕ) → All (LeadsBack lines number) pieces

-- a link with a text
abbrev pub link_pieces : (to : Tag) → (content : List ℕ) → List Piece
link_pieces to content = tag to ∷ (element_pieces Small content ++ tag (Close Link) ∷ [])

-- the span of the part of a line
abbrev pub span_of : Line → Span
span_of line = line.span
