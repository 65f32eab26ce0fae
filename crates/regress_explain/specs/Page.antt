-- A page (HTML): tags of a fixed list, escaped texts, and pictures; and what it contains.
use Rattle.std.specs.Prelude.{◌≡◌, ◌≢◌, ◌⊎◌, ⊤, ℕ, ◌+◌, ◌<◌, ◌≤◌, List, [], ◌∷◌, ◌++◌, All, codes, drop, flat_map, length, Option, Some, None, slice_get, slice_range}
use Rattle.std.specs.Fmt.{decimal}
use Rattle.std.specs.Str.{IsCharBoundary}
use Rattle.std.specs.declared.ops.Range.{Range}
use Rattle.regress_labels.specs.Symbols.{IsShownText}
use Rattle.regress_parse.specs.declared.span.Span.{Span}
use Rattle.regress_railroad.specs.Excerpt.{ShowsFirst, points_at}
use Rattle.regress_svg.specs.Escape.{escaped_text}
use Rattle.regress_svg.specs.Links.{IsLinkedDocument}
use Rattle.regress_explain.specs.Shown.{shown_text}
use Rattle.regress_explain.specs.declared.markup.Element.{Element}
use Rattle.regress_explain.specs.declared.markup.Element.TheVariants.{Section, Heading, Paragraph, Figure, Items, Item, Code, Small, Mark, Division, Inline, Footer, Link, Table, Row, ColumnHead, Cell}
use Rattle.regress_explain.specs.declared.markup.Tag.{Tag}
use Rattle.regress_explain.specs.declared.markup.Tag.TheVariants.{Head, Style, Body, End, Diagram, Matches, Open, Close, Part, Line, To, ToPicture}

-- the name of an element
abbrev pub name_of : Element → List ℕ
name_of Section = codes "section"
name_of Heading = codes "h2"
name_of Paragraph = codes "p"
name_of Figure = codes "figure"
name_of Items = codes "ul"
name_of Item = codes "li"
name_of Code = codes "code"
name_of Small = codes "small"
name_of Mark = codes "mark"
name_of Division = codes "div"
name_of Inline = codes "span"
name_of Footer = codes "footer"
name_of Link = codes "a"
name_of Table = codes "table"
name_of Row = codes "tr"
name_of ColumnHead = codes "th"
name_of Cell = codes "td"

-- a tag, or several
abbrev pub tag_bytes : Tag → List ℕ
tag_bytes Head =
    codes "<!DOCTYPE html><html lang=\"en\"><head><meta charset=\"utf-8\"/><meta name=\"viewport\" content=\"width=device-width\"/><title>"
tag_bytes Style = codes "</title><style>"
tag_bytes Body = codes "</style></head><body><main>"
tag_bytes End = codes "</main></body></html>"
tag_bytes Diagram = codes "<figure tabindex=\"0\" aria-label=\"Railroad diagram\">"
tag_bytes Matches = codes "<figure tabindex=\"0\" aria-label=\"Matches\">"
tag_bytes (Open element) = codes "<" ++ name_of element ++ codes ">"
tag_bytes (Close element) = codes "</" ++ name_of element ++ codes ">"
tag_bytes (Part span) = codes "<span class=\"m s" ++ decimal span.start ++ codes "-" ++ decimal span.end
    ++ codes "\" id=\"p" ++ decimal span.start ++ codes "-" ++ decimal span.end ++ codes "\">"
tag_bytes (Line span number) = codes "<div class=\"m s" ++ decimal span.start ++ codes "-" ++ decimal span.end ++ codes "\" id=\"l" ++ decimal number
    ++ codes "\" tabindex=\"0\">"
tag_bytes (To span) = codes "<a href=\"#p" ++ decimal span.start ++ codes "-" ++ decimal span.end ++ codes "\">"
tag_bytes (ToPicture number) = codes "<a href=\"#d" ++ decimal number ++ codes "\">"

-- an element that contains a text
abbrev pub element_bytes : Element → (text : List ℕ) → List ℕ
element_bytes element text = tag_bytes (Open element) ++ escaped_text text ++ tag_bytes (Close element)

-- a piece of a page
pub data Piece : Type 0 where
  tag : Tag → Piece
  text : List ℕ → Piece
  picture : (lines bytes : List ℕ) → IsLinkedDocument lines bytes → Piece

abbrev pub piece_bytes : Piece → List ℕ
piece_bytes (tag t) = tag_bytes t
piece_bytes (text t) = escaped_text t
piece_bytes (picture lines bytes is) = bytes

abbrev pub pieces_bytes : List Piece → List ℕ
pieces_bytes pieces = flat_map piece_bytes pieces

-- The bytes are those of a list of pieces.
abbrev pub IsPage : List ℕ → Type 0
IsPage bytes = (pieces : List Piece) × (bytes ≡ pieces_bytes pieces)

abbrev pub element_pieces : Element → (content : List ℕ) → List Piece
element_pieces element content = tag (Open element) ∷ text content ∷ tag (Close element) ∷ []

-- a pattern as a page shows it: characters, and elements for parts of the pattern
pub data Source : Type 0 where
  finish : Source
  characters : (points shown : List ℕ) → IsShownText points shown → (after : Source) → Source
  part : Span → (inside after : Source) → Source

-- its code points
abbrev pub source_points : Source → List ℕ
source_points finish = []
source_points (characters points shown is after) = points ++ source_points after
source_points (part span inside after) = source_points inside ++ source_points after

abbrev pub source_pieces : Source → List Piece
source_pieces finish = []
source_pieces (characters points shown is after) = text shown ∷ source_pieces after
source_pieces (part span inside after) = tag (Part span) ∷ (source_pieces inside ++ tag (Close Inline) ∷ source_pieces after)

-- Each part is at its span, if the source begins at that index.
abbrev pub AreAtTheirSpans : (start : ℕ) → Source → Type 0
AreAtTheirSpans start finish = ⊤
AreAtTheirSpans start (characters points shown is after) = AreAtTheirSpans (start + length points) after
AreAtTheirSpans start (part span inside after) = (span.start ≡ start) × (span.end ≡ start + length (source_points inside))
    × AreAtTheirSpans start inside × AreAtTheirSpans span.end after

-- The pieces show these code points of a pattern, which begin at that index.
pub record ShowsSource (start : ℕ) (points : List ℕ) (pieces : List Piece) : Type 0 where
  pub source : Source
  pub whole : source_points source ≡ points
  pub placed : AreAtTheirSpans start source
  pub written : pieces ≡ source_pieces source

-- The range begins at `at` or later and no later than it ends, and both are on character boundaries.
pub record IsMarkable (text : List ℕ) (at : ℕ) (range : Range ℕ) : Type 0 where
  pub after : at ≤ range.start
  pub ordered : range.start ≤ range.end
  pub from : IsCharBoundary text range.start
  pub to : IsCharBoundary text range.end

-- the text before a match, and the match
abbrev pub match_pieces : (before found : List ℕ) → List Piece
match_pieces before found = text (shown_text before) ∷ tag (Open Mark) ∷ text (shown_text found) ∷ tag (Close Mark) ∷ []

-- The pieces show the text from `at` on. The ranges in it are marked, and nothing else is.
abbrev pub ShowsMarked : (whole : List ℕ) → (at : ℕ) → List (Range ℕ) → List Piece → Type 0
ShowsMarked whole at [] pieces = pieces ≡ text (shown_text (drop at whole)) ∷ []
ShowsMarked whole at (range ∷ ranges) pieces =
    (IsMarkable whole at range × ((rest : List Piece) × ShowsMarked whole range.end ranges rest
    × (pieces ≡ match_pieces (slice_range whole at range.start) (slice_range whole range.start range.end) ++ rest)))
    ⊎ ((¬ IsMarkable whole at range) × ShowsMarked whole at ranges pieces)

-- The pieces are a paragraph, and of what is in it P holds.
pub record IsParagraph (P : List Piece → Type 0) (pieces : List Piece) : Type 0 where
  pub inside : List Piece
  pub has : P inside
  pub is : pieces ≡ tag (Open Paragraph) ∷ (inside ++ tag (Close Paragraph) ∷ [])

-- The pieces are a picture with links to these lines.
pub record IsPicture (lines : List ℕ) (pieces : List Piece) : Type 0 where
  pub bytes : List ℕ
  pub document : IsLinkedDocument lines bytes
  pub is : pieces ≡ tag Diagram ∷ picture lines bytes document ∷ tag (Close Figure) ∷ []

-- If the tag begins a link to the picture, it leads to a link there that leads back to the line with that number; `lines` are
-- the lines to which the links of the picture lead, in order.
abbrev pub TagLeadsBack : (lines : List ℕ) → (number : ℕ) → Tag → Type 0
TagLeadsBack lines number (ToPicture link) = slice_get lines link ≡ Some number
TagLeadsBack lines number t = ⊤

abbrev pub LeadsBack : (lines : List ℕ) → (number : ℕ) → Piece → Type 0
LeadsBack lines number (tag t) = TagLeadsBack lines number t
LeadsBack lines number p = ⊤

-- Among the pieces are some, one after the other, of which P holds.
pub record Contains (P : List Piece → Type 0) (pieces : List Piece) : Type 0 where
  pub before : List Piece
  pub inside : List Piece
  pub after : List Piece
  pub has : P inside
  pub is : pieces ≡ before ++ inside ++ after

-- The pieces are an element with these characters of the pattern, cut off if there are many.
pub record ShowsExcerpt (points : List ℕ) (pieces : List Piece) : Type 0 where
  pub shown : List ℕ
  pub first : ShowsFirst points shown
  pub is : pieces ≡ element_pieces Code shown

-- a span, as `3..7`
abbrev pub place : Span → List ℕ
place span = decimal span.start ++ codes ".." ++ decimal span.end

-- The pieces are what is in the line of a part with this span: what is written there, unless it is empty, and the span. Its
-- links to the picture lead back to the line.
pub record ShowsPart (pattern lines : List ℕ) (number : ℕ) (span : Span) (pieces : List Piece) : Type 0 where
  pub written : points_at pattern (Some span) ≢ [] → Contains (ShowsExcerpt (points_at pattern (Some span))) pieces
  pub placed : Contains (λ shown. shown ≡ element_pieces Small (place span)) pieces
  pub lead_back : All (LeadsBack lines number) pieces

-- The pieces are the line with that number, of a part with this span.
pub record IsLine (pattern lines : List ℕ) (number : ℕ) (span : Span) (pieces : List Piece) : Type 0 where
  pub inside : List Piece
  pub has : ShowsPart pattern lines number span inside
  pub is : pieces ≡ tag (Line span number) ∷ (inside ++ tag (Close Division) ∷ [])

-- a tag of a list, or of an element of one
abbrev pub IsListTag : Piece → Type 0
IsListTag (tag (Open Items)) = ⊤
IsListTag (tag (Open Item)) = ⊤
IsListTag (tag (Close Items)) = ⊤
IsListTag (tag (Close Item)) = ⊤
IsListTag p = ⊥

-- The pieces are lines of parts with these spans, numbered from `first` on, and tags of lists around them.
abbrev pub AreLines : (pattern lines : List ℕ) → (first : ℕ) → List Span → List Piece → Type 0
AreLines pattern lines first [] pieces = All IsListTag pieces
AreLines pattern lines first (span ∷ spans) pieces =
    (before line after : List Piece) × All IsListTag before × IsLine pattern lines first span line × AreLines pattern lines (first + 1) spans after
    × (pieces ≡ before ++ line ++ after)

-- The pieces contain a paragraph with the text, if one is given, and its matches.
abbrev pub ContainsMatches : Option (List ℕ × List (Range ℕ)) → List Piece → Type 0
ContainsMatches None pieces = ⊤
ContainsMatches (Some matched) pieces = Contains (IsParagraph (ShowsMarked matched.0 0 matched.1)) pieces

-- The bytes are those of a page about a pattern, with a text and the ranges of its matches if they are given.
pub record IsPageOf (pattern : List ℕ) (matched : Option (List ℕ × List (Range ℕ))) (bytes : List ℕ) : Type 0 where
  pub pieces : List Piece
  pub written : bytes ≡ pieces_bytes pieces
  pub source : Contains (IsParagraph (ShowsSource 0 pattern)) pieces
  -- The lines that explain the pattern are of parts with these spans. Each link in the picture leads to one of them, and each
  -- link from them to the picture leads back.
  pub spans : List Span
  pub explained : spans ≢ []
  pub lines : List ℕ
  pub diagram : Contains (IsPicture lines) pieces
  pub linked : All (λ line. line < length spans) lines
  pub explanation : Contains (AreLines pattern lines 0 spans) pieces
  pub matches : ContainsMatches matched pieces
