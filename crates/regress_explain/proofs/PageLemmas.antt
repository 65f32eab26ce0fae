-- A page with more pieces, and what it contains.
use Rattle.std.proofs.Common.{◌≡◌, ◌≢◌, ◌∙◌, ℕ, ◌+◌, ◌<◌, All, Bool, true, false, List, [], ◌∷◌, ◌++◌, Option, Some, None, ap, refl, subst, sym, append_assoc, append-nil, arith, length, slice_get, if◌then◌else◌}
use Rattle.std.specs.List.{AllByRecursion}
use Rattle.std.specs.declared.ops.Range.{Range}
use Rattle.std.proofs.lemmas.List.{flat_map_more}
use Rattle.std.proofs.lemmas.List.Concat.{flat_map-append}
use Rattle.std.proofs.lemmas.List.Elements.{All-append, All-cons, All-from_recursion, All-nil}
use Rattle.regress_svg.specs.Escape.{escaped_text}
use Rattle.regress_parse.specs.declared.span.Span.{Span}
use Rattle.regress_svg.specs.Links.{IsLinkedDocument}
use Rattle.regress_railroad.specs.Excerpt.{ShowsFirst, points_at}
use Rattle.regress_explain.specs.declared.markup.Element.{Element}
use Rattle.regress_explain.specs.declared.markup.Element.TheVariants.{Code, Division, Figure, Link, Paragraph, Small}
use Rattle.regress_explain.specs.declared.markup.Tag.{Tag}
use Rattle.regress_explain.specs.declared.markup.Tag.TheVariants.{Diagram, Open, Close, Line, To, ToPicture}
use Rattle.regress_explain.specs.Page.{AreLines, Contains, ContainsMatches, IsLine, IsListTag, IsPage, LeadsBack, IsPageOf, IsParagraph, IsPicture, Piece, tag, text, picture, ShowsExcerpt, ShowsPart, ShowsSource, element_bytes, element_pieces, piece_bytes, pieces_bytes, place, tag_bytes}
use Rattle.regress_explain.specs.Written.{Adds, HasNoLead, IsAnything, link_pieces}

adds : (old new : List ℕ) (p : Piece) → new ≡ old ++ piece_bytes p → IsPage old → IsPage new
adds old new p is (pieces, made) =
    (pieces ++ p ∷ [], is ∙ ap (λ all. all ++ piece_bytes p) made ∙ flat_map_more piece_bytes [] pieces p)

-- The piece is added, or else nothing.
pub adds_if : (ok : Bool) (old new bytes : List ℕ) (p : Piece) → new ≡ (if ok then old ++ bytes else old) → bytes ≡ piece_bytes p →
    IsPage old → IsPage new
adds_if true old new bytes p is added page = adds old new p (is ∙ ap (λ all. old ++ all) added) page
adds_if false old new bytes p is added (pieces, made) = (pieces, is ∙ made)

-- Another page is added, or else nothing.
pub appends_if : (ok : Bool) (old new bytes other : List ℕ) → new ≡ (if ok then old ++ bytes else old) → bytes ≡ other → IsPage other →
    IsPage old → IsPage new
appends_if true old new bytes other is same (more, other_made) (pieces, made) = (
  pieces ++ more,
  is ∙ ap (λ all. old ++ all) (same ∙ other_made) ∙ ap (λ all. all ++ pieces_bytes more) made
      ∙ sym (flat_map-append piece_bytes pieces more),
)
appends_if false old new bytes other is same other_page (pieces, made) = (pieces, is ∙ made)

pub adds_page : (old new other : List ℕ) → new ≡ old ++ other → IsPage other → Adds IsAnything old new
adds_page old new other is (more, made) = record { pieces = more; has = tt; added = is ∙ ap (λ all. old ++ all) made }

pub adds_one : (P : List Piece → Type 0) (p : Piece) (old new : List ℕ) → P (p ∷ []) → new ≡ old ++ piece_bytes p → Adds P old new
adds_one P p old new has is =
    record { pieces = p ∷ []; has = has; added = is ∙ ap (λ all. old ++ all) (sym (append-nil (piece_bytes p))) }

pub adds_nothing : (P : List Piece → Type 0) (page : List ℕ) → P [] → Adds P page page
adds_nothing P page has = record { pieces = []; has = has; added = sym (append-nil page) }

-- pieces, and then more
pub adds_both : (P Q R : List Piece → Type 0) (a b c : List ℕ) → ((ps qs : List Piece) → P ps → Q qs → R (ps ++ qs)) →
    Adds P a b → Adds Q b c → Adds R a c
adds_both P Q R a b c both first second = record {
  pieces = first.pieces ++ second.pieces;
  has = both first.pieces second.pieces first.has second.has;
  added = second.added ∙ ap (λ all. all ++ pieces_bytes second.pieces) first.added
      ∙ append_assoc a (pieces_bytes first.pieces) (pieces_bytes second.pieces)
      ∙ ap (λ all. a ++ all) (sym (flat_map-append piece_bytes first.pieces second.pieces));
}

framed_bytes : (a b c d : List ℕ) → ((a ++ b) ++ c) ++ d ≡ a ++ (b ++ (c ++ (d ++ [])))
framed_bytes a b c d = simp (append_assoc, append-nil)

-- pieces between two
pub adds_framed : (P Q : List Piece → Type 0) (first last : Piece) (a b c d : List ℕ) → ((ps : List Piece) → P ps → Q (first ∷ (ps ++ last ∷ []))) →
    b ≡ a ++ piece_bytes first → Adds P b c → d ≡ c ++ piece_bytes last → Adds Q a d
adds_framed P Q first last a b c d framed opened inside closed = record {
  pieces = first ∷ (inside.pieces ++ last ∷ []);
  has = framed inside.pieces inside.has;
  added = closed ∙ ap (λ all. all ++ piece_bytes last) (inside.added ∙ ap (λ all. all ++ pieces_bytes inside.pieces) opened)
      ∙ framed_bytes a (piece_bytes first) (pieces_bytes inside.pieces) (piece_bytes last)
      ∙ ap (λ all. a ++ (piece_bytes first ++ all)) (sym (flat_map-append piece_bytes inside.pieces (last ∷ [])));
}

element_grouped : (a b c d : List ℕ) → a ++ (b ++ c ++ d) ≡ a ++ (b ++ (c ++ (d ++ [])))
element_grouped a b c d = simp (append_assoc, append-nil)

element_more : (a b c d e : List ℕ) → (a ++ (b ++ c ++ d)) ++ e ≡ a ++ (b ++ (c ++ (d ++ (e ++ []))))
element_more a b c d e = simp (append_assoc, append-nil)

pub adds_element : (element : Element) (content old new : List ℕ) → new ≡ old ++ element_bytes element content → Adds IsAnything old new
adds_element element content old new is = record {
  pieces = tag (Open element) ∷ text content ∷ tag (Close element) ∷ [];
  has = tt;
  added = is ∙ element_grouped old (tag_bytes (Open element)) (escaped_text content) (tag_bytes (Close element));
}

-- anything, and then more
pub adds_more : (a b c : List ℕ) → Adds IsAnything a b → Adds IsAnything b c → Adds IsAnything a c
adds_more a b c = adds_both IsAnything IsAnything IsAnything a b c (λ ps qs one two. tt)

pub adds_tag : (t : Tag) (old new : List ℕ) → new ≡ old ++ tag_bytes t → Adds IsAnything old new
adds_tag t old new is = adds_one IsAnything (tag t) old new tt is

after_others : (before front inside after : List Piece) → before ++ (front ++ inside ++ after) ≡ (before ++ front) ++ inside ++ after
after_others before front inside after = simp append_assoc

pub contains_after : (P : List Piece → Type 0) (before pieces : List Piece) → Contains P pieces → Contains P (before ++ pieces)
contains_after P before pieces found = record {
  before = before ++ found.before;
  inside = found.inside;
  after = found.after;
  has = found.has;
  is = ap (λ all. before ++ all) found.is ∙ after_others before found.before found.inside found.after;
}

pub contains_before : (P : List Piece → Type 0) (pieces after : List Piece) → Contains P pieces → Contains P (pieces ++ after)
contains_before P pieces after found = record {
  before = found.before;
  inside = found.inside;
  after = found.after ++ after;
  has = found.has;
  is = ap (λ all. all ++ after) found.is ∙ append_assoc (found.before ++ found.inside) found.after after;
}

-- anything, and then what is looked for
pub adds_contained : (P : List Piece → Type 0) (a b c : List ℕ) → Adds IsAnything a b → Adds P b c → Adds (Contains P) a c
adds_contained P a b c =
    adds_both IsAnything P (Contains P) a b c
    (λ ps qs any has. record { before = ps; inside = qs; after = []; has = has; is = sym (append-nil (ps ++ qs)) })

-- what is looked for, and then anything
pub adds_after : (P : List Piece → Type 0) (a b c : List ℕ) → Adds (Contains P) a b → Adds IsAnything b c → Adds (Contains P) a c
adds_after P a b c = adds_both (Contains P) IsAnything (Contains P) a b c (λ ps qs found any. contains_before P ps qs found)

-- a paragraph after a heading
pub shows_paragraph : (P : List Piece → Type 0) (a b c d e : List ℕ) → Adds IsAnything a b → c ≡ b ++ tag_bytes (Open Paragraph) → Adds P c d →
    e ≡ d ++ tag_bytes (Close Paragraph) → Adds (Contains (IsParagraph P)) a e
shows_paragraph P a b c d e heading opened inside closed =
    adds_contained (IsParagraph P) a b e heading
    (adds_framed P (IsParagraph P) (tag (Open Paragraph)) (tag (Close Paragraph)) b c d e (λ ps has. record { inside = ps; has = has; is = refl })
    opened inside closed)

-- a picture after a heading
pub shows_picture : (lines bytes : List ℕ) (is : IsLinkedDocument lines bytes) (a b c d e : List ℕ) → Adds IsAnything a b →
    c ≡ b ++ tag_bytes Diagram → d ≡ c ++ bytes → e ≡ d ++ tag_bytes (Close Figure) → Adds (Contains (IsPicture lines)) a e
shows_picture lines bytes is a b c d e heading opened drawn closed =
    let P : List Piece → Type 0 = λ ps. ps ≡ picture lines bytes is ∷ [] in
    adds_contained (IsPicture lines) a b e heading
    (adds_framed P (IsPicture lines) (tag Diagram) (tag (Close Figure)) b c d e
    (λ ps one. record { bytes = bytes; document = is; is = ap (λ all. tag Diagram ∷ (all ++ tag (Close Figure) ∷ [])) one })
    opened (adds_one P (picture lines bytes is) c d refl drawn) closed)

-- Of the pieces more is known.
pub adds_weaker : (P Q : List Piece → Type 0) (old new : List ℕ) → ((ps : List Piece) → P ps → Q ps) → Adds P old new → Adds Q old new
adds_weaker P Q old new weaker is = record { pieces = is.pieces; has = weaker is.pieces is.has; added = is.added }

-- these pieces
pub adds_these : (P : List Piece → Type 0) (ps : List Piece) (old new : List ℕ) → P ps → new ≡ old ++ pieces_bytes ps → Adds P old new
adds_these P ps old new has is = record { pieces = ps; has = has; added = is }

-- all of another page
pub adds_all : (P : List Piece → Type 0) (old new other : List ℕ) → Adds P [] other → new ≡ old ++ other → Adds P old new
adds_all P old new other is added = record { pieces = is.pieces; has = is.has; added = added ∙ ap (λ all. old ++ all) is.added }

-- an element, and a text
pub element_then : (element : Element) (content last a b c : List ℕ) → b ≡ a ++ element_bytes element content → c ≡ b ++ escaped_text last →
    c ≡ a ++ pieces_bytes (element_pieces element content ++ text last ∷ [])
element_then element content last a b c first second =
    second ∙ ap (λ all. all ++ escaped_text last) first
    ∙ element_more a (tag_bytes (Open element)) (escaped_text content) (tag_bytes (Close element)) (escaped_text last)

-- an element
pub element_alone : (element : Element) (content a b : List ℕ) → b ≡ a ++ element_bytes element content → b ≡ a ++ pieces_bytes (element_pieces element content)
element_alone element content a b is = is ∙ element_grouped a (tag_bytes (Open element)) (escaped_text content) (tag_bytes (Close element))

-- pieces without a link to the picture
pub no_lead : (P : List Piece → Type 0) (ps : List Piece) → P ps → ((lines : List ℕ) → (number : ℕ) → AllByRecursion (LeadsBack lines number) ps) → HasNoLead P ps
no_lead P ps has none = record { has = has; none = λ lines number. All-from_recursion (LeadsBack lines number) ps (none lines number) }

pub contains_these : (P : List Piece → Type 0) (before ps after : List Piece) → P ps → Contains P (before ++ ps ++ after)
contains_these P before ps after has = record { before = before; inside = ps; after = after; has = has; is = refl }

-- what is written of a part
pub excerpt_written : (points shown space a b c : List ℕ) → ShowsFirst points shown → b ≡ a ++ element_bytes Code shown → c ≡ b ++ escaped_text space →
    Adds (HasNoLead (λ ps. points ≢ [] → Contains (ShowsExcerpt points) ps)) a c
excerpt_written points shown space a b c first added after =
    let P : List Piece → Type 0 = λ ps. points ≢ [] → Contains (ShowsExcerpt points) ps in
    let ps = element_pieces Code shown ++ text space ∷ [] in
    let has : P ps =
    λ some. contains_these (ShowsExcerpt points) [] (element_pieces Code shown) (text space ∷ []) (record { shown = shown; first = first; is = refl }) in
    adds_these (HasNoLead P) ps a c (no_lead P ps has (λ lines number. (tt, (tt, (tt, (tt, tt)))))) (element_then Code shown space a b c added after)

-- a span
module _ (span : Span) (content a b : List ℕ) (is : content ≡ place span) where
  abbrev IsPlaced : List Piece → Type 0
  IsPlaced = Contains (λ shown. shown ≡ element_pieces Small (place span))

  shown_place : element_pieces Small content ≡ element_pieces Small (place span)
  shown_place = ap (element_pieces Small) is

  pub place_written : b ≡ a ++ element_bytes Small content → Adds (HasNoLead IsPlaced) a b
  place_written added =
      let ps = element_pieces Small content in
      adds_these (HasNoLead IsPlaced) ps a b
      (no_lead IsPlaced ps (contains_these _ [] ps [] shown_place) (λ lines number. (tt, (tt, (tt, tt)))))
      (element_alone Small content a b added)

  pub place_linked : b ≡ a ++ pieces_bytes (link_pieces (To span) content) → Adds (HasNoLead IsPlaced) a b
  place_linked added =
      let ps = link_pieces (To span) content in
      adds_these (HasNoLead IsPlaced) ps a b
      (no_lead IsPlaced ps (contains_these _ (tag (To span) ∷ []) (element_pieces Small content) (tag (Close Link) ∷ []) shown_place)
      (λ lines number. (tt, (tt, (tt, (tt, (tt, tt)))))))
      added

-- a link from a line to the picture
pub lead_added : (lines : List ℕ) (number link : ℕ) (space content a b c : List ℕ) → slice_get lines link ≡ Some number → b ≡ a ++ escaped_text space →
    c ≡ b ++ pieces_bytes (link_pieces (ToPicture link) content) → Adds (All (LeadsBack lines number)) a c
lead_added lines number link space content a b c leads first second =
    let Leads : List Piece → Type 0 = All (LeadsBack lines number) in
    adds_both Leads Leads Leads a b c (λ ps qs. All-append (LeadsBack lines number) ps qs)
    (adds_one Leads (text space) a b (All-from_recursion (LeadsBack lines number) (text space ∷ []) (tt, tt)) first)
    (adds_these Leads (link_pieces (ToPicture link) content) b c
    (All-from_recursion (LeadsBack lines number) (link_pieces (ToPicture link) content) (leads, (tt, (tt, (tt, (tt, tt)))))) second)

-- what is in a line
module _ (pattern lines : List ℕ) (number : ℕ) (span : Span) where
  abbrev Leads : List Piece → Type 0
  Leads = All (LeadsBack lines number)

  abbrev Written : List Piece → Type 0
  Written ps = points_at pattern (Some span) ≢ [] → Contains (ShowsExcerpt (points_at pattern (Some span))) ps

  abbrev Placed : List Piece → Type 0
  Placed = Contains (λ shown. shown ≡ element_pieces Small (place span))

  one_text : (content old new : List ℕ) → new ≡ old ++ escaped_text content → Adds Leads old new
  one_text content old new is = adds_one Leads (text content) old new (All-cons (LeadsBack lines number) (text content) [] tt (All-nil (LeadsBack lines number))) is

  more_leads : (a b c : List ℕ) → Adds Leads a b → Adds Leads b c → Adds Leads a c
  more_leads a b c = adds_both Leads Leads Leads a b c (λ ps qs one two. All-append (LeadsBack lines number) ps qs one two)

  pub part_shown : (words space a b c d e f : List ℕ) → Adds (HasNoLead Written) a b → c ≡ b ++ escaped_text words → d ≡ c ++ escaped_text space →
      Adds (HasNoLead Placed) d e → Adds Leads e f → Adds (ShowsPart pattern lines number span) a f
  part_shown words space a b c d e f written first second placed lead =
      let P : List Piece → Type 0 = λ ps. Written ps × Leads ps in
      let Q : List Piece → Type 0 = λ ps. Written ps × Placed ps × Leads ps in
      let one : Adds P a b = adds_weaker (HasNoLead Written) P a b (λ ps is. (is.has, is.none lines number)) written in
      let texts : Adds Leads b d = more_leads b c d (one_text words b c first) (one_text space c d second) in
      let two : Adds P a d =
      adds_both P Leads P a b d
      (λ ps qs is more. (λ some. contains_before _ ps qs (is.0 some), All-append (LeadsBack lines number) ps qs is.1 more)) one texts in
      let three : Adds Q a e =
      adds_both P (HasNoLead Placed) Q a d e
      (λ ps qs is more. (
        λ some. contains_before _ ps qs (is.0 some),
        contains_after _ ps qs more.has,
        All-append (LeadsBack lines number) ps qs is.1 (more.none lines number),
      )) two placed in
      adds_both Q Leads (ShowsPart pattern lines number span) a e f
      (λ ps qs is more. record {
        written = λ some. contains_before _ ps qs (is.0 some);
        placed = contains_before _ ps qs is.1;
        lead_back = All-append (LeadsBack lines number) ps qs is.2 more;
      }) three lead

last_line : (a b : List Piece) → a ++ b ≡ a ++ b ++ []
last_line a b = simp (append_assoc, append-nil)

lines_grouped : (a b c d : List Piece) → (a ++ b ++ c) ++ d ≡ a ++ b ++ (c ++ d)
lines_grouped a b c d = simp append_assoc

-- the lines of an explanation
module _ (pattern lines : List ℕ) where
  pub lines_then : (first : ℕ) (spans : List Span) (ps qs : List Piece) → AreLines pattern lines first spans ps → All IsListTag qs →
      AreLines pattern lines first spans (ps ++ qs)
  lines_then first [] ps qs has tags = All-append IsListTag ps qs has tags
  lines_then first (span ∷ spans) ps qs (before, line, after, front, is, rest, made) tags = (
    before,
    line,
    after ++ qs,
    front,
    is,
    lines_then (first + 1) spans after qs rest tags,
    ap (λ all. all ++ qs) made ∙ lines_grouped before line after qs,
  )

  line_more : (first number : ℕ) (spans : List Span) (span : Span) (ps line : List Piece) → number ≡ first + length spans →
      AreLines pattern lines first spans ps → IsLine pattern lines number span line → AreLines pattern lines first (spans ++ span ∷ []) (ps ++ line)
  line_more first number [] span ps line last tags is =
      let here : number ≡ first = omega arith in
      (ps, line, [], tags, subst (λ (n : ℕ). IsLine pattern lines n span line) here is, All-nil IsListTag, last_line ps line)
  line_more first number (other ∷ spans) span ps line last (before, one, after, front, is_one, rest, made) is =
      let further : number ≡ (first + 1) + length spans = omega arith in (
        before,
        one,
        after ++ line,
        front,
        is_one,
        line_more (first + 1) number spans span after line further rest is,
        ap (λ all. all ++ line) made ∙ lines_grouped before one after line,
      )

  -- one more line, after tags of lists
  pub one_line : (number : ℕ) (spans : List Span) (span : Span) (content a b c d e f : List ℕ) → number ≡ length spans →
      Adds (AreLines pattern lines 0 spans) a b → Adds (All IsListTag) b c → d ≡ c ++ tag_bytes (Line span number) →
      Adds (ShowsPart pattern lines number span) [] content → e ≡ d ++ content → f ≡ e ++ tag_bytes (Close Division) →
      Adds (AreLines pattern lines 0 (spans ++ span ∷ [])) a f
  one_line number spans span content a b c d e f last before between opened inside written closed =
      let so_far = AreLines pattern lines 0 spans in
      let one : Adds (IsLine pattern lines number span) c f =
      adds_framed (ShowsPart pattern lines number span) (IsLine pattern lines number span) (tag (Line span number)) (tag (Close Division)) c d e f
      (λ ps has. record { inside = ps; has = has; is = refl })
      opened (adds_all (ShowsPart pattern lines number span) d e content inside written) closed in
      adds_both so_far (IsLine pattern lines number span) (AreLines pattern lines 0 (spans ++ span ∷ [])) a c f
      (λ ps qs has is. line_more 0 number spans span ps qs (omega (arith, last)) has is)
      (adds_both so_far (All IsListTag) so_far a b c (λ ps qs has tags. lines_then 0 spans ps qs has tags) before between) one

-- one more tag of a list
pub one_list_tag : (t : Tag) (a b c : List ℕ) → IsListTag (tag t) → Adds (All IsListTag) a b → c ≡ b ++ tag_bytes t → Adds (All IsListTag) a c
one_list_tag t a b c is before added =
    let Tags : List Piece → Type 0 = All IsListTag in
    adds_both Tags Tags Tags a b c (λ ps qs first second. All-append IsListTag ps qs first second) before
    (adds_one Tags (tag t) b c (All-cons IsListTag (tag t) [] is (All-nil IsListTag)) added)

matches_within : (matched : Option (List ℕ × List (Range ℕ))) (before pieces after : List Piece) → ContainsMatches matched pieces →
    ContainsMatches matched ((before ++ pieces) ++ after)
matches_within None before pieces after found = tt
matches_within (Some m) before pieces after found = contains_before _ (before ++ pieces) after (contains_after _ before pieces found)

-- the whole page, whose picture has links to these lines
module _ (pattern : List ℕ) (matched : Option (List ℕ × List (Range ℕ))) (lines : List ℕ) where
  abbrev Shown : List Piece → Type 0
  Shown ps = Contains (IsParagraph (ShowsSource 0 pattern)) ps × Contains (IsPicture lines) ps

  shown_before : (ps qs : List Piece) → Shown ps → Shown (ps ++ qs)
  shown_before ps qs has = (contains_before (IsParagraph (ShowsSource 0 pattern)) ps qs has.0, contains_before (IsPicture lines) ps qs has.1)

  matches_after : (ps qs : List Piece) → ContainsMatches matched qs → ContainsMatches matched (ps ++ qs)
  matches_after ps qs found =
      subst (λ (all : List Piece). ContainsMatches matched all) (append-nil (ps ++ qs)) (matches_within matched ps qs [] found)

  matches_before : (ps qs : List Piece) → ContainsMatches matched ps → ContainsMatches matched (ps ++ qs)
  matches_before ps qs found = matches_within matched [] ps qs found

  pub whole_page : (a b c d e f : List ℕ) → Adds IsAnything [] a → Adds (Contains (IsParagraph (ShowsSource 0 pattern))) a b →
      Adds (Contains (IsPicture lines)) b c → (spans : List Span) → spans ≢ [] → All (λ line. line < length spans) lines →
      Adds (Contains (AreLines pattern lines 0 spans)) c d → Adds (ContainsMatches matched) d e → Adds IsAnything e f → IsPageOf pattern matched f
  whole_page a b c d e f head source diagram spans explained linked explanation matches foot =
      let P : List Piece → Type 0 = Contains (IsParagraph (ShowsSource 0 pattern)) in
      let one : Adds P [] b =
      adds_both IsAnything P P [] a b (λ ps qs any found. contains_after (IsParagraph (ShowsSource 0 pattern)) ps qs found) head source in
      let two : Adds Shown [] c =
      adds_both P (Contains (IsPicture lines)) Shown [] b c
      (λ ps qs shown drawn. (contains_before (IsParagraph (ShowsSource 0 pattern)) ps qs shown, contains_after (IsPicture lines) ps qs drawn)) one diagram in
      let Lines : List Piece → Type 0 = AreLines pattern lines 0 spans in
      let Q : List Piece → Type 0 = λ ps. Shown ps × Contains Lines ps in
      let three : Adds Q [] d =
      adds_both Shown (Contains Lines) Q [] c d (λ ps qs has more. (shown_before ps qs has, contains_after Lines ps qs more)) two explanation in
      let R : List Piece → Type 0 = λ ps. Shown ps × Contains Lines ps × ContainsMatches matched ps in
      let four : Adds R [] e =
      adds_both Q (ContainsMatches matched) R [] d e
      (λ ps qs has found. (shown_before ps qs has.0, contains_before Lines ps qs has.1, matches_after ps qs found)) three matches in
      let all : Adds R [] f =
      adds_both R IsAnything R [] e f
      (λ ps qs has any. (shown_before ps qs has.0, contains_before Lines ps qs has.1, matches_before ps qs has.2)) four foot in
      record {
        pieces = all.pieces;
        written = all.added;
        source = all.has.0.0;
        spans = spans;
        explained = explained;
        lines = lines;
        diagram = all.has.0.1;
        linked = linked;
        explanation = all.has.1;
        matches = all.has.2;
      }
