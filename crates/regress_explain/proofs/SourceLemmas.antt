-- The pattern on a page, part by part.
use Rattle.std.proofs.Common.{◌≡◌, ◌∙◌, ℕ, ◌+◌, ◌-◌, ◌≤◌, List, [], ◌∷◌, ◌++◌, ap, refl, subst, sym, append_assoc, append-nil, arith, drop, length, length-append, slice_range, take}
use Rattle.std.proofs.Math.Seq.{take-add}
use Rattle.std.proofs.lemmas.List.{drop-drop, length-drop, length-take-le}
use Rattle.regress_labels.specs.Symbols.{IsShownText}
use Rattle.regress_parse.specs.declared.span.Span.{Span}
use Rattle.regress_explain.specs.declared.markup.Element.TheVariants.{Inline}
use Rattle.regress_explain.specs.declared.markup.Tag.TheVariants.{Part, Close}
use Rattle.regress_explain.specs.Page.{Piece, tag, text, Source, finish, characters, part, source_points, source_pieces, AreAtTheirSpans, ShowsSource}
use Rattle.regress_explain.specs.Written.{Adds}
use Rattle.regress_explain.proofs.PageLemmas.{adds_both, adds_nothing}

-- the two joined
abbrev pub joined : Source → Source → Source
joined finish more = more
joined (characters points shown is after) more = characters points shown is (joined after more)
joined (part span inside after) more = part span inside (joined after more)

source_points-joined : (s more : Source) → source_points (joined s more) ≡ source_points s ++ source_points more
source_points-joined finish more = refl
source_points-joined (characters points shown is after) more =
    ap (λ all. points ++ all) (source_points-joined after more) ∙ sym (append_assoc points (source_points after) (source_points more))
source_points-joined (part span inside after) more =
    ap (λ all. source_points inside ++ all) (source_points-joined after more)
    ∙ sym (append_assoc (source_points inside) (source_points after) (source_points more))

source_pieces-joined : (s more : Source) → source_pieces (joined s more) ≡ source_pieces s ++ source_pieces more
source_pieces-joined finish more = refl
source_pieces-joined (characters points shown is after) more = ap (λ all. text shown ∷ all) (source_pieces-joined after more)
source_pieces-joined (part span inside after) more =
    ap (λ all. tag (Part span) ∷ (source_pieces inside ++ tag (Close Inline) ∷ all)) (source_pieces-joined after more)
    ∙ ap (λ all. tag (Part span) ∷ all) (sym (append_assoc (source_pieces inside) (tag (Close Inline) ∷ source_pieces after) (source_pieces more)))

placed-joined : (start next : ℕ) (s more : Source) → AreAtTheirSpans start s → next ≡ start + length (source_points s) → AreAtTheirSpans next more →
    AreAtTheirSpans start (joined s more)
placed-joined start next finish more placed is further =
    let here : next ≡ start = omega arith in
    subst (λ (at : ℕ). AreAtTheirSpans at more) here further
placed-joined start next (characters points shown is after) more placed ends further =
    let here : next ≡ (start + length points) + length (source_points after) = omega (arith, length-append points (source_points after)) in
    placed-joined (start + length points) next after more placed here further
placed-joined start next (part span inside after) more placed ends further =
    let to : span.end ≡ start + length (source_points inside) = placed.1 in
    let here : next ≡ span.end + length (source_points after) = omega (arith, length-append (source_points inside) (source_points after)) in
    (placed.0, placed.1, placed.2, placed-joined span.end next after more placed.3 here further)

-- what follows is shown too
shows_both : (start next : ℕ) (xs ys : List ℕ) (ps qs : List Piece) → next ≡ start + length xs → ShowsSource start xs ps → ShowsSource next ys qs →
    ShowsSource start (xs ++ ys) (ps ++ qs)
shows_both start next xs ys ps qs is first second = record {
  source = joined first.source second.source;
  whole = source_points-joined first.source second.source ∙ ap (λ all. all ++ source_points second.source) first.whole ∙ ap (λ all. xs ++ all) second.whole;
  placed = placed-joined start next first.source second.source first.placed (is ∙ ap (λ (all : List ℕ). start + length all) (sym first.whole)) second.placed;
  written = ap (λ all. all ++ qs) first.written ∙ ap (λ all. source_pieces first.source ++ all) second.written
      ∙ sym (source_pieces-joined first.source second.source);
}

pub shows_nothing : (start : ℕ) (points : List ℕ) → points ≡ [] → ShowsSource start points []
shows_nothing start points none = record { source = finish; whole = sym none; placed = tt; written = refl }

pub shows_characters : (start : ℕ) (points shown : List ℕ) → IsShownText points shown → ShowsSource start points (text shown ∷ [])
shows_characters start points shown is =
    record { source = characters points shown is finish; whole = append-nil points; placed = tt; written = refl }

pub shows_part : (span : Span) (points : List ℕ) (ps : List Piece) → span.end ≡ span.start + length points → ShowsSource span.start points ps →
    ShowsSource span.start points (tag (Part span) ∷ (ps ++ tag (Close Inline) ∷ []))
shows_part span points ps ends shown = record {
  source = part span shown.source finish;
  whole = append-nil (source_points shown.source) ∙ shown.whole;
  placed = (refl, ends ∙ ap (λ (all : List ℕ). span.start + length all) (sym shown.whole), shown.placed, tt);
  written = ap (λ all. tag (Part span) ∷ (all ++ tag (Close Inline) ∷ [])) shown.written;
}

slices : (xs : List ℕ) (a b c : ℕ) → a ≤ b → b ≤ c → slice_range xs a b ++ slice_range xs b c ≡ slice_range xs a c
slices xs a b c first second =
    let from : drop b xs ≡ drop (b - a) (drop a xs) = ap (λ n. drop n xs) (omega arith) ∙ sym (drop-drop (b - a) a xs) in
    let width : (b - a) + (c - b) ≡ c - a = omega arith in
    ap (λ all. slice_range xs a b ++ take (c - b) all) from ∙ sym (take-add (b - a) (c - b) (drop a xs)) ∙ ap (λ n. take n (drop a xs)) width

pub length-slice_range : (xs : List ℕ) (a b : ℕ) → a ≤ b → b ≤ length xs → b ≡ a + length (slice_range xs a b)
length-slice_range xs a b ordered within =
    let here : length (slice_range xs a b) ≡ b - a = length-take-le (b - a) (drop a xs) (omega (arith, length-drop a xs)) in
    omega arith

pub empty_range : (xs : List ℕ) (a : ℕ) → slice_range xs a a ≡ []
empty_range xs a = let none : a - a ≡ 0 = omega arith in ap (λ n. take n (drop a xs)) none

-- one range of the pattern after another
pub adjoined : (xs : List ℕ) (start at to : ℕ) (a b c : List ℕ) → start ≤ at → at ≤ to → to ≤ length xs →
    Adds (ShowsSource start (slice_range xs start at)) a b → Adds (ShowsSource at (slice_range xs at to)) b c →
    Adds (ShowsSource start (slice_range xs start to)) a c
adjoined xs start at to a b c first second within =
    adds_both (ShowsSource start (slice_range xs start at)) (ShowsSource at (slice_range xs at to)) (ShowsSource start (slice_range xs start to)) a b c
    (λ ps qs one two. subst (λ (all : List ℕ). ShowsSource start all (ps ++ qs)) (slices xs start at to first second)
    (shows_both start at (slice_range xs start at) (slice_range xs at to) ps qs (length-slice_range xs start at first (omega arith)) one two))

-- the parts so far
pub record SourceSoFar (pattern : List ℕ) (start end at : ℕ) (before after : List ℕ) : Type 0 where
  pub lower : start ≤ at
  pub upper : at ≤ end
  pub shows : Adds (ShowsSource start (slice_range pattern start at)) before after

pub no_parts : (pattern : List ℕ) (start end : ℕ) (page : List ℕ) → start ≤ end → SourceSoFar pattern start end start page page
no_parts pattern start end page ordered = record {
  lower = omega arith;
  upper = ordered;
  shows = adds_nothing (ShowsSource start (slice_range pattern start start)) page (shows_nothing start (slice_range pattern start start) (empty_range pattern start));
}

-- one more part, and the characters before it
pub one_part : (pattern : List ℕ) (start end at from to : ℕ) (a b c d : List ℕ) → end ≤ length pattern → at ≤ from → from ≤ to → to ≤ end →
    SourceSoFar pattern start end at a b → Adds (ShowsSource at (slice_range pattern at from)) b c → Adds (ShowsSource from (slice_range pattern from to)) c d →
    SourceSoFar pattern start end to a d
one_part pattern start end at from to a b c d within after ordered inside so_far front last = record {
  lower = omega (arith, so_far.lower);
  upper = inside;
  shows = adjoined pattern start from to a c d (omega (arith, so_far.lower)) ordered (omega arith)
      (adjoined pattern start at from a b c so_far.lower after (omega arith) so_far.shows front) last;
}
