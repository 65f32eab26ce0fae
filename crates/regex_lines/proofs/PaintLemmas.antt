-- Spans of matches in order, and loops that add a line with these in color.
use Rattle.std.proofs.Common.{◌≡◌, ◌∙◌, ℕ, suc, ◌+◌, ◌≤◌, ◌<◌, All, Bool, true, false, cond, eqb, List, [], ◌∷◌, ◌++◌, add-one, drop, drop-cons, flat_map, get_or, length, map, slice_range, sym, ap, subst, append_assoc, arith}
use Rattle.std.proofs.lemmas.List.Elements.{All-head, All-map, All-tail}
use Rattle.std.proofs.lemmas.List.{drop_all}
use Rattle.regress_found.specs.Found.{IsInside, start_of}
use Rattle.regress_found.specs.declared.found.Match.{Match}
use Rattle.regress_replace.specs.Expansion.{end_of}
use Rattle.regress_replace.specs.Order.{AreInOrder}
use Rattle.regress.specs.Compiled.{match_of}
use Rattle.regex_lines.specs.InLine.{AreInLine, AreInText}
use Rattle.regex_lines.specs.Paint.{AreSpansIn, LinePaint, begun, painted, painted_spans, span_in}
use Rattle.regex_lines.specs.Reply.{matches_of, spans_in}
use Rattle.regex_lines.specs.declared.runs.TextMatches as code
use Rattle.regex_lines.specs.declared.spans.Span.{Span}

ends : (len from : ℕ) (spans : List Span) → AreSpansIn len from spans → from ≤ len
ends len from [] within = within
ends len from (span ∷ spans) within = omega (arith, within.0, within.1, ends len span.end spans within.2)

sooner : (len from to : ℕ) (spans : List Span) → from ≤ to → AreSpansIn len to spans → AreSpansIn len from spans
sooner len from to [] before within = omega (arith, before, within)
sooner len from to (span ∷ spans) before within = (omega (arith, before, within.0), within.1, within.2)

-- the spans in one text, and later ones
module _ (len start : ℕ) (text : List ℕ) (later : List Span) (after : AreSpansIn len (start + length text) later) where
  one : (from : ℕ) (m : Match) (more : List Span) → from ≤ start_of m → start_of m ≤ end_of m → AreSpansIn len (start + end_of m) (more ++ later) →
      (empty : Bool) → AreSpansIn len (start + from) ((cond empty [] (record { start = start + start_of m; end = start + end_of m } ∷ []) ++ more) ++ later)
  one from m more before ordered rest true = sooner len (start + from) (start + end_of m) (more ++ later) (omega (arith, before, ordered)) rest
  one from m more before ordered rest false = (omega (arith, before), omega (arith, ordered), rest)

  in_text : (from : ℕ) (ms : List Match) → All (IsInside text) ms → AreInOrder from ms → from ≤ length text →
      AreSpansIn len (start + from) (flat_map (span_in start) ms ++ later)
  in_text from [] inside order within = sooner len (start + from) (start + length text) later (omega (arith, within)) after
  in_text from (m ∷ ms) inside order within =
      let first : IsInside text m = All-head (IsInside text) m ms inside in
      one from m (flat_map (span_in start) ms) order.0 first.span.ordered
      (in_text (end_of m) ms (All-tail (IsInside text) m ms inside) order.1 first.span.end.0) (eqb (start_of m) (end_of m))

-- the spans of the matches in all texts of a line
pub in_line : (len from : ℕ) (found : List code.TextMatches) → AreInLine len from (map (λ f. f.run) (map matches_of found)) → All AreInText found →
    AreSpansIn len from (flat_map spans_in (map matches_of found))
in_line len from [] within inside = within
in_line len from (f ∷ fs) within inside =
    let first : AreInText f = All-head AreInText f fs inside in
    sooner len from (f.run.start + 0) (flat_map spans_in (map matches_of (f ∷ fs))) (omega (arith, within.0))
    (in_text len f.run.start f.run.text.now (flat_map spans_in (map matches_of fs))
    (in_line len (f.run.start + length f.run.text.now) fs within.1 (All-tail AreInText f fs inside))
    0 (map match_of f.matches.items) (All-map (IsInside f.run.text.now) match_of f.matches.items first.inside) first.order (omega arith))

-- a line with spans in color
module _ (p : LinePaint) (line all : List ℕ) where
  -- What was added, and the line from an offset on with the spans that are left, are together what is wanted.
  pub record Painting (from : ℕ) (left : List Span) (done : List ℕ) : Type 0 where
    pub so_far : done ++ painted_spans p line from left ≡ all
    pub order : AreSpansIn (length line) from left

  module _ (spans : List Span) (i : ℕ) (span : Span) (below : i < length spans) (is : span ≡ get_or spans i span) (from : ℕ) (done : List ℕ)
      (painting : Painting from (drop i spans) done) where
    first : drop i spans ≡ span ∷ drop (i + 1) spans
    first = rw add-one (drop-cons spans i span below ∙ ap (λ (x : Span). x ∷ drop (suc i) spans) (sym is))

    order : AreSpansIn (length line) from (span ∷ drop (i + 1) spans)
    order = subst (AreSpansIn (length line) from) first painting.order

    pub within : (span.start ≤ length line) × (span.end ≤ length line)
    within =
        let before : span.end ≤ length line = ends (length line) span.end (drop (i + 1) spans) order.2 in
        (omega (arith, order.1, before), before)

    pub next_painted : (after : List ℕ) →
        after ≡ ((done ++ begun p.rest) ++ slice_range line from span.start) ++ painted p.matched (slice_range line span.start span.end) →
        Painting span.end (drop (i + 1) spans) after
    next_painted after is =
        let start = begun p.rest in
        let piece = slice_range line from span.start in
        let color = painted p.matched (slice_range line span.start span.end) in
        let rest = painted_spans p line span.end (drop (i + 1) spans) in
        record {
          so_far = ap (λ zs. zs ++ rest) is
              ∙ append_assoc ((done ++ start) ++ piece) color rest
              ∙ append_assoc (done ++ start) piece (color ++ rest)
              ∙ append_assoc done start (piece ++ (color ++ rest))
              ∙ ap (λ left. done ++ painted_spans p line from left) (sym first)
              ∙ painting.so_far;
          order = order.2;
        }

  module _ (spans : List Span) (i : ℕ) (over : length spans ≤ i) (from : ℕ) (done : List ℕ) (painting : Painting from (drop i spans) done) where
    nothing : drop i spans ≡ []
    nothing = drop_all i spans over

    pub last_painted : done ++ painted_spans p line from [] ≡ all
    last_painted = ap (λ left. done ++ painted_spans p line from left) (sym nothing) ∙ painting.so_far

    pub last_within : from ≤ length line
    last_within = subst (AreSpansIn (length line) from) nothing painting.order
