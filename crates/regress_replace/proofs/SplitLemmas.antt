-- Splitting a text with captures: what is done so far, what is left to do, and that the spans of parts are inside the text.
use Rattle.std.proofs.Common.{◌≡◌, ℕ, zero, suc, ◌+◌, ◌<◌, ◌≤◌, Bool, true, false, List, [], ◌∷◌, ◌++◌, Option, Some, None, drop, length, IsSomeAnd, get_or, All, if◌then◌else◌, option_map, slice_range, refl, sym, ap, ◌∙◌, arith}
use Rattle.std.proofs.lemmas.List.{take-append-le, take-map}
use Rattle.std.proofs.lemmas.List.Elements.{All-append, All-cons, All-head, All-nil, All-tail, All-take}
use Rattle.std.proofs.lemmas.Str.{IsCharBoundary-end, IsCharBoundary-start}
use Rattle.std.specs.Str.{IsCharBoundary, IsUtf8}
use Rattle.regress_found.specs.declared.found.Match.{Match}
use Rattle.regress_found.specs.Found.{IsInside, start_of, state_of}
use Rattle.regress_tree.specs.Inside.{IsCaptureInside}
use Rattle.regress_tree.specs.Steps.{CaptureSpan}
use Rattle.regress_replace.specs.Expansion.{end_of}
use Rattle.regress_replace.specs.Order.{AreInOrder}
use Rattle.regress_replace.specs.Split.{limited, part_spans, span_texts, spans_from, splits}
use Rattle.regress_replace.proofs.lemmas.Order.{AreInOrder-from, next_match}

pub limited_full : {X : Type 0} (limit : Option ℕ) (spans more : List X) → IsSomeAnd limit (λ n. n ≤ length spans) →
    limited limit spans ≡ limited limit (spans ++ more)
limited_full None spans more full = absurd full
limited_full (Some limit) spans more full = sym (take-append-le limit spans more full)

-- a text that is not empty, or has no match, is split at its matches
pub part_spans_are : (size : ℕ) (ms : List Match) → (size ≡ 0 → length ms ≡ 0) → part_spans size ms ≡ spans_from size 0 ms
part_spans_are size [] none = refl
part_spans_are zero (m ∷ ms) none = absurd (omega (arith, none refl))
part_spans_are (suc size) (m ∷ ms) none = refl

-- a match that does not split the text
pub spans_same : (size from : ℕ) (ms : List Match) (i : ℕ) (m : Match) (done all : List (Option CaptureSpan)) → i < length ms →
    m ≡ get_or ms i m → splits size from m ≡ false → done ++ spans_from size from (drop i ms) ≡ all →
    done ++ spans_from size from (drop (i + 1) ms) ≡ all
spans_same size from ms i m done all below is splits_it so_far =
    let here : spans_from size from (m ∷ drop (i + 1) ms) ≡ spans_from size from (drop (i + 1) ms) = rw splits_it in
    ap (λ zs. done ++ zs) (sym here) ∙ ap (λ zs. done ++ spans_from size from zs) (sym (next_match ms i m below is)) ∙ so_far

module _ (text : List ℕ) where
  all_if : (b : Bool) (xs ys : List (Option CaptureSpan)) → All (IsCaptureInside text) xs → All (IsCaptureInside text) ys →
      All (IsCaptureInside text) (if b then xs else ys)
  all_if true xs ys p q = p
  all_if false xs ys p q = q

  spans_inside : (from : ℕ) (ms : List Match) → IsCharBoundary text from → AreInOrder from ms → All (IsInside text) ms →
      All (IsCaptureInside text) (spans_from (length text) from ms)
  spans_inside from [] boundary order inside =
      All-cons (IsCaptureInside text) (Some (from, length text)) []
      (record { ordered = boundary.0; start = boundary; end = IsCharBoundary-end text }) (All-nil (IsCaptureInside text))
  spans_inside from (m ∷ ms) boundary order inside =
      let here = All-head (IsInside text) m ms inside in
      let others = All-tail (IsInside text) m ms inside in
      let captures = (state_of m).captures in
      let rest = spans_from (length text) (end_of m) ms in
      all_if (splits (length text) from m) (Some (from, start_of m) ∷ (captures ++ rest)) (spans_from (length text) from ms)
      (All-cons (IsCaptureInside text) (Some (from, start_of m)) (captures ++ rest)
      (record { ordered = order.0; start = boundary; end = here.span.start })
      (All-append (IsCaptureInside text) captures rest here.groups (spans_inside (end_of m) ms here.span.end order.1 others)))
      (spans_inside from ms boundary (AreInOrder-from from (end_of m) ms (omega (arith, here.span.ordered, order.0)) order.1) others)

-- each part of a text is inside it
parts_inside : (text : List ℕ) (ms : List Match) → IsUtf8 text → AreInOrder 0 ms → All (IsInside text) ms →
    All (IsCaptureInside text) (part_spans (length text) ms)
parts_inside text [] utf8 order inside = spans_inside text 0 [] (IsCharBoundary-start text utf8) order inside
parts_inside [] (m ∷ ms) utf8 order inside = All-nil (IsCaptureInside [])
parts_inside (b ∷ bs) (m ∷ ms) utf8 order inside = spans_inside (b ∷ bs) 0 (m ∷ ms) (IsCharBoundary-start (b ∷ bs) utf8) order inside

-- and each within a limit
pub limited_inside : (text : List ℕ) (limit : Option ℕ) (ms : List Match) → IsUtf8 text → AreInOrder 0 ms → All (IsInside text) ms →
    All (IsCaptureInside text) (limited limit (part_spans (length text) ms))
limited_inside text None ms utf8 order inside = parts_inside text ms utf8 order inside
limited_inside text (Some limit) ms utf8 order inside =
    All-take (IsCaptureInside text) limit (part_spans (length text) ms) (parts_inside text ms utf8 order inside)

-- the texts of the spans within a limit are the parts within it
pub limited_texts : (text : List ℕ) (limit : Option ℕ) (spans : List (Option CaptureSpan)) →
    span_texts text (limited limit spans) ≡ limited limit (span_texts text spans)
limited_texts text None spans = refl
limited_texts text (Some limit) spans = sym (take-map (option_map (λ span. slice_range text span.0 span.1)) limit spans)
