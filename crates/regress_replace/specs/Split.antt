-- Splitting a text as ECMA-262 does (RegExp.prototype[@@split]).
use Rattle.std.specs.Prelude.{ℕ, zero, suc, Bool, not, ◌&&◌, List, [], ◌∷◌, ◌++◌, Option, Some, None, map, option_map, take, length, slice_range, if◌then◌else◌, ◌==◌, nat_lt}
use Rattle.std.specs.Borrow.{Bor}
use Rattle.regress_tree.specs.Steps.{CaptureSpan}
use Rattle.regress_found.specs.Found.{start_of, state_of}
use Rattle.regress_found.specs.declared.found.Match.{Match}
use Rattle.regress_replace.specs.Expansion.{end_of}

-- A match splits a text of this length, unless it starts at the end of the text, or ends where the part before it starts.
abbrev pub splits : (size from : ℕ) → Match → Bool
splits size from m = nat_lt (start_of m) size && not (end_of m == from)

-- The spans of the parts of a text of this length from the byte offset `from` on: before, between and after the matches
-- that split it, and after the part before a match its captures, none for a group that is unset.
abbrev pub spans_from : (size from : ℕ) → List Match → List (Option CaptureSpan)
spans_from size from [] = Some (from, size) ∷ []
spans_from size from (m ∷ ms) =
    if splits size from m then Some (from, start_of m) ∷ ((state_of m).captures ++ spans_from size (end_of m) ms)
    else spans_from size from ms

-- the spans of the parts of a text of this length: none if it is empty and has a match
abbrev pub part_spans : (size : ℕ) → List Match → List (Option CaptureSpan)
part_spans size [] = spans_from size 0 []
part_spans zero (m ∷ ms) = []
part_spans (suc size) (m ∷ ms) = spans_from (suc size) 0 (m ∷ ms)

-- what spans of the text contain
abbrev pub span_texts : (t : List ℕ) → List (Option CaptureSpan) → List (Option (List ℕ))
span_texts t spans = map (option_map (λ span. slice_range t span.0 span.1)) spans

-- the parts of a text
abbrev pub all_parts : (t : List ℕ) → List Match → List (Option (List ℕ))
all_parts t ms = span_texts t (part_spans (length t) ms)

-- the first elements, as many as the limit if there is one
abbrev pub limited : {X : Type 0} → (limit : Option ℕ) → List X → List X
limited None xs = xs
limited (Some limit) xs = take limit xs

-- what the parts of a text contain
abbrev pub part_texts : List (Option (Bor (List ℕ))) → List (Option (List ℕ))
part_texts parts = map (option_map (λ part. part.now)) parts
