-- What a template expands to at a match.
use Rattle.std.specs.Prelude.{ℕ, Bool, List, [], Option, Some, None, flat_map, take, drop, length, is_some, slice_index_or, slice_range}
use Rattle.std.specs.List.{list_any}
use Rattle.regress_tree.specs.Steps.{CaptureSpan}
use Rattle.regress_tree.specs.WellFormed.{Capture}
use Rattle.regress_found.specs.Found.{start_of, state_of}
use Rattle.regress_found.specs.declared.found.Match.{Match}
use Rattle.regress_match.specs.Names.{named_span}
use Rattle.regress_replace.specs.Template.{Piece, plain, text_before, whole_match, text_after, by_number, by_name, pieces_of}

-- the byte offset at which a match ends
abbrev pub end_of : Match → ℕ
end_of m = (state_of m).position

-- the text that a match spans
abbrev pub matched_text : (t : List ℕ) → Match → List ℕ
matched_text t m = slice_range t (start_of m) (end_of m)

-- the text that a group has captured, empty if it is unset
abbrev pub captured_text : (t : List ℕ) → Option CaptureSpan → List ℕ
captured_text t None = []
captured_text t (Some span) = slice_range t span.0 span.1

-- what a piece expands to at a match in the text `t`
abbrev pub expand_piece : (t : List ℕ) → Match → List Capture → Piece → List ℕ
expand_piece t m groups (plain bytes) = bytes
expand_piece t m groups text_before = take (start_of m) t
expand_piece t m groups whole_match = matched_text t m
expand_piece t m groups text_after = drop (end_of m) t
expand_piece t m groups (by_number id) = captured_text t (slice_index_or (state_of m).captures id None)
expand_piece t m groups (by_name name) = captured_text t (named_span name (state_of m).captures groups)

-- a group of the pattern has a name
abbrev pub any_named : List Capture → Bool
any_named groups = list_any (λ c. is_some c.name) groups

-- what a template expands to at a match, where it is given whether `$<` may begin a reference
abbrev pub expansion_with : (has_names : Bool) → (t : List ℕ) → Match → List Capture → (template : List ℕ) → List ℕ
expansion_with has_names t m groups template =
    flat_map (expand_piece t m groups) (pieces_of (length (state_of m).captures) has_names template)

-- what a template expands to at a match
abbrev pub expansion : (t : List ℕ) → Match → List Capture → (template : List ℕ) → List ℕ
expansion t m groups template = expansion_with (any_named groups) t m groups template
