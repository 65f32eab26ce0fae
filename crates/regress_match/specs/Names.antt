-- What the groups with a name have captured.
use Rattle.std.specs.Prelude.{ℕ, Bool, false, List, [], ◌∷◌, None, Some, Option, if◌then◌else◌, slice_index_or}
use Rattle.std.specs.Str.{bytes_eq}
use Rattle.std.specs.Option.{option_or}
use Rattle.regress_tree.specs.Steps.{CaptureSpan}
use Rattle.regress_tree.specs.WellFormed.{Capture}

-- the group has this name
abbrev pub is_named : List ℕ → Option (List ℕ) → Bool
is_named name None = false
is_named name (Some own) = bytes_eq own name

-- the capture of the first set group with this name
abbrev pub named_span : List ℕ → List (Option CaptureSpan) → List Capture → Option CaptureSpan
named_span name spans [] = None
named_span name spans (c ∷ cs) =
    option_or (if is_named name c.name then slice_index_or spans c.id None else None) (named_span name spans cs)
