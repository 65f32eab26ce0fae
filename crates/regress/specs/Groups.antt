-- The spans of groups, and what the iterators over them have still to return.
use Rattle.std.specs.Prelude.{◌==◌, ◌-◌, if◌then◌else◌, ℕ, List, [], ◌∷◌, flat_map, map, drop, Option, Some, None, option_map, slice_index_or}
use Rattle.std.specs.declared.ops.Range.{Range}
use Rattle.regress_front.specs.Steps.{CaptureSpan}
use Rattle.regress_front.specs.WellFormed.{Capture}
use Rattle.regress_found.specs.declared.found.Match.{Match}
use Rattle.regress_found.specs.Found.{start_of, state_of}
use Rattle.regress_match.specs.Pattern.{capture_of}
use Rattle.regress.specs.declared.groups.Groups.{Groups}
use Rattle.regress.specs.declared.groups.NamedGroups.{NamedGroups}
use Rattle.regress.specs.declared.groups.GroupNames.{GroupNames}

-- a range as a span
abbrev pub span_of : Option (Range ℕ) → Option CaptureSpan
span_of range = option_map (λ r. (r.start, r.end)) range

-- the span of the group with this number, where 0 is the whole match
abbrev pub group_span : Match → ℕ → Option CaptureSpan
group_span m n = if n == 0 then Some (start_of m, (state_of m).position) else slice_index_or (state_of m).captures (n - 1) None

-- the span of the whole match, and then that of each group
abbrev pub all_spans : Match → List (Option CaptureSpan)
all_spans m = Some (start_of m, (state_of m).position) ∷ (state_of m).captures

-- the span under the name, if there is a name
abbrev pub with_name : Option CaptureSpan → Option (List ℕ) → List (List ℕ × Option CaptureSpan)
with_name span None = []
with_name span (Some name) = (name, span) ∷ []

-- the name and the span of each group that has a name
abbrev pub named_spans : Match → List Capture → List (List ℕ × Option CaptureSpan)
named_spans m groups = flat_map (λ c. with_name (slice_index_or (state_of m).captures c.id None) c.name) groups

abbrev pub spans_left : Groups → List (Option CaptureSpan)
spans_left g = drop g.next (all_spans g.found.now)

abbrev pub named_left : NamedGroups → List (List ℕ × Option CaptureSpan)
named_left g = named_spans g.found.now (map capture_of g.rest.now)

abbrev pub names_left : GroupNames → List (Option (List ℕ))
names_left g = map (λ c. c.name) (map capture_of g.rest.now)
