-- What the walk over the capture groups of a tree collects.
use Rattle.std.specs.Prelude.{◌≡◌, true, List, ◌++◌, map, is_ok}
use Rattle.regress_tree.specs.WellFormed.{Capture}
use Rattle.regress_match.specs.Pattern.{capture_of}
use Rattle.regress_match.specs.declared.names.Listing.{Listing}

-- the groups are appended to the list, unless an allocation has failed
abbrev pub Lists : Listing → Listing → List Capture → Type 0
Lists old new groups = is_ok new.done ≡ true →
    (is_ok old.done ≡ true) × (map capture_of new.groups.items ≡ map capture_of old.groups.items ++ groups)
