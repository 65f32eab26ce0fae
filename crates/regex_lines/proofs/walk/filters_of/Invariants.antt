use Rattle.std.proofs.Common.{◌≡◌, map, take}
use Rattle.regex_lines.specs.Walk.{filter, filter_of}
use Rattle.regex_options.specs.Plain.{name_glob}
use Rattle.regex_lines.proofs.walk.filters_of.Given as goal

-- the filters so far
abbrev pub invariant-loop-glob : goal.invariant-loop-glob
invariant-loop-glob l = map filter l.filters.items ≡ map filter_of (map name_glob (take l.glob-index l.globs))
