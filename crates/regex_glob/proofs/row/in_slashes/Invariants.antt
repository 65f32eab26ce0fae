use Rattle.std.proofs.Common.{◌≡◌, drop}
use Rattle.regex_glob.specs.Row.{in_slashes}
use Rattle.regex_glob.proofs.row.in_slashes.Given as goal

-- none so far
abbrev pub invariant-loop-index : goal.invariant-loop-index
invariant-loop-index l = in_slashes (drop l.index l.text) (drop l.index l.row.items) ≡ in_slashes l.text l.row.items
