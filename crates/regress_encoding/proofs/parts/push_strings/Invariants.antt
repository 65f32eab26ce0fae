use Rattle.std.proofs.Common.{◌≡◌, ◌++◌, take, map, flat_map}
use Rattle.std.specs.Box.{boxed_slice_items}
use Rattle.regress_encoding.specs.Encoding.{listed}
use Rattle.regress_encoding.proofs.parts.push_strings.Given as goal

-- the strings so far
abbrev pub invariant-loop-string : goal.invariant-loop-string
invariant-loop-string l = l.words.items ≡ l.fn.words.items ++ flat_map listed (map boxed_slice_items (take l.string-index l.strings))
