use Rattle.std.proofs.Common.{◌≡◌, ◌++◌, take, flat_map}
use Rattle.regress_encoding.specs.Encoding.{interval_words}
use Rattle.regress_encoding.proofs.parts.push_intervals.Given as goal

-- the intervals so far
abbrev pub invariant-loop-interval : goal.invariant-loop-interval
invariant-loop-interval l = l.words.items ≡ l.fn.words.items ++ flat_map interval_words (take l.interval-index l.intervals)
