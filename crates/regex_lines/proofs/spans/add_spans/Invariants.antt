-- the matches so far
use Rattle.std.proofs.Common.{◌≡◌, ◌++◌, flat_map, map, take}
use Rattle.regress.specs.Compiled.{match_of}
use Rattle.regex_lines.specs.Paint.{span_in}
use Rattle.regex_lines.proofs.spans.add_spans.Given as goal

abbrev pub invariant-loop-found : goal.invariant-loop-found
invariant-loop-found l = l.to.items ≡ l.fn.to.items ++ flat_map (span_in l.text.run.start) (map match_of (take l.found-index l.found-items))
