-- the runs so far
use Rattle.std.proofs.Common.{map}
use Rattle.std.specs.Str.Chunks.{utf8_chunks_rest}
use Rattle.regex_lines.specs.Reply.{run_of}
use Rattle.regex_lines.proofs.RunLemmas.{SoFar}
use Rattle.regex_lines.proofs.runs.utf8_runs.Given as goal

abbrev pub invariant-loop-chunk : goal.invariant-loop-chunk
invariant-loop-chunk l = SoFar l.fn.line (map run_of l.found.items) l.start (utf8_chunks_rest l.chunk-iterator)
