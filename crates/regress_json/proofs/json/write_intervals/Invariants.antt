use Rattle.std.proofs.Common.{◌≡◌, take, codes}
use Rattle.std.specs.List.{join_by}
use Rattle.std.specs.Fmt.{HasWritten, IsPlainFormatter}
use Rattle.regress_json.specs.Json.{interval}
use Rattle.regress_json.proofs.JsonLemmas.{separator}
use Rattle.regress_json.proofs.json.write_intervals.Given as goal
use denote.Text.{Utf8}
use denote.Shadow.{shadow}

-- the intervals so far
abbrev pub invariant-loop-interval : goal.invariant-loop-interval
invariant-loop-interval g l = record {
  text : shadow (Utf8 l.comma);
  comma : l.comma ≡ separator l.interval-index;
  written : IsPlainFormatter l.fn.f →
      HasWritten g.W.Write.write_str_gives l.fn.f (join_by interval (codes ",") (take l.interval-index l.intervals)) l.f;
}
