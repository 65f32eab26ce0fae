use Rattle.std.proofs.Common.{◌≡◌, take, codes}
use Rattle.std.specs.Box.{boxed_slice_items}
use Rattle.std.specs.List.{join_by}
use Rattle.std.specs.Fmt.{HasWritten, IsPlainFormatter}
use Rattle.regress_json.specs.Json.{numbers}
use Rattle.regress_json.proofs.JsonLemmas.{separator}
use Rattle.regress_json.proofs.json.write_strings.Given as goal
use denote.Text.{Utf8}
use denote.Shadow.{shadow}

-- the strings so far
abbrev pub invariant-loop-string : goal.invariant-loop-string
invariant-loop-string g l = record {
  text : shadow (Utf8 l.comma);
  comma : l.comma ≡ separator l.string-index;
  written : IsPlainFormatter l.fn.f →
      HasWritten g.W.Write.write_str_gives l.fn.f (join_by (λ s. numbers (boxed_slice_items s)) (codes ",") (take l.string-index l.strings)) l.f;
}
