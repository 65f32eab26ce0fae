use Rattle.std.proofs.Common.{◌≡◌, ◌++◌, List, ℕ, Some, take, codes}
use Rattle.std.specs.List.{join_by}
use Rattle.std.specs.Fmt.{HasWritten, IsPlainFormatter}
use Rattle.regress_json.proofs.JsonLemmas.{separator}
use Rattle.regress_json.proofs.json.write_list.Given as goal
use denote.Text.{Utf8}
use denote.Shadow.{shadow}

-- the values so far
abbrev pub invariant-loop-value : goal.invariant-loop-value
invariant-loop-value g l = record {
  text : shadow (Utf8 l.comma);
  comma : l.comma ≡ separator l.value-index;
  written : (shown : g.row.T.Denot → List ℕ) → ((x : g.row.T.Denot) → g.T.Display.output x ≡ Some (shown x)) → IsPlainFormatter l.fn.f →
      HasWritten g.W.Write.write_str_gives l.fn.f (codes "[" ++ join_by shown (codes ",") (take l.value-index l.values)) l.f;
}
