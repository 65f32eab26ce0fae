use Rattle.std.proofs.Common.{◌≡◌, ◌∙◌, ap, length, drop, arith}
use Rattle.std.proofs.lemmas.Grind.{common_steps}
use Rattle.regress_replace.specs.Split.{limited, spans_from}
use Rattle.regress_replace.proofs.SplitLemmas.{limited_full, part_spans_are, spans_same}
use Rattle.regress_replace.proofs.split.split_spans.Goals as goal
use Rattle.regress_replace.proofs.split.split_spans.Goals.{else-length-eq0-via-then-length-eq0+else-not-is_empty, else-length-eq0-via-else-length-eq0}

pub loop-found-preserved-then-not-splits : goal.loop-found-preserved-then-not-splits
loop-found-preserved-then-not-splits c =
    spans_same c.args.length c.loop-found.from c.args.matches.now c.loop-found.found-index c.found-item.result c.loop-found.spans.items _
    c.loop-found-test.true c.found-item.is (grind (arith, common_steps)) c.loop-found.invariant

pub returns-then-is_full : goal.returns-then-is_full
returns-then-is_full c =
    let none : c.args.length ≡ 0 → length c.args.matches.now ≡ 0 =
    elim c.else-length-eq0.branch [
      | else-length-eq0-via-then-length-eq0+else-not-is_empty w ↦ λ e. grind (arith, common_steps)
      | else-length-eq0-via-else-length-eq0 w ↦ λ e. grind (arith, common_steps)
    ] in
    let full = c.is_full.ensures c.if-is_full.true in
    rw (c.limit_to.ensures, part_spans_are c.args.length c.args.matches.now none)
    (limited_full c.args.limit c.loop-found.spans.items (spans_from c.args.length c.loop-found.from (drop c.loop-found.found-index c.args.matches.now))
    (rw c.deref.ensures.value at full) ∙ ap (limited c.args.limit) c.loop-found.invariant)
