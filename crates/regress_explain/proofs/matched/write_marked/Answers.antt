use Rattle.std.proofs.Common.{◌≡◌, true, refl, rules}
use Rattle.std.proofs.lemmas.Result.{on_ok_weaker}
use Rattle.std.proofs.lemmas.Str.{IsCharBoundary-start}
use Rattle.regress_explain.proofs.MarkedLemmas.{all_marked, marked, none_so_far}
use Rattle.regress_explain.proofs.matched.write_marked.Goals as goal

pub loop-range-init : goal.loop-range-init
loop-range-init c = none_so_far c.args.text.now c.args.ranges.now _ (IsCharBoundary-start c.args.text.now c.utf8.text)

pub loop-range-preserved : goal.loop-range-preserved
loop-range-preserved c =
    let yes : c.is_markable.result ≡ true = search rules in
    marked c.args.text.now c.args.ranges.now c.loop-range.range-index c.loop-range.at _ _ c.loop-range-test.true refl _ _ c.loop-range.invariant _
    (c.is_markable.ensures.0 yes) (rw (c.range.ensures.value, c.range-in-loop-range.ensures.value) at c.in_ok-write_match.ensures)

pub returns : goal.returns
returns c =
    on_ok_weaker c.write_shown.result
    (λ added. all_marked c.args.text.now c.args.ranges.now c.loop-range.range-index c.loop-range.at _ _ _ c.loop-range-test.false c.loop-range.invariant added)
    (rw c.range_from.ensures.value at c.write_shown.ensures)
