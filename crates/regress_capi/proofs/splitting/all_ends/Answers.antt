use Rattle.regress_capi.proofs.SearchLemmas.{ends_next}
use Rattle.regress_capi.proofs.splitting.all_ends.Goals as goal

pub loop-span-preserved : goal.loop-span-preserved
loop-span-preserved c =
    rw (c.in_ok-push-2.ensures.items, c.in_ok-push.ensures.items)
    (ends_next c.args.spans.now c.loop-span.span-index _ c.ends_of-start.result.0 c.ends_of-start.result.1 c.loop-span.ends.items _
    c.loop-span-test.true c.ends_of-start.ensures c.loop-span.invariant)
