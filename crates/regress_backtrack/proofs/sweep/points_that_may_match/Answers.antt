use Rattle.std.proofs.Common.{arith, ◌+◌, true}
use Rattle.regress_backtrack.specs.Next.{Fails}
use Rattle.regress_backtrack.proofs.SweepLemmas.{holds_from}
use Rattle.regress_backtrack.proofs.sweep.points_that_may_match.Goals as goal

pub loop-kept-preserved : goal.loop-kept-preserved
loop-kept-preserved c =
    let first = c.args.first in
    record {
      within = omega (arith, c.loop-kept.invariant.within);
      fails = holds_from (λ k. Fails c.args.input.now (record { pc = first.pc; moved = true; position = first.position + k })) c.loop-kept.kept c.args.more
          (c.fails_after.ensures c.if-fails_after.true) c.loop-kept.invariant.fails;
    }
