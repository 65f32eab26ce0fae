use Rattle.std.proofs.Common.{Some, None, arith}
use Rattle.regress_backtrack.proofs.BeginningLemmas.{skipped_on}
use Rattle.regress_backtrack.proofs.backtracker.Backtracker.next_start_with.Goals as goal

pub loop-position-preserved : goal.loop-position-preserved
loop-position-preserved c =
    let here = c.loop-position in
    let next = c.in_ok-position-2 in
    let possible = c.next_possible-possible-in-loop-position.ensures in
    record {
      low = omega (arith, here.invariant.low, here.invariant.order, next.ensures.within.0);
      order = possible.low;
      high = possible.high;
      excluded = possible.excluded;
      skipped = skipped_on c.args.self.now c.args.from here.position here.possible (Some next.position)
          c.args.beginning c.requires.beginning here.invariant.skipped here.invariant.excluded next.ensures.skipped;
    }

pub returns-in_err-position-clause-skipped : goal.returns-in_err-position-clause-skipped
returns-in_err-position-clause-skipped c = λ outs solution k low le any.
    c.in_err-position.ensures.skipped outs solution k low le tt

pub returns-in_err-position-2-clause-skipped : goal.returns-in_err-position-2-clause-skipped
returns-in_err-position-2-clause-skipped c = λ outs solution k low le any.
    let here = c.loop-position in
    skipped_on c.args.self.now c.args.from here.position here.possible None
    c.args.beginning c.requires.beginning here.invariant.skipped here.invariant.excluded c.in_err-position-2.ensures.skipped
    outs solution k low le tt
