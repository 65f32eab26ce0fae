use Rattle.regex_glob.proofs.RowLemmas.{any_step}
use Rattle.regex_glob.proofs.row.with_anything.Goals as goal

pub loop-index-preserved : goal.loop-index-preserved
loop-index-preserved c =
    any_step c.args.row.now.items c.loop-index.next.items c.loop-index.index c.index.result.now c.loop-index.some c.loop-index-test.true c.index.ensures
    c.loop-index.invariant c.push_front.new.self.items c.in_ok-push_front.ensures.items
