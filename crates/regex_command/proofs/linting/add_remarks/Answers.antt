use Rattle.regex_command.proofs.LintLemmas.{all_listed, one_more}
use Rattle.regex_command.proofs.linting.add_remarks.Goals as goal

pub loop-remark-preserved : goal.loop-remark-preserved
loop-remark-preserved c =
    one_more c.args.remarks.now c.loop-remark.remark-index c.remark-item.result c.args.to.now.items c.loop-remark.to.items c.add_remark.new.to.items
    c.loop-remark-test.true c.remark-item.is c.loop-remark.invariant c.in_ok-add_remark.ensures

pub returns : goal.returns
returns c =
    all_listed c.args.remarks.now c.loop-remark.remark-index c.args.to.now.items c.loop-remark.to.items c.loop-remark-test.false
    c.loop-remark.invariant
