use Rattle.std.proofs.Common.{◌≡◌, ap, refl, rules}
use Rattle.regress_display.specs.Request.{requested}
use Rattle.regex_command.proofs.TreeLemmas.{answers, fails, is_due, quiet_always}
use Rattle.regex_command.proofs.showing.print_tree.Goals as goal

pub returns-in-Ok-clause-quiet_fault : goal.returns-in-Ok-clause-quiet_fault
returns-in-Ok-clause-quiet_fault g c = quiet_always c.args.request.format (c.args.err.now ≡ c.args.err.now) refl

pub returns-in-Err-Syntax-clause-shown : goal.returns-in-Err-Syntax-clause-shown
returns-in-Err-Syntax-clause-shown g c =
    let same : c.show.new.out ≡ c.args.out.now = search rules in
    answers (requested c.args.request) c.print_fault.result (g.W.Write.contents c.args.out.now) (g.W.Write.contents c.show.new.out)
    (g.W.Write.contents c.print_fault.new.out) (ap g.W.Write.contents same) c.print_fault.ensures.shown

pub returns-in-Err-Syntax-clause-first : goal.returns-in-Err-Syntax-clause-first
returns-in-Err-Syntax-clause-first g c = fails (requested c.args.request) c.print_fault.result _ c.print_fault.ensures.failed

pub returns-in-Err-Syntax-clause-due : goal.returns-in-Err-Syntax-clause-due
returns-in-Err-Syntax-clause-due g c = is_due (requested c.args.request) c.print_fault.result c.print_fault.ensures.failed

pub returns-in-Err-Memory-clause-quiet_fault : goal.returns-in-Err-Memory-clause-quiet_fault
returns-in-Err-Memory-clause-quiet_fault g c = quiet_always c.args.request.format (c.args.err.now ≡ c.args.err.now) refl

pub returns-in-Err-Output-clause-quiet_fault : goal.returns-in-Err-Output-clause-quiet_fault
returns-in-Err-Output-clause-quiet_fault g c = quiet_always c.args.request.format (c.args.err.now ≡ c.args.err.now) refl
