use Rattle.std.proofs.Common.{◌≡◌, inl, inr, refl}
use Rattle.regress_display.specs.Request.{requested}
use Rattle.regex_command.proofs.TreeLemmas.{json_failed, json_written, quiet_always, quiet_otherwise, unwritten}
use Rattle.regex_command.proofs.showing.print_fault.Goals as goal

pub returns-in-Text-clause-shown : goal.returns-in-Text-clause-shown
returns-in-Text-clause-shown g c =
    (refl, unwritten c.args.request.format (requested c.args.request) (g.W.Write.contents c.args.out.now) c.requires.rejected (inl c.in-Text.is))

pub returns-in-Text-clause-quiet_fault : goal.returns-in-Text-clause-quiet_fault
returns-in-Text-clause-quiet_fault g c = quiet_otherwise c.args.request.format _ (inl c.in-Text.is)

pub returns-in-Svg-clause-shown : goal.returns-in-Svg-clause-shown
returns-in-Svg-clause-shown g c =
    (refl, unwritten c.args.request.format (requested c.args.request) (g.W.Write.contents c.args.out.now) c.requires.rejected (inr c.in-Svg.is))

pub returns-in-Svg-clause-quiet_fault : goal.returns-in-Svg-clause-quiet_fault
returns-in-Svg-clause-quiet_fault g c = quiet_otherwise c.args.request.format _ (inr c.in-Svg.is)

pub returns-in-Json-clause-shown : goal.returns-in-Json-clause-shown
returns-in-Json-clause-shown g c =
    json_written (requested c.args.request) c.print_json_fault.result c.args.request.format (g.W.Write.contents c.args.out.now)
    (g.W.Write.contents c.print_json_fault.new.out) c.in-Json.is c.print_json_fault.ensures.shown

pub returns-in-Json-clause-quiet_fault : goal.returns-in-Json-clause-quiet_fault
returns-in-Json-clause-quiet_fault g c = quiet_always c.args.request.format (c.args.err.now ≡ c.args.err.now) refl

pub returns-in-Json-clause-failed : goal.returns-in-Json-clause-failed
returns-in-Json-clause-failed g c =
    json_failed (requested c.args.request) c.print_json_fault.result c.args.request.format c.in-Json.is c.print_json_fault.ensures.failed
