use Rattle.std.proofs.Common.{◌∙◌}
use Rattle.regress_spans.specs.Remarks.{said}
use Rattle.regex_command.specs.Patterns.{line_of}
use Rattle.regex_command.proofs.LintLemmas.{line_and_shown}
use Rattle.regex_command.proofs.linting.add_remark.Goals as goal

pub returns : goal.returns
returns c =
    line_and_shown c.args.to.now.items c.as_bytes.result.now c.deref.result.now c.extend_from_slice.new.self.items c.extend_from_slice-2.new.self.items
    (line_of (said c.args.remark.now)) c.in_ok-extend_from_slice.ensures.items c.in_ok-extend_from_slice-2.ensures.items
    (c.as_bytes.ensures.value ∙ c.in_ok-line.ensures)
