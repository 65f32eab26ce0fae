use Rattle.std.proofs.Common.{List, ap, ◌∙◌, ℕ}
use Rattle.regex_command.specs.Patterns.{line_of}
use Rattle.regex_command.proofs.LintLemmas.{line_of_texts}
use Rattle.regex_command.proofs.linting.line_of.Goals as goal

pub returns : goal.returns
returns c =
    let remark = c.args.remark.now in
    c.in_ok-format.ensures.ok ∙ line_of_texts remark.span remark.name.now c.as_str-text.result.now
    ∙ ap (λ (text : List ℕ). line_of (remark.span, remark.name.now, text)) c.as_str-text.ensures.value
