use Rattle.std.proofs.Common.{◌∙◌, IfOk, List, ap, map, subst}
use Rattle.regex_options.specs.Plain.{job}
use Rattle.regex_lines.specs.Prefix.{text_of}
use Rattle.regex_lines.specs.Reply.{IsReplyIn, Run, run_of}
use Rattle.regex_lines.specs.declared.runs.Run as code
use Rattle.regex_lines.proofs.reply.reply_to_runs.Goals as goal

pub returns-clause-reply : goal.returns-clause-reply
returns-clause-reply c =
    subst (λ (runs : List Run). IfOk c.reply_in.result (λ reply. IsReplyIn c.args.searcher.now.regex.now c.args.line.now runs c.args.ended (job c.args.prefix.task)
    (text_of c.args.prefix) reply.selected reply.count reply.bytes.items))
    (ap (λ (runs : List code.Run). map run_of runs) c.deref.ensures.value ∙ c.in_ok-texts.ensures.runs) c.reply_in.ensures.reply
