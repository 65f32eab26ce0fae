use Rattle.std.proofs.Common.{subst}
use Rattle.std.specs.Prelude.{IfOk}
use Rattle.regex_options.specs.Plain.{job}
use Rattle.regex_lines.specs.Prefix.{text_of}
use Rattle.regex_lines.specs.Reply.{IsReplyIn, utf8_runs, whole}
use Rattle.regex_lines.proofs.ReplyLemmas.{of_texts}
use Rattle.regex_lines.proofs.RunLemmas.{many_texts, one_text}
use Rattle.regex_lines.proofs.reply.reply_to.Goals as goal

pub returns-in-Ok-clause-reply : goal.returns-in-Ok-clause-reply
returns-in-Ok-clause-reply c =
    let r = c.args.searcher.now.regex.now in
    let line = c.args.line.now in
    let prefix = text_of c.args.prefix in
    of_texts r line (whole line) c.args.ended (job c.args.prefix.task) prefix c.reply_to_text.result (one_text line c.in-Ok.ensures.cases.1)
    (subst
    (λ line. IfOk c.reply_to_text.result (λ reply. IsReplyIn r line (whole line) c.args.ended (job c.args.prefix.task) prefix reply.selected reply.count reply.bytes.items))
    c.in-Ok.ensures.cases.0 c.reply_to_text.ensures.reply)

pub returns-in-Err-clause-reply : goal.returns-in-Err-clause-reply
returns-in-Err-clause-reply c =
    let line = c.args.line.now in
    of_texts c.args.searcher.now.regex.now line (utf8_runs line) c.args.ended (job c.args.prefix.task) (text_of c.args.prefix) c.reply_to_runs.result
    (many_texts line c.in-Err.ensures.cases.0) c.reply_to_runs.ensures.reply
