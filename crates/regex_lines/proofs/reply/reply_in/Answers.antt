use Rattle.std.proofs.Common.{◌≡◌, IfOk, ap, false, map, option_map, subst, sym}
use Rattle.regex_options.specs.Colors.{plain_colors}
use Rattle.regex_options.specs.Plain.{Job, job}
use Rattle.regex_lines.specs.Paint.{line_paint_in}
use Rattle.regex_lines.specs.Prefix.{text_of}
use Rattle.regex_lines.specs.Reply.{IsReplyIn, IsSelected, ShowsIf, run_of}
use Rattle.regex_lines.proofs.ReplyLemmas.{all_three}
use Rattle.regex_lines.proofs.reply.reply_in.Goals as goal

pub returns-in-Match-clause-reply : goal.returns-in-Match-clause-reply
returns-in-Match-clause-reply c =
    let r = c.args.searcher.now.regex.now in
    let s = c.in-Match.selection in
    let p = line_paint_in (option_map (λ colors. plain_colors colors.now) c.in-Match.colors) false s.invert in
    let line = c.args.line.bytes.now in
    let texts = map run_of c.args.line.texts.now in
    let prefix = text_of c.args.prefix in
    subst (λ (task : Job). IfOk c.selected.result (λ reply. IsReplyIn r line texts c.args.line.ended task prefix reply.selected reply.count reply.bytes.items))
    (sym (ap job c.in-Match.is))
    (all_three (λ reply. IsSelected r texts s.invert reply.selected) (λ reply. reply.count ≡ 1)
    (λ reply. ShowsIf r line texts reply.selected s.shown p prefix reply.bytes.items) c.selected.result
    (rw c.show_of.ensures.invert at c.selected.ensures.selected) c.selected.ensures.count
    (rw (c.show_of.ensures.shown, c.show_of.ensures.paint) at c.selected.ensures.shows))
