use Rattle.std.proofs.Common.{◌≡◌, map, subst, sym}
use Rattle.std.specs.Prelude.{IfOk}
use Rattle.regex_lines.specs.Reply.{run_of, whole}
use Rattle.regex_lines.proofs.RunLemmas.{many_texts, one_text}
use Rattle.regex_lines.proofs.runs.texts_of.Goals as goal

pub returns-in-Ok-clause-texts : goal.returns-in-Ok-clause-texts
returns-in-Ok-clause-texts c =
    subst (λ runs. IfOk c.one_text.result (λ found. map run_of found.items ≡ runs)) (sym (one_text c.args.line.now c.in-Ok.ensures.cases.1))
    (subst (λ line. IfOk c.one_text.result (λ found. map run_of found.items ≡ whole line)) c.in-Ok.ensures.cases.0 c.one_text.ensures.texts)

pub returns-in-Err-clause-texts : goal.returns-in-Err-clause-texts
returns-in-Err-clause-texts c =
    subst (λ runs. IfOk c.utf8_runs.result (λ found. map run_of found.items ≡ runs)) (sym (many_texts c.args.line.now c.in-Err.ensures.cases.0))
    c.utf8_runs.ensures.runs
