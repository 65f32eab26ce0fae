use Rattle.std.proofs.Common.{◌∙◌}
use Rattle.regress_front.specs.Dialects.{flags_in_force}
use Rattle.regress_unicode.specs.TableOf.{table_of}
use Rattle.regex_command.proofs.ExplainLemmas.{explained, unexplained}
use Rattle.regex_options.specs.Request.{asked_form}
use Rattle.regex_command.proofs.SettingLemmas.{rejected_by}
use Rattle.regex_command.proofs.explaining.print_explanation.Goals as goal

pub returns-in-Ok-clause-explained : goal.returns-in-Ok-clause-explained
returns-in-Ok-clause-explained g c =
    let pattern = c.args.pattern in
    let parsed = c.in-Ok.ensures.spanned in
    explained pattern.dialect (flags_in_force pattern.dialect pattern.flags) c.deref.result.now pattern.text.now (table_of c.in_ok-tables.tables)
    (c.deref.ensures.value ∙ c.in_ok-points.ensures.characters)
    c.in_ok-tables.ensures (asked_form c.args.form) (g.W.Write.contents c.args.out.now) (g.W.Write.contents c.print.new.out) _ _ parsed.0 parsed.1
    c.in_ok-text-in-Ok.ensures.form c.as_bytes.ensures.value c.in_ok-print-in-Ok.ensures.bytes

pub returns-clause-explained : goal.returns-clause-explained
returns-clause-explained g c =
    let pattern = c.args.pattern in
    let flags = flags_in_force pattern.dialect pattern.flags in
    unexplained pattern.dialect flags c.deref.result.now pattern.text.now (table_of c.in_ok-tables.tables)
    (c.deref.ensures.value ∙ c.in_ok-points.ensures.characters)
    c.in_ok-tables.ensures (asked_form c.args.form) (g.W.Write.contents c.args.out.now) _ c.reject.result c.reject.ensures
    (rejected_by pattern.dialect (record { flags = flags; table = table_of c.in_ok-tables.tables }) c.deref.result.now c.in-Err.fault
    c.in-Err.ensures.rejected)
