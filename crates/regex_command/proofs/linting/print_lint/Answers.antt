use Rattle.std.proofs.Common.{◌∙◌, ap, length, sym}
use Rattle.regress_front.specs.Dialects.{flags_in_force}
use Rattle.regress_spans.specs.Remarks.{said_by}
use Rattle.regress_tree.specs.Tree.{tree}
use Rattle.regress_unicode.specs.TableOf.{table_of}
use Rattle.regex_command.proofs.LintLemmas.{lint_under_unicode, reports}
use Rattle.regex_command.proofs.linting.print_lint.Goals as goal

pub returns-in-Ok-clause-reported : goal.returns-in-Ok-clause-reported
returns-in-Ok-clause-reported g c =
    let pattern = c.args.pattern in
    let parsed = c.in-Ok.parsed in
    reports pattern.dialect (flags_in_force pattern.dialect pattern.flags) c.deref.result.now pattern.text.now (table_of c.in_ok-tables.tables)
    (c.deref.ensures.value ∙ c.in_ok-points.ensures.characters)
    c.in_ok-tables.ensures (said_by c.in_ok-remarks-in-Ok.remarks.items) (said_by c.deref-in-Ok-3.result.now) parsed.regex.flags (tree parsed.regex.node) parsed.spans.items c.print_remarks.result
    (g.W.Write.contents c.args.out.now) (g.W.Write.contents c.print_remarks.new.out)
    (rw c.deref.ensures.value (rw c.deref-in-Ok.ensures.value at c.in_ok-remarks-in-Ok.ensures))
    c.in-Ok.ensures.flags c.in-Ok.ensures.only c.in-Ok.ensures.spanned c.in-Ok.ensures.paired
    c.len.result (c.len.ensures ∙ c.in_ok-points.points.ok.0 ∙ ap length (sym c.deref.ensures.value))
    (rw c.deref-in-Ok-3.ensures.value c.in_ok-add_size_remark-in-Ok.ensures.added)
    c.print_remarks.ensures.written c.print_remarks.ensures.clean

pub returns-clause-due : goal.returns-clause-due
returns-clause-due g c =
    let pattern = c.args.pattern in
    let flags = flags_in_force pattern.dialect pattern.flags in
    lint_under_unicode pattern.dialect flags c.deref.result.now _ (table_of c.in_ok-tables.tables) (c.deref.ensures.value ∙ c.in_ok-points.ensures.characters)
    c.in_ok-tables.ensures c.rejection.result
    (c.rejection.ensures pattern.dialect (record { flags = flags; table = table_of c.in_ok-tables.tables }) c.deref.result.now c.in-Err.ensures.rejected)
