use Rattle.regress_lexer.specs.Dialects.{flags_in_force}
use Rattle.regress_syntax.specs.Meaning.{setting_of}
use Rattle.regress_display.specs.Shown.{shows_spans}
use Rattle.regress_display.proofs.ShownLemmas.{spanned_parsed}
use Rattle.regress_display.proofs.trees.parse_with.Goals as goal

pub returns-then-reports_spans-clause-parsed : goal.returns-then-reports_spans-clause-parsed
returns-then-reports_spans-clause-parsed c =
    let request = c.args.request.now in
    spanned_parsed (shows_spans request.format request.stage) request.dialect (setting_of (flags_in_force request.dialect request.flags) c.args.tables.now)
    c.args.points.now c.try_parse_with_spans_in.result c.try_parse_with_spans_in.ensures.spanned

pub returns-in-Ok-clause-parsed : goal.returns-in-Ok-clause-parsed
returns-in-Ok-clause-parsed c =
    let found = rw c.in-Ok.is at c.try_parse_in.ensures.accepted in
    record {
      pattern = found.0;
      accepted = found.1;
      parsed = found.2;
      spans = λ shown. cc;
    }
