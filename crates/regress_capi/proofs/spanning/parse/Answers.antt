use Rattle.regress_lexer.specs.Dialects.{flags_in_force}
use Rattle.regress_tree.specs.Tree.{tree}
use Rattle.regress_syntax.specs.Meaning.{setting_of}
use Rattle.regress_capi.proofs.SpannedLemmas.{placed-are}
use Rattle.regress_capi.proofs.spanning.parse.Goals as goal

pub returns-clause-placed : goal.returns-clause-placed
returns-clause-placed c =
    let known = c.try_parse_with_spans_in.ensures in
    placed-are c.args.dialect (setting_of (flags_in_force c.args.dialect c.args.flags) c.args.tables.now) c.args.pattern.now
    (λ parsed. tree parsed.regex.node) (λ parsed. parsed.spans.items) c.try_parse_with_spans_in.result known.spanned known.paired known.each known.meaning
