use Rattle.std.proofs.Common.{[], map}
use Rattle.std.specs.Prelude.{string_bytes}
use Rattle.regex_lines.proofs.lemmas.Failures.{passed_on}
use Rattle.regex_options.specs.Plain.{Source, source}
use Rattle.regex_options.specs.declared.source.PatternSource.TheVariants.{Text}
use Rattle.regex_options.specs.declared.source.PatternSource.{PatternSource}
use Rattle.regex_command.specs.Printed.{AreUnread, IsUnread}
use Rattle.regex_command.proofs.PatternLemmas.{any_next, one_more}
use Rattle.regex_command.proofs.pattern.read_all.Goals as goal

-- the item of a list that is empty
abbrev no_source : PatternSource
no_source = Text (record { ref_ptr = (0, 0); now = [] })

pub loop-from-preserved : goal.loop-from-preserved
loop-from-preserved g c =
    one_more c.args.sources.now c.loop-from.from-index no_source (map string_bytes c.loop-from.patterns.items)
    (map string_bytes c.add_patterns.new.to.items) c.loop-from-test.true c.loop-from.invariant c.in_ok-add_patterns.ensures.with

pub returns-in_err-add_patterns-clause-failed : goal.returns-in_err-add_patterns-clause-failed
returns-in_err-add_patterns-clause-failed g c =
    passed_on (AreUnread (map source c.args.sources.now)) c.from_residual.result c.in_err-add_patterns.field-0.0 c.from_residual.ensures.1
    (any_next source c.args.sources.now c.loop-from.from-index (λ (s : Source). IsUnread s c.in_err-add_patterns.field-0.0) no_source
    c.loop-from-test.true c.in_err-add_patterns.ensures.failed)
