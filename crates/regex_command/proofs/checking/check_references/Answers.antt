use Rattle.std.proofs.Common.{subst}
use Rattle.std.specs.Prelude.{string_bytes}
use Rattle.regex_command.specs.Joined.{IsClosed}
use Rattle.regex_command.proofs.PatternLemmas.{all_done, all_more}
use Rattle.regex_command.proofs.checking.check_references.Goals as goal

pub loop-pattern-preserved : goal.loop-pattern-preserved
loop-pattern-preserved c =
    all_more string_bytes c.args.patterns.now c.loop-pattern.pattern-index IsClosed c.pattern-item.result c.loop-pattern-test.true c.pattern-item.is
    c.loop-pattern.invariant (subst IsClosed c.as_str.ensures.value c.in_ok-check_reference.ensures.none)

pub returns-clause-none : goal.returns-clause-none
returns-clause-none c =
    all_done string_bytes c.args.patterns.now c.loop-pattern.pattern-index IsClosed c.loop-pattern-test.false c.loop-pattern.invariant
