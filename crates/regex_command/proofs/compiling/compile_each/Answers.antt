use Rattle.std.proofs.Common.{ℕ, List, subst}
use Rattle.std.specs.Prelude.{chars, string_bytes}
use Rattle.regex_lines.specs.Ending.{setting_in}
use Rattle.regex_command.specs.Patterns.{IsAcceptedPattern}
use Rattle.regex_command.proofs.PatternLemmas.{all_done, all_more}
use Rattle.regex_command.proofs.compiling.compile_each.Goals as goal

pub loop-pattern-preserved : goal.loop-pattern-preserved
loop-pattern-preserved c =
    let accepted = λ (pattern : List ℕ). IsAcceptedPattern c.args.dialect (setting_in c.args.dialect c.args.flags) (chars pattern) in
    all_more string_bytes c.args.patterns.now c.loop-pattern.pattern-index accepted c.pattern-item.result c.loop-pattern-test.true c.pattern-item.is
    c.loop-pattern.invariant (subst accepted c.as_str-text.ensures.value c.in_ok-compile_alone.ensures.accepted)

pub returns-clause-accepted : goal.returns-clause-accepted
returns-clause-accepted c =
    all_done string_bytes c.args.patterns.now c.loop-pattern.pattern-index
    (λ (pattern : List ℕ). IsAcceptedPattern c.args.dialect (setting_in c.args.dialect c.args.flags) (chars pattern))
    c.loop-pattern-test.false c.loop-pattern.invariant
