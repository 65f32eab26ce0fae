use Rattle.std.proofs.Common.{refl}
use Rattle.regex_lines.specs.Reply.{Run, run_of}
use Rattle.regress.specs.Compiled.{outcomes_of}
use Rattle.regress.specs.Searched.{MatchesSomewhere}
use Rattle.regex_lines.proofs.RunLemmas.{none_further, none_matches, one_matches}
use Rattle.regex_lines.proofs.reply.match_in.Goals as goal

pub returns-then-branch-clause-matches : goal.returns-then-branch-clause-matches
returns-then-branch-clause-matches c = (
  λ _. one_matches run_of (λ (run : Run). MatchesSomewhere run.text (outcomes_of c.args.searcher.now.regex.now run.text)) c.args.texts.now c.loop-run.run-index _ c.loop-run-test.true
      (c.in_ok-is_match.ensures.is.0 c.if-branch.true),
  λ _. refl,
)

pub loop-run-preserved : goal.loop-run-preserved
loop-run-preserved c =
    none_further run_of (λ (run : Run). MatchesSomewhere run.text (outcomes_of c.args.searcher.now.regex.now run.text)) c.args.texts.now c.loop-run.run-index _ c.loop-run.invariant c.loop-run-test.true
    (λ matches. let yes = c.in_ok-is_match.ensures.is.1 matches in let bad : ⊥ = cc (yes, c.if-branch.false) in bad)

pub returns-clause-matches : goal.returns-clause-matches
returns-clause-matches c = (
  λ is. let bad : ⊥ = cc is in absurd bad,
  λ some. absurd (none_matches run_of _ c.args.texts.now c.loop-run.run-index c.loop-run.invariant c.loop-run-test.false some),
)
