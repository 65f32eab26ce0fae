use Rattle.std.proofs.Common.{◌≡◌, ◌∙◌, ap, false, subst}
use Rattle.std.specs.Prelude.{Ok}
use Rattle.regex_options.specs.Request.{ask}
use Rattle.regex_command.specs.Printed.{Prints}
use Rattle.regex_command.proofs.UnreadLemmas.{quiet_none}
use Rattle.regex_command.proofs.run_asked.Goals as goal

pub returns-then-found-clause-found : goal.returns-then-found-clause-found
returns-then-found-clause-found g c _ =
    subst (λ found. Prints (g.I.Read.remaining c.args.input) (g.W.Write.contents c.args.out.now) (g.W.Write.contents c.run_regex.new.out) found (ask c.args.asked))
    c.if-found.true c.in-Ok.ensures.found

pub returns-else-found-clause-none : goal.returns-else-found-clause-none
returns-else-found-clause-none g c _ =
    subst (λ found. Prints (g.I.Read.remaining c.args.input) (g.W.Write.contents c.args.out.now) (g.W.Write.contents c.run_regex.new.out) found (ask c.args.asked))
    c.if-found.false c.in-Ok.ensures.found

pub returns-else-found-clause-found : goal.returns-else-found-clause-found
returns-else-found-clause-found g c is = absurd (c.status_if_none.ensures.positive is)

pub returns-else-found-clause-quiet : goal.returns-else-found-clause-quiet
returns-else-found-clause-quiet g c is = absurd (c.status_if_none.ensures.positive is)

pub returns-then-found-clause-quiet : goal.returns-then-found-clause-quiet
returns-then-found-clause-quiet g c _ = c.run_regex.ensures.quiet (c.in-Ok.is ∙ ap Ok c.if-found.true)

pub returns-else-found-clause-quiet_none : goal.returns-else-found-clause-quiet_none
returns-else-found-clause-quiet_none g c _ =
    quiet_none (c.run_regex.result ≡ Ok false) (c.run_regex.new.err ≡ c.args.err.now) (ask c.args.asked) c.run_regex.ensures.quiet_none
    (c.in-Ok.is ∙ ap Ok c.if-found.false)
