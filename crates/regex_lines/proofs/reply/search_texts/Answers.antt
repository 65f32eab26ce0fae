use Rattle.std.proofs.Common.{[], refl, subst, sym}
use Rattle.regex_lines.proofs.FoundLemmas.{SoFar, all_texts, none_yet, one_more}
use Rattle.regex_lines.proofs.reply.search_texts.Goals as goal

pub loop-run-init : goal.loop-run-init
loop-run-init c = subst (SoFar c.args.searcher.now.regex.now []) (sym c.new-found.ensures.items) (none_yet c.args.searcher.now.regex.now)

pub loop-run-preserved : goal.loop-run-preserved
loop-run-preserved c =
    one_more c.args.searcher.now.regex.now c.args.texts.now c.loop-run.run-index _ c.loop-run.found.items _ _ c.loop-run.invariant c.loop-run-test.true
    c.in_ok-push.ensures.items refl c.in_ok-matches.ensures.all c.in_ok-matches.ensures.inside

pub returns-clause-searched : goal.returns-clause-searched
returns-clause-searched c = (all_texts c.args.searcher.now.regex.now c.args.texts.now c.loop-run.run-index c.loop-run.found.items c.loop-run-test.false c.loop-run.invariant).searched

pub returns-clause-inside : goal.returns-clause-inside
returns-clause-inside c = c.loop-run.invariant.inside
