use Rattle.std.proofs.Common.{ℕ, ◌*◌, ◌≤◌, subst, sym}
use Rattle.std.proofs.lemmas.Result.{IfErr-weaker}
use Rattle.std.specs.Prelude.{IfOk}
use Rattle.regress_program.specs.Cost.{Cost, IsCost}
use Rattle.regress_program.specs.Program.{Out}
use Rattle.regress_code.specs.Code.{code_routines, match_cost, setting_with}
use Rattle.regress_backtrack.specs.Memory.{entries_in}
use Rattle.regress_match.specs.Memory.{memory_of}
use Rattle.regress_match.proofs.MatcherLemmas.{result_first}
use Rattle.regress_match.proofs.matcher.Matcher.match_at.Goals as goal

pub returns-clause-first : goal.returns-clause-first
returns-clause-first c =
    result_first c.args.self.now c.known.result.tables.now c.known.ensures c.args.self.now.compiled c.args.text.now c.args.position c.requires
    c.match_at.result c.match_at.ensures.solved

pub returns-clause-costs : goal.returns-clause-costs
returns-clause-costs c =
    let code = c.args.self.now.code in
    let text = c.args.text.now in
    subst
    (λ ts. IfOk c.match_at.result (λ found. (outs : ℕ → Out) (costs : ℕ → Cost) → IsCost (setting_with code ts) text (code_routines code) outs costs →
    found.steps ≤ match_cost code ts text costs c.args.position)) c.known.ensures c.match_at.ensures.costs

pub returns-clause-too_much : goal.returns-clause-too_much
returns-clause-too_much c =
    let m = c.args.self.now in
    let text = c.args.text.now in
    IfErr-weaker c.match_at.result _ _
    (λ fault full is outs costs are.
    let at = subst (λ ts. IsCost (setting_with m.code ts) text (code_routines m.code) outs costs) (sym c.known.ensures) are in
    subst (λ ts. entries_in (memory_of m) ≤ 64 * match_cost m.code ts text costs c.args.position) c.known.ensures (full is outs costs at))
    c.match_at.ensures.too_much
