use Rattle.std.proofs.Common.{IfSome, subst, sym, ap, ◌∙◌}
use Rattle.std.specs.Prelude.{◌+◌, ◌*◌, ◌≤◌, length}
use Rattle.regress_code.specs.Code.{code_groups, code_routines, code_tidy}
use Rattle.regress_found.specs.Results.{IsSearchResult, IfOutOfSteps}
use Rattle.regress_match.specs.Matcher.{before_tables, find_factor_in, find_factor_of, linear_steps_of, outcome_if}
use Rattle.regress_match.specs.Memory.{instructions_of}
use Rattle.regress_match.specs.Pattern.{matcher_outcomes, matcher_setting, matcher_tree}
use Rattle.regress_match.proofs.FitLemmas.{if_fits}
use Rattle.regress_match.proofs.MatcherLemmas.{found_inside}
use Rattle.regress_match.proofs.OneMatchLemmas.{searched_bounded, tables_find}
use Rattle.regress_match.proofs.matcher.Matcher.find_by_tables.Goals as goal

pub returns-clause-finds : goal.returns-clause-finds
returns-clause-finds c =
    let m = c.args.self.now in
    let text = c.args.text.now in
    subst (IsSearchResult text (matcher_outcomes m text) c.args.from) (sym c.outcome_of.ensures)
    (tables_find m text c.args.from c.in-Some.linear.known.tables.now c.in-Some.linear.code.now c.in_ok-search.search.found
    ((rw c.in-Some.is at c.new.ensures.tables) ∙ c.known.ensures) (rw c.in-Some.is at c.new.ensures.code) m.compiled c.in_ok-search.ensures.solved)

pub returns-clause-inside : goal.returns-clause-inside
returns-clause-inside c =
    let m = c.args.self.now in
    let text = c.args.text.now in
    found_inside (matcher_setting m) text c.utf8.text (matcher_tree m) c.args.from c.outcome_of.result (returns-clause-finds c)

pub returns-clause-bounded : goal.returns-clause-bounded
returns-clause-bounded c =
    let m = c.args.self.now in
    let n = length c.args.text.now + 1 in
    let search = c.in_ok-search.search in
    subst (λ o. IfSome (find_factor_in m c.args.text.now) (λ k. (search.steps + before_tables (instructions_of m) * n ≤ k * n) × IfOutOfSteps o ⊥)) (sym c.outcome_of.ensures)
    (if_fits (linear_steps_of m) (find_factor_of m) c.args.text.now (λ k. (search.steps + before_tables (instructions_of m) * n ≤ k * n) × IfOutOfSteps (outcome_if search.found) ⊥)
    (searched_bounded (code_groups m.code) (code_tidy m.code) (code_routines m.code) m.within c.in-Some.linear.code.now c.args.text.now search.found search.steps
    (ap code_routines (rw c.in-Some.is at c.new.ensures.code)) (ap code_groups (rw c.in-Some.is at c.new.ensures.code)) c.in_ok-search.ensures.steps))
