-- The cost of searches by backtracking.
use Rattle.std.proofs.Common.{◌≡◌, ℕ, ◌+◌, ◌-◌, ◌*◌, ◌≤◌, false, List, length, Option, Some, None, refl, sym, ap, subst, ◌∙◌, arith}
use Rattle.std.specs.Prelude.{is_some}
use Rattle.std.specs.Arc.{arc_value}
use Rattle.regress_program.specs.Cost.{Cost, IsCost}
use Rattle.regress_program.specs.Program.{Out}
use Rattle.regress_code.specs.Code.{captures_cost, code_routines, search_cost, setting_with}
use Rattle.regress_backtrack.specs.Backtracker as runs
use Rattle.regress_backtrack.specs.Backtracker.{run_code, run_room, run_tables, run_text, search_cost_at}
use Rattle.regress_backtrack.specs.Memory.{entries_in}
use Rattle.regress_backtrack.specs.declared.backtracker.Backtracker.{Backtracker}
use Rattle.regress_found.specs.Results.{IfMatched}
use Rattle.regress_found.specs.Tried.{positions_tried}
use Rattle.regress_found.specs.declared.outcome.Outcome.{Outcome}
use Rattle.regress_unicode.specs.declared.Tables.{Tables}
use Rattle.regress_code.specs.declared.code.Code.{Code}
use Rattle.regress_match.specs.Costs.{AreCosts, IsWithinFindCost, find_cost}
use Rattle.regress_match.specs.Iterated.{IsSameIteration, iterated_from, iterated_matcher, iterated_text, steps_remaining}
use Rattle.regress_match.specs.Kept.{IsBacktrackerOf}
use Rattle.regress_match.specs.Matcher.{factor_in}
use Rattle.regress_match.specs.Memory.{MayFillStack, StackNeedsMore, memory_of}
use Rattle.regress_match.proofs.lemmas.Costs.{has_costs}
use Rattle.regress_match.specs.declared.matcher.Matcher.{Matcher}
use Rattle.regress_match.specs.declared.matcher_matches.MatcherMatches.{MatcherMatches}

-- ---- runs

-- These are the costs of a program under case mappings in a text.
abbrev Are : Code → Tables → List ℕ → (ℕ → Out) → (ℕ → Cost) → Type 0
Are c ts text outs costs = IsCost (setting_with c ts) text (code_routines c) outs costs

module _ (c c' : Code) (ts ts' : Tables) (text text' : List ℕ) (code : c' ≡ c) (tables : ts' ≡ ts) (same : text' ≡ text) where
  same_costs : (outs : ℕ → Out) (costs : ℕ → Cost) → Are c ts text outs costs → Are c' ts' text' outs costs
  same_costs outs costs are =
      subst (λ c. Are c ts' text' outs costs) (sym code)
      (subst (λ ts. Are c ts text' outs costs) (sym tables) (subst (λ t. Are c ts t outs costs) (sym same) are))

  same_cost : (costs : ℕ → Cost) (from : ℕ) → search_cost c' ts' text' costs from ≡ search_cost c ts text costs from
  same_cost costs from =
      ap (λ c. search_cost c ts' text' costs from) code ∙ ap (λ ts. search_cost c ts text' costs from) tables
      ∙ ap (λ t. search_cost c ts t costs from) same

module _ (m : Matcher) (text : List ℕ) (b : Backtracker) (is : IsBacktrackerOf m text b) (from : ℕ) where
  costs_of_run : (costs : ℕ → Cost) → search_cost_at b costs from ≡ find_cost m text costs from
  costs_of_run costs = same_cost m.code (run_code b) (arc_value m.tables) (run_tables b) text (run_text b) is.code is.tables is.same_text costs from

  are_of_run : (outs : ℕ → Out) (costs : ℕ → Cost) → AreCosts m text outs costs → runs.AreCosts b outs costs
  are_of_run = same_costs m.code (run_code b) (arc_value m.tables) (run_tables b) text (run_text b) is.code is.tables is.same_text

  -- A run of the matcher's program takes at most the cost of the search.
  pub run_within : (remaining remaining' : ℕ) →
      ((outs : ℕ → Out) (costs : ℕ → Cost) → runs.AreCosts b outs costs → remaining ≤ remaining' + search_cost_at b costs from) →
      (outs : ℕ → Out) (costs : ℕ → Cost) → AreCosts m text outs costs → remaining ≤ remaining' + find_cost m text costs from
  run_within remaining remaining' ran outs costs are =
      subst (λ n. remaining ≤ remaining' + n) (costs_of_run costs) (ran outs costs (are_of_run outs costs are))

  -- A run of the matcher's program that fills a stack.
  pub may_fill : ((outs : ℕ → Out) (costs : ℕ → Cost) → runs.AreCosts b outs costs → run_room b ≤ 64 * search_cost_at b costs from) → MayFillStack m text from
  may_fill full outs costs are =
      subst (λ n. entries_in (memory_of m) ≤ 64 * n) (costs_of_run costs)
      (subst (λ k. k ≤ 64 * search_cost_at b costs from) is.room (full outs costs (are_of_run outs costs are)))

  -- A match takes at least a step for each byte offset up to its start, and those of its captures.
  pub run_tried : (outcome : Outcome) (remaining remaining' : ℕ) →
      IfMatched outcome (λ x. remaining' ≤ remaining - (captures_cost (run_code b) + positions_tried (run_text b) from (Some x))) →
      IfMatched outcome (λ x. remaining' ≤ remaining - (captures_cost m.code + positions_tried text from (Some x)))
  run_tried outcome remaining remaining' tried =
      subst (λ code. IfMatched outcome (λ x. remaining' ≤ remaining - (captures_cost code + positions_tried text from (Some x)))) is.code
      (subst (λ t. IfMatched outcome (λ x. remaining' ≤ remaining - (captures_cost (run_code b) + positions_tried t from (Some x)))) is.same_text tried)

-- ---- searches

-- A search that only backtracks, and fills a stack.
pub stack_needs_more : (m : Matcher) (text : List ℕ) (from : ℕ) → is_some (factor_in m text) ≡ false → MayFillStack m text from → StackNeedsMore m text from
stack_needs_more m text from none fills = record {
  backtracks = by (factor_in m text) none;
  has = has_costs m text;
  fills = fills;
}
  where
    by : (o : Option ℕ) → is_some o ≡ false → o ≡ None
    by None none = refl
    by (Some n) none = absurd (cc)

-- A search that first looks for a byte that each match contains.
pub within_both : (old mid : MatcherMatches) (after : ℕ) → IsSameIteration old mid → iterated_from mid ≡ iterated_from old →
    steps_remaining old ≤ steps_remaining mid + (length (iterated_text old) + 1) →
    ((outs : ℕ → Out) (costs : ℕ → Cost) → AreCosts (iterated_matcher mid) (iterated_text mid) outs costs →
    steps_remaining mid ≤ after + find_cost (iterated_matcher mid) (iterated_text mid) costs (iterated_from mid)) →
    IsWithinFindCost (iterated_matcher old) (iterated_text old) (iterated_from old) (steps_remaining old - after)
within_both old mid after same stays looked ran outs costs are =
    let there : AreCosts (iterated_matcher mid) (iterated_text mid) outs costs =
    subst (λ m. AreCosts m (iterated_text mid) outs costs) (sym same.matcher)
    (subst (λ t. AreCosts (iterated_matcher old) t outs costs) (sym same.text) are) in
    let cost : find_cost (iterated_matcher mid) (iterated_text mid) costs (iterated_from mid)
    ≡ find_cost (iterated_matcher old) (iterated_text old) costs (iterated_from old) =
    ap (λ m. find_cost m (iterated_text mid) costs (iterated_from mid)) same.matcher
    ∙ ap (λ t. find_cost (iterated_matcher old) t costs (iterated_from mid)) same.text
    ∙ ap (find_cost (iterated_matcher old) (iterated_text old) costs) stays in
    omega (arith, looked, ran outs costs there, cost)
