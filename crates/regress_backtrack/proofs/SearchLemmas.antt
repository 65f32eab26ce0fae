-- Searches.
use Rattle.std.proofs.Common.{◌≡◌, ℕ, ◌+◌, ◌*◌, ◌≤◌, ◌-◌, List, [], ◌∷◌, length, replicate, Option, None, inl, inr, refl, sym, ap, ◌∙◌, subst, arith}
use Rattle.std.proofs.lemmas.Bool.{cases_eq}
use Rattle.std.specs.Str.{IsCharBoundary}
use Rattle.regress_tree.specs.Steps.{CaptureSpan, MatchState}
use Rattle.regress_leaves.specs.Subject.{subject}
use Rattle.regress_tree.specs.Tree.{Tree}
use Rattle.regress_unicode.specs.declared.Tables.{Tables}
use Rattle.regress_program.specs.Compiled.{IsPattern}
use Rattle.regress_found.specs.declared.found.Match.{Match}
use Rattle.regress_program.specs.Cost.{Cost, cost_of}
use Rattle.regress_found.specs.Found.{IsLeftmost, NoneBefore, initial_state, start_of, state_of, state}
use Rattle.regress_program.specs.Program.{Out, IsSolution, matcher_of}
use Rattle.regress_program.proofs.lemmas.Solutions.{solution}
use Rattle.regress_backtrack.specs.declared.backtracker.Backtracker.{Backtracker}
use Rattle.regress_code.specs.declared.code.Code.{Code}
use Rattle.regress_backtrack.specs.declared.machine.Machine.{Machine}
use Rattle.regress_found.specs.declared.outcome.Outcome.{Outcome}
use Rattle.regress_found.specs.declared.outcome.Outcome.TheVariants as outcomes
use Rattle.regress_backtrack.specs.declared.run.Response.{Response}
use Rattle.regress_backtrack.specs.declared.run.Response.TheVariants as responses
use Rattle.regress_backtrack.specs.Backtracker.{AreCosts, AreOutcomes, cost_at, outcomes_at, run_code, run_tables, run_text, tree_outcomes_at}
use Rattle.regress_code.specs.Code.{code_groups, code_routines, outcomes_from, setting_with, tree_outcomes_from}
use Rattle.regress_backtrack.specs.Run.{IsResponseOf}
use Rattle.regress_found.specs.Results.{IsSearchResult, IsMatchResult}
use Rattle.regress_backtrack.specs.Costs.{HasCost}
use Rattle.regress_backtrack.specs.Next.{Solve}
use Rattle.regress_backtrack.proofs.RunLemmas.{same_response, same_cost, same_entries}

-- what is so for each solution is so for each tree of the program
pub of_tree : (code : Code) (tables : Tables) (text : List ℕ) (k : ℕ) → k ≤ length text → (P : List MatchState → Type 0) →
    ((outs : ℕ → Out) → IsSolution (setting_with code tables) text (code_routines code) outs → P (outcomes_from code tables text outs k)) →
    (t : Tree) → IsPattern (code_routines code) t → P (tree_outcomes_from code tables text t k)
of_tree code tables text k le P all t pattern =
    let some = solution (setting_with code tables) text (code_routines code) code.program.is_program in
    subst P (pattern.means (setting_with code tables) text some.0 some.1 (initial_state (code_groups code) k) le) (all some.0 some.1)

-- outcomes that are the same inside the text
same_finds : (text : List ℕ) (at at' : ℕ → List MatchState) (origin : ℕ) (outcome : Outcome) → ((k : ℕ) → k ≤ length text → at k ≡ at' k) →
    IsSearchResult text at origin outcome → IsSearchResult text at' origin outcome
same_finds text at at' origin (outcomes.Matched m) same is = record {
  from = is.from;
  boundary = is.boundary;
  first = (is.first.0, sym (same (start_of m) is.boundary.0) ∙ is.first.1);
  least = λ p low high on. sym (same p on.0) ∙ is.least p low high on;
}
same_finds text at at' origin outcomes.NoMatch same is = λ p low on. sym (same p on.0) ∙ is p low on
same_finds text at at' origin outcomes.OutOfSteps same is = tt

-- what a search finds for each solution it finds for each tree of the program
pub tree_finds : (b : Backtracker) (origin : ℕ) (outcome : Outcome) →
    ((outs : ℕ → Out) → AreOutcomes b outs → IsSearchResult (run_text b) (outcomes_at b outs) origin outcome) →
    (t : Tree) → IsPattern (code_routines (run_code b)) t → IsSearchResult (run_text b) (tree_outcomes_at b t) origin outcome
tree_finds b origin outcome all t pattern =
    let setting = setting_with (run_code b) (run_tables b) in
    let some = solution setting (run_text b) (code_routines (run_code b)) (run_code b).program.is_program in
    same_finds (run_text b) (outcomes_at b some.0) (tree_outcomes_at b t) origin outcome
    (λ k le. pattern.means setting (run_text b) some.0 some.1 (initial_state (code_groups (run_code b)) k) le) (all some.0 some.1)

-- what is so of a program, case mappings and a text is so of equal ones
pub same_parts : (P : Code → Tables → List ℕ → Type 0) (c c' : Code) (t t' : Tables) (x x' : List ℕ) → c' ≡ c → t' ≡ t → x' ≡ x → P c' t' x' → P c t x
same_parts P c c' t t' x x' ec et ex holds = subst (λ y. P y t x) ec (subst (λ y. P c' y x) et (subst (P c' t') ex holds))

-- the result of a run, for its program, case mappings and text
pub for_solution : (b : Backtracker) (code : Code) (tables : Tables) (text : List ℕ) (P : List ℕ → (ℕ → List MatchState) → Type 0) →
    run_code b ≡ code → run_tables b ≡ tables → run_text b ≡ text → ((outs : ℕ → Out) → AreOutcomes b outs → P (run_text b) (outcomes_at b outs)) →
    (outs : ℕ → Out) → IsSolution (setting_with code tables) text (code_routines code) outs → P text (outcomes_from code tables text outs)
for_solution b code tables text P =
    same_parts (λ c t x. (outs : ℕ → Out) → IsSolution (setting_with c t) x (code_routines c) outs → P x (outcomes_from c t x outs)) _ _ _ _ _ _

pub for_tree : (b : Backtracker) (code : Code) (tables : Tables) (text : List ℕ) (P : List ℕ → (ℕ → List MatchState) → Type 0) →
    run_code b ≡ code → run_tables b ≡ tables → run_text b ≡ text →
    ((t : Tree) → IsPattern (code_routines (run_code b)) t → P (run_text b) (tree_outcomes_at b t)) →
    (t : Tree) → IsPattern (code_routines code) t → P text (tree_outcomes_from code tables text t)
for_tree b code tables text P =
    same_parts (λ c t x. (tree : Tree) → IsPattern (code_routines c) tree → P x (tree_outcomes_from c t x tree)) _ _ _ _ _ _

-- a run of the pattern, with every group unset
pub run_solved : (b : Backtracker) (captures : List (Option CaptureSpan)) (k : ℕ) (m : Machine) (r : Response) →
    captures ≡ replicate (code_groups (run_code b)) None →
    ((outs : ℕ → Out) → Solve b.input outs →
    IsResponseOf (matcher_of (subject b.input.rules (run_text b)).setting (run_text b) (code_routines (run_code b)) outs b.input.index (state captures k)) m r) →
    (outs : ℕ → Out) → AreOutcomes b outs → IsResponseOf (outcomes_at b outs k) m r
run_solved b captures k m r unset responds outs =
    let is = b.for_pattern in
    same_response m r outs k (setting_with (run_code b) (run_tables b)) _ (run_text b) _ (code_routines (run_code b)) _ (length (code_routines (run_code b)) - 1) _
    (replicate (code_groups (run_code b)) None) _ (responds outs) is.setting refl refl is.index unset

-- the cost of a run of the pattern, with every group unset
pub run_cost : (b : Backtracker) (captures : List (Option CaptureSpan)) (k remaining remaining' : ℕ) (outs : ℕ → Out) (costs : ℕ → Cost) →
    captures ≡ replicate (code_groups (run_code b)) None →
    (HasCost b.input outs costs →
    remaining ≤ remaining' + cost_of (subject b.input.rules (run_text b)).setting (run_text b) (code_routines (run_code b)) costs b.input.index (state captures k)) →
    AreCosts b outs costs → remaining ≤ remaining' + cost_at b costs k
run_cost b captures k remaining remaining' outs costs unset taken =
    let is = b.for_pattern in
    same_cost remaining remaining' outs costs k (setting_with (run_code b) (run_tables b)) _ (run_text b) _ (code_routines (run_code b)) _
    (length (code_routines (run_code b)) - 1) _ (replicate (code_groups (run_code b)) None) _ taken is.setting refl refl is.index unset

-- the entries that the cost of a run of the pattern bounds, with every group unset
pub run_entries : (b : Backtracker) (captures : List (Option CaptureSpan)) (k entries : ℕ) (outs : ℕ → Out) (costs : ℕ → Cost) →
    captures ≡ replicate (code_groups (run_code b)) None →
    (HasCost b.input outs costs →
    entries ≤ 64 * cost_of (subject b.input.rules (run_text b)).setting (run_text b) (code_routines (run_code b)) costs b.input.index (state captures k)) →
    AreCosts b outs costs → entries ≤ 64 * cost_at b costs k
run_entries b captures k entries outs costs unset grown =
    let is = b.for_pattern in
    same_entries entries outs costs k (setting_with (run_code b) (run_tables b)) _ (run_text b) _ (code_routines (run_code b)) _
    (length (code_routines (run_code b)) - 1) _ (replicate (code_groups (run_code b)) None) _ grown is.setting refl refl is.index unset

-- the match that is found at a position, if no earlier position has an outcome
pub found_leftmost : (text : List ℕ) (at : ℕ → List MatchState) (origin k : ℕ) (found : Match) → origin ≤ k → IsCharBoundary text k →
    IsMatchResult k (at k) (outcomes.Matched found) → NoneBefore text at origin k → IsLeftmost text at origin found
found_leftmost text at origin k found low on first none = record {
  from = subst (λ i. origin ≤ i) (sym first.0) low;
  boundary = subst (IsCharBoundary text) (sym first.0) on;
  first = (first.1.0, ap at first.0 ∙ first.1.1);
  least = subst (NoneBefore text at origin) (sym first.0) none;
}

-- one more position without an outcome
pub none_more : (text : List ℕ) (at : ℕ → List MatchState) (origin k : ℕ) → NoneBefore text at origin k → (IsCharBoundary text k → at k ≡ []) →
    NoneBefore text at origin (k + 1)
none_more text at origin k none here = λ p low high on.
    elim (cases_eq p k) [
      | inl same ↦ ap at same ∙ here (subst (IsCharBoundary text) same on)
      | inr other ↦ none p low (omega (arith, high, other)) on
    ]

-- the result at a position
pub is_first : (k end : ℕ) (states : List MatchState) (m : Machine) (found : Match) → start_of found ≡ k → state_of found ≡ state m.captures.items end →
    IsResponseOf states m (responses.Matched end) → (start_of found ≡ k) × ((rest : List MatchState) × (states ≡ state_of found ∷ rest))
is_first k end states m found starts has responds = (starts, (responds.0, responds.1 ∙ ap (λ s. s ∷ responds.0) (sym has)))
