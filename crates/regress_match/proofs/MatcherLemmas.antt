-- Searches with the program of a pattern.
use Rattle.std.proofs.Common.{◌≡◌, ℕ, ◌+◌, ◌-◌, ◌*◌, ◌≤◌, Bool, true, false, not, ◌&&◌, List, [], ◌∷◌, filter, length, min, max, Option, Some, None, IfSome, IsNone, refl, sym, ap, ap₂, subst, ◌∙◌, arith}
use Rattle.std.specs.Prelude.{if◌then◌else◌, is_none, is_some, Result, Ok, Err, IfOk}
use Rattle.std.specs.Arc.{arc_value}
use Rattle.std.proofs.Math.Nat.{mul-le-mul_left}
use Rattle.std.specs.Str.{IsUtf8}
use Rattle.regress_tree.specs.Matching.{steps}
use Rattle.regress_tree.specs.Reading.{forwards}
use Rattle.regress_tree.specs.Steps.{MatchState, dedup, same_state, Setting}
use Rattle.regress_tree.specs.Tree.{Tree}
use Rattle.regress_tree.specs.WellFormed.{IsWellFormed, captures}
use Rattle.regress_base.specs.declared.types.Flags.{Flags}
use Rattle.regress_unicode.specs.TableOf.{table_of}
use Rattle.regress_unicode.specs.declared.Tables.{Tables}
use Rattle.regress_program.specs.Compiled.{IsPattern, total}
use Rattle.regress_found.specs.Found as searches
use Rattle.regress_found.specs.Found.{initial_state, start_of, state_of, IsInside, outcomes_at}
use Rattle.regress_program.specs.Linear.{is_linear, reason}
use Rattle.regress_program.specs.Program.{IsSolution, Out, Routine}
use Rattle.regress_program.specs.declared.fault.CompileFault.{CompileFault}
use Rattle.regress_program.specs.Ranges.{inner_groups}
use Rattle.regress_tables.specs.Search.{capturing_steps, steps_up_to, walk_weight}
use Rattle.regress_tables.specs.TextSearch.{searched_code, searched_groups, searched_size, searched_tables, searched_text}
use Rattle.regress_program.specs.Tidy.{is_tabled}
use Rattle.regress_found.specs.declared.found.Match.{Match}
use Rattle.regress_tables.specs.declared.found.Search.{Search}
use Rattle.regress_tables.specs.declared.text.TextSearch.{TextSearch}
use Rattle.regress_program.specs.declared.nonlinear.Nonlinear.{Nonlinear as Reason}
use Rattle.regress_program.specs.declared.nonlinear.Nonlinear.TheVariants as reasons
use Rattle.regress_program.proofs.lemmas.Reasons.{linear-reason}
use Rattle.regress_program.proofs.lemmas.Solutions.{finds_by, solution}
use Rattle.regress_program.proofs.lemmas.Strict.{linear-inner, linear-tabled}
use Rattle.regress_backtrack.specs.Backtracker.{AreOutcomes, run_code, run_tables, run_text}
use Rattle.regress_backtrack.specs.Backtracker as runs
use Rattle.regress_code.specs.Code.{captures_cost, code_flags, code_groups, code_routines, outcomes_from, setting_with}
use Rattle.regress_backtrack.specs.declared.backtracker.Backtracker.{Backtracker}
use Rattle.regress_code.specs.declared.code.Code.{Code}
use Rattle.regress_found.specs.declared.fault.MemoryFault.{MemoryFault}
use Rattle.regress_found.specs.declared.outcome.Found.{Found}
use Rattle.regress_found.specs.declared.outcome.Outcome.{Outcome}
use Rattle.regress_found.specs.declared.outcome.Outcome.TheVariants as outcomes
use Rattle.regress_match.specs.Compiled.{IsCodeOf, all_outcomes}
use Rattle.regress_match.specs.Kept.{IfKept, IsBacktrackerOf, IsKept}
use Rattle.regress_found.specs.Results.{IsSearchResult, IfMatched, IsMatchResult}
use Rattle.regress_match.specs.Matcher.{before_tables, factor, factor_in, factor_of, factor_with, linear_steps_of, nonlinear_by, nonlinear_with, outcome_if}
use Rattle.regress_match.specs.Memory.{instructions_of}
use Rattle.regress_match.specs.Pattern.{matcher_outcomes, matcher_setting, matcher_tree}
use Rattle.regress_found.specs.Repeated.{offset_after}
use Rattle.regress_match.specs.declared.matcher.Matcher.{Matcher}
use Rattle.regress_match.proofs.FitLemmas.{some_fits}
use Rattle.regress_match.proofs.lemmas.Inside.{first_inside}

-- The program of a tree has its outcomes.
pub code_means : (setting : Setting) (t : Tree) (tables : Tables) (c : Code) → IsPattern (code_routines c) t →
    setting_with c tables ≡ setting → code_groups c ≡ length (captures t) → IsCodeOf setting t tables c
code_means setting t tables c pattern same groups = record {
  means = λ text outs solution k le.
      pattern.means (setting_with c tables) text outs solution (initial_state (code_groups c) k) le
      ∙ ap₂ (λ (s : Setting) (n : ℕ). steps s text forwards t (initial_state n k)) same groups;
}

pub same_setting : (c : Code) (tables : Tables) (flags : Flags) → code_flags c ≡ flags →
    setting_with c tables ≡ record { flags = flags; table = table_of tables }
same_setting c tables flags is = ap (λ (f : Flags). let s : Setting = record { flags = f; table = table_of tables } in s) is

pub result_means : (t : Tree) (flags : Flags) (groups : ℕ) (r : Result Code CompileFault) →
    IfOk r (λ c. IsPattern (code_routines c) t) → IfOk r (λ c. code_flags c ≡ flags) → IfOk r (λ c. code_groups c ≡ groups) →
    groups ≡ length (captures t) → IfOk r (λ c. (tables : Tables) → IsCodeOf (record { flags = flags; table = table_of tables }) t tables c)
result_means t flags groups (Ok c) pattern same counted all = λ tables.
    code_means (record { flags = flags; table = table_of tables }) t tables c pattern (same_setting c tables flags same) (counted ∙ all)
result_means t flags groups (Err e) pattern same counted all = tt

-- Removing repetitions keeps the first outcome.
distinct_first : (states rest : List MatchState) (s : MatchState) → states ≡ s ∷ rest →
    (rest' : List MatchState) × (dedup states ≡ s ∷ rest')
distinct_first states rest s is = (filter (λ t. not (same_state s t)) (dedup rest), ap dedup is)

distinct_none : (states : List MatchState) → states ≡ [] → dedup states ≡ []
distinct_none states is = ap dedup is

-- what a match at a position is
pub run_first : (setting : Setting) (t : Tree) (tables : Tables) (c : Code) (text : List ℕ) (position : ℕ) (outcome : Outcome) → IsCodeOf setting t tables c →
    position ≤ length text →
    ((outs : ℕ → Out) → IsSolution (setting_with c tables) text (code_routines c) outs → IsMatchResult position (outcomes_from c tables text outs position) outcome) →
    IsMatchResult position (outcomes_at setting text t position) outcome
run_first setting t tables c text position outcome is within solved =
    let some = solution (setting_with c tables) text (code_routines c) c.program.is_program in
    distinct outcome (subst (λ states. IsMatchResult position states outcome) (is.means text some.0 some.1 position within) (solved some.0 some.1))
  where
    distinct : (o : Outcome) → IsMatchResult position (all_outcomes setting t text position) o → IsMatchResult position (outcomes_at setting text t position) o
    distinct (outcomes.Matched m) f = (f.0, distinct_first (all_outcomes setting t text position) f.1.0 (state_of m) f.1.1)
    distinct outcomes.NoMatch f = distinct_none (all_outcomes setting t text position) f
    distinct outcomes.OutOfSteps f = tt

pub result_first : (m : Matcher) (tables : Tables) → tables ≡ arc_value m.tables →
    IsCodeOf (matcher_setting m) (matcher_tree m) (arc_value m.tables) m.code → (text : List ℕ) (position : ℕ) → position ≤ length text →
    (r : Result Found MemoryFault) →
    IfOk r (λ found. (outs : ℕ → Out) → IsSolution (setting_with m.code tables) text (code_routines m.code) outs →
    IsMatchResult position (outcomes_from m.code tables text outs position) found.outcome) →
    IfOk r (λ found. IsMatchResult position (matcher_outcomes m text position) found.outcome)
result_first m tables same is text position within (Ok found) solved =
    run_first (matcher_setting m) (matcher_tree m) tables m.code text position found.outcome
    (subst (λ ts. IsCodeOf (matcher_setting m) (matcher_tree m) ts m.code) (sym same) is) within solved
result_first m tables same is text position within (Err e) solved = tt

-- Repeated outcomes make no difference to a search.
finds_distinct : (text : List ℕ) (at : ℕ → List MatchState) (origin : ℕ) (outcome : Outcome) → IsSearchResult text at origin outcome →
    IsSearchResult text (λ k. dedup (at k)) origin outcome
finds_distinct text at origin outcomes.NoMatch none = λ p low on. distinct_none (at p) (none p low on)
finds_distinct text at origin outcomes.OutOfSteps is = tt
finds_distinct text at origin (outcomes.Matched m) is = record {
  from = is.from;
  boundary = is.boundary;
  first = distinct_first (at (start_of m)) is.first.0 (state_of m) is.first.1;
  least = λ p low high on. distinct_none (at p) (is.least p low high on);
}

-- what a search finds by running the program
pub run_finds : (setting : Setting) (t : Tree) (tables : Tables) (c : Code) (text : List ℕ) (origin : ℕ) (outcome : Outcome) → IsCodeOf setting t tables c →
    ((outs : ℕ → Out) → IsSolution (setting_with c tables) text (code_routines c) outs → IsSearchResult text (outcomes_from c tables text outs) origin outcome) →
    IsSearchResult text (outcomes_at setting text t) origin outcome
run_finds setting t tables c text origin outcome is solved =
    finds_distinct text (all_outcomes setting t text) origin outcome (by outcome solved)
  where
    by : (o : Outcome) → ((outs : ℕ → Out) → IsSolution (setting_with c tables) text (code_routines c) outs → IsSearchResult text (outcomes_from c tables text outs) origin o) →
        IsSearchResult text (all_outcomes setting t text) origin o
    by (outcomes.Matched m) f =
        finds_by (setting_with c tables) text (code_routines c) c.program.is_program (outcomes_from c tables text) (all_outcomes setting t text) origin (Some m) (is.means text) f
    by outcomes.NoMatch f =
        finds_by (setting_with c tables) text (code_routines c) c.program.is_program (outcomes_from c tables text) (all_outcomes setting t text) origin None (is.means text) f
    by outcomes.OutOfSteps f = tt

-- an equal program, under equal case mappings
pub code_of : (m : Matcher) (tables : Tables) (c : Code) → tables ≡ arc_value m.tables → c ≡ m.code →
    IsCodeOf (matcher_setting m) (matcher_tree m) (arc_value m.tables) m.code → IsCodeOf (matcher_setting m) (matcher_tree m) tables c
code_of m tables c same code is =
    subst (λ ts. IsCodeOf (matcher_setting m) (matcher_tree m) ts c) (sym same)
    (subst (IsCodeOf (matcher_setting m) (matcher_tree m) (arc_value m.tables)) (sym code) is)

-- what a search finds by tables
pub table_finds : (setting : Setting) (t : Tree) (tables : Tables) (c : Code) (text : List ℕ) (origin : ℕ) (found : Option Match) → IsCodeOf setting t tables c →
    ((outs : ℕ → Out) → IsSolution (setting_with c tables) text (code_routines c) outs → searches.Finds text (outcomes_from c tables text outs) origin found) →
    IsSearchResult text (outcomes_at setting text t) origin (outcome_if found)
table_finds setting t tables c text origin found is solved = run_finds setting t tables c text origin (outcome_if found) is (as_outcome found solved)
  where
    as_outcome : (o : Option Match) →
        ((outs : ℕ → Out) → IsSolution (setting_with c tables) text (code_routines c) outs → searches.Finds text (outcomes_from c tables text outs) origin o) →
        (outs : ℕ → Out) → IsSolution (setting_with c tables) text (code_routines c) outs → IsSearchResult text (outcomes_from c tables text outs) origin (outcome_if o)
    as_outcome None f = f
    as_outcome (Some m) f = f

-- A match that is found starts inside the text, and is inside it.
pub starts_inside : (text : List ℕ) (at : ℕ → List MatchState) (origin : ℕ) (outcome : Outcome) → IsSearchResult text at origin outcome →
    IfMatched outcome (λ x. start_of x ≤ length text)
starts_inside text at origin outcomes.NoMatch is = tt
starts_inside text at origin outcomes.OutOfSteps is = tt
starts_inside text at origin (outcomes.Matched m) is = is.boundary.0

pub found_inside : (setting : Setting) (text : List ℕ) → IsUtf8 text → (t : Tree) (origin : ℕ) (outcome : Outcome) →
    IsSearchResult text (outcomes_at setting text t) origin outcome → IsWellFormed t → IfMatched outcome (IsInside text)
found_inside setting text utf8 t origin outcomes.NoMatch is well_formed = tt
found_inside setting text utf8 t origin outcomes.OutOfSteps is well_formed = tt
found_inside setting text utf8 t origin (outcomes.Matched m) is well_formed =
    first_inside setting text utf8 t well_formed (start_of m) is.boundary m is.first.0 refl is.first.1

sums : (c fill s t s' a d b e : ℕ) → s ≤ fill + 2 * c * a → t ≤ c * e → s' ≤ s + t → b ≡ a + d → e ≤ 2 * d → s' ≤ fill + 2 * c * b
sums c fill s t s' a d b e before more sum is small =
    let twice = mul-le-mul_left c small in
    let all : s' ≤ fill + 2 * c * (a + d) = omega (arith, before, more, sum, twice) in
    omega (arith, all, ap (λ k. 2 * c * k) is)

-- the steps of one more search, where an instruction of its walk counts b more
pub more_steps : (instructions b : ℕ) (text : List ℕ) (from s t s' : ℕ) (at : ℕ → List MatchState) (found : Option Match) →
    s ≤ 2 * instructions * (length text + 1) + 2 * ((1 + b) * (2 * instructions + 1)) * min from (length text + 1) →
    t ≤ steps_up_to instructions (1 + b) text from found → s' ≤ s + t → IsSearchResult text at from (outcome_if found) →
    IfSome found (λ m. (state_of m).position ≤ length text) →
    s' ≤ 2 * instructions * (length text + 1) + 2 * ((1 + b) * (2 * instructions + 1)) * min (offset_after text from (outcome_if found)) (length text + 1)
more_steps instructions b text from s t s' at None before more sum is inside =
    sums ((1 + b) * (2 * instructions + 1)) (2 * instructions * (length text + 1)) s t s' (min from (length text + 1)) (length text + 1 - min from (length text + 1))
    (min (length text + 1) (length text + 1)) (length text + 1 - from) before (at_least_one (length text + 1 - from) more) sum (omega arith) (omega arith)
  where
    at_least_one : (d : ℕ) → t ≤ d → t ≤ (1 + b) * (2 * instructions + 1) * d
    at_least_one d le =
        let e : (1 + b) * (2 * instructions + 1) * d ≡ (2 * instructions + b * (2 * instructions + 1)) * d + d = grind arith in
        omega (arith, e, le)
more_steps instructions b text from s t s' at (Some m) before more sum is inside =
    let n = length text in
    let start = start_of m in
    let end = (state_of m).position in
    let low : from ≤ start = is.from in
    let high : start ≤ n = is.boundary.0 in
    sums ((1 + b) * (2 * instructions + 1)) (2 * instructions * (n + 1)) s t s' (min from (n + 1)) (max end (start + 1) - from)
    (min (max end (start + 1)) (n + 1)) (end + 1 - from) before more sum (omega (arith, low, high, inside)) (omega (arith, low, high, inside))

-- all steps of a repeated search
pub all_steps : (instructions walks n limit remaining searched from steps : ℕ) → limit ≤ before_tables instructions * (n + 1) →
    searched ≤ 2 * instructions * (n + 1) + 2 * walks * min from (n + 1) → steps ≤ (limit - remaining) + searched →
    steps ≤ (before_tables instructions + 2 * instructions + 2 * walks) * (n + 1)
all_steps instructions walks n limit remaining searched from steps budget kept sum =
    let most = mul-le-mul_left (2 * walks) (let h : min from (n + 1) ≤ n + 1 = omega arith in h) in
    omega (arith, most, budget, kept, sum)

-- A bound for the steps for each byte is that of the instructions.
factor_form : (m : Matcher) (text : List ℕ) (n : ℕ) → factor_in m text ≡ Some n → n ≡ factor (instructions_of m) (code_groups m.code)
factor_form m text n is =
    by (m.within && is_linear (code_routines m.code)) (sym (some_fits (linear_steps_of m) (factor_of m) text (ap is_some is)).1 ∙ is)
  where
    by : (b : Bool) → (if b then Some (factor (total (code_routines m.code)) (code_groups m.code)) else None) ≡ Some n →
        n ≡ factor (instructions_of m) (code_groups m.code)
    by true same = cc
    by false same = absurd (cc)

-- a bound is that of a linear program
pub bound_linear : (groups : ℕ) (routines : List Routine) (within : Bool) → is_some (factor_with groups routines within) ≡ true →
    (is_linear routines ≡ true) × (factor_with groups routines within ≡ Some (factor (total routines) groups))
bound_linear groups routines true some = by (is_linear routines) some
  where
    by : (b : Bool) → is_some (if b then Some (factor (total routines) groups) else None) ≡ true →
        (b ≡ true) × ((if b then Some (factor (total routines) groups) else None) ≡ Some (factor (total routines) groups))
    by true is = (refl, refl)
    by false is = absurd (cc)
bound_linear groups routines false some = absurd (cc)

-- Tables lead to the matches of a linear program.
pub linear_has_tables : (groups : ℕ) (tidy : Bool) (routines : List Routine) (within : Bool) → is_some (factor_with groups routines within) ≡ true →
    is_tabled tidy routines ≡ false → ⊥
linear_has_tables groups tidy routines within some none =
    by (is_tabled tidy routines) (linear-tabled tidy routines (bound_linear groups routines within some).0) none
  where
    by : (b : Bool) → (if b then Some (inner_groups routines) else None) ≡ Some 0 → b ≡ false → ⊥
    by true is none = cc
    by false is none = cc

-- There is a bound exactly if there is no reason against it.
pub linear-unless : (groups : ℕ) (routines : List Routine) (within : Bool) → is_none (nonlinear_with routines within) ≡ is_some (factor_with groups routines within)
linear-unless groups routines within =
    by (reason routines) within ∙ ap (λ b. is_some (if within && b then Some (factor (total routines) groups) else None)) (sym (linear-reason routines))
  where
    by : (r : Option Reason) (w : Bool) → is_none (nonlinear_by r w) ≡ is_some (if w && is_none r then Some (factor (total routines) groups) else None)
    by None true = refl
    by None false = refl
    by (Some reasons.BackReference) true = refl
    by (Some reasons.BackReference) false = refl
    by (Some reasons.CapturingLookaround) true = refl
    by (Some reasons.CapturingLookaround) false = refl

-- the steps of a matcher
module _ (m : Matcher) (text : List ℕ) (limit remaining from taken : ℕ) (search : Option TextSearch) (kept : IfKept m text from taken search) where
  pub linear_steps : (steps : ℕ) → IfSome (factor_in m text) (λ _. limit ≤ before_tables (instructions_of m) * (length text + 1)) → steps ≤ (limit - remaining) + taken →
      IfSome (factor_in m text) (λ n. steps ≤ n * (length text + 1))
  linear_steps steps short sum = by (factor_in m text) refl short
    where
      in_tables : (n : ℕ) (s : Option TextSearch) → IfKept m text from taken s → factor_in m text ≡ Some n → limit ≤ before_tables (instructions_of m) * (length text + 1) →
          steps ≤ n * (length text + 1)
      in_tables n None none is small =
          let form = factor_form m text n is in
          subst (λ k. steps ≤ k * (length text + 1)) (sym form) (let h : steps ≤ factor (instructions_of m) (code_groups m.code) * (length text + 1) = omega (arith, none, small, sum) in h)
      in_tables n (Some s) k is small =
          let same : factor (searched_size s) (searched_groups s) ≡ n = let e : Some (factor (searched_size s) (searched_groups s)) ≡ Some n = sym k.size ∙ is in cc in
          let all = all_steps (searched_size s) (walk_weight (searched_groups s) * (2 * searched_size s + 1)) (length text) limit remaining taken from steps
          (subst (λ i. limit ≤ before_tables i * (length text + 1)) (sym k.instructions) small) k.steps sum in
          subst (λ k. steps ≤ k * (length text + 1)) same all

      by : (o : Option ℕ) → factor_in m text ≡ o → IfSome o (λ _. limit ≤ before_tables (instructions_of m) * (length text + 1)) → IfSome o (λ n. steps ≤ n * (length text + 1))
      by None is few = tt
      by (Some n) is few = in_tables n search kept is few

pub if_some : (o : Option ℕ) (P : Type 0) → P → IfSome o (λ _. P)
if_some None P p = tt
if_some (Some n) P p = p

pub map_some : (o : Option ℕ) (P Q : Type 0) → (P → Q) → IfSome o (λ _. P) → IfSome o (λ _. Q)
map_some None P Q f p = tt
map_some (Some n) P Q f p = f p

-- without tables no step in them was taken, wherever the search is
pub kept_none : (m : Matcher) (text : List ℕ) (from from' taken : ℕ) (search : Option TextSearch) → IsNone search → IfKept m text from taken search →
    IfKept m text from' taken search
kept_none m text from from' taken None none kept = kept
kept_none m text from from' taken (Some s) none kept = cc

-- ---- one search in the tables

-- Where no lookaround captures, no steps come on top.
no_captures : (i inner weight d most steps : ℕ) → inner ≡ 0 → steps ≤ most + capturing_steps i inner weight * d → steps ≤ most
no_captures i inner weight d most steps none is =
    let small : steps ≤ most + 2 * i * 0 * weight * d = subst (λ k. steps ≤ most + 2 * i * k * weight * d) none is in
    omega (arith, small)

module _ (m : Matcher) (text : List ℕ) (from taken : ℕ) (s : TextSearch) (kept : IsKept m text from taken s) (search : Search)
    (solved : (outs : ℕ → Out) → IsSolution (setting_with (searched_code s) (searched_tables s)) (searched_text s) (code_routines (searched_code s)) outs →
    searches.Finds (searched_text s) (outcomes_from (searched_code s) (searched_tables s) (searched_text s) outs) from search.found)
    (inside : IfSome search.found (λ x. (state_of x).position ≤ length (searched_text s)))
    (steps : search.steps ≤ steps_up_to (searched_size s) (walk_weight (searched_groups s)) (searched_text s) from search.found
    + capturing_steps (searched_size s) (inner_groups (code_routines (searched_code s))) (walk_weight (searched_groups s)) * (length (searched_text s) + 1)) where
  pub kept_finds : IsSearchResult text (matcher_outcomes m text) from (outcome_if search.found)
  kept_finds =
      table_finds (matcher_setting m) (matcher_tree m) (searched_tables s) (searched_code s) text from search.found kept.code
      (subst (λ (t : List ℕ). (outs : ℕ → Out) → IsSolution (setting_with (searched_code s) (searched_tables s)) t (code_routines (searched_code s)) outs →
      searches.Finds t (outcomes_from (searched_code s) (searched_tables s) t outs) from search.found) kept.same_text solved)

  pub kept_starts : IfMatched (outcome_if search.found) (λ x. start_of x ≤ length text)
  kept_starts = starts_inside text (matcher_outcomes m text) from (outcome_if search.found) kept_finds

  pub kept_inside : IsUtf8 text → IsWellFormed (matcher_tree m) → IfMatched (outcome_if search.found) (IsInside text)
  kept_inside utf8 = found_inside (matcher_setting m) text utf8 (matcher_tree m) from (outcome_if search.found) kept_finds

  -- in a linear program no lookaround captures
  kept_steps : search.steps ≤ steps_up_to (searched_size s) (walk_weight (searched_groups s)) (searched_text s) from search.found
  kept_steps =
      no_captures (searched_size s) (inner_groups (code_routines (searched_code s))) (walk_weight (searched_groups s)) (length (searched_text s) + 1) _ search.steps
      (linear-inner (code_routines (searched_code s)) kept.linear) steps

  pub kept_more : (from' taken' : ℕ) → taken' ≤ taken + search.steps → from' ≡ offset_after text from (outcome_if search.found) → IsKept m text from' taken' s
  kept_more from' taken' sum is = record {
    code = kept.code;
    linear = kept.linear;
    size = kept.size;
    instructions = kept.instructions;
    captures = kept.captures;
    same_text = kept.same_text;
    steps = subst (λ k. taken' ≤ 2 * searched_size s * (length text + 1) + 2 * (walk_weight (searched_groups s) * (2 * searched_size s + 1)) * min k (length text + 1))
        (sym is)
        (more_steps (searched_size s) (captures_cost (searched_code s)) text from taken search.steps taken' (matcher_outcomes m text) search.found kept.steps
        (subst (λ t. search.steps ≤ steps_up_to (searched_size s) (walk_weight (searched_groups s)) t from search.found) kept.same_text kept_steps) sum kept_finds
        (subst (λ t. IfSome search.found (λ x. (state_of x).position ≤ length t)) kept.same_text inside));
  }

-- ---- a run of the program

pub run_matches : (m : Matcher) (text : List ℕ) (b : Backtracker) (from : ℕ) (outcome : Outcome) → IsBacktrackerOf m text b →
    ((outs : ℕ → Out) → AreOutcomes b outs → IsSearchResult (run_text b) (runs.outcomes_at b outs) from outcome) →
    IsSearchResult text (matcher_outcomes m text) from outcome
run_matches m text b from outcome is solved =
    run_finds (matcher_setting m) (matcher_tree m) (run_tables b) (run_code b) text from outcome
    (code_of m (run_tables b) (run_code b) is.tables is.code m.compiled)
    (subst (λ (t : List ℕ). (outs : ℕ → Out) → IsSolution (setting_with (run_code b) (run_tables b)) t (code_routines (run_code b)) outs →
    IsSearchResult t (outcomes_from (run_code b) (run_tables b) t outs) from outcome) is.same_text solved)

-- ---- the tables of a text, before the first search

pub tables_kept : (m : Matcher) (text : List ℕ) (from steps : ℕ) (s : TextSearch) → is_some (factor_in m text) ≡ true →
    IsCodeOf (matcher_setting m) (matcher_tree m) (arc_value m.tables) m.code → searched_code s ≡ m.code → searched_tables s ≡ arc_value m.tables →
    searched_text s ≡ text → steps ≤ 2 * searched_size s * (length (searched_text s) + 1) → IsKept m text from steps s
tables_kept m text from steps s is_fast compiled code tables same_text counted =
    let fits = some_fits (linear_steps_of m) (factor_of m) text is_fast in
    let bound = bound_linear (code_groups m.code) (code_routines m.code) m.within fits.0 in
    record {
      code = code_of m (searched_tables s) (searched_code s) tables code compiled;
      linear = subst (λ (c : Code). is_linear (code_routines c) ≡ true) (sym code) bound.0;
      size = fits.1 ∙ bound.1 ∙ ap (λ (c : Code). Some (factor (total (code_routines c)) (code_groups c))) (sym code);
      instructions = ap (λ (c : Code). total (code_routines c)) code;
      captures = ap captures_cost code;
      same_text = same_text;
      steps = let same = ap length same_text in
          let all : steps ≤ 2 * searched_size s * (length text + 1) =
          subst (λ n. steps ≤ 2 * searched_size s * (n + 1)) same counted in
          omega (arith, all);
    }
