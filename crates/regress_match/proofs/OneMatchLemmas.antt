-- Searches for one match in linear time.
use Rattle.std.proofs.Common.{◌≡◌, ℕ, ◌+◌, ◌*◌, ◌≤◌, Bool, true, false, List, length, Option, Some, None, IfSome, refl, sym, ap, subst, ◌∙◌, arith}
use Rattle.std.specs.Arc.{arc_value}
use Rattle.std.specs.Prelude.{if◌then◌else◌, is_some, option_map}
use Rattle.regress_unicode.specs.declared.Tables.{Tables}
use Rattle.regress_program.specs.Compiled.{total}
use Rattle.regress_found.specs.Found as searches
use Rattle.regress_program.specs.Program.{IsSolution, Out, Routine}
use Rattle.regress_program.specs.Ranges.{inner_groups}
use Rattle.regress_tables.specs.Search.{capturing_steps, per_byte, walk_weight}
use Rattle.regress_program.specs.Tidy.{is_tabled}
use Rattle.regress_found.specs.declared.found.Match.{Match}
use Rattle.regress_program.proofs.lemmas.Strict.{linear-tabled}
use Rattle.regress_code.specs.Code.{code_groups, code_routines, code_tidy, outcomes_from, setting_with}
use Rattle.regress_code.specs.declared.code.Code.{Code}
use Rattle.regress_match.specs.Compiled.{IsCodeOf}
use Rattle.regress_found.specs.Results.{IsSearchResult, IfOutOfSteps}
use Rattle.regress_match.specs.Matcher.{before_tables, bound_in, factor, factor_in, factor_of, factor_with, find_factor, find_factor_in, find_factor_of, find_factor_with, linear_steps_of, outcome_if}
use Rattle.regress_match.specs.Pattern.{matcher_outcomes, matcher_setting, matcher_tree}
use Rattle.regress_match.specs.declared.matcher.Matcher.{Matcher}
use Rattle.regress_match.proofs.MatcherLemmas.{bound_linear, code_of, table_finds}

-- ---- which searches take linear time

-- Where searches for all matches take linear time the bounds are the same.
pub same_bound : (groups : ℕ) (tidy : Bool) (routines : List Routine) (within : Bool) → is_some (factor_with groups routines within) ≡ true →
    find_factor_with groups tidy routines within ≡ factor_with groups routines within
same_bound groups tidy routines true some =
    let linear = bound_linear groups routines true some in
    ap (option_map (find_factor (total routines) groups)) (linear-tabled tidy routines linear.0)
    ∙ ap (λ n. Some n) (none_inside (total routines) groups)
    ∙ sym linear.1
  where
    none_inside : (i n : ℕ) → find_factor i n 0 ≡ factor i n
    none_inside i n = omega arith
same_bound groups tidy routines false some = refl

-- What holds of the bound for one match holds of that for all matches.
pub all_by_one : (m : Matcher) (text : List ℕ) (P : ℕ → Type 0) → IfSome (find_factor_in m text) P → IfSome (factor_in m text) P
all_by_one m text P one = by (factor_of m) (same_bound (code_groups m.code) (code_tidy m.code) (code_routines m.code) m.within)
  where
    by : (all : Option ℕ) → (is_some all ≡ true → find_factor_of m ≡ all) → IfSome (bound_in (linear_steps_of m) all text) P
    by None same = tt
    by (Some n) same = subst (λ o. IfSome (bound_in (linear_steps_of m) o text) P) (same refl) one

pub if_none : (o : Option ℕ) (P : ℕ → Type 0) → is_some o ≡ false → IfSome o P
if_none None P none = tt
if_none (Some n) P none = absurd (cc)

-- Where a search for one match only backtracks, so does one for all matches.
pub none_by_one : (m : Matcher) (text : List ℕ) → is_some (find_factor_in m text) ≡ false → is_some (factor_in m text) ≡ false
none_by_one m text none = by (factor_in m text) (all_by_one m text (λ _. ⊥) (if_none (find_factor_in m text) (λ _. ⊥) none))
  where
    by : (o : Option ℕ) → IfSome o (λ _. ⊥) → is_some o ≡ false
    by None none = refl
    by (Some n) none = absurd none

-- ---- the steps of a search for one match

with_backtracking : (i walks c d steps : ℕ) → steps ≤ (2 * i + walks + c) * d →
    steps + before_tables i * d ≤ (before_tables i + 2 * i + 2 * walks + c) * d
with_backtracking i walks c d steps few = omega (arith, few)

never_ends_early : (found : Option Match) → IfOutOfSteps (outcome_if found) ⊥
never_ends_early None = tt
never_ends_early (Some m) = tt

-- A search by tables leaves the steps of backtracking.
pub searched_bounded : (groups : ℕ) (tidy : Bool) (routines : List Routine) (within : Bool) (c : Code) (text : List ℕ) (found : Option Match) (steps : ℕ) →
    code_routines c ≡ routines → code_groups c ≡ groups → steps ≤ per_byte c * (length text + 1) →
    IfSome (find_factor_with groups tidy routines within) (λ n. (steps + before_tables (total routines) * (length text + 1) ≤ n * (length text + 1)) × IfOutOfSteps (outcome_if found) ⊥)
searched_bounded groups tidy routines false c text found steps same counted few = tt
searched_bounded groups tidy routines true c text found steps same counted few = by (is_tabled tidy routines)
  where
    per : (weight i inner : ℕ) → ℕ
    per weight i inner = 2 * i + weight * (2 * i + 1) + capturing_steps i inner weight

    by : (b : Bool) → IfSome (option_map (find_factor (total routines) groups) (if b then Some (inner_groups routines) else None))
        (λ n. (steps + before_tables (total routines) * (length text + 1) ≤ n * (length text + 1)) × IfOutOfSteps (outcome_if found) ⊥)
    by false = tt
    by true = (
      with_backtracking (total routines) (walk_weight groups * (2 * total routines + 1)) (capturing_steps (total routines) (inner_groups routines) (walk_weight groups))
          (length text + 1) steps
          (subst (λ n. steps ≤ per (walk_weight n) (total routines) (inner_groups routines) * (length text + 1)) counted
          (subst (λ rs. steps ≤ per (walk_weight (code_groups c)) (total rs) (inner_groups rs) * (length text + 1)) same few)),
      never_ends_early found,
    )

-- ---- what it finds

pub tables_find : (m : Matcher) (text : List ℕ) (from : ℕ) (tables : Tables) (c : Code) (found : Option Match) → tables ≡ arc_value m.tables → c ≡ m.code →
    IsCodeOf (matcher_setting m) (matcher_tree m) (arc_value m.tables) m.code →
    ((outs : ℕ → Out) → IsSolution (setting_with c tables) text (code_routines c) outs → searches.Finds text (outcomes_from c tables text outs) from found) →
    IsSearchResult text (matcher_outcomes m text) from (outcome_if found)
tables_find m text from tables c found same code compiled =
    table_finds (matcher_setting m) (matcher_tree m) tables c text from found (code_of m tables c same code compiled)
