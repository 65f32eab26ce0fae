-- The costs of searches with a matcher.
use Rattle.std.specs.Prelude.{◌≡◌, if◌then◌else◌, ℕ, ◌+◌, ◌*◌, ◌≤◌, Bool, true, not, ◌&&◌, is_some, nat_le, ◌-◌, ◌^◌, List, length, min, Option, Some, None, option_map, unwrap_or}
use Rattle.regress_tree.specs.Tree.{Tree}
use Rattle.regress_tree.specs.WellFormed.{IsWellFormed, captures}
use Rattle.regress_program.specs.Compiled.{IsPattern, total}
use Rattle.regress_program.specs.Linear.{has_back_reference, is_linear, is_linear_tree, reason, reason_of}
use Rattle.regress_program.specs.Program.{Routine}
use Rattle.regress_tables.specs.Search.{capturing_steps, walk_weight}
use Rattle.regress_program.specs.Size.{program_size}
use Rattle.regress_program.specs.Tidy.{has_no_back_reference, table_groups}
use Rattle.regress_found.specs.declared.found.Match.{Match}
use Rattle.regress_program.specs.declared.nonlinear.Nonlinear.{Nonlinear as Reason}
use Rattle.regress_program.specs.declared.nonlinear.Nonlinear.TheVariants as reasons
use Rattle.regress_code.specs.Code.{code_groups, code_routines, code_tidy}
use Rattle.regress_found.specs.declared.outcome.Outcome.{Outcome}
use Rattle.regress_found.specs.declared.outcome.Outcome.TheVariants as outcomes
use Rattle.regress_found.specs.Results.{IfOutOfSteps}
use Rattle.regress_match.specs.declared.matcher.Matcher.{Matcher}
use Rattle.regress_match.specs.declared.nonlinear.Nonlinear.{Nonlinear}
use Rattle.regress_match.specs.declared.nonlinear.Nonlinear.TheVariants.{BackReference, CapturingLookaround, TooManyInstructions}

-- An upper bound for the steps of backtracking for each byte, and once more for the end of the text, until tables are made.
-- The tables of a large program take longer to fill.
abbrev pub before_tables : (instructions : ℕ) → ℕ
before_tables instructions = 64 + 2 * instructions

-- An upper bound for the steps for each byte, and once more for the end of the text: those of backtracking until the tables
-- are made, of making them, and of all searches in them, whose walks count more with more groups.
abbrev pub factor : (instructions groups : ℕ) → ℕ
factor instructions groups = before_tables instructions + 2 * instructions + 2 * (walk_weight groups * (2 * instructions + 1))

-- the bound for a program that is searched in linear time if it is linear and within the limit on tables; else none
abbrev pub factor_with : (groups : ℕ) → List Routine → (within : Bool) → Option ℕ
factor_with groups routines within = if within && is_linear routines then Some (factor (total routines) groups) else None

-- An upper bound for those of a search for one match, where lookarounds may set `inner` groups: those that find what they
-- have captured come on top.
abbrev pub find_factor : (instructions groups inner : ℕ) → ℕ
find_factor instructions groups inner = factor instructions groups + capturing_steps instructions inner (walk_weight groups)

-- the bound for a program that is searched for one match in linear time: if tables lead to its matches, and it is within
-- the limit on tables; else none
abbrev pub find_factor_with : (groups : ℕ) (tidy : Bool) → List Routine → (within : Bool) → Option ℕ
find_factor_with groups tidy routines within =
    if within then option_map (find_factor (total routines) groups) (table_groups tidy routines) else None

-- The bound is that of a program of the tree. Searches for all matches take linear time exactly if the tree is linear and
-- the program within the limit; else there is none.
abbrev pub IsFactorOf : (limit : ℕ) → Tree → Option ℕ → Type 0
IsFactorOf limit t bound = bound ≡ (if nat_le (program_size t) limit && is_linear_tree t then Some (factor (program_size t) (length (captures t))) else None)

-- A search for one match in a program of a well-formed tree takes linear time: the tree has no back reference, and the
-- program is within the limit.
abbrev pub is_find_linear_tree : (limit : ℕ) → Tree → Bool
is_find_linear_tree limit t = nat_le (program_size t) limit && not (has_back_reference t)

-- The bound is that of a search for one match in a program that matches the tree: it takes linear time if tables lead to the
-- matches of the program, and it is within the limit. Then it has as many instructions as the size of the tree. Of a
-- well-formed tree there is a bound exactly if the tree has no back reference and the program is within the limit.
pub record IsFindFactorOf (limit : ℕ) (t : Tree) (bound : Option ℕ) : Type 0 where
  pub routines : List Routine
  pub pattern : IsPattern routines t
  pub size : program_size t ≤ limit → total routines ≡ program_size t
  pub linear : is_linear routines ≡ is_linear_tree t
  pub plain : has_no_back_reference routines ≡ not (has_back_reference t)
  pub tidy : Bool
  pub tidy_if : IsWellFormed t → tidy ≡ true
  pub is : bound ≡ find_factor_with (length (captures t)) tidy routines (nat_le (program_size t) limit)
  pub exactly : IsWellFormed t → is_some bound ≡ is_find_linear_tree limit t

-- why a program is not searched in linear time: by its instructions, or else because it is not within the limit on tables;
-- none if it is searched in linear time
abbrev pub nonlinear_by : Option Reason → (within : Bool) → Option Nonlinear
nonlinear_by (Some reasons.BackReference) within = Some BackReference
nonlinear_by (Some reasons.CapturingLookaround) within = Some CapturingLookaround
nonlinear_by None within = if within then None else Some TooManyInstructions

abbrev pub nonlinear_with : List Routine → (within : Bool) → Option Nonlinear
nonlinear_with routines within = nonlinear_by (reason routines) within

-- This is why searches for all matches with a program of the tree do not take linear time.
abbrev pub IsNonlinearOf : (limit : ℕ) → Tree → Option Nonlinear → Type 0
IsNonlinearOf limit t why = why ≡ nonlinear_by (reason_of t) (nat_le (program_size t) limit)

-- that of a matcher; none if its searches for all matches are not known to take linear time
abbrev pub factor_of : Matcher → Option ℕ
factor_of m = factor_with (code_groups m.code) (code_routines m.code) m.within

-- the same for a search for one match
abbrev pub find_factor_of : Matcher → Option ℕ
find_factor_of m = find_factor_with (code_groups m.code) (code_tidy m.code) (code_routines m.code) m.within

-- the number of steps that a search may take that takes linear time; none if there is no limit
abbrev pub linear_steps_of : Matcher → Option ℕ
linear_steps_of m = m.linear_steps

-- whether that many steps for each byte, and once more, are within a limit; they are counted up to 2^64 - 1
abbrev pub fits : (limit : Option ℕ) → (factor : ℕ) → (text : List ℕ) → Bool
fits None factor text = true
fits (Some limit) factor text = nat_le (min (factor * (length text + 1)) (2 ^ 64 - 1)) limit

-- the bound, if it is within the limit in a text
abbrev pub bound_in : (limit bound : Option ℕ) → (text : List ℕ) → Option ℕ
bound_in limit None text = None
bound_in limit (Some n) text = if fits limit n text then Some n else None

-- the bound for the steps of a search for all matches in a text, for each byte; none if it only backtracks there
abbrev pub factor_in : Matcher → (text : List ℕ) → Option ℕ
factor_in m text = bound_in (linear_steps_of m) (factor_of m) text

-- the same for a search for one match
abbrev pub find_factor_in : Matcher → (text : List ℕ) → Option ℕ
find_factor_in m text = bound_in (linear_steps_of m) (find_factor_of m) text

-- the step limit of a search that only backtracks: that of the caller, but if searches of short texts take linear time, that
-- of such searches
abbrev pub backtracking_limit : (limit bound : Option ℕ) (steps : ℕ) → ℕ
backtracking_limit limit None steps = steps
backtracking_limit limit (Some n) steps = unwrap_or limit steps

-- that of a search for all matches
abbrev pub limit_in : Matcher → (steps : ℕ) → ℕ
limit_in m = backtracking_limit (linear_steps_of m) (factor_of m)

-- that of a search for one match
abbrev pub find_limit_in : Matcher → (steps : ℕ) → ℕ
find_limit_in m = backtracking_limit (linear_steps_of m) (find_factor_of m)

-- why its searches are not known to take linear time
abbrev pub nonlinear_of : Matcher → Option Nonlinear
nonlinear_of m = nonlinear_with (code_routines m.code) m.within

-- A search in linear time is never out of steps, and takes at most this number of steps for each byte, and once more.
abbrev pub IsLinear : (factor : ℕ) (text : List ℕ) → Outcome → (steps : ℕ) → Type 0
IsLinear factor text outcome steps = (steps ≤ factor * (length text + 1)) × IfOutOfSteps outcome ⊥

-- A search with a step limit takes at most that number of steps, and is out of steps only if it has taken them all.
abbrev pub IsLimited : (limit : ℕ) → Outcome → (steps : ℕ) → Type 0
IsLimited limit outcome steps = (steps ≤ limit) × IfOutOfSteps outcome (steps ≡ limit)

-- the result of a search that is never out of steps
abbrev pub outcome_if : Option Match → Outcome
outcome_if (Some m) = outcomes.Matched m
outcome_if None = outcomes.NoMatch
