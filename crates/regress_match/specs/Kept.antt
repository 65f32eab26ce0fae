-- What a repeated search keeps from one match to the next.
use Rattle.std.specs.Prelude.{◌≡◌, ℕ, ◌+◌, ◌*◌, ◌≤◌, true, List, length, min, Option, Some, MatchOption}
use Rattle.std.proofs.Props.{props}
use Rattle.std.specs.Arc.{arc_value}
use Rattle.regress_unicode.specs.contracts.Tables as tables
use Rattle.regress_program.specs.Linear.{is_linear}
use Rattle.regress_code.specs.Code.{captures_cost, code_routines}
use Rattle.regress_code.specs.contracts.code.Code as code
use Rattle.regress_backtrack.specs.Backtracker.{run_code, run_room, run_tables, run_text}
use Rattle.regress_backtrack.specs.Memory.{entries_in}
use Rattle.regress_backtrack.specs.declared.backtracker.Backtracker.{Backtracker}
use Rattle.regress_tables.specs.Search.{walk_weight}
use Rattle.regress_tables.specs.TextSearch.{searched_code, searched_groups, searched_size, searched_tables, searched_text}
use Rattle.regress_tables.specs.declared.text.TextSearch.{TextSearch}
use Rattle.regress_match.specs.Compiled.{IsCodeOf, IsCodeOf-prop}
use Rattle.regress_match.specs.Matcher.{factor, factor_in}
use Rattle.regress_match.specs.Memory.{instructions_of, memory_of}
use Rattle.regress_match.specs.Pattern.{matcher_setting, matcher_tree}
use Rattle.regress_match.specs.declared.matcher.Matcher.{Matcher}

-- The backtracker is for the program of the matcher, its case mappings, the text and the memory that a stack may take.
pub record IsBacktrackerOf (m : Matcher) (text : List ℕ) (b : Backtracker) : Type 0 where
  pub code : run_code b ≡ m.code
  pub tables : run_tables b ≡ arc_value m.tables
  pub same_text : run_text b ≡ text
  pub room : run_room b ≡ entries_in (memory_of m)

-- The tables are those of a linear program of the matcher's pattern and of the text. The steps are those of making them, and of
-- searches in them, each of which took at most one walk for each byte that it has passed.
pub record IsKept (m : Matcher) (text : List ℕ) (from taken : ℕ) (s : TextSearch) : Type 0 where
  pub code : IsCodeOf (matcher_setting m) (matcher_tree m) (searched_tables s) (searched_code s)
  pub linear : is_linear (code_routines (searched_code s)) ≡ true
  pub size : factor_in m text ≡ Some (factor (searched_size s) (searched_groups s))
  pub instructions : searched_size s ≡ instructions_of m
  pub captures : captures_cost (searched_code s) ≡ captures_cost m.code
  pub same_text : searched_text s ≡ text
  pub steps : taken ≤ 2 * searched_size s * (length text + 1)
      + 2 * (walk_weight (searched_groups s) * (2 * searched_size s + 1)) * min from (length text + 1)

-- the same, or no step was taken before there are tables
abbrev pub IfKept : (m : Matcher) (text : List ℕ) (from steps : ℕ) → Option TextSearch → Type 0
IfKept m text from steps s = MatchOption s (steps ≡ 0) (IsKept m text from steps)

-- Each has at most one proof.
pub IsBacktrackerOf-prop : (m : Matcher) (text : List ℕ) (b : Backtracker) → IsProp (IsBacktrackerOf m text b)
IsBacktrackerOf-prop m text b = hlevel (props, code.the_row.coded, tables.the_row.coded)

pub IsKept-prop : (m : Matcher) (text : List ℕ) (from steps : ℕ) (s : TextSearch) → IsProp (IsKept m text from steps s)
IsKept-prop m text from steps s = hlevel (props, IsCodeOf-prop)

pub IfKept-prop : (m : Matcher) (text : List ℕ) (from steps : ℕ) (s : Option TextSearch) → IsProp (IfKept m text from steps s)
IfKept-prop m text from steps s = hlevel (props, IsKept-prop)
