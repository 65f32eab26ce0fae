-- The memory of searches with a matcher.
use Rattle.std.specs.Prelude.{◌≡◌, ℕ, ◌+◌, ◌*◌, ◌<◌, ◌≤◌, ◌⊎◌, true, List, None, length}
use Rattle.regress_program.specs.Compiled.{total}
use Rattle.regress_program.specs.Cost.{Cost}
use Rattle.regress_program.specs.Program.{Out}
use Rattle.regress_backtrack.specs.Memory.{IsWithin, entries_in}
use Rattle.regress_backtrack.specs.declared.cache.Cache.{Cache}
use Rattle.regress_program.specs.Tidy.{is_tabled}
use Rattle.regress_code.specs.Code.{code_groups, code_routines, code_stored, code_tidy}
use Rattle.regress_found.specs.Repeated.{AreMatches}
use Rattle.regress_found.specs.declared.found.Match.{Match}
use Rattle.regress_tables.specs.Memory.{table_bytes}
use Rattle.regress_match.specs.Costs.{AreCosts, HasCosts, find_cost, match_cost}
use Rattle.regress_match.specs.Matcher.{factor_in}
use Rattle.regress_match.specs.Pattern.{matcher_outcomes}
use Rattle.regress_match.specs.declared.matcher.Matcher.{Matcher}

-- the number of bytes that the tables of a search may take, each backtrack stack, and a list of matches
abbrev pub memory_of : Matcher → ℕ
memory_of m = m.memory

-- the number of instructions of its program, copies included
abbrev pub instructions_of : Matcher → ℕ
instructions_of m = total (code_routines m.code)

-- the number of those that are stored
abbrev pub stored_instructions_of : Matcher → ℕ
stored_instructions_of m = code_stored m.code

-- The program is searched by tables, and those of the text take more memory than they may.
pub record TablesNeedMore (m : Matcher) (text : List ℕ) : Type 0 where
  pub tabled : is_tabled (code_tidy m.code) (code_routines m.code) ≡ true
  pub more : memory_of m < table_bytes (instructions_of m) text

-- Each backtrack stack of a cache has room for at most as many bytes as it may take.
abbrev pub AreStacksWithin : Matcher → Cache → Type 0
AreStacksWithin m = IsWithin (entries_in (memory_of m))

-- A search by backtracking from there on may fill a stack: 64 times its cost is at least the number of entries for which
-- the stack may have room.
abbrev pub MayFillStack : Matcher → (text : List ℕ) → (from : ℕ) → Type 0
MayFillStack m text from = (outs : ℕ → Out) (costs : ℕ → Cost) → AreCosts m text outs costs →
    entries_in (memory_of m) ≤ 64 * find_cost m text costs from

-- the same of a match at a position
abbrev pub MayFillStackAt : Matcher → (text : List ℕ) → (position : ℕ) → Type 0
MayFillStackAt m text position = (outs : ℕ → Out) (costs : ℕ → Cost) → AreCosts m text outs costs →
    entries_in (memory_of m) ≤ 64 * match_cost m text costs position

-- A search from there on that only backtracks may fill a stack.
pub record StackNeedsMore (m : Matcher) (text : List ℕ) (from : ℕ) : Type 0 where
  pub backtracks : factor_in m text ≡ None
  pub has : HasCosts m text
  pub fills : MayFillStack m text from

-- A search from there on takes more memory than it may: its tables, or a backtrack stack.
abbrev pub SearchNeedsMore : Matcher → (text : List ℕ) → (from : ℕ) → Type 0
SearchNeedsMore m text from = TablesNeedMore m text ⊎ StackNeedsMore m text from

-- After the first matches from `from` on, the search for the next one takes more memory than it may.
pub record NextNeedsMore (m : Matcher) (text : List ℕ) (from : ℕ) : Type 0 where
  pub ms : List Match
  pub to : ℕ
  pub found : AreMatches text (matcher_outcomes m text) from to ms
  pub more : SearchNeedsMore m text to

-- the number of bytes that a match counts in a list
abbrev pub match_bytes : Matcher → ℕ
match_bytes m = 56 + 24 * code_groups m.code

-- The first matches from `from` on, up to one of them, take more memory than a list may.
pub record MatchesNeedMore (m : Matcher) (text : List ℕ) (from : ℕ) : Type 0 where
  pub ms : List Match
  pub to : ℕ
  pub found : AreMatches text (matcher_outcomes m text) from to ms
  pub more : memory_of m < match_bytes m * length ms

-- A search for all matches from `from` on takes more memory than it may: the tables or a backtrack stack of the search
-- for one of them, or the list of the matches.
abbrev pub AllNeedMore : Matcher → (text : List ℕ) → (from : ℕ) → Type 0
AllNeedMore m text from = NextNeedsMore m text from ⊎ MatchesNeedMore m text from
