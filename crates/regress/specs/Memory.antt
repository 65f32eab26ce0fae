-- The memory of searches with a compiled regular expression.
use Rattle.std.specs.Prelude.{ℕ, List}
use Rattle.regress_match.specs.Memory as matcher
use Rattle.regress.specs.declared.pattern.Regex.{Regex}

-- the number of bytes that the tables of a search may take, each backtrack stack, and a list of matches
abbrev pub memory_of : Regex → ℕ
memory_of r = matcher.memory_of r.matcher

-- the number of instructions of its program, copies included
abbrev pub instructions_of : Regex → ℕ
instructions_of r = matcher.instructions_of r.matcher

-- the number of those that are stored
abbrev pub stored_instructions_of : Regex → ℕ
stored_instructions_of r = matcher.stored_instructions_of r.matcher

-- A search in the text from there on takes more memory than it may: its tables, or a backtrack stack.
abbrev pub SearchNeedsMore : Regex → (text : List ℕ) → (from : ℕ) → Type 0
SearchNeedsMore r text from = matcher.SearchNeedsMore r.matcher text from

-- the number of bytes that a match counts in a list
abbrev pub match_bytes : Regex → ℕ
match_bytes r = matcher.match_bytes r.matcher

-- A search for all matches in the text from there on takes more memory than it may: the tables or a backtrack stack of
-- the search for one of them, or the list of the matches.
abbrev pub AllNeedMore : Regex → (text : List ℕ) → (from : ℕ) → Type 0
AllNeedMore r text from = matcher.AllNeedMore r.matcher text from
