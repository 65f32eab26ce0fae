-- Programs that are analyzed.
use Rattle.std.specs.Prelude.{ℕ, ◌+◌, ◌-◌, Bool, List, length, sum_by}
use Rattle.std.specs.List.{range_with_len}
use Rattle.regress_base.specs.declared.types.Flags.{Flags}
use Rattle.regress_tree.specs.Matching.{steps}
use Rattle.regress_tree.specs.Reading.{forwards}
use Rattle.regress_tree.specs.Steps.{MatchState, Setting}
use Rattle.regress_tree.specs.Tree.{Tree}
use Rattle.regress_unicode.specs.declared.Tables.{Tables}
use Rattle.regress_unicode.specs.TableOf.{table_of}
use Rattle.regress_program.specs.Cost.{Cost, blocks, cost_of}
use Rattle.regress_found.specs.Found.{initial_state}
use Rattle.regress_program.specs.Program.{Out, Routine, matcher_of}
use Rattle.regress_program.specs.declared.counts.Counts.{Counts}
use Rattle.regress_program.specs.Search.{counts_of, flags_of, groups_of, is_known_tidy, routines_of, stored_instructions_of}
use Rattle.regress_code.specs.declared.code.Code.{Code}

-- the routines of a program
abbrev pub code_routines : Code → List Routine
code_routines code = routines_of code.program

-- the flags of its pattern
abbrev pub code_flags : Code → Flags
code_flags code = flags_of code.program

-- the number of groups of its pattern
abbrev pub code_groups : Code → ℕ
code_groups code = groups_of code.program

-- the number of its stored instructions
abbrev pub code_stored : Code → ℕ
code_stored code = stored_instructions_of code.program

-- how loops were compiled
abbrev pub code_counts : Code → Counts
code_counts code = counts_of code.program

-- its lookarounds that capture are known to begin with their groups unset
abbrev pub code_tidy : Code → Bool
code_tidy code = is_known_tidy code.program

-- its flags with these case mappings
abbrev pub setting_with : Code → Tables → Setting
setting_with code tables = record { flags = code_flags code; table = table_of tables }

-- the outcomes of a program from a position with every group unset, by the outcomes in each routine
abbrev pub outcomes_from : Code → Tables → (text : List ℕ) → (ℕ → Out) → (position : ℕ) → List MatchState
outcomes_from code tables text outs position =
    matcher_of (setting_with code tables) text (code_routines code) outs (length (code_routines code) - 1)
    (initial_state (code_groups code) position)

-- the outcomes of a tree from there
abbrev pub tree_outcomes_from : Code → Tables → (text : List ℕ) → Tree → (position : ℕ) → List MatchState
tree_outcomes_from code tables text t position = steps (setting_with code tables) text forwards t (initial_state (code_groups code) position)

-- the cost of a run from a position with every group unset, by the costs in each routine
abbrev pub cost_from : Code → Tables → (text : List ℕ) → (ℕ → Cost) → (position : ℕ) → ℕ
cost_from code tables text costs position =
    cost_of (setting_with code tables) text (code_routines code) costs (length (code_routines code) - 1)
    (initial_state (code_groups code) position)

-- the cost of the captures that a match has, one for each group
abbrev pub captures_cost : Code → ℕ
captures_cost code = blocks (code_groups code)

-- the cost of matching at a position: the captures, and a run there
abbrev pub match_cost : Code → Tables → (text : List ℕ) → (ℕ → Cost) → (position : ℕ) → ℕ
match_cost code tables text costs position = captures_cost code + cost_from code tables text costs position

-- the cost of the runs from `from` on: 1 for each byte offset up to the end, and a run there
abbrev pub runs_cost : Code → Tables → (text : List ℕ) → (ℕ → Cost) → (from : ℕ) → ℕ
runs_cost code tables text costs from =
    sum_by (λ k. 1 + cost_from code tables text costs k) (range_with_len from (length text + 1 - from))

-- the cost of a search from `from` on: the captures, and the runs
abbrev pub search_cost : Code → Tables → (text : List ℕ) → (ℕ → Cost) → (from : ℕ) → ℕ
search_cost code tables text costs from = captures_cost code + runs_cost code tables text costs from
