-- The steps of a search by tables.
use Rattle.std.specs.Prelude.{ℕ, ◌+◌, ◌*◌, ◌-◌, List, length, Option, Some, None}
use Rattle.regress_found.specs.declared.found.Match.{Match}
use Rattle.regress_program.specs.Compiled.{total}
use Rattle.regress_found.specs.Found.{state_of}
use Rattle.regress_program.specs.Cost.{blocks}
use Rattle.regress_program.specs.Ranges.{inner_groups}
use Rattle.regress_code.specs.Code.{code_groups, code_routines}
use Rattle.regress_code.specs.declared.code.Code.{Code}

-- The steps that an instruction of a walk counts: one, and one more for each 64 groups, since it may set or unset them all.
abbrev pub walk_weight : (groups : ℕ) → ℕ
walk_weight groups = 1 + blocks groups

-- An upper bound for the steps for each byte, and once more for the end of the text, that it takes to find what
-- lookarounds have captured: each routine is walked through at most once for each group that they may set.
abbrev pub capturing_steps : (instructions inner weight : ℕ) → ℕ
capturing_steps instructions inner weight = 2 * instructions * inner * weight

-- An upper bound for the steps of a search for each byte, and once more for the end of the text. Each instruction has two
-- bits at a position, and the walk takes at most as many instructions as the table of its routine has bits.
abbrev pub per_byte : Code → ℕ
per_byte code =
    let instructions = total (code_routines code) in
    let weight = walk_weight (code_groups code) in
    2 * instructions + weight * (2 * instructions + 1) + capturing_steps instructions (inner_groups (code_routines code)) weight

-- An upper bound for the steps of a search from `origin` with this number of instructions, where the tables are filled:
-- the positions that are tried, and for each up to the end of the match the instructions of the walk, by their weight.
abbrev pub steps_up_to : (instructions weight : ℕ) (text : List ℕ) (origin : ℕ) → Option Match → ℕ
steps_up_to instructions weight text origin (Some m) = weight * (2 * instructions + 1) * ((state_of m).position + 1 - origin)
steps_up_to instructions weight text origin None = length text + 1 - origin
