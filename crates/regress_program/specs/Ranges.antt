-- Which groups the routines of a program change.
use Rattle.std.specs.Prelude.{if◌then◌else◌, ℕ, ◌+◌, ◌≤◌, ◌<◌, Bool, false, min, max, nat_le, nat_lt, List, [], ◌∷◌, ◌++◌, slice_index_or}
use Rattle.std.proofs.Props.{props}
use Rattle.regress_program.specs.declared.ranges.GroupRange.{GroupRange}
use Rattle.regress_program.specs.Program.{Op, unsets, end_group, look, Routine}

-- the range without ids
abbrev pub no_groups : GroupRange
no_groups = record { start = 0; end = 0 }

-- The range has no ids.
abbrev pub is_empty : GroupRange → Bool
is_empty r = nat_le r.end r.start

-- The id is in the range.
abbrev pub IsIn : GroupRange → (id : ℕ) → Type 0
IsIn r id = (r.start ≤ id) × (id < r.end)

-- the least range with the ids of both
abbrev pub hull : GroupRange → GroupRange → GroupRange
hull a b =
    if is_empty a then b
    else if is_empty b then a
    else record { start = min a.start b.start; end = max a.end b.end }

module _ (earlier : List GroupRange) where
  -- the groups that an instruction changes, by those that earlier routines change
  abbrev pub changed_by : Op → GroupRange
  changed_by (unsets start end next) = if nat_lt start end then record { start = start; end = end } else no_groups
  changed_by (end_group id next) = record { start = id; end = id + 1 }
  changed_by (look false routine next) = slice_index_or earlier routine no_groups
  changed_by op = no_groups

  -- the groups that a routine changes
  abbrev pub changed_by_all : List Op → GroupRange
  changed_by_all [] = no_groups
  changed_by_all (op ∷ ops) = hull (changed_by op) (changed_by_all ops)

-- the groups that each routine changes, after those of the routines before
abbrev pub ranges_after : List GroupRange → List Routine → List GroupRange
ranges_after ranges [] = ranges
ranges_after ranges (r ∷ rs) = ranges_after (ranges ++ changed_by_all ranges r.ops ∷ []) rs

-- the groups that each routine of a program changes
abbrev pub ranges_of : List Routine → List GroupRange
ranges_of program = ranges_after [] program

-- an upper bound for the ids of the groups that an instruction sets by a lookaround
abbrev pub captured_by : List GroupRange → Op → ℕ
captured_by ranges (look false routine next) = (slice_index_or ranges routine no_groups).end
captured_by ranges op = 0

-- the same for all instructions of a routine, and of a program
abbrev pub captured_by_all : List GroupRange → List Op → ℕ
captured_by_all ranges [] = 0
captured_by_all ranges (op ∷ ops) = max (captured_by ranges op) (captured_by_all ranges ops)

abbrev pub captured_in : List GroupRange → List Routine → ℕ
captured_in ranges [] = 0
captured_in ranges (r ∷ rs) = max (captured_by_all ranges r.ops) (captured_in ranges rs)

-- An upper bound for the number of groups that lookarounds set: the groups up to the last one in a lookaround that is
-- not negated.
abbrev pub inner_groups : List Routine → ℕ
inner_groups program = captured_in (ranges_of program) program

-- The property has at most one proof.
pub GroupRanges-set : IsSet (List GroupRange)
GroupRanges-set = hlevel props
