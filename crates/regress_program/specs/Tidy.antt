-- Tidy programs: on every way through a routine, a lookaround that captures begins with its groups unset.
use Rattle.std.specs.Prelude.{◌≡◌, if◌then◌else◌, ℕ, zero, suc, Bool, not, ◌&&◌, ◌||◌, ◌==◌, false, List, [], ◌∷◌, slice_get, slice_index_or, Option, Some, None}
use Rattle.std.specs.List.{list_all}
use Rattle.regress_program.specs.declared.ranges.GroupRange.{GroupRange}
use Rattle.regress_program.specs.Contents.{Ids, no_ids, union, ids_in, without_ids}
use Rattle.regress_program.specs.Linear.{is_back_reference, is_linear}
use Rattle.regress_program.specs.Program.{Op, accept, fail, part, split, begin_loop, repeat, end_loop, unsets, begin_group, end_group, look, Routine}
use Rattle.regress_program.specs.Ranges.{IsIn, inner_groups, no_groups, ranges_of}

-- the instructions that may follow
abbrev pub followers : Op → List ℕ
followers accept = []
followers fail = []
followers (part t next) = next ∷ []
followers (split first second) = first ∷ second ∷ []
followers (begin_loop greedy body next) = body ∷ next ∷ []
followers (repeat greedy body next) = body ∷ next ∷ []
followers (end_loop next) = next ∷ []
followers (unsets start end next) = next ∷ []
followers (begin_group next) = next ∷ []
followers (end_group id next) = next ∷ []
followers (look negate routine next) = next ∷ []

module _ (ranges : List GroupRange) where
  -- the groups that a routine changes
  abbrev pub range_at : (routine : ℕ) → GroupRange
  range_at routine = slice_index_or ranges routine no_groups

  -- the groups that may be set after an instruction, by those that may be set before it
  abbrev pub set_after : Op → Ids → Ids
  set_after (unsets start end next) set = without_ids start end set
  set_after (end_group id next) set = union set (λ k. k == id)
  set_after (look false routine next) set = union set (ids_in (range_at routine).start (range_at routine).end)
  set_after op set = set

  -- A lookaround that captures begins with its groups unset.
  abbrev pub BeginsUnset : Op → Ids → Type 0
  BeginsUnset (look false routine next) set = (id : ℕ) → IsIn (range_at routine) id → set id ≡ false
  BeginsUnset op set = Unit {0}

  module _ (ops : List Op) where
    -- From an instruction on, where these groups may be set, each lookaround among the next n instructions that captures
    -- begins with its groups unset.
    abbrev pub IsTidyFrom : (n : ℕ) → (pc : ℕ) → Ids → Type 0
    IsTidyFrom zero pc set = Unit {0}
    IsTidyFrom (suc n) pc set = (op : Op) → slice_get ops pc ≡ Some op →
        BeginsUnset op set × ((i next : ℕ) → slice_get (followers op) i ≡ Some next → IsTidyFrom n next (set_after op set))

-- It does from the start of the routine, where every group is unset.
abbrev pub IsTidyRoutine : List GroupRange → Routine → Type 0
IsTidyRoutine ranges r = (n : ℕ) → IsTidyFrom ranges r.ops n r.entry no_ids

-- Each routine is tidy.
abbrev pub IsTidy : List Routine → Type 0
IsTidy program = (i : ℕ) (r : Routine) → slice_get program i ≡ Some r → IsTidyRoutine (ranges_of program) r

-- No instruction of the program is a back reference.
abbrev pub has_no_back_reference : List Routine → Bool
has_no_back_reference program = list_all (λ r. list_all (λ op. not (is_back_reference op)) r.ops) program

-- The tables of the program lead to its first outcome: it has no back reference, and is linear or known to be tidy.
abbrev pub is_tabled : (tidy : Bool) → List Routine → Bool
is_tabled tidy program = has_no_back_reference program && (is_linear program || tidy)

-- the number of groups that lookarounds may set, if the tables of the program lead to its first outcome
abbrev pub table_groups : (tidy : Bool) → List Routine → Option ℕ
table_groups tidy program = if is_tabled tidy program then Some (inner_groups program) else None
