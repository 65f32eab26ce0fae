-- What compiled instructions keep of what a part of a pattern contains.
use Rattle.std.specs.Prelude.{◌≡◌, ℕ, ◌≤◌, ◌<◌, Bool, false, List, [], length, slice_get, Some}
use Rattle.regress_program.specs.declared.ranges.GroupRange.{GroupRange}
use Rattle.regress_program.specs.Compiled.{Extends, Code}
use Rattle.regress_program.specs.Contents.{Ids, union, AreWithin, Contents, alone}
use Rattle.regress_program.specs.Linear.{changes_captures, is_back_reference, is_capturing, is_capturing_lookaround}
use Rattle.regress_program.specs.Program.{Op, Routine}
use Rattle.regress_program.specs.Ranges.{IsIn, changed_by, ranges_of}
use Rattle.regress_program.specs.Tidy.{range_at, IsTidyFrom, IsTidyRoutine}

-- The ids of the range are start to end - 1, or some of them.
abbrev pub IsRangeWithin : (start end : ℕ) → GroupRange → Type 0
IsRangeWithin start end range = (id : ℕ) → IsIn range id → (start ≤ id) × (id < end)

-- The instructions of a routine have no back reference.
abbrev pub HasNoReference : List Op → Type 0
HasNoReference ops = (i : ℕ) (op : Op) → slice_get ops i ≡ Some op → is_back_reference op ≡ false

-- What holds of an instruction: in every program with these routines it changes only groups that the part changes.
pub record IsOf (routines : List Routine) (c : Contents) (op : Op) : Type 0 where
  pub plain : c.refers ≡ false → is_back_reference op ≡ false
  pub within : (program : List Routine) → Extends routines program → (start end : ℕ) → AreWithin start end c.changes →
      IsRangeWithin start end (changed_by (ranges_of program) op)
  pub spares : c.captures ≡ false → changes_captures op ≡ false
  pub looks : c.looks ≡ false → (program : List Routine) → Extends routines program → is_capturing_lookaround program op ≡ false

-- What holds of a routine: in every such program it is tidy if the part is.
pub record IsRoutineOf (routines : List Routine) (c : Contents) (r : Routine) : Type 0 where
  pub plain : c.refers ≡ false → HasNoReference r.ops
  pub tidy : (set : Ids) → c.tidy set → (program : List Routine) → Extends routines program → IsTidyRoutine (ranges_of program) r
  pub looks : c.looks ≡ false → (program : List Routine) → Extends routines program → (i : ℕ) (op : Op) → slice_get r.ops i ≡ Some op →
      is_capturing_lookaround program op ≡ false

-- The instructions and routines that have been added are of the part.
pub record Adds (old new : Code) (c : Contents) : Type 0 where
  pub ops : (i : ℕ) (op : Op) → length old.ops ≤ i → slice_get new.ops i ≡ Some op → IsOf new.routines c op
  pub routines : (i : ℕ) (r : Routine) → length old.routines ≤ i → slice_get new.routines i ≡ Some r → IsRoutineOf new.routines c r

-- The instructions from `low` on and before `high` are the same in both lists.
abbrev pub Agree : (low high : ℕ) → (ops others : List Op) → Type 0
Agree low high ops others = (i : ℕ) → low ≤ i → i < high → slice_get others i ≡ slice_get ops i

-- In every such program and routine, the instructions from `entry` on are tidy if the part is, and what follows it is,
-- where also the groups that the part changes may be set.
pub record Tidies (old new : Code) (c : Contents) (next entry : ℕ) : Type 0 where
  pub tidies : (program : List Routine) → Extends new.routines program → (ops : List Op) → Agree (length old.ops) (length new.ops) new.ops ops →
      (set : Ids) → c.tidy set → (n : ℕ) → IsTidyFrom (ranges_of program) ops n next (union set c.changes) →
      IsTidyFrom (ranges_of program) ops n entry set

-- What has been added is of the part, and tidy from `entry` on if the part is.
pub record Holds (old new : Code) (c : Contents) (next entry : ℕ) : Type 0 where
  pub adds : Adds old new c
  pub tidies : Tidies old new c next entry

-- The routine i has been added for the part: it changes only groups that the part changes.
pub record HoldsRoutine (old new : Code) (c : Contents) (i : ℕ) : Type 0 where
  pub count : length new.ops ≡ length old.ops
  pub routines : (j : ℕ) (r : Routine) → length old.routines ≤ j → slice_get new.routines j ≡ Some r → IsRoutineOf new.routines (alone c) r
  pub within : (program : List Routine) → Extends new.routines program → (start end : ℕ) → AreWithin start end c.changes →
      IsRangeWithin start end (range_at (ranges_of program) i)
  pub spares : c.captures ≡ false → (program : List Routine) → Extends new.routines program → is_capturing (slice_get program i) ≡ false

-- ---- all that a part contains has been added

-- None of the instructions that have been added passes the test.
abbrev pub OpsLack : (test : Op → Bool) → (old new : List Op) → Type 0
OpsLack test old new = (i : ℕ) (op : Op) → length old ≤ i → slice_get new i ≡ Some op → test op ≡ false

-- The same for those of the routines that have been added.
abbrev pub RoutinesLack : (test : Op → Bool) → (old new : List Routine) → Type 0
RoutinesLack test old new = (i : ℕ) (r : Routine) → length old ≤ i → slice_get new i ≡ Some r → OpsLack test [] r.ops

pub record CodeLacks (test : Op → Bool) (old new : Code) : Type 0 where
  pub ops : OpsLack test old.ops new.ops
  pub routines : RoutinesLack test old.routines new.routines

-- Whatever the part contains is among what has been added.
pub record Covers (old new : Code) (c : Contents) : Type 0 where
  pub refers : CodeLacks is_back_reference old new → c.refers ≡ false
  pub captures : OpsLack changes_captures old.ops new.ops → c.captures ≡ false
  pub looks : (program : List Routine) → Extends new.routines program → CodeLacks (is_capturing_lookaround program) old new → c.looks ≡ false

-- Whatever the part contains is in the routine i, or in a routine that it refers to.
pub record CoversRoutine (old new : Code) (c : Contents) (i : ℕ) : Type 0 where
  pub refers : RoutinesLack is_back_reference old.routines new.routines → c.refers ≡ false
  pub captures : (program : List Routine) → Extends new.routines program → is_capturing (slice_get program i) ≡ false → c.captures ≡ false
  pub looks : (program : List Routine) → Extends new.routines program →
      RoutinesLack (is_capturing_lookaround program) old.routines new.routines → c.looks ≡ false
