-- The backtrack stack: the points at which a run goes on after a failure, and the changes that are undone before.
use Rattle.std.specs.Prelude.{◌≡◌, ℕ, zero, suc, ◌+◌, ◌-◌, List, [], ◌∷◌, ◌++◌, Option, drop, filter, reverse, slice_set, Bool, true, false}
use Rattle.regress_tree.specs.Steps.{CaptureSpan}
use Rattle.regress_program.specs.Program.{At}
use Rattle.regress_backtrack.specs.declared.machine.Place.{Place}
use Rattle.regress_backtrack.specs.declared.machine.Entry.{Entry}
use Rattle.regress_backtrack.specs.declared.machine.Entry.TheVariants as entries
use Rattle.regress_backtrack.specs.declared.machine.Machine.{Machine}

-- the captures by group, and where the open groups began, the innermost first
pub record Groups : Type 0 where
  pub captures : List (Option CaptureSpan)
  pub begins : List ℕ

-- at a place, with these groups
abbrev pub at : Place → Groups → At
at p g = record { pc = p.pc; moved = p.moved; state = record { position = p.position; captures = g.captures }; begins = g.begins }

-- the places from this one up to `more` positions after it, the last one first, each after at least one iteration but for the first
abbrev pub range_points : Place → (more : ℕ) → Groups → List At
range_points p zero g = at p g ∷ []
range_points p (suc more) g = at (record { pc = p.pc; moved = true; position = p.position + suc more }) g ∷ range_points p more g

-- the groups before the change that an entry records
abbrev pub undone : Entry → Groups → Groups
undone (entries.Points first last) g = g
undone (entries.Capture group before) g = record g { captures = slice_set g.captures group before }
undone entries.Began g = record g { begins = drop 1 g.begins }
undone (entries.Ended from) g = record g { begins = from ∷ g.begins }

-- the backtrack points of an entry
abbrev pub point_of : Entry → Groups → List At
point_of (entries.Points first last) g = range_points first (last - first.position) g
point_of (entries.Capture group before) g = []
point_of entries.Began g = []
point_of (entries.Ended from) g = []

-- the backtrack points of these entries, the latest first
abbrev pub points_of : List Entry → Groups → List At
points_of [] g = []
points_of (e ∷ es) g = point_of e g ++ points_of es (undone e g)

-- the groups before these entries, the latest first
abbrev pub before_all : List Entry → Groups → Groups
before_all [] g = g
before_all (e ∷ es) g = before_all es (undone e g)

-- the groups of a machine
abbrev pub groups_of : Machine → Groups
groups_of m = record { captures = m.captures.items; begins = reverse m.stack.begins.items }

-- the backtrack points of a machine, the latest first
unfoldable pub points : Machine → List At
points m = points_of (reverse m.stack.entries.items) (groups_of m)

-- the groups at the start of the run
unfoldable pub rewound : Machine → Groups
rewound m = before_all (reverse m.stack.entries.items) (groups_of m)

-- The backtrack points are the same, and so are the groups at the start of the run.
pub record Kept (old new : Machine) : Type 0 where
  pub points : points new ≡ points old
  pub rewound : rewound new ≡ rewound old

-- A backtrack point was added.
pub record Chosen (p : Place) (old new : Machine) : Type 0 where
  pub groups : groups_of new ≡ groups_of old
  pub points : points new ≡ at p (groups_of old) ∷ points old
  pub rewound : rewound new ≡ rewound old

-- Backtrack points at consecutive positions were added.
pub record Ranged (p : Place) (more : ℕ) (old new : Machine) : Type 0 where
  pub groups : groups_of new ≡ groups_of old
  pub points : points new ≡ range_points p more (groups_of old) ++ points old
  pub rewound : rewound new ≡ rewound old

-- The latest entry is backtrack points at a place and at the `more` positions after it.
pub record EndsIn (m : Machine) (p : Place) (more : ℕ) : Type 0 where
  pub before : List Entry
  pub entries : m.stack.entries.items ≡ before ++ entries.Points p (p.position + more) ∷ []

-- Of these backtrack points, those at more than `kept` positions after the place were removed.
pub record Shortened (p : Place) (more kept : ℕ) (old new : Machine) : Type 0 where
  pub groups : groups_of new ≡ groups_of old
  pub others : List At
  pub all : points old ≡ range_points p more (groups_of old) ++ others
  pub fewer : points new ≡ range_points p kept (groups_of old) ++ others
  pub rewound : rewound new ≡ rewound old

-- where the innermost open group began; without one it is the position
abbrev pub closed_at : (position : ℕ) → List ℕ → ℕ
closed_at position [] = position
closed_at position (from ∷ begins) = from

-- The innermost open group ended, if there was one.
pub record Closed (position : ℕ) (old new : Groups) (began : ℕ) : Type 0 where
  pub captures : new.captures ≡ old.captures
  pub begins : new.begins ≡ drop 1 old.begins
  pub at_start : began ≡ closed_at position old.begins

abbrev pub is_change : Entry → Bool
is_change (entries.Points first last) = false
is_change (entries.Capture group before) = true
is_change entries.Began = false
is_change (entries.Ended from) = false

-- the changes of captures among these entries
abbrev pub changes_of : List Entry → List Entry
changes_of = filter is_change
