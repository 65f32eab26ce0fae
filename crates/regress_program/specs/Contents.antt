-- What a part of a pattern contains: back references, the groups that it changes, and lookarounds that capture.
use Rattle.std.specs.Prelude.{◌≡◌, ℕ, ◌≤◌, ◌<◌, ◌==◌, Bool, true, false, not, ◌&&◌, ◌||◌, nat_le, nat_lt}
use Rattle.regress_base.specs.declared.types.Quantifier.{Quantifier}
use Rattle.regress_tree.specs.Tree.{Leaf, back_ref, Wrapper, capture_group, loop, loop_one, lookaround, Tree, Trees, leaf, cat, alt, wrapped, no_trees, more_trees}
use Rattle.regress_program.specs.Linear.{is_never}

-- a set of ids of groups
abbrev pub Ids : Type 0
Ids = ℕ → Bool

abbrev pub no_ids : Ids
no_ids id = false

-- the ids of both
abbrev pub union : Ids → Ids → Ids
union a b id = a id || b id

-- the ids start to end - 1
abbrev pub ids_in : (start end : ℕ) → Ids
ids_in start end id = nat_le start id && nat_lt id end

-- the ids without those
abbrev pub without_ids : (start end : ℕ) → Ids → Ids
without_ids start end a id = a id && not (ids_in start end id)

-- The ids of a are among those of b.
abbrev pub AreAmong : (a b : Ids) → Type 0
AreAmong a b = (id : ℕ) → a id ≡ true → b id ≡ true

-- The ids are start to end - 1, or some of them.
abbrev pub AreWithin : (start end : ℕ) → Ids → Type 0
AreWithin start end a = (id : ℕ) → a id ≡ true → (start ≤ id) × (id < end)

-- The ids of a are those of a range, and b has none of them.
pub record AreSeparate (a b : Ids) : Type 0 where
  pub start : ℕ
  pub end : ℕ
  pub within : AreWithin start end a
  pub whole : (id : ℕ) → start ≤ id → id < end → a id ≡ true
  pub free : (id : ℕ) → start ≤ id → id < end → b id ≡ false

-- What a part contains: back references; whether it changes captures, other than in lookarounds; lookarounds that are not
-- negated and do; and the groups that it changes. `tidy` are the sets of groups of which some may be set when it begins: each lookaround in it that
-- captures then begins with its own groups unset.
pub record Contents : Type 1 where
  pub refers : Bool
  pub captures : Bool
  pub looks : Bool
  pub changes : Ids
  pub tidy : Ids → Type 0

abbrev pub nothing : Contents
nothing = record { refers = false; captures = false; looks = false; changes = no_ids; tidy = λ set. Unit {0} }

abbrev pub reference : Contents
reference = record nothing { refers = true }

-- one after the other
abbrev pub in_sequence : Contents → Contents → Contents
in_sequence a b = record {
  refers = a.refers || b.refers;
  captures = a.captures || b.captures;
  looks = a.looks || b.looks;
  changes = union a.changes b.changes;
  tidy = λ set. a.tidy set × b.tidy (union set a.changes);
}

-- one or the other
abbrev pub either_of : Contents → Contents → Contents
either_of a b = record {
  refers = a.refers || b.refers;
  captures = a.captures || b.captures;
  looks = a.looks || b.looks;
  changes = union a.changes b.changes;
  tidy = λ set. a.tidy set × b.tidy set;
}

-- a capture group
abbrev pub grouped : (id : ℕ) → Contents → Contents
grouped id a = record a { captures = true; changes = union a.changes (λ k. k == id) }

-- an iteration, which unsets the groups start to end - 1
abbrev pub in_iteration : (start end : ℕ) → Contents → Contents
in_iteration start end a = record {
  refers = a.refers;
  captures = nat_lt start end || a.captures;
  looks = a.looks;
  changes = union (ids_in start end) a.changes;
  tidy = λ set. (before : Ids) → AreAmong before (without_ids start end set) → a.tidy before;
}

-- any number of iterations
abbrev pub in_iterations : Contents → Contents
in_iterations a = record {
  refers = a.refers;
  captures = a.captures;
  looks = a.looks;
  changes = a.changes;
  tidy = λ set. (before : Ids) → AreAmong before (union set a.changes) → a.tidy before;
}

-- a loop of such iterations, which has no instruction if it has none of them
abbrev pub in_loop : Quantifier → Contents → Contents
in_loop q a = record a {
  refers = not (is_never q) && a.refers;
  captures = not (is_never q) && a.captures;
  looks = not (is_never q) && a.looks;
}

-- mandatory iterations of a, and then b
abbrev pub after_all : Contents → Contents → Contents
after_all a b = record {
  refers = a.refers || b.refers;
  captures = a.captures || b.captures;
  looks = a.looks || b.looks;
  changes = union a.changes b.changes;
  tidy = λ set. ((before : Ids) → AreAmong before (union set a.changes) → a.tidy before) × ((before : Ids) → AreAmong before (union set a.changes) → b.tidy before);
}

-- a routine of its own, which begins with every group unset
abbrev pub alone : Contents → Contents
alone a = record {
  refers = a.refers;
  captures = a.captures;
  looks = a.looks;
  changes = a.changes;
  tidy = λ set. a.tidy no_ids;
}

-- a lookaround
abbrev pub in_lookaround : (negate : Bool) → Contents → Contents
in_lookaround negate a = record {
  refers = a.refers;
  captures = false;
  looks = (not negate && a.captures) || a.looks;
  changes = a.changes;
  tidy = λ set. a.tidy no_ids × AreSeparate a.changes set;
}

abbrev pub content_of_leaf : Leaf → Contents
content_of_leaf (back_ref group icase) = reference
content_of_leaf l = nothing

abbrev pub content_of_wrapper : Wrapper → Contents → Contents
content_of_wrapper (capture_group id name) a = grouped id a
content_of_wrapper (loop quantifier start end) a = in_loop quantifier (in_iterations (in_iteration start end a))
content_of_wrapper (loop_one quantifier) a = in_loop quantifier (in_iterations (in_iteration 0 0 a))
content_of_wrapper (lookaround negate backwards start end) a = in_lookaround negate a

abbrev mutual
  pub content : Tree → Contents
  content (leaf l) = content_of_leaf l
  content (cat parts) = content_of_parts parts
  content (alt left right) = either_of (content left) (content right)
  content (wrapped w body) = content_of_wrapper w (content body)

  pub content_of_parts : Trees → Contents
  content_of_parts no_trees = nothing
  content_of_parts (more_trees t ts) = in_sequence (content t) (content_of_parts ts)
