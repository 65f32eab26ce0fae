-- What one pass over a tree collects about its capture groups and back references.
use Rattle.std.specs.Prelude.{◌≡◌, ℕ, ◌+◌, ◌≤◌, ◌-◌, ◌/◌, ◌%◌, Bool, false, ◌&&◌, nat_le, ◌==◌, List, [], ◌∷◌, length, count_by, min, max, Option, Some, None, slice_get, if◌then◌else◌}
use Rattle.regress_base.specs.ByteBitmap.{contains}
use Rattle.regress_base.specs.declared.bytesearch.bitmap.ByteBitmap.{ByteBitmap}
use Rattle.regress_tree.specs.declared.ir.groups.GroupIds.{GroupIds}
use Rattle.regress_tree.specs.declared.ir.groups.Tally.{Tally}
use Rattle.regress_tree.specs.NodeTests.{is_goal}
use Rattle.regress_tree.specs.Tree.{Leaf, back_ref, Tree, Trees, leaf, cat, alt, wrapped, no_trees, more_trees}
use Rattle.regress_tree.specs.WellFormed.{Capture, captures, Position, IsAllowed}

-- ---- sets of ids

-- The page has bit k set; a page that is missing has none.
abbrev pub page_holds : Option ByteBitmap → ℕ → Bool
page_holds None k = false
page_holds (Some page) k = contains page k

-- The set contains id k: bit k % 256 of page k / 256 is set.
unfoldable pub holds : GroupIds → ℕ → Bool
holds ids k = page_holds (slice_get ids.pages (k / 256)) (k % 256)

-- how often the set contains the id: 0 or 1
abbrev pub times_held : GroupIds → ℕ → ℕ
times_held ids k = if holds ids k then 1 else 0

-- the number of groups with the id
abbrev pub times : ℕ → List Capture → ℕ
times k cs = count_by (λ c. c.id == k) cs

-- ---- the summary of a part

-- the least id, and one more than the greatest; 65536 and 0 if there is none
abbrev pub least_id : List Capture → ℕ
least_id [] = 65536
least_id (c ∷ cs) = min c.id (least_id cs)

-- one more than the greatest id
abbrev pub past_ids : List Capture → ℕ
past_ids [] = 0
past_ids (c ∷ cs) = max (c.id + 1) (past_ids cs)

-- the group number of a back reference, 1-based, or 0 for any other leaf
abbrev pub reference_of : Leaf → ℕ
reference_of (back_ref group icase) = group
reference_of l = 0

-- the greatest group number of a back reference, 1-based, or 0 if there is none
abbrev mutual
  pub reference : Tree → ℕ
  reference (leaf l) = reference_of l
  reference (cat parts) = reference_in_list parts
  reference (alt left right) = max (reference left) (reference right)
  reference (wrapped w body) = reference body

  pub reference_in_list : Trees → ℕ
  reference_in_list no_trees = 0
  reference_in_list (more_trees t ts) = max (reference t) (reference_in_list ts)

-- The summary of these groups, with the greatest back reference.
pub record IsTally (g : Tally) (cs : List Capture) (referred : ℕ) : Type 0 where
  pub count : g.count ≡ min (length cs) 0xFFFFFFFF
  pub least : g.least ≡ least_id cs
  pub past : g.past ≡ past_ids cs
  pub past_in_range : g.past ≤ 65536
  pub reference : g.reference ≡ referred

-- the summary of two parts together
abbrev pub joined : Tally → Tally → Tally
joined g h = record {
  count = min (g.count + h.count) 0xFFFFFFFF;
  least = min g.least h.least;
  past = max g.past h.past;
  reference = max g.reference h.reference;
}

-- the summary of one group
abbrev pub one : ℕ → Tally
one id = record { count = 1; least = id; past = id + 1; reference = 0 }

-- The ids are exactly start to end - 1, if they differ: none is outside, and their number is that of the range.
abbrev pub fill : (start end : ℕ) → Tally → Bool
fill start end g = nat_le start g.least && (nat_le g.past end && (g.count == end - start))

-- The part is allowed, the ids of its groups differ from each other and from those collected before, and they are now
-- collected too.
pub record IsSurveyed (Occurs : Type 0) (cs : List Capture) (referred : ℕ) (before after : GroupIds) (g : Tally) : Type 0 where
  pub occurs : Occurs
  pub ids : (k : ℕ) → times_held after k ≡ times_held before k + times k cs
  pub reported : IsTally g cs referred

-- The part is not allowed, or some id occurs twice.
pub record IsRejected (Occurs : Type 0) (cs : List Capture) (before : GroupIds) : Type 0 where
  pub refuted : Occurs → ((k : ℕ) → times_held before k + times k cs ≤ 1) → ⊥

-- The tree is allowed in that position in a tree with enough capture groups.
abbrev pub IsAllowedInside : Position → Tree → Type 0
IsAllowedInside p t = (n : ℕ) × IsAllowed n t p

-- The tree in that position is surveyed, with its groups and its back references.
abbrev pub SurveyedAt : Position → Tree → GroupIds → GroupIds → Tally → Type 0
SurveyedAt p t = IsSurveyed (IsAllowedInside p t) (captures t) (reference t)

-- The tree in that position is not allowed, or some id occurs twice.
abbrev pub RejectedAt : Position → Tree → GroupIds → Type 0
RejectedAt p t = IsRejected (IsAllowedInside p t) (captures t)

-- ---- the goal at the end

-- the list without a goal as its last part
abbrev pub without_goal : Trees → Trees
without_goal no_trees = no_trees
without_goal (more_trees t no_trees) = if is_goal t then no_trees else more_trees t no_trees
without_goal (more_trees t (more_trees u us)) = more_trees t (without_goal (more_trees u us))
