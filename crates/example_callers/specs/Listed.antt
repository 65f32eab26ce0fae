-- The groups that a linter lists.
use Rattle.std.specs.Prelude.{◌≡◌, false, List, ◌++◌, map, option_map, string_bytes}
use Rattle.regress_front.specs.Tree.{Tree}
use Rattle.regress_tree.specs.Gathered.{own_group}
use Rattle.regress_front.specs.WellFormed.{Capture}
use Rattle.example_callers.specs.declared.linter.Group.{Group}
use Rattle.example_callers.specs.declared.linter.Linter.{Linter}

-- a listed group as a capture of a tree, with its name as UTF-8
abbrev pub group_of : Group → Capture
group_of group = record { id = group.id; name = option_map string_bytes group.name }

abbrev pub groups_of : List Group → List Capture
groups_of = map group_of

-- Unless an allocation failed, these groups are listed after those listed before.
pub record Lists (old new : Linter) (found : List Capture) : Type 0 where
  pub before : new.out_of_memory ≡ false → old.out_of_memory ≡ false
  pub listed : new.out_of_memory ≡ false → groups_of new.report.groups.items ≡ groups_of old.report.groups.items ++ found

abbrev pub Notes : Linter → Linter → Tree → Type 0
Notes old new t = Lists old new (own_group t)
