-- The result of traversing a tree.
use Rattle.std.specs.Prelude.{◌≡◌, Bool, true, false, IsTrue, Result, Ok, Err}
use Rattle.std.specs.declared.alloc.AllocError.{AllocError}
use Rattle.regress_tree.specs.Reading.{Direction}
use Rattle.regress_tree.specs.Tree.{Tree}
use Rattle.regress_tree.specs.Units.{IsLess}
use Rattle.regress_rewrite.specs.Law.{Keeps}

-- The result states whether the tree changed. Each change makes it less.
abbrev pub ReportsChange : Result Bool AllocError → Tree → Tree → Type 0
ReportsChange (Ok true) old new = IsLess new old
ReportsChange (Ok false) old new = new ≡ old
ReportsChange (Err e) old new = Unit {0}

-- The effect of traversing some of the tree `old`, where the first two facts state that what is traversed has nothing
-- to remove, before and after.
pub record Traversed (clean_before clean_after : Type 0) (is_exact : Bool) (d : Direction) (old new : Tree) (response : Result Bool AllocError) :
    Type 0 where
  -- the new tree keeps what the law requires
  pub keeps : Keeps d old new
  pub changed : ReportsChange response old new
  -- if nothing changed there was nothing to remove
  pub removed : response ≡ Ok false → clean_after
  -- an exact rewrite changes nothing if there is nothing to remove
  pub left : IsTrue is_exact → clean_before → new ≡ old

-- the same, where a predicate on trees states that there is nothing to remove
abbrev pub TraversedOf : (Tree → Type 0) → Bool → Direction → Tree → Tree → Result Bool AllocError → Type 0
TraversedOf Lacks is_exact d old new = Traversed (Lacks old) (Lacks new) is_exact d old new
