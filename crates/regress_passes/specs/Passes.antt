-- The calls that a pass makes of a rewrite, and how their results are carried out.
use Rattle.std.specs.Prelude.{◌≡◌, ◌≢◌, ℕ, Bool, true, false, Result, Ok, Err}
use Rattle.std.specs.declared.alloc.AllocError.{AllocError}
use Rattle.regress_tree.specs.declared.ir.walker.Walk.{Walk}
use Rattle.regress_tree.specs.Tree.{Tree}
use Rattle.regress_tree.specs.Visits.{Visited}
use Rattle.regress_rewrite.specs.declared.action.PassAction.{PassAction}
use Rattle.regress_rewrite.specs.Law.{after}

-- the tree after a call, where the call left `left` in the node
abbrev pub made : Result PassAction AllocError → Tree → Tree
made (Ok action) left = after action left
made (Err e) left = left

-- whether the call succeeds
abbrev pub is_success : {A : Type 0} → Result A AllocError → Bool
is_success (Ok x) = true
is_success (Err e) = false

module _ {R : Type 0} (step : R → Tree → Walk → Result PassAction AllocError → Tree → R → Type 0) (unicode : Bool) where
  -- A call on the node t, at this depth, in a lookbehind or not. It takes the rewrite from the state a to b, and its
  -- action is carried out, with the tree u. After an error there is no call, and the tree is unchanged.
  abbrev pub Applied : R × Bool → Tree → ℕ → Bool → R × Bool → Tree → Bool → Type 0
  Applied (a, true) t depth lookbehind (b, going) u skip =
      (response : Result PassAction AllocError) × (left : Tree)
      × step a t (record { skip_children = false; depth = depth; in_lookbehind = lookbehind; unicode = unicode }) response left b
      × (u ≡ made response left) × (going ≡ is_success response)
  Applied (a, false) t depth lookbehind (b, going) u skip = (b ≡ a) × (going ≡ false) × (u ≡ t)

  -- A traversal with such calls, children before parents. `going` states whether no call returned an error.
  abbrev pub TraversalOf : (a : R) (t u : Tree) (b : R) (going : Bool) → Type 0
  TraversalOf a t u b going = Visited Applied true 0 false t u (a, true) (b, going)

  -- Traversals, until one leaves the tree unchanged or meets an error.
  pub data Passed : (a : R) (t u : Tree) (b : R) (going : Bool) → Type 0 where
    unchanged : {a b : R} {t : Tree} → TraversalOf a t t b true → Passed a t t b true
    stopped : {a b : R} {t u : Tree} → TraversalOf a t u b false → Passed a t u b false
    again : {a b c : R} {t u v : Tree} {going : Bool} → TraversalOf a t u b true → u ≢ t → Passed b u v c going → Passed a t v c going
