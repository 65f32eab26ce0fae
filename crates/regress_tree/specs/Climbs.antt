-- The calls of a walk in postorder on the right sides of alternatives, on the way up: the lowest one first.
use Rattle.std.specs.Prelude.{◌≡◌, ℕ, zero, suc, Bool}
use Rattle.regress_tree.specs.Tree.{Tree, alt}
use Rattle.regress_tree.specs.Spine.{spine_length}
use Rattle.regress_tree.specs.Visits.{deeper}

-- the right side of an `Alt`, or any other tree itself
abbrev pub right_side : Tree → Tree
right_side (alt left right) = right
right_side t = t

-- the tree that is n right sides further down
abbrev pub down : ℕ → Tree → Tree
down zero t = t
down (suc k) t = right_side (down k t)

-- the depth of the tree that is n right sides below one at this depth
abbrev pub further : ℕ → ℕ → ℕ
further zero depth = depth
further (suc k) depth = deeper (further k depth)

-- Calls on n trees along the right sides, each of which leaves its tree unchanged. `Call` is as in `Visits`.
abbrev pub Climbed : {State : Type 0} → (State → Tree → ℕ → Bool → State → Tree → Bool → Type 0) →
    ℕ → (depth : ℕ) (lookbehind : Bool) → Tree → State → State → Type 0
Climbed Call zero depth lookbehind t a b = a ≡ b
Climbed {State} Call (suc k) depth lookbehind t a c =
    (b : State) × (skip : Bool) × Call a (down k t) (further k depth) lookbehind b (down k t) skip × Climbed Call k depth lookbehind t b c

-- Calls on the trees of a reversed spine, each with what the calls so far have left as its right side: they leave the
-- tree u.
abbrev pub ClimbedMut : {State : Type 0} → (State → Tree → ℕ → Bool → State → Tree → Bool → Type 0) →
    (above : Tree) (depth : ℕ) (lookbehind : Bool) (t u : Tree) (a b : State) → Type 0
ClimbedMut {State} Call (alt left above) depth lookbehind t v a c =
    (b : State) × (u : Tree) × (skip : Bool) × Call a (alt left t) (further (spine_length above) depth) lookbehind b u skip
    × ClimbedMut Call above depth lookbehind u v b c
ClimbedMut Call none depth lookbehind t u a b = (t ≡ u) × (a ≡ b)
