-- A byte that each match of a part of a tree contains near its start, or before it.
use Rattle.std.specs.Prelude.{◌≡◌, ◌≤◌, ◌<◌, ◌+◌, ℕ, List, IfSome, All, length, slice_index}
use Rattle.regress_tree.specs.Matching.{steps}
use Rattle.regress_tree.specs.Onward.{Advances}
use Rattle.regress_tree.specs.Reading.{forwards}
use Rattle.regress_tree.specs.Steps.{MatchState, Matcher, Setting}
use Rattle.regress_tree.specs.Tree.{Tree}
use Rattle.regress_prefilter.specs.Required.{Needs, Requires}
use Rattle.regress_prefilter.specs.declared.near.Near.{Near}
use Rattle.regress_prefilter.specs.declared.near.Reach.{Reach}

-- The byte occurs at most `before` bytes before the offset and at most `within` bytes after it.
pub record IsNearby (near : Near) (bytes : List ℕ) (position : ℕ) : Type 0 where
  pub at : ℕ
  pub low : position ≤ at + near.before
  pub high : at ≤ position + near.within
  pub inside : at < length bytes
  pub is : slice_index bytes at ≡ near.byte

-- In the forward direction the tree has no match at any other offset.
abbrev pub BeginsNear : Near → Tree → Type 0
BeginsNear near t = Requires (λ bytes position. IsNearby near bytes position → ⊥) t

-- Each outcome is at most n positions after the start.
pub record AdvancesAtMost (n : ℕ) (f : Matcher) : Type 0 where
  pub within : (s : MatchState) → All (λ t. t.position ≤ s.position + n) (f s)

-- what is known of the outcomes of a part in a text
pub record IsReachOf (reach : Reach) (bytes : List ℕ) (f : Matcher) : Type 0 where
  pub onward : Advances 0 f
  pub width : IfSome reach.width (λ n. AdvancesAtMost n f)
  pub near : IfSome reach.near (λ near. Needs (λ position. IsNearby near bytes position → ⊥) f)

-- the same for every setting and every text
abbrev pub IsReach : Reach → Tree → Type 0
IsReach reach t = (setting : Setting) (bytes : List ℕ) → IsReachOf reach bytes (steps setting bytes forwards t)
