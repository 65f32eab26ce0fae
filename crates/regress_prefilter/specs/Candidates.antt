-- The positions at which matches can begin, and those that a search leaves out.
use Rattle.std.specs.Prelude.{◌≡◌, ◌≤◌, ◌<◌, ℕ, Bool, false, not, List, [], Option, IfSome, MatchOption}
use Rattle.regress_base.specs.ByteBitmap.{contains}
use Rattle.regress_base.specs.Positions.{IsMemberAt}
use Rattle.regress_base.specs.declared.types.AnchorType.{AnchorType}
use Rattle.regress_base.specs.declared.types.AnchorType.TheVariants.{StartOfLine, EndOfLine}
use Rattle.regress_tree.specs.Matching.{steps}
use Rattle.regress_tree.specs.Reading.{forwards}
use Rattle.regress_tree.specs.Steps.{MatchState, Setting}
use Rattle.regress_tree.specs.Tree.{Tree}
use Rattle.regress_prefilter.specs.FirstPairs.{IsPairAt}
use Rattle.regress_prefilter.specs.Near.{IsNearby}
use Rattle.regress_prefilter.specs.declared.candidates.Candidates.{Candidates}
use Rattle.regress_prefilter.specs.declared.candidates.FirstBytes.{FirstBytes}
use Rattle.regress_prefilter.specs.declared.candidates.FirstBytes.TheVariants as first

-- `^` that is not multiline
abbrev pub is_start : AnchorType → (multiline : Bool) → Bool
is_start StartOfLine multiline = not multiline
is_start EndOfLine multiline = false

-- In the forward direction the tree matches only at the start of a text.
abbrev pub IsAnchored : Tree → Type 0
IsAnchored t = (setting : Setting) (bytes : List ℕ) (s : MatchState) → (s.position ≡ 0 → ⊥) → steps setting bytes forwards t s ≡ []

-- By the first bytes a match can begin at the offset.
abbrev pub CanBegin : FirstBytes → (text : List ℕ) → (position : ℕ) → Type 0
CanBegin first.Anywhere text position = Unit {0}
CanBegin first.Start text position = position ≡ 0
CanBegin (first.Bytes set) text position = IsMemberAt (contains set) text position
CanBegin (first.Pair pair) text position = IsPairAt pair text position

-- The offset is a candidate: a match can begin there by its first bytes, and a byte that each match contains is near.
pub record IsCandidate (candidates : Candidates) (text : List ℕ) (position : ℕ) : Type 0 where
  pub first : CanBegin candidates.first text position
  pub near : IfSome candidates.near (λ near. IsNearby near text position)

-- Every match of the tree in the forward direction begins at a candidate.
abbrev pub AreCandidates : Candidates → Tree → Type 0
AreCandidates candidates t = (setting : Setting) (bytes : List ℕ) (s : MatchState) → (IsCandidate candidates bytes s.position → ⊥) →
    steps setting bytes forwards t s ≡ []

-- the least offset, `from` or later, with the property, or None if there is none
abbrev pub IsNext : (P : ℕ → Type 0) → (from : ℕ) → Option ℕ → Type 0
IsNext P from r = MatchOption r ((k : ℕ) → from ≤ k → P k → ⊥) (λ i. (from ≤ i) × P i × ((k : ℕ) → from ≤ k → k < i → P k → ⊥))
