-- A lower bound for how far matching forwards advances.
use Rattle.std.specs.Prelude.{ℕ, ◌+◌, ◌≤◌, List, All}
use Rattle.regress_tree.specs.Matching.{steps}
use Rattle.regress_tree.specs.Reading.{forwards}
use Rattle.regress_tree.specs.Steps.{MatchState, Matcher, Setting}
use Rattle.regress_tree.specs.Tree.{Tree}

-- Each outcome is at least n positions after the start.
pub record Advances (n : ℕ) (f : Matcher) : Type 0 where
  pub onward : (s : MatchState) → All (λ t. s.position + n ≤ t.position) (f s)

-- Each match of the tree forwards takes at least n bytes, with any setting and in any text.
abbrev pub TakesAtLeast : ℕ → Tree → Type 0
TakesAtLeast n t = (setting : Setting) (bytes : List ℕ) → Advances n (steps setting bytes forwards t)
