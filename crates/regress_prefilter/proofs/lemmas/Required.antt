-- A tree has no match where what it requires is absent.
use Rattle.std.proofs.Common.{◌≡◌, ℕ, List, [], ap}
use Rattle.regress_tree.specs.Matching.{matches}
use Rattle.regress_tree.specs.Reading.{forwards}
use Rattle.regress_tree.specs.Steps.{MatchState, dedup, Setting}
use Rattle.regress_tree.specs.Tree.{Tree}
use Rattle.regress_prefilter.specs.Required.{Requires}

pub no_matches : (absent : List ℕ → ℕ → Type 0) (t : Tree) → Requires absent t → (setting : Setting) (bytes : List ℕ) (s : MatchState) →
    absent bytes s.position → matches setting bytes forwards t s ≡ []
no_matches absent t is setting bytes s none = ap dedup ((is setting bytes).none s none)
