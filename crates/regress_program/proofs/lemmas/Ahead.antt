-- More characters than there are bytes ahead match nothing.
use Rattle.std.proofs.Common.{◌≡◌, ℕ, zero, suc, ◌+◌, ◌≤◌, ◌<◌, true, List, [], length, flat_map, All, refl, ◌∙◌, append-nil, arith}
use Rattle.std.proofs.lemmas.Bool.{eqb-false}
use Rattle.std.proofs.lemmas.List.Elements.{All-head}
use Rattle.regress_leaves.specs.Leaves.{exactly}
use Rattle.regress_leaves.proofs.lemmas.Leaves.{exactly-steps}
use Rattle.regress_prefilter.specs.OneCharacter.{takes_one}
use Rattle.regress_tree.specs.Matching.{steps}
use Rattle.regress_tree.specs.Reading.{Direction, forwards, backwards}
use Rattle.regress_tree.specs.Repetition.{iterations}
use Rattle.regress_tree.specs.Steps.{MatchState, Matcher, Setting}
use Rattle.regress_tree.specs.Tree.{Tree}
use Rattle.regress_program.specs.Cost.{bytes_ahead}
use Rattle.regress_program.specs.Stays.{IsOnward, IsReached}
use Rattle.regress_program.proofs.CountLemmas.{Sole, none, one, takes_one-sole}
use Rattle.regress_program.proofs.lemmas.Onward.{Stays-tree}

further : (d : Direction) (end here there : ℕ) → IsOnward d here there → there ≤ end → (there ≡ here → ⊥) →
    bytes_ahead d end there + 1 ≤ bytes_ahead d end here
further forwards end here there on inside other = omega (arith, on, inside, other)
further backwards end here there on inside other = omega (arith, on, inside, other)

module _ (setting : Setting) (bytes : List ℕ) (d : Direction) (t : Tree) (takes : takes_one t ≡ true) where
  abbrev f : Matcher
  f = steps setting bytes d t

  abbrev ahead : MatchState → ℕ
  ahead s = bytes_ahead d (length bytes) s.position

  after_one : (n : ℕ) (s : MatchState) (states : List MatchState) → Sole s states → All (IsReached bytes d s) states → ahead s < suc n →
      ((u : MatchState) → u.position ≤ length bytes → ahead u < n → iterations n f u ≡ []) → flat_map (iterations n f) states ≡ []
  after_one n s states none all few rest = refl
  after_one n s states (one u other) all few rest =
      let is = All-head (IsReached bytes d s) u [] all in
      append-nil (iterations n f u)
      ∙ rest u is.inside
      (omega (arith, few, further d (length bytes) s.position u.position is.onward is.inside (eqb-false u.position s.position other)))

  too_many : (n : ℕ) (s : MatchState) → s.position ≤ length bytes → ahead s < n → iterations n f s ≡ []
  too_many zero s inside few = absurd (omega (arith, few))
  too_many (suc n) s inside few =
      after_one n s (f s) (takes_one-sole setting bytes d t takes s) ((Stays-tree setting bytes d t).reached s inside) few (too_many n)

  pub exactly_none : (n : ℕ) (s : MatchState) → s.position ≤ length bytes → ahead s < n → steps setting bytes d (exactly n t) s ≡ []
  exactly_none n s inside few = exactly-steps setting bytes d n t s ∙ too_many n s inside few
