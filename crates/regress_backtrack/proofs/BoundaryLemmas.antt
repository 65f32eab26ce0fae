-- Word boundaries by the characters next to a position.
use Rattle.std.proofs.Common.{◌≡◌, ℕ, ◌≤◌, Bool, false, if◌then◌else◌, List, [], ◌∷◌, length, sym, ap, ◌∙◌, arith}
use Rattle.std.proofs.lemmas.List.{length-drop}
use Rattle.regress_base.specs.Classes.{word_characters}
use Rattle.regress_base.specs.Intervals.{is_member}
use Rattle.regress_leaves.proofs.ReadingLemmas.{before_start, end_none, read_after_none}
use Rattle.regress_tree.specs.Assertions.{at_boundary, passes}
use Rattle.regress_tree.specs.Matching.{steps}
use Rattle.regress_tree.specs.Reading.{Direction, of_bytes, read_after, read_before}
use Rattle.regress_tree.specs.Steps.{MatchState, Setting, hold_at}
use Rattle.regress_tree.specs.Tree.{Tree, leaf as leaf_of, word_boundary}

-- no character is before the start
pub passes_start : (test : ℕ → Bool) (bytes : List ℕ) (k : ℕ) → k ≡ 0 → false ≡ passes test (read_before bytes k)
passes_start test bytes k start = sym (ap (λ n. passes test (read_before bytes n)) start ∙ ap (passes test) (before_start bytes))

-- no character is after the end
pub passes_end : (test : ℕ → Bool) (bytes : List ℕ) (k : ℕ) → length bytes ≤ k → false ≡ passes test (read_after bytes k)
passes_end test bytes k le =
    sym (ap (passes test) (read_after_none bytes k (end_none bytes k (omega (arith, length-drop k bytes, le)))))

-- the outcomes of a word boundary
pub boundary_steps : (setting : Setting) (bytes : List ℕ) (d : Direction) (t : Tree) (invert : Bool) (s : MatchState) (position : ℕ) (holds : Bool) →
    t ≡ leaf_of (word_boundary invert false) → s.position ≡ position →
    holds ≡ at_boundary (of_bytes bytes) (is_member word_characters) invert position →
    steps setting bytes d t s ≡ (if holds then s ∷ [] else [])
unfolding hold_at
boundary_steps setting bytes d t invert s position holds is here at =
    ap (λ x. steps setting bytes d x s) is
    ∙ ap (λ b. if b then s ∷ [] else []) (ap (at_boundary (of_bytes bytes) (is_member word_characters) invert) here ∙ sym at)
