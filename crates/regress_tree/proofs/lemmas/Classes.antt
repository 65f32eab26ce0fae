-- What brackets match: tests that agree on the Unicode scalar values.
use Rattle.std.proofs.Common.{◌≡◌, ℕ, Bool, true, false, not, List, encode_utf8_all, ap}
use Rattle.std.specs.Char.{IsScalar}
use Rattle.regress_base.specs.Brackets.{is_accepted}
use Rattle.regress_base.specs.Intervals.{is_member, intervals_of}
use Rattle.regress_base.proofs.lemmas.Sets.{intervals_of-member}
use Rattle.regress_tree.specs.Assertions.{differ}
use Rattle.regress_tree.specs.Reading.{Direction, IsText, of_characters, of_bytes}
use Rattle.regress_tree.specs.Steps.{one_character}
use Rattle.regress_tree.proofs.lemmas.ByteSequences.{one_character-agree}
use Rattle.regress_base.proofs.lemmas.Literals.{scalar_in_range}
use Rattle.regress_tree.proofs.lemmas.Simulation.{Simulates, Simulates-same_right, Simulates-one_character}

-- Over bytes a test matches what another matches over characters, if the two agree on the scalar values.
pub agreeing_simulates : (text : List ℕ) → IsText text → (d : Direction) (p q : ℕ → Bool) → ((x : ℕ) → IsScalar x → q x ≡ p x) →
    Simulates text d (one_character d (of_characters text) p) (one_character d (of_bytes (encode_utf8_all text)) q)
agreeing_simulates text is_text d p q agree =
    Simulates-same_right text d _ _ _ (one_character-agree d (encode_utf8_all text) q p agree) (Simulates-one_character text is_text d p)

-- A bracket accepts the scalar values that pass its test or, inverted, the others.
pub is_accepted-scalar : (inverted : Bool) (p : ℕ → Bool) (x : ℕ) → IsScalar x →
    is_accepted inverted (intervals_of p) x ≡ differ inverted (p x)
is_accepted-scalar inverted p x s = by_test inverted
  where
    same : is_member (intervals_of p) x ≡ p x
    same = intervals_of-member p x (scalar_in_range x s)

    by_test : (b : Bool) → is_accepted b (intervals_of p) x ≡ differ b (p x)
    by_test true = ap not same
    by_test false = same
