-- What the class of a literal matches.
use Rattle.std.proofs.Common.{◌≡◌, ℕ, ◌==◌, Bool, List, [], ◌∷◌, encode_utf8_all, sym, ap, ◌∙◌}
use Rattle.regress_base.specs.Listing.{lists}
use Rattle.regress_base.specs.Table.{Table, denotes, class_of}
use Rattle.regress_base.proofs.lemmas.Literals.{lists-one, lists-class_of-scalar}
use Rattle.regress_tree.specs.Matching.{leaf_steps, steps}
use Rattle.regress_tree.specs.Reading.{Direction, IsText, of_characters, of_bytes}
use Rattle.regress_tree.specs.Steps.{MatchState, one_character, Setting}
use Rattle.regress_tree.specs.Tree.{leaf, char, char_set}
use Rattle.regress_tree.proofs.lemmas.ByteSequences.{one_character-agree}
use Rattle.regress_tree.proofs.lemmas.Simulation.{Simulates, Simulates-same_right, Simulates-one_character}

module _ (setting : Setting) (bytes : List ℕ) (d : Direction) where
  -- A single code point matches as the set of it.
  pub char-steps : (c : ℕ) (s : MatchState) → leaf_steps setting bytes d (char c) s ≡ one_character d (of_bytes bytes) (lists (c ∷ [])) s
  char-steps c s = one_character-agree d bytes (λ x. x == c) (lists (c ∷ [])) (λ x scalar_value. sym (lists-one c x)) s

  -- Over bytes a class matches what the literal matches.
  pub class_of-steps : (table : Table) (icase unicode : Bool) (c : ℕ) (s : MatchState) →
      one_character d (of_bytes bytes) (lists (class_of table icase unicode c)) s
      ≡ one_character d (of_bytes bytes) (denotes table icase unicode c) s
  class_of-steps table icase unicode c s =
      one_character-agree d bytes _ _ (lists-class_of-scalar table icase unicode c) s

module _ (setting : Setting) (text : List ℕ) (is_text : IsText text) (d : Direction) (table : Table) (icase unicode : Bool) (c : ℕ) where
  -- Over bytes the class of a literal matches what the literal matches over characters.
  pub class_simulates : Simulates text d (one_character d (of_characters text) (denotes table icase unicode c))
      (steps setting (encode_utf8_all text) d (leaf (char_set (class_of table icase unicode c))))
  class_simulates =
      Simulates-same_right text d _ _ _ (class_of-steps setting (encode_utf8_all text) d table icase unicode c)
      (Simulates-one_character text is_text d (denotes table icase unicode c))

  -- The same holds of the code point of a class that has only one.
  pub char_simulates : (x : ℕ) → class_of table icase unicode c ≡ x ∷ [] →
      Simulates text d (one_character d (of_characters text) (denotes table icase unicode c))
      (steps setting (encode_utf8_all text) d (leaf (char x)))
  char_simulates x one =
      Simulates-same_right text d _ _ _
      (λ s. char-steps setting (encode_utf8_all text) d x s
      ∙ ap (λ xs. one_character d (of_bytes (encode_utf8_all text)) (lists xs) s) (sym one))
      class_simulates
