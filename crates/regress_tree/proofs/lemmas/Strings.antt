-- Sets of strings, over the bytes of a text and over its characters.
use Rattle.std.proofs.Common.{ℕ, Bool, List, [], ◌∷◌, encode_utf8_all}
use Rattle.regress_tree.specs.Reading.{Direction, IsText, of_characters, of_bytes}
use Rattle.regress_tree.specs.References.{in_order, any_string}
use Rattle.regress_tree.proofs.lemmas.References.{Simulates-all_of}
use Rattle.regress_tree.proofs.lemmas.Simulation.{Simulates, Simulates-fail, Simulates-or}

pub Simulates-any_string : (text : List ℕ) → IsText text → (d : Direction) (same : ℕ → ℕ → Bool) (strings : List (List ℕ)) →
    Simulates text d (any_string d (of_characters text) same strings) (any_string d (of_bytes (encode_utf8_all text)) same strings)
unfolding any_string
Simulates-any_string text is_text d same [] = Simulates-fail text d
Simulates-any_string text is_text d same (string ∷ strings) =
    Simulates-or text d _ _ _ _ (Simulates-all_of text is_text d same (in_order d string)) (Simulates-any_string text is_text d same strings)
