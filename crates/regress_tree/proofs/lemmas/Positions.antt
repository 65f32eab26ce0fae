-- What is required of the body of a `Loop1CharBody`, and of no other part.
use Rattle.std.proofs.Common.{◌≡◌, ℕ, true, [], ◌∷◌, refl}
use Rattle.std.proofs.lemmas.Bool.{false≢true, not-true}
use Rattle.regress_tree.specs.NodeTests.{leaf_matches_exactly_one_char, matches_exactly_one_char}
use Rattle.regress_tree.specs.Tree.{Leaf, char, char_set, match_any, match_any_except_line_terminator, bracket, Tree, leaf, cat, alt, wrapped}
use Rattle.regress_tree.specs.WellFormed.{captures, Position, one_character, inside, last, root, last_of, NotAsOneCharacter, AsOneCharacter, LeafIsAllowed, IsAllowed}
use Rattle.regress_tree.proofs.lemmas.Accepting.{accepts_some}

-- Elsewhere nothing is required;
pub AsOneCharacter-free : (p : Position) (P : Type 0) → NotAsOneCharacter p → AsOneCharacter p P
AsOneCharacter-free one_character P free = absurd free
AsOneCharacter-free inside P free = tt
AsOneCharacter-free last P free = tt
AsOneCharacter-free root P free = tt

-- what holds may be required anywhere;
pub AsOneCharacter-from : (p : Position) (P : Type 0) → P → AsOneCharacter p P
AsOneCharacter-from one_character P holds = holds
AsOneCharacter-from inside P holds = tt
AsOneCharacter-from last P holds = tt
AsOneCharacter-from root P holds = tt

-- and what follows from P may be required instead of P.
pub AsOneCharacter-map : (p : Position) (P Q : Type 0) → (P → Q) → AsOneCharacter p P → AsOneCharacter p Q
AsOneCharacter-map one_character P Q f holds = f holds
AsOneCharacter-map inside P Q f holds = holds
AsOneCharacter-map last P Q f holds = holds
AsOneCharacter-map root P Q f holds = holds

-- A part of a `Cat` is no such body.
pub last_of-free : (p : Position) → NotAsOneCharacter (last_of p)
last_of-free one_character = tt
last_of-free inside = tt
last_of-free last = tt
last_of-free root = tt

-- ---- a node that matches exactly one character is allowed as such a body wherever it is, whatever the number of
-- groups

leaf-one_character : (n k : ℕ) (l : Leaf) (p : Position) → leaf_matches_exactly_one_char l ≡ true → LeafIsAllowed n l p →
    LeafIsAllowed k l one_character
leaf-one_character n k (char c) p one m = m
leaf-one_character n k (char_set (c ∷ cs)) p one m = record { bounded = m.bounded; small = m.small; some = λ none. cc }
leaf-one_character n k match_any p one m = m
leaf-one_character n k match_any_except_line_terminator p one m = m
leaf-one_character n k (bracket invert intervals) p one m = record {
  canonical = m.canonical;
  some = accepts_some invert intervals m.canonical (not-true _ one);
}
leaf-one_character n k l p one m = absurd (false≢true one)

pub IsAllowed-one_character : (n k : ℕ) (t : Tree) (p : Position) → matches_exactly_one_char t ≡ true → IsAllowed n t p →
    IsAllowed k t one_character
IsAllowed-one_character n k (leaf l) p one m = leaf-one_character n k l p one m
IsAllowed-one_character n k (cat parts) p one m = absurd (false≢true one)
IsAllowed-one_character n k (alt left right) p one m = absurd (false≢true one)
IsAllowed-one_character n k (wrapped w body) p one m = absurd (false≢true one)

-- Such a body has no group.
pub captures-one_character : (n : ℕ) (t : Tree) → IsAllowed n t one_character → captures t ≡ []
captures-one_character n (leaf l) m = refl
captures-one_character n (cat parts) m = absurd m.0
captures-one_character n (alt left right) m = absurd m.0
captures-one_character n (wrapped w body) m = absurd m.0
