-- Joined lists of trees.
use Rattle.std.proofs.Common.{◌≡◌, ℕ, List, [], ◌∷◌, ◌++◌, map, flat_map, refl, sym, ap, ◌∙◌, append_assoc, append-nil}
use mathlib.Core.Path.{fun_ext}
use Rattle.std.proofs.lemmas.List.{map-append}
use Rattle.regress_tree.specs.declared.ir.node.Node.{Node}
use Rattle.regress_tree.specs.Reading.{Direction}
use Rattle.regress_tree.specs.Steps.{MatchState, Setting}
use Rattle.regress_tree.specs.Tree.{Leaf, empty, goal, char, byte_sequence, byte_set, char_set, match_any, match_any_except_line_terminator, anchor, word_boundary, bracket, back_ref, string_set, Tree, Trees, leaf, cat, alt, wrapped, no_trees, more_trees, list, append_trees, tree, trees}
use Rattle.regress_tree.specs.Matching.{steps, steps_of_parts}
use Rattle.regress_tree.specs.WellFormed.{captures, captures_of_trees, Position, one_character, inside, last, root, NotAsOneCharacter, GoalIsAllowed, last_of, LeafIsAllowed, IsAllowed, PartsAllowed}
use Rattle.regress_tree.proofs.lemmas.Outcomes.{flat_map-then}
use Rattle.regress_tree.proofs.lemmas.Positions.{AsOneCharacter-free}

pub append_trees-none : (ts : Trees) → append_trees ts no_trees ≡ ts
append_trees-none no_trees = refl
append_trees-none (more_trees t ts) = ap (more_trees t) (append_trees-none ts)

pub append_trees-assoc : (ts us vs : Trees) → append_trees (append_trees ts us) vs ≡ append_trees ts (append_trees us vs)
append_trees-assoc no_trees us vs = refl
append_trees-assoc (more_trees t ts) us vs = ap (more_trees t) (append_trees-assoc ts us vs)

pub list-append : (ts us : List Tree) → list (ts ++ us) ≡ append_trees (list ts) (list us)
list-append [] us = refl
list-append (t ∷ ts) us = ap (more_trees t) (list-append ts us)

pub trees-append : (xs ys : List Node) → trees (xs ++ ys) ≡ append_trees (trees xs) (trees ys)
trees-append xs ys = ap list (map-append tree xs ys) ∙ list-append (map tree xs) (map tree ys)

-- ---- what a list matches and captures

pub steps-append : (setting : Setting) (bytes : List ℕ) (d : Direction) (ts us : Trees) (s : MatchState) →
    steps_of_parts setting bytes d (append_trees ts us) s ≡ flat_map (steps_of_parts setting bytes d us) (steps_of_parts setting bytes d ts s)
steps-append setting bytes d no_trees us s = sym (append-nil _)
steps-append setting bytes d (more_trees t ts) us s =
    ap (λ f. flat_map f (steps setting bytes d t s)) (fun_ext (steps-append setting bytes d ts us))
    ∙ flat_map-then (steps_of_parts setting bytes d ts) (steps_of_parts setting bytes d us) (steps setting bytes d t s)

pub captures-append : (ts us : Trees) → captures_of_trees (append_trees ts us) ≡ captures_of_trees ts ++ captures_of_trees us
captures-append no_trees us = refl
captures-append (more_trees t ts) us =
    ap (λ cs. captures t ++ cs) (captures-append ts us) ∙ sym (append_assoc (captures t) (captures_of_trees ts) (captures_of_trees us))

-- ---- a tree that is allowed as the last part of a `Cat` is allowed in the position of the `Cat`

LeafIsAllowed-wider : (n : ℕ) (p q : Position) → NotAsOneCharacter q → (GoalIsAllowed p → GoalIsAllowed q) →
    (l : Leaf) → LeafIsAllowed n l p → LeafIsAllowed n l q
LeafIsAllowed-wider n p q free ends empty m = free
LeafIsAllowed-wider n p q free ends goal m = ends m
LeafIsAllowed-wider n p q free ends (char c) m = m
LeafIsAllowed-wider n p q free ends (byte_sequence bytes) m = record {
  characters = m.characters;
  are_scalar = m.are_scalar;
  encoded = m.encoded;
  one = AsOneCharacter-free q _ free;
}
LeafIsAllowed-wider n p q free ends (byte_set bytes) m = record { bounded = m.bounded; small = m.small; some = AsOneCharacter-free q _ free }
LeafIsAllowed-wider n p q free ends (char_set characters) m = record { bounded = m.bounded; small = m.small; some = AsOneCharacter-free q _ free }
LeafIsAllowed-wider n p q free ends match_any m = tt
LeafIsAllowed-wider n p q free ends match_any_except_line_terminator m = tt
LeafIsAllowed-wider n p q free ends (anchor kind multiline) m = free
LeafIsAllowed-wider n p q free ends (word_boundary invert unicode_icase) m = free
LeafIsAllowed-wider n p q free ends (bracket invert intervals) m = record { canonical = m.canonical; some = AsOneCharacter-free q _ free }
LeafIsAllowed-wider n p q free ends (back_ref group icase) m = record { free = free; low = m.low; high = m.high }
LeafIsAllowed-wider n p q free ends (string_set strings icase) m = record { free = free; bounded = m.bounded }

IsAllowed-last : (n : ℕ) (t : Tree) → IsAllowed n t inside → IsAllowed n t last
IsAllowed-last n (leaf l) m = LeafIsAllowed-wider n inside last tt (λ none. absurd none) l m
IsAllowed-last n (cat parts) m = m
IsAllowed-last n (alt left right) m = m
IsAllowed-last n (wrapped w body) m = m

PartsAllowed-last : (n : ℕ) (ts : Trees) → PartsAllowed n ts inside → PartsAllowed n ts last
PartsAllowed-last n no_trees m = tt
PartsAllowed-last n (more_trees t no_trees) m = IsAllowed-last n t m
PartsAllowed-last n (more_trees t (more_trees u ts)) m = (m.0, PartsAllowed-last n (more_trees u ts) m.1)

IsAllowed-root : (n : ℕ) (t : Tree) → IsAllowed n t last → IsAllowed n t root
IsAllowed-root n (leaf l) m = LeafIsAllowed-wider n last root tt (λ ends. tt) l m
IsAllowed-root n (cat parts) m = (tt, PartsAllowed-last n parts m.1)
IsAllowed-root n (alt left right) m = m
IsAllowed-root n (wrapped w body) m = m

pub IsAllowed-from_last : (n : ℕ) (t : Tree) (p : Position) → NotAsOneCharacter p → IsAllowed n t (last_of p) → IsAllowed n t p
IsAllowed-from_last n t one_character any m = absurd any
IsAllowed-from_last n t inside any m = m
IsAllowed-from_last n t last any m = IsAllowed-last n t m
IsAllowed-from_last n t root any m = IsAllowed-root n t m

-- The parts of a `Cat` that is the last part are allowed in the position of that part.
pub PartsAllowed-last_of : (n : ℕ) (ts : Trees) (p : Position) → PartsAllowed n ts (last_of (last_of p)) → PartsAllowed n ts (last_of p)
PartsAllowed-last_of n ts one_character m = m
PartsAllowed-last_of n ts inside m = m
PartsAllowed-last_of n ts last m = m
PartsAllowed-last_of n ts root m = PartsAllowed-last n ts m

-- ---- joined lists of allowed trees

IsAllowed-last_of : (n : ℕ) (t : Tree) (p : Position) → IsAllowed n t inside → IsAllowed n t (last_of p)
IsAllowed-last_of n t one_character m = m
IsAllowed-last_of n t inside m = m
IsAllowed-last_of n t last m = m
IsAllowed-last_of n t root m = IsAllowed-last n t m

pub PartsAllowed-more : (n : ℕ) (t : Tree) (ts : Trees) (p : Position) → IsAllowed n t inside → PartsAllowed n ts (last_of p) →
    PartsAllowed n (more_trees t ts) (last_of p)
PartsAllowed-more n t no_trees p here later = IsAllowed-last_of n t p here
PartsAllowed-more n t (more_trees u ts) p here later = (here, later)

pub PartsAllowed-append : (n : ℕ) (ts us : Trees) (p : Position) → PartsAllowed n ts inside → PartsAllowed n us (last_of p) →
    PartsAllowed n (append_trees ts us) (last_of p)
PartsAllowed-append n no_trees us p first second = second
PartsAllowed-append n (more_trees t no_trees) us p first second = PartsAllowed-more n t us p first second
PartsAllowed-append n (more_trees t (more_trees u ts)) us p first second =
    PartsAllowed-more n t (append_trees (more_trees u ts) us) p first.0 (PartsAllowed-append n (more_trees u ts) us p first.1 second)

-- ---- a list of allowed trees, taken apart

pub PartsAllowed-parts : (n : ℕ) (t : Tree) (ts : Trees) → PartsAllowed n (more_trees t ts) inside →
    IsAllowed n t inside × PartsAllowed n ts inside
PartsAllowed-parts n t no_trees m = (m, tt)
PartsAllowed-parts n t (more_trees u us) m = m

pub PartsAllowed-split : (n : ℕ) (ts : Trees) (u : Tree) (us : Trees) (p : Position) → PartsAllowed n (append_trees ts (more_trees u us)) p →
    PartsAllowed n ts inside × PartsAllowed n (more_trees u us) p
PartsAllowed-split n no_trees u us p m = (tt, m)
PartsAllowed-split n (more_trees t no_trees) u us p m = m
PartsAllowed-split n (more_trees t (more_trees x ts)) u us p m =
    let later = PartsAllowed-split n (more_trees x ts) u us p m.1 in
    ((m.0, later.0), later.1)
