-- Leaves with at most one outcome that set no group.
use Rattle.std.specs.Prelude.{◌≡◌, ℕ, Bool, true, false, List, [], ◌∷◌, Option, Some, None}
use Rattle.regress_prefilter.specs.OneCharacter.{test_of}
use Rattle.regress_tree.specs.Matching.{steps}
use Rattle.regress_tree.specs.Reading.{Direction, Read, of_bytes}
use Rattle.regress_tree.specs.Steps.{MatchState, Matcher, one_character}
use Rattle.regress_tree.specs.Tree.{Leaf, back_ref, string_set, loop_one, Tree, leaf, wrapped}
use Rattle.regress_leaves.specs.Subject.{Subject}

-- the state moved to a position, or no outcome
abbrev pub put : MatchState → Option ℕ → List MatchState
put s None = []
put s (Some k) = record s { position = k } ∷ []

-- a pair of a character and the position after it, as a record
abbrev pub read_of : ℕ × ℕ → Read
read_of r = record { character = r.0; position = r.1 }

-- the leaf is no set of strings, so it has at most one outcome
abbrev pub has_one_outcome_leaf : Leaf → Bool
has_one_outcome_leaf (string_set strings icase) = false
has_one_outcome_leaf l = true

-- the tree is a leaf with at most one outcome
abbrev pub has_one_outcome : Tree → Bool
has_one_outcome (leaf l) = has_one_outcome_leaf l
has_one_outcome t = false

-- the leaf is neither a set of strings nor a backreference, so its outcome does not depend on captures
abbrev pub is_simple_leaf : Leaf → Bool
is_simple_leaf (string_set strings icase) = false
is_simple_leaf (back_ref group icase) = false
is_simple_leaf l = true

-- the tree is a leaf whose outcome does not depend on captures
abbrev pub is_simple : Tree → Bool
is_simple (leaf l) = is_simple_leaf l
is_simple t = false

-- one character that the test of a leaf accepts (CharacterSetMatcher)
abbrev pub one_of : Direction → List ℕ → Tree → Matcher
one_of d bytes t = one_character d (of_bytes bytes) (test_of t)

-- From the position the part has one outcome, which moves to `to` and sets no group, or none, whatever the captures are.
abbrev pub GoesTo : Subject → (position : ℕ) → Tree → Option ℕ → Type 0
GoesTo u position t to = (s : MatchState) → s.position ≡ position → steps u.setting u.bytes u.direction t s ≡ put s to

-- exactly n characters that a leaf matches, as a loop
abbrev pub exactly : ℕ → Tree → Tree
exactly n t = wrapped (loop_one (record { min = n; max = Some n; greedy = true })) t
