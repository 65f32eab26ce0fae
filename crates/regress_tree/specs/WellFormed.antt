-- The well-formed trees.
use Rattle.std.specs.Prelude.{◌≡◌, ◌≢◌, ℕ, ◌<◌, ◌≤◌, Bool, true, ◌&&◌, List, [], ◌∷◌, ◌++◌, length, count_by, ◌==◌, Option, IfSome, if◌then◌else◌, nat_le, nat_lt, All, encode_utf8_all}
use Rattle.regress_base.specs.Brackets.{is_accepted}
use Rattle.regress_base.specs.Limits.{max_char_set_length}
use Rattle.regress_base.specs.Intervals.{Bounds, code_point_max, IsCanonical}
use Rattle.regress_base.specs.declared.types.Quantifier.{Quantifier}
use Rattle.regress_tree.specs.Reading.{IsText}
use Rattle.regress_tree.specs.Tree.{Leaf, empty, goal, char, byte_sequence, byte_set, char_set, match_any, match_any_except_line_terminator, anchor, word_boundary, bracket, back_ref, string_set, Wrapper, capture_group, loop, loop_one, lookaround, Tree, Trees, leaf, cat, alt, wrapped, no_trees, more_trees}

-- a capture group: its id, and its name as UTF-8
pub record Capture : Type 0 where
  pub id : ℕ
  pub name : Option (List ℕ)

-- the capture group that a wrapper is, if it is one
abbrev pub captures_of_wrapper : Wrapper → List Capture
captures_of_wrapper (capture_group id name) = record { id = id; name = name } ∷ []
captures_of_wrapper w = []

-- the capture groups of a tree, each before those inside it
abbrev mutual
  pub captures : Tree → List Capture
  captures (leaf l) = []
  captures (cat parts) = captures_of_trees parts
  captures (alt left right) = captures left ++ captures right
  captures (wrapped w body) = captures_of_wrapper w ++ captures body

  pub captures_of_trees : Trees → List Capture
  captures_of_trees no_trees = []
  captures_of_trees (more_trees t ts) = captures t ++ captures_of_trees ts

-- The position of a part in a tree: as the body of a `Loop1CharBody`, anywhere inside, as the last part of a `Cat` that
-- is the root, or as the root.
pub data Position : Type 0 where
  one_character : Position
  inside : Position
  last : Position
  root : Position

-- The goal ends the pattern: it is the root, or the last part of a `Cat` that is the root.
abbrev pub GoalIsAllowed : Position → Type 0
GoalIsAllowed one_character = ⊥
GoalIsAllowed inside = ⊥
GoalIsAllowed p = Unit {0}

-- The position is not the body of a `Loop1CharBody`.
abbrev pub NotAsOneCharacter : Position → Type 0
NotAsOneCharacter one_character = ⊥
NotAsOneCharacter p = Unit {0}

-- the position of the last part of a `Cat`
abbrev pub last_of : Position → Position
last_of root = last
last_of p = inside

-- the position of the body of a wrapper
abbrev pub position_in : Wrapper → Position
position_in (loop_one quantifier) = one_character
position_in w = inside

-- P holds if the position is the body of a `Loop1CharBody`.
abbrev pub AsOneCharacter : Position → Type 0 → Type 0
AsOneCharacter one_character P = P
AsOneCharacter p P = Unit {0}

-- The bytes are the UTF-8 of characters, and of exactly one as the body of a `Loop1CharBody`.
pub record AreUtf8 (bytes : List ℕ) (p : Position) : Type 0 where
  pub characters : List ℕ
  pub are_scalar : IsText characters
  pub encoded : bytes ≡ encode_utf8_all characters
  pub one : AsOneCharacter p (length characters ≡ 1)

-- A set of at most four numbers up to a greatest one, not empty as the body of a `Loop1CharBody`.
pub record IsSmallSet (members : List ℕ) (greatest : ℕ) (p : Position) : Type 0 where
  pub bounded : All (λ m. m ≤ greatest) members
  pub small : length members ≤ max_char_set_length
  pub some : AsOneCharacter p (members ≢ [])

-- A bracket of canonical intervals, which accepts some code point as the body of a `Loop1CharBody`.
pub record IsBracket (invert : Bool) (intervals : List Bounds) (p : Position) : Type 0 where
  pub canonical : IsCanonical intervals
  pub some : AsOneCharacter p ((c : ℕ) × (c ≤ code_point_max) × (is_accepted invert intervals c ≡ true))

-- a back reference to one of n capture groups, which are numbered from 1
pub record IsReference (n group : ℕ) (p : Position) : Type 0 where
  pub free : NotAsOneCharacter p
  pub low : 1 ≤ group
  pub high : group ≤ n

-- strings of code points
pub record AreStrings (strings : List (List ℕ)) (p : Position) : Type 0 where
  pub free : NotAsOneCharacter p
  pub bounded : All (All (λ c. c ≤ code_point_max)) strings

-- The leaf is allowed in that position, in a tree of n capture groups.
abbrev pub LeafIsAllowed : ℕ → Leaf → Position → Type 0
LeafIsAllowed n empty p = NotAsOneCharacter p
LeafIsAllowed n goal p = GoalIsAllowed p
LeafIsAllowed n (char c) p = c ≤ code_point_max
LeafIsAllowed n (byte_sequence bytes) p = AreUtf8 bytes p
LeafIsAllowed n (byte_set bytes) p = IsSmallSet bytes 127 p
LeafIsAllowed n (char_set characters) p = IsSmallSet characters code_point_max p
LeafIsAllowed n match_any p = Unit {0}
LeafIsAllowed n match_any_except_line_terminator p = Unit {0}
LeafIsAllowed n (anchor kind multiline) p = NotAsOneCharacter p
LeafIsAllowed n (word_boundary invert unicode_icase) p = NotAsOneCharacter p
LeafIsAllowed n (bracket invert intervals) p = IsBracket invert intervals p
LeafIsAllowed n (back_ref group icase) p = IsReference n group p
LeafIsAllowed n (string_set strings icase) p = AreStrings strings p

-- The minimum is at most the maximum.
abbrev pub IsQuantifier : Quantifier → Type 0
IsQuantifier q = IfSome q.max (λ max. q.min ≤ max)

-- The ids of the capture groups of the tree are start to end - 1, each once.
abbrev pub HasGroups : (start end : ℕ) → Tree → Type 0
HasGroups start end t =
    (k : ℕ) → count_by (λ c. c.id == k) (captures t) ≡ (if nat_le start k && nat_lt k end then 1 else 0)

-- The wrapper is allowed around the tree, in a tree of n capture groups.
abbrev pub WrapperIsAllowed : ℕ → Wrapper → Tree → Type 0
WrapperIsAllowed n (capture_group id name) body = (id < n) × IfSome name (λ bytes. bytes ≢ [])
WrapperIsAllowed n (loop quantifier start end) body = IsQuantifier quantifier × HasGroups start end body
WrapperIsAllowed n (loop_one quantifier) body = IsQuantifier quantifier
WrapperIsAllowed n (lookaround negate backwards start end) body = HasGroups start end body

-- The tree is allowed in that position, in a well-formed tree of n capture groups.
abbrev mutual
  pub IsAllowed : ℕ → Tree → Position → Type 0
  IsAllowed n (leaf l) p = LeafIsAllowed n l p
  IsAllowed n (cat parts) p = NotAsOneCharacter p × PartsAllowed n parts (last_of p)
  IsAllowed n (alt left right) p = NotAsOneCharacter p × IsAllowed n left inside × IsAllowed n right inside
  IsAllowed n (wrapped w body) p = NotAsOneCharacter p × WrapperIsAllowed n w body × IsAllowed n body (position_in w)

  -- the last tree of the list in position p, and the others inside
  pub PartsAllowed : ℕ → Trees → Position → Type 0
  PartsAllowed n no_trees p = Unit {0}
  PartsAllowed n (more_trees t no_trees) p = IsAllowed n t p
  PartsAllowed n (more_trees t (more_trees u us)) p = IsAllowed n t inside × PartsAllowed n (more_trees u us) p

-- A well-formed tree: each part is allowed where it is, and the ids of its n capture groups are 0 to n - 1, each once.
pub record IsWellFormed (t : Tree) : Type 0 where
  pub occurs : IsAllowed (length (captures t)) t root
  pub ids : (k : ℕ) → count_by (λ c. c.id == k) (captures t) ≡ (if nat_lt k (length (captures t)) then 1 else 0)
