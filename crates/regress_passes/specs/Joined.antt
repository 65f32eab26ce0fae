-- Neighbouring parts of a `Cat` whose bytes are joined.
use Rattle.std.specs.Prelude.{◌≡◌, ℕ, ◌<◌, Bool, true, false, List, [], length, get_or, set}
use Rattle.regress_tree.specs.Reading.{Direction}
use Rattle.regress_tree.specs.Shapes.{has_bytes, is_formed_away}
use Rattle.regress_tree.specs.Tree.{empty, byte_sequence, Tree, Trees, leaf, cat}
use Rattle.regress_tree.specs.Units.{IsLess}
use Rattle.regress_rewrite.specs.Formed.{joined, bytes_of}
use Rattle.regress_rewrite.specs.Law.{Keeps}

-- the part with this index
abbrev pub part_at : ℕ → List Tree → Tree
part_at i ts = get_or ts i (leaf empty)

-- the parts at two indices have bytes
pub record HaveBytes (earlier later : ℕ) (ts : List Tree) : Type 0 where
  pub ordered : earlier < later
  pub within : later < length ts
  pub first : has_bytes (part_at earlier ts) ≡ true
  pub second : has_bytes (part_at later ts) ≡ true

-- the list in which the later part has the bytes of both, and the earlier one has none
abbrev pub joined_at : Direction → (earlier later : ℕ) → List Tree → List Tree
joined_at d i k ts =
    set (set ts i (leaf (byte_sequence []))) k
    (leaf (byte_sequence (joined d (bytes_of (part_at i ts)) (bytes_of (part_at k ts)))))

-- the result of joining a list with neighbours to join
pub record JoinsSome (d : Direction) (old new : Trees) : Type 0 where
  pub keeps : Keeps d (cat old) (cat new)
  pub less : IsLess (cat new) (cat old)
  pub found : is_formed_away (cat old) ≡ true

-- the result of joining, by whether there were neighbours to join
abbrev pub JoinsBytes : Direction → Bool → (old new : Trees) → Type 0
JoinsBytes d true old new = JoinsSome d old new
JoinsBytes d false old new = (new ≡ old) × (is_formed_away (cat old) ≡ false)
