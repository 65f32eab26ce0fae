-- Alternatives that have been compiled and are not yet joined.
use Rattle.std.specs.Prelude.{◌≡◌, ℕ, List, [], ◌∷◌}
use Rattle.regress_tree.specs.Tree.{Tree, alt}
use Rattle.regress_program.specs.Adds.{Tidies}
use Rattle.regress_program.specs.Contents.{content}
use Rattle.regress_program.specs.Compiled.{matching, Code, Compiled}

-- The tree is an alternation with this right side, and its left side has been compiled.
pub record HasLeft (old new : Code) (next entry : ℕ) (whole right : Tree) : Type 0 where
  pub left : Tree
  pub is : whole ≡ alt left right
  pub compiled : Compiled old new (matching left) next entry
  pub tidies : Tidies old new (content left) next entry

-- The left sides of `whole` down to the right side `rest` have been compiled, and start at these instructions.
unfoldable pub Waiting : (old new : Code) (next : ℕ) (entries : List ℕ) (whole rest : Tree) → Type 0
Waiting old new next [] whole rest = whole ≡ rest
Waiting old new next (entry ∷ entries) whole rest =
    (right : Tree) × (HasLeft old new next entry whole right × Waiting old new next entries right rest)
