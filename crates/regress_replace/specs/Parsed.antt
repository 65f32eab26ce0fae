-- A reference as the code keeps it.
use Rattle.std.specs.Prelude.{◌≡◌, ℕ, ◌+◌, ◌≤◌, List, [], ◌∷◌, Option, Some, None, length, drop}
use Rattle.std.specs.Borrow.{Bor}
use Rattle.regress_replace.specs.Template.{Piece, plain, text_before, whole_match, text_after, by_number, by_name}
use Rattle.regress_replace.specs.declared.reference.Reference.{Reference}
use Rattle.regress_replace.specs.declared.reference.Reference.TheVariants.{Dollar, Before, Matched, After, Group, Named}

-- the piece that a reference is
abbrev pub piece_of : Reference → Piece
piece_of Dollar = plain (36 ∷ [])
piece_of Before = text_before
piece_of Matched = whole_match
piece_of After = text_after
piece_of (Group id) = by_number id
piece_of (Named name) = by_name name.now

-- The reference is the one that is expected, and the rest of the template follows it. The text `t` is what follows the
-- reference's first `taken` bytes.
abbrev pub Parses : Option (Piece × ℕ) → (t : List ℕ) → (taken : ℕ) → Option (Reference × Bor (List ℕ)) → Type 0
Parses expected t taken None = expected ≡ None
Parses expected t taken (Some r) = (n : ℕ) × (expected ≡ Some (piece_of r.0, n + taken)) × (n ≤ length t) × (r.1.now ≡ drop n t)
