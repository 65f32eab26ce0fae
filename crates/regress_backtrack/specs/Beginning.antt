-- Patterns that begin with an assertion.
use Rattle.std.specs.Prelude.{◌≡◌, ℕ, ◌-◌, ◌≤◌, ◌<◌, true, List, false, length, slice_index}
use Rattle.regress_base.specs.Classes.{word_characters}
use Rattle.regress_base.specs.Intervals.{is_member}
use Rattle.regress_tree.specs.Assertions.{is_line_terminator}
use Rattle.regress_tree.specs.Tree.{Leaf, anchor, word_boundary}
use Rattle.regress_base.specs.declared.types.AnchorType.TheVariants.{StartOfLine}
use Rattle.regress_backtrack.specs.declared.beginning.Beginning.{Beginning}
use Rattle.regress_backtrack.specs.declared.beginning.Beginning.TheVariants.{WordBoundary, LineStart}
use Rattle.regress_backtrack.specs.declared.input.Input.{Input}
use Rattle.regress_backtrack.specs.Next.{Fails, start_at}

-- the assertion
abbrev pub assertion : Beginning → Leaf
assertion WordBoundary = word_boundary false false
assertion LineStart = anchor StartOfLine true

-- The byte at k is a word character of ASCII.
pub record IsWordAt (text : List ℕ) (k : ℕ) : Type 0 where
  pub inside : k < length text
  pub ascii : slice_index text k < 128
  pub word : is_member word_characters (slice_index text k) ≡ true

-- The position is between two word characters of ASCII.
pub record IsInsideWord (text : List ℕ) (k : ℕ) : Type 0 where
  pub some : 0 < k
  pub before : IsWordAt text (k - 1)
  pub after : IsWordAt text k

-- The position is after a character of ASCII that does not end a line.
pub record IsInsideLine (text : List ℕ) (k : ℕ) : Type 0 where
  pub some : 0 < k
  pub inside : k - 1 < length text
  pub ascii : slice_index text (k - 1) < 128
  pub goes_on : is_line_terminator (slice_index text (k - 1)) ≡ false

-- The assertion fails at the position, by the bytes next to it.
abbrev pub IsExcluded : Beginning → (text : List ℕ) → ℕ → Type 0
IsExcluded WordBoundary text k = IsInsideWord text k
IsExcluded LineStart text k = IsInsideLine text k

-- A run from the first instruction fails at each position at which the assertion does.
abbrev pub BeginsWithAssertion : Input → Beginning → Type 0
BeginsWithAssertion input beginning = (k : ℕ) → k ≤ length input.text.now → IsExcluded beginning input.text.now k → Fails input (start_at input k)
