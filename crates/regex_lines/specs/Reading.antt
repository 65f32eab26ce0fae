-- Reading one line.
use Rattle.std.specs.Prelude.{◌≡◌, ◌≢◌, ℕ, ◌<◌, Bool, true, false, List, [], ◌∷◌, ◌++◌, length, All, Option, OnSome}
use Rattle.std.specs.Io.KnownBytes.{Consumes, IsAtEnd}
use Rattle.regex_lines.specs.Searched.{has_line_feed, without_line_feed}
use Rattle.regex_lines.specs.declared.reading.Next.{Next}
use Rattle.regex_lines.specs.declared.reading.Next.TheVariants.{Line, LastLine, End}

-- whether the rest of the input was read
abbrev pub is_last : Next → Bool
is_last Line = false
is_last (LastLine ended) = true
is_last End = false

-- whether a line feed ends the line that was read
abbrev pub is_ended : Next → Bool
is_ended Line = true
is_ended (LastLine ended) = ended
is_ended End = false

-- What a reader has left before and after this line, or the end, was read.
abbrev pub IsReadLine : (old new : Option (List ℕ)) → (line : List ℕ) → Next → Type 0
IsReadLine old new line Line = All (λ b. b ≢ 10) line × Consumes old new (line ++ 10 ∷ [])
IsReadLine old new line (LastLine ended) =
    All (λ b. b ≢ 10) line × (0 < length line) × Consumes old new line × OnSome old (IsAtEnd new) × (ended ≡ false)
IsReadLine old new line End = IsAtEnd old

-- All that a reader had left was read as one line.
pub record IsReadText (old new : Option (List ℕ)) (line : List ℕ) (ended : Bool) : Type 0 where
  pub text : List ℕ
  pub some : 0 < length text
  pub is : line ≡ without_line_feed text
  pub feed : ended ≡ has_line_feed text
  pub consumed : Consumes old new text
  pub all : OnSome old (IsAtEnd new)

-- A line was read, or with `multiline` all lines as one.
abbrev pub IsRead : (multiline : Bool) → (old new : Option (List ℕ)) → (line : List ℕ) → Next → Type 0
IsRead false old new line next = IsReadLine old new line next
IsRead true old new line Line = ⊥
IsRead true old new line (LastLine ended) = IsReadText old new line ended
IsRead true old new line End = IsAtEnd old
