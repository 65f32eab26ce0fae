-- Inputs that are not read.
use Rattle.std.specs.Prelude.{◌≡◌, ℕ, Bool, false, List, [], ◌∷◌, ◌++◌, map, MatchResult, Result, Err, Vec, string_bytes}
use Rattle.std.specs.declared.alloc.Global.{Global}
use Rattle.regex_lines.specs.declared.failure.Failure.{Failure}
use Rattle.regex_lines.specs.declared.failure.Failure.TheVariants.{Memory, Unreadable}
use Rattle.regex_lines.specs.declared.unread.Reason.{Reason}
use Rattle.regex_lines.specs.declared.unread.Unread as code
use Rattle.regex_lines.specs.declared.unread.UnreadPath as code_path

-- an input that is not read to its end: its name, and why
pub record Unread : Type 0 where
  pub name : List ℕ
  pub reason : Reason

-- the input as the code represents it
abbrev pub unread_of : code.Unread → Unread
unread_of unread = record { name = unread.name.now; reason = unread.reason }

-- the same of a path below a directory
abbrev pub unread_path : code_path.UnreadPath → Unread
unread_path path = record { name = string_bytes path.name; reason = path.reason }

-- these inputs as the code represents them
abbrev pub all_unread : Vec code.Unread Global → List Unread
all_unread unread = map unread_of unread.items

-- One input more is not read: it has this name.
abbrev pub IsAdded : (name : List ℕ) → (old new : List Unread) → Type 0
IsAdded name old new = (reason : Reason) × (new ≡ old ++ record { name = name; reason = reason } ∷ [])

-- What a failure of the input with this name leads to: if the input cannot be read, it is added to those that are not read,
-- unless memory is short. Any other failure is passed on.
abbrev pub IsSkipped : Failure → (name : List ℕ) → (old new : List Unread) → Result Bool Failure → Type 0
IsSkipped (Unreadable unread) name old new result =
    MatchResult result (λ any. (any ≡ false) × IsAdded name old new) (λ failure. (failure ≡ Memory) × (new ≡ old))
IsSkipped failure name old new result = (result ≡ Err failure) × (new ≡ old)
