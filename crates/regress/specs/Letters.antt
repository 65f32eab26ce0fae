-- Flags by their letters, as JavaScript writes them.
use Rattle.std.specs.Prelude.{◌≡◌, ℕ, ◌<◌, ◌≤◌, Bool, true, false, ◌||◌, ◌==◌, List, All, codes, count_by, nat_lt}
use Rattle.std.specs.List.{Contains, list_any}
use Rattle.regress_front.specs.Source.{char}
use Rattle.regress_front.specs.declared.types.Flags.{Flags}
pub use Rattle.regress_front.specs.NoFlags.{no_flags}
use Rattle.regress.specs.declared.letters.FlagsError.{FlagsError}
use Rattle.regress.specs.declared.letters.FlagsError.TheVariants.{Unknown, Repeated, UnicodeAndSets}

-- the number of times that a character occurs
abbrev pub count : List ℕ → ℕ → ℕ
count letters c = count_by (λ d. d == c) letters

-- the character occurs
abbrev pub has : List ℕ → ℕ → Bool
has letters c = nat_lt 0 (count letters c)

-- a letter of one of JavaScript's flags
abbrev pub is_known : ℕ → Bool
is_known c = list_any (λ d. d == c) (codes "dgimsuvy")

-- the flags of these letters, where v includes u
abbrev pub flags_of : List ℕ → Flags
flags_of letters = record {
  icase = has letters (char "i");
  multiline = has letters (char "m");
  dot_all = has letters (char "s");
  unicode = has letters (char "u") || has letters (char "v");
  unicode_sets = has letters (char "v");
}

-- JavaScript accepts these letters: each is known and occurs once, and not both u and v occur.
pub record AreFlags (letters : List ℕ) : Type 0 where
  pub known : All (λ c. is_known c ≡ true) letters
  pub once : All (λ c. count letters c ≤ 1) letters
  pub apart : has letters (char "u") ≡ true → has letters (char "v") ≡ false

-- The letters have this error: one of them, which it names, is unknown or occurs more than once, or both u and v occur.
abbrev pub IsErrorOf : List ℕ → FlagsError → Type 0
IsErrorOf letters (Unknown c) = Contains letters c × (is_known c ≡ false)
IsErrorOf letters (Repeated c) = 1 < count letters c
IsErrorOf letters UnicodeAndSets = (has letters (char "u") ≡ true) × (has letters (char "v") ≡ true)
