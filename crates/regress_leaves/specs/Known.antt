-- What is precomputed about case mappings.
use Rattle.std.specs.Prelude.{◌≡◌, ℕ, ◌<◌, true, false}
use Rattle.std.specs.Char.{to_ascii_lowercase, to_ascii_uppercase}
use Rattle.std.proofs.Props.{props}
use Rattle.regress_base.specs.Table.{Table, canonicalize}
use Rattle.regress_tree.specs.Steps.{Setting}
use Rattle.regress_unicode.specs.Caseless.{KeepsCaseless}
use Rattle.regress_leaves.specs.declared.case_facts.CaseFacts.{CaseFacts}

-- the simple case folding of an ASCII character is its small letter, if it is a capital letter, and else itself
abbrev pub HasAsciiFold : Table → Type 0
HasAsciiFold table = (c : ℕ) → c < 0x80 → table.fold c ≡ to_ascii_lowercase c

-- the upper case of an ASCII character is its capital letter, if it is a small letter, and else itself
abbrev pub HasAsciiUppercase : Table → Type 0
HasAsciiUppercase table = (c : ℕ) → c < 0x80 → table.uppercase c ≡ to_ascii_uppercase c

-- The canonical form of an ASCII character (Canonicalize) is that of ASCII, under the flags of the setting, and a
-- character without case has its canonical form alone.
pub record HasAsciiCase (setting : Setting) : Type 0 where
  pub fold : setting.flags.unicode ≡ true → HasAsciiFold setting.table
  pub uppercase : setting.flags.unicode ≡ false → HasAsciiUppercase setting.table
  pub caseless : KeepsCaseless (canonicalize setting.table setting.flags.unicode)

-- What is said of the table is true.
pub record AreFactsOf (table : Table) (facts : CaseFacts) : Type 0 where
  pub fold : facts.ascii_fold ≡ true → HasAsciiFold table
  pub uppercase : facts.ascii_uppercase ≡ true → HasAsciiUppercase table
  pub caseless_fold : facts.caseless_fold ≡ true → KeepsCaseless table.fold
  pub caseless_uppercase : facts.caseless_uppercase ≡ true → KeepsCaseless table.uppercase

-- The property has at most one proof.
pub AreFactsOf-prop : (table : Table) (facts : CaseFacts) → IsProp (AreFactsOf table facts)
AreFactsOf-prop table facts = hlevel props
