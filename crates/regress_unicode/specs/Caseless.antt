-- Characters without case.
use Rattle.std.specs.Prelude.{◌≡◌, ℕ, ◌+◌, ◌-◌, Bool, ◌&&◌, ◌||◌, not, IsTrue, List, [], ◌∷◌}
use Rattle.std.specs.List.{list_any}
use Rattle.regress_base.specs.Intervals.{Bounds, is_member, is_within}
use Rattle.regress_unicode.specs.FoldEntries.{FoldEntry, moved}
use Rattle.regress_unicode.specs.ValidEntries.{is_target_in_range}

-- the circled letters, U+24B6 to U+24E9
abbrev pub circled : Bounds
circled = record { first = 0x24B6; last = 0x24E9 }

-- intervals with each other letter that has a case
abbrev pub cased : List Bounds
cased =
    record { first = 0x41; last = 0x5A }
    ∷ record { first = 0x61; last = 0x7A }
    ∷ record { first = 0xB5; last = 0x1FFF }
    ∷ record { first = 0x2126; last = 0x2132 }
    ∷ record { first = 0x214E; last = 0x2184 }
    ∷ record { first = 0x2C00; last = 0x2DFF }
    ∷ record { first = 0xA640; last = 0xABFF }
    ∷ record { first = 0xFF00; last = 0x1EFFF }
    ∷ []

-- whether the character is outside of all of these intervals
abbrev pub is_caseless : ℕ → Bool
is_caseless c = not (is_within circled c || is_member cased c)

-- A mapping to canonical forms under which a character outside of these intervals has the same canonical form as itself
-- alone, and a circled letter has that of circled letters alone.
pub record KeepsCaseless (f : ℕ → ℕ) : Type 0 where
  pub caseless : (c d : ℕ) → IsTrue (is_caseless c) → f d ≡ f c → d ≡ c
  pub circled : (c d : ℕ) → IsTrue (is_within circled c) → f d ≡ f c → IsTrue (is_within circled d)

-- whether one of the intervals contains both numbers
abbrev pub contain_both : List Bounds → ℕ → ℕ → Bool
contain_both intervals a b = list_any (λ iv. is_within iv a && is_within iv b) intervals

-- whether the intervals contain the range of an entry and what the delta maps it to, each as a part of one of them
abbrev pub contain_entry : List Bounds → FoldEntry → Bool
contain_entry intervals mapping =
    contain_both intervals mapping.start (mapping.start + mapping.length - 1)
    && contain_both intervals (moved mapping.delta mapping.start) (moved mapping.delta (mapping.start + mapping.length - 1))

-- whether the entry maps cased letters to such letters, or circled letters to such letters
abbrev pub keeps_caseless : FoldEntry → Bool
keeps_caseless mapping = is_target_in_range mapping && (contain_entry cased mapping || contain_entry (circled ∷ []) mapping)
