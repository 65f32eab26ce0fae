-- For which syntax trees, flags and tables the dialect is compared with ECMA-262.
use Rattle.std.specs.Prelude.{◌&&◌, ◌==◌, not, length, ◌≡◌, ℕ, ◌≤◌, Bool, true, false, ◌||◌, if◌then◌else◌, List, [], ◌∷◌, Option, Some, None, IfSome}
use Rattle.regress_base.specs.Classes.{word_characters}
use Rattle.regress_base.specs.Intervals.{Bounds, code_point_max, is_member}
use Rattle.regress_base.specs.Table.{Table, IsIdempotent}
use Rattle.regress_base.specs.declared.charclasses.CharacterClassType.{CharacterClassType}
use Rattle.regress_base.specs.declared.charclasses.CharacterClassType.TheVariants.{Digits, Spaces, Words}
use Rattle.regress_base.specs.declared.types.Flags.{Flags}
use Rattle.regress_base.specs.declared.types.Quantifier.{Quantifier}
use Rattle.regress_classes.specs.ClassSets.{has_strings}
use Rattle.regress_syntax.specs.Syntax.{Name, by_number, by_name, by_name_if_set, Atom, literal, dot, anchor, boundary, class_escape, class, class_set, string_property, back_reference, Pattern, Terms, Item, one, either, no_terms, more_terms, atom, group, groups_named}
use Rattle.regress_ecma.specs.Characters.{has_some}
use Rattle.regress_ecma.specs.Compile.{flags_inside}

-- The 78 characters whose case variants are not the same with and without u: of ASCII K and S, which have a variant
-- outside of it only with u, and most letters of Greek with iota subscript. Six of them, U+0390, U+03B0, U+1FD3, U+1FE3,
-- U+FB05 and U+FB06, have variants since Unicode 15.1.
unfoldable pub unlike : List Bounds
unlike =
    record { first = 0x4B; last = 0x4B } ∷ record { first = 0x53; last = 0x53 } ∷ record { first = 0x6B; last = 0x6B } ∷ record { first = 0x73; last = 0x73 } ∷ record { first = 0xC5; last = 0xC5 } ∷ record { first = 0xDF; last = 0xDF } ∷ record { first = 0xE5; last = 0xE5 } ∷ record { first = 0x17F; last = 0x17F } ∷ record { first = 0x390; last = 0x390 } ∷ record { first = 0x398; last = 0x398 } ∷ record { first = 0x3A9; last = 0x3A9 } ∷ record { first = 0x3B0; last = 0x3B0 } ∷ record { first = 0x3B8; last = 0x3B8 } ∷ record { first = 0x3C9; last = 0x3C9 } ∷ record { first = 0x3D1; last = 0x3D1 } ∷ record { first = 0x3F4; last = 0x3F4 } ∷ record { first = 0x1E9E; last = 0x1E9E } ∷ record { first = 0x1F80; last = 0x1FAF } ∷ record { first = 0x1FB3; last = 0x1FB3 } ∷ record { first = 0x1FBC; last = 0x1FBC } ∷ record { first = 0x1FC3; last = 0x1FC3 } ∷ record { first = 0x1FCC; last = 0x1FCC } ∷ record { first = 0x1FD3; last = 0x1FD3 } ∷ record { first = 0x1FE3; last = 0x1FE3 } ∷ record { first = 0x1FF3; last = 0x1FF3 } ∷ record { first = 0x1FFC; last = 0x1FFC } ∷ record { first = 0x2126; last = 0x2126 } ∷ record { first = 0x212A; last = 0x212B } ∷ record { first = 0xFB05; last = 0xFB06 } ∷ []

-- intervals that have all characters with case variants outside of ASCII, and others
unfoldable pub cased_beyond_ascii : List Bounds
cased_beyond_ascii =
    record { first = 0xB5; last = 0xB5 } ∷ record { first = 0xC0; last = 0xD6 } ∷ record { first = 0xD8; last = 0xF6 } ∷ record { first = 0xF8; last = 0x586 } ∷ record { first = 0x10A0; last = 0x10FF } ∷ record { first = 0x13A0; last = 0x13FD } ∷ record { first = 0x1C80; last = 0x1FFC } ∷ record { first = 0x2126; last = 0x2184 } ∷ record { first = 0x24B6; last = 0x24E9 } ∷ record { first = 0x2C00; last = 0x2D2D } ∷ record { first = 0xA640; last = 0xABBF } ∷ record { first = 0xFB00; last = 0xFB06 } ∷ record { first = 0xFF21; last = 0xFF5A } ∷ record { first = 0x10400; last = 0x1E943 } ∷ []

-- intervals that have all characters with case variants, and others: the ASCII letters, and those
abbrev pub cased : List Bounds
cased = record { first = 0x41; last = 0x5A } ∷ record { first = 0x61; last = 0x7A } ∷ cased_beyond_ascii

-- No other character maps to what a character outside of these intervals maps to.
abbrev pub HasVariantsIn : List Bounds → (ℕ → ℕ) → Type 0
HasVariantsIn set f = (a b : ℕ) → is_member set a ≡ false → f b ≡ f a → b ≡ a

-- Facts about the case mappings of Unicode that a table need not have. Those about the upper case make the last steps of
-- 22.2.2.7.3 Canonicalize, and the assertion of 22.2.2.9.3 WordCharacters, true of the table's map.
pub record HasCaseDataOfUnicode (table : Table) : Type 0 where
  pub idempotent : IsIdempotent table.fold
  pub in_range : (c : ℕ) → c ≤ code_point_max → table.fold c ≤ code_point_max
  pub upper_ascii : (c : ℕ) → 128 ≤ c → 128 ≤ table.uppercase c
  pub upper_words : (c : ℕ) → is_member word_characters (table.uppercase c) ≡ true → is_member word_characters c ≡ true
  pub folded_words : (c : ℕ) → is_member word_characters c ≡ true → is_member word_characters (table.fold c) ≡ true
  pub folded_variants : HasVariantsIn cased table.fold
  pub upper_variants : HasVariantsIn cased table.uppercase
  pub same_variants : (a b : ℕ) → is_member unlike a ≡ false → (table.uppercase b == table.uppercase a) ≡ (table.fold b == table.fold a)

-- ---- syntax trees of accepted patterns

abbrev pub flags_of : Atom → Flags
flags_of (literal flags c) = flags
flags_of (dot flags) = flags
flags_of (anchor flags kind) = flags
flags_of (boundary flags inverted) = flags
flags_of (class_escape flags kind negated) = flags
flags_of (class flags inverted members) = flags
flags_of (class_set flags negated value) = flags
flags_of (string_property flags written) = flags
flags_of (back_reference flags to) = flags

-- no quantifier, or one whose minimum is at most its maximum
abbrev pub IsInOrder : Option Quantifier → Type 0
IsInOrder None = Unit {0}
IsInOrder (Some q) = IfSome q.max (λ max. q.min ≤ max)

-- Each atom has the flags in force, and each quantifier is in order, as the grammar has it.
abbrev mutual
  pub IsProper : Flags → Pattern → Type 0
  IsProper rer (one ts) = AreProper rer ts
  IsProper rer (either ts p) = AreProper rer ts × IsProper rer p

  pub AreProper : Flags → Terms → Type 0
  AreProper rer no_terms = Unit {0}
  AreProper rer (more_terms x q ts) = IsProperItem rer x × IsInOrder q × AreProper rer ts

  pub IsProperItem : Flags → Item → Type 0
  IsProperItem rer (atom a) = flags_of a ≡ rer
  IsProperItem rer (group kind p) = IsProper (flags_inside kind rer) p

-- ---- differing constructs

abbrev pub is_words : CharacterClassType → Bool
is_words Digits = false
is_words Spaces = false
is_words Words = true

-- Some member has other case variants with u than without.
abbrev pub has_unlike : List Bounds → Bool
has_unlike = has_some (is_member unlike)

-- The least and the greatest code point are members, as of a class that contains `\W`.
abbrev pub has_ends : List Bounds → Bool
has_ends members = is_member members 0 && is_member members code_point_max

-- A class that may differ with i: without u `[k]`; with u `[\W]`, which the tree does not tell from other classes with the
-- same members; with v `\P{Lu}`, likewise.
abbrev pub differs_in_case : Flags → List Bounds → Bool
differs_in_case rer members = rer.unicode_sets || (if rer.unicode then has_ends members else has_unlike members)

module _ (names : List (Option Name)) where
  -- An atom that may match something else than in ECMA-262 (docs/differences.md), or that is not compared.
  abbrev pub differs_at_atom : Flags → Atom → Bool
  differs_at_atom rer (literal flags c) = false
  differs_at_atom rer (dot flags) = false
  differs_at_atom rer (anchor flags kind) = false
  differs_at_atom rer (boundary flags inverted) = false
  -- `\w` with i, without u
  differs_at_atom rer (class_escape flags kind negated) = rer.icase && (not rer.unicode && is_words kind)
  differs_at_atom rer (class flags inverted members) = rer.icase && differs_in_case rer members
  -- with i, `[[^A]]` and `[[A-Z]&&[a-z]]`, likewise. The grammar has no strings in a negated class.
  differs_at_atom rer (class_set flags negated value) = rer.icase || (negated && has_strings value)
  -- not compared
  differs_at_atom rer (string_property flags written) = true
  differs_at_atom rer (back_reference flags (by_number n)) = false
  -- a reference to several groups of one name
  differs_at_atom rer (back_reference flags (by_name name)) = not (length (groups_named name 1 names) == 1)
  -- not compared
  differs_at_atom rer (back_reference flags (by_name_if_set name)) = true

  abbrev mutual
    pub differs : Flags → Pattern → Bool
    differs rer (one ts) = differs_in_terms rer ts
    differs rer (either ts p) = differs_in_terms rer ts || differs rer p

    pub differs_in_terms : Flags → Terms → Bool
    differs_in_terms rer no_terms = false
    differs_in_terms rer (more_terms x q ts) = differs_in_item rer x || differs_in_terms rer ts

    pub differs_in_item : Flags → Item → Bool
    differs_in_item rer (atom a) = differs_at_atom rer a
    differs_in_item rer (group kind p) = differs (flags_inside kind rer) p
