-- Examples: the CharSets of classes in ECMA-262, computed from the transcription of CompileToCharSet. The source of a class
-- starts after its `[`. Each character and string that a CharSet has is matched by V8 11.3.
use Rattle.std.proofs.Common.{◌≡◌, ℕ, Bool, true, false, List, [], ◌∷◌, Option, Some, option_map, refl, codes}
use Rattle.regress_base.specs.Intervals.{Bounds}
use Rattle.regress_classes.specs.ClassSets.{set_character_at, strings_by}
use Rattle.regress_lexer.specs.declared.dialect.Dialect.TheVariants.{Regress}
use Rattle.regress_lexer.specs.Digits.{front, after}
use Rattle.regress_lexer.specs.Escapes.{escape_at, unicode_at}
use Rattle.regress_lexer.specs.Source.{Source}
use Rattle.regress_ecma.specs.CharSets.{Elements, only, compile_to_char_set}
use Rattle.regress_ecma.specs.ClassGrammar.{class_ranges_by, class_set_by, class_union_by, operands_by, operand_at, character_class_at}
use Rattle.example_definitions.proofs.Meanings.{empty_table, no_flags, run}

abbrev one : ℕ → Bounds
one c = run c c

-- the class, and whether its matcher inverts
unfoldable compiled : (sets : Bool) → Source → Option (Bool × Elements)
unfolding character_class_at class_ranges_by class_set_by class_union_by operands_by operand_at set_character_at strings_by escape_at unicode_at front after
compiled sets t =
    option_map (λ found. (found.0.invert, compile_to_char_set empty_table (record no_flags { unicode_sets = sets }) found.0.contents))
    (character_class_at empty_table (record { dialect = Regress; icase = false; unicode = false; named = false }) sets t)

-- The source is a class without the flag v, of these characters.
abbrev Has : Source → List Bounds → Type 0
Has t members = compiled false t ≡ Some (false, only members)

-- the same with the flag v
abbrev HasElements : Source → Elements → Type 0
HasElements t elements = compiled true t ≡ Some (false, elements)

-- ---- without the flag v

ranges_and_escapes : Has (codes "a-c\\dx]") (run 0x61 0x63 ∷ run 0x30 0x39 ∷ one 0x78 ∷ [])
unfolding compiled
ranges_and_escapes = refl

a_hyphen_at_an_end_is_itself : Has (codes "-a]") (one 0x2D ∷ one 0x61 ∷ []) × Has (codes "a-]") (one 0x61 ∷ one 0x2D ∷ [])
unfolding compiled
a_hyphen_at_an_end_is_itself = (refl, refl)

a_class_escape_ends_no_range : Has (codes "\\d-x]") (run 0x30 0x39 ∷ one 0x2D ∷ one 0x78 ∷ [])
unfolding compiled
a_class_escape_ends_no_range = refl

control_characters : Has (codes "\\b\\c0\\n]") (one 8 ∷ one 0x10 ∷ one 0xA ∷ []) × Has (codes "\\c]") (one 0x5C ∷ one 0x63 ∷ [])
unfolding compiled
control_characters = (refl, refl)

-- The ends of a range may be octal escapes, or digits that no escape is.
digits_after_a_backslash : Has (codes "\\1-\\3]") (run 1 3 ∷ []) × Has (codes "\\60-\\62]") (run 0x30 0x32 ∷ [])
    × Has (codes "\\8-\\9]") (run 0x38 0x39 ∷ []) × Has (codes "\\0-\\7]") (run 0 7 ∷ [])
unfolding compiled
digits_after_a_backslash = (refl, refl, refl, refl)

the_matcher_inverts : compiled false (codes "^a]") ≡ Some (true, only (one 0x61 ∷ []))
unfolding compiled
the_matcher_inverts = refl

-- ---- with the flag v

a_nested_class_is_joined : HasElements (codes "a[b-d]]") (only (one 0x61 ∷ run 0x62 0x64 ∷ []))
unfolding compiled
a_nested_class_is_joined = refl

strings_by_length : HasElements (codes "\\q{ab|c||def}]")
    (record { characters = one 0x63 ∷ []; strings = codes "ab" ∷ codes "def" ∷ []; has_empty = true })
unfolding compiled
strings_by_length = refl

-- the strings of a class of strings alone
unfoldable strings_of : Source → Option (List (List ℕ))
unfolding compiled
strings_of t = option_map (λ read. read.1.strings) (compiled true t)

operators_on_strings : (strings_of (codes "\\q{ab|cd}--\\q{cd}]") ≡ Some (codes "ab" ∷ []))
    × (strings_of (codes "\\q{ab|cd}&&\\q{cd|ef}]") ≡ Some (codes "cd" ∷ []))
unfolding strings_of
operators_on_strings = (refl, refl)
