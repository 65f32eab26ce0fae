-- Examples: literals.
use Rattle.std.proofs.Common.{◌≡◌, ℕ, true, false, [], ◌∷◌, refl, arith}
use lib.Utf8.{encode}
use Rattle.regress_unicode.specs.FoldEntries.{mapped}
use Rattle.regress_literal.specs.Literal.{piece_of, is_character, lowered, literal_steps}
use Rattle.regress_unicode.specs.SmallTable.{small_table}
use Rattle.regress_tree.specs.Steps.{MatchState, one_character}
use Rattle.regress_base.specs.Table.{Table}
use Rattle.regress_tree.specs.Tree.{char, byte_sequence, byte_set, char_set}
use Rattle.regress_base.proofs.lemmas.Literals.{class_of-itself}

-- A surrogate is no character.
surrogate-alone : is_character (0xD800 ∷ []) ≡ false
surrogate-alone = refl

piece-surrogate : piece_of (0xD800 ∷ []) ≡ char 0xD800
piece-surrogate = refl

-- Characters of ASCII alone become a set of bytes.
piece-ascii : piece_of (0x41 ∷ 0x61 ∷ []) ≡ byte_set (0x41 ∷ 0x61 ∷ [])
piece-ascii = refl

piece-one_past_ascii : piece_of (0x53 ∷ 0x73 ∷ 0x17F ∷ []) ≡ char_set (0x53 ∷ 0x73 ∷ 0x17F ∷ [])
piece-one_past_ascii = refl

piece-first_past_ascii : piece_of (0x7F ∷ 0x80 ∷ []) ≡ char_set (0x7F ∷ 0x80 ∷ [])
piece-first_past_ascii = refl

-- Without icase, adjacent characters become one byte sequence, which a surrogate interrupts.
lowered-none : (table : Table) → lowered table true true [] ≡ []
lowered-none table = refl

lowered-list : (table : Table) → lowered table false true (0x61 ∷ 0xE9 ∷ []) ≡ byte_sequence (0x61 ∷ 0xC3 ∷ 0xA9 ∷ []) ∷ []
unfolding encode
lowered-list table =
    let first = class_of-itself table true 0x61 (omega arith) in
    let second = class_of-itself table true 0xE9 (omega arith) in
    rw (first, second) refl

lowered-parted : (table : Table) →
    lowered table false true (0x61 ∷ 0xD800 ∷ 0x62 ∷ []) ≡ byte_sequence (0x61 ∷ []) ∷ char 0xD800 ∷ byte_sequence (0x62 ∷ []) ∷ []
unfolding encode
lowered-parted table =
    let first = class_of-itself table true 0x61 (omega arith) in
    let second = class_of-itself table true 0xD800 (omega arith) in
    let third = class_of-itself table true 0x62 (omega arith) in
    rw (first, second, third) refl

-- With icase and unicode, the long s matches an s in a text.
abbrev at : ℕ → MatchState
at position = record { position = position; captures = [] }

literal-folded : literal_steps small_table true true (0x17F ∷ 0x61 ∷ []) (0x73 ∷ 0x41 ∷ []) (at 0) ≡ at 2 ∷ []
unfolding mapped one_character small_table
literal-folded = refl

literal-without_unicode : literal_steps small_table true false (0x17F ∷ []) (0x73 ∷ []) (at 0) ≡ []
unfolding mapped one_character small_table
literal-without_unicode = refl

-- A surrogate matches nothing in a text.
literal-surrogate : literal_steps small_table false true (0x61 ∷ []) (0xD800 ∷ []) (at 0) ≡ []
unfolding one_character
literal-surrogate = refl
