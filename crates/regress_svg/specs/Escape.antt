-- A text as it is written in markup (XML 1.0, sections 2.2 and 2.4).
use Rattle.std.specs.Prelude.{ℕ, Bool, not, List, codes, chars, encode_utf8, flat_map, if◌then◌else◌, nat_le, ◌==◌, ◌||◌, ◌&&◌}

-- A character that XML allows (XML 1.0, section 2.2), other than tab, line feed and carriage return: no surrogate, no
-- U+FFFE or U+FFFF, and no control character below U+0020.
abbrev pub is_legal : ℕ → Bool
is_legal c = (nat_le 32 c && nat_le c 0xD7FF) || (nat_le 0xE000 c && nat_le c 0xFFFD) || (nat_le 0x10000 c && nat_le c 0x10FFFF)

-- The bytes of a character: a reference if the character has a meaning in markup or would be normalized as white space,
-- and U+FFFD if XML does not allow it.
abbrev pub escaped : ℕ → List ℕ
escaped c =
    if c == 38 then codes "&amp;"
    else if c == 60 then codes "&lt;"
    else if c == 62 then codes "&gt;"
    else if c == 34 then codes "&quot;"
    else if c == 9 then codes "&#9;"
    else if c == 10 then codes "&#10;"
    else if c == 13 then codes "&#13;"
    else if is_legal c then encode_utf8 c
    else encode_utf8 0xFFFD

-- the bytes of a text in UTF-8, escaped
abbrev pub escaped_text : List ℕ → List ℕ
escaped_text text = flat_map escaped (chars text)

-- The byte is none of `<`, `>` and `"`.
abbrev pub is_text_byte : ℕ → Bool
is_text_byte b = not (b == 60 || b == 62 || b == 34)
