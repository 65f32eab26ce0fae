-- A text as a page shows it.
use Rattle.std.specs.Prelude.{ℕ, Bool, List, chars, encode_utf8, flat_map, if◌then◌else◌, ◌==◌, ◌||◌, ◌&&◌, not}
use Rattle.std.specs.Int.{is_in_range}
use Rattle.regress_tree.specs.Display.{code_point}

-- a control other than tab and line feed, or an invisible format character
abbrev pub is_hidden : ℕ → Bool
is_hidden c = not (c == 9 || c == 10) && (is_in_range 0 0x1F c || is_in_range 0x7F 0x9F c || c == 0x61C || is_in_range 0x200B 0x200F c
    || is_in_range 0x2028 0x202E c || is_in_range 0x2060 0x206F c || c == 0xFEFF || is_in_range 0xFFFE 0xFFFF c)

-- itself, or its number, as `U+202E`
abbrev pub shown_character : ℕ → List ℕ
shown_character c = if is_hidden c then code_point c else encode_utf8 c

abbrev pub shown_text : List ℕ → List ℕ
shown_text text = flat_map shown_character (chars text)
