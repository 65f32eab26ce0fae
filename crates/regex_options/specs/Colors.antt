-- Colors, as GNU grep reads them from the variable GREP_COLORS.
use Rattle.std.specs.Prelude.{ℕ, Bool, true, false, not, ◌&&◌, ◌||◌, List, [], ◌∷◌, Option, Some, None, if◌then◌else◌, ◌==◌, bytes_eq, codes, length}
use Rattle.std.specs.Char.{is_ascii_digit}
use Rattle.std.specs.List.{slice_split}
use Rattle.regex_options.specs.Assignment.{name_and_value}
use Rattle.regex_options.specs.declared.colors.Colors as code

-- Parameters of SGR (ECMA-48) for matches and for the rest of lines, selected ones and those near them, for names, numbers
-- and separators; whether the colors of lines are exchanged where lines without a match are selected; and whether each change
-- of a color clears the line to its right.
pub record Colors : Type 0 where
  pub selected_match : List ℕ
  pub context_match : List ℕ
  pub selected_line : List ℕ
  pub context_line : List ℕ
  pub name : List ℕ
  pub number : List ℕ
  pub separator : List ℕ
  pub exchanged : Bool
  pub clears : Bool

-- the colors as the code represents them
abbrev pub plain_colors : code.Colors → Colors
plain_colors c = record {
  selected_match = c.selected_match.now;
  context_match = c.context_match.now;
  selected_line = c.selected_line.now;
  context_line = c.context_line.now;
  name = c.name.now;
  number = c.number.now;
  separator = c.separator.now;
  exchanged = c.exchanged;
  clears = c.clears;
}

-- digits and semicolons
abbrev pub are_parameters : List ℕ → Bool
are_parameters [] = true
are_parameters (b ∷ bs) = (is_ascii_digit b || b == 59) && are_parameters bs

-- An item is a name, or a name that is not empty, `=`, and parameters.
abbrev pub is_valid : (name : List ℕ) → (value : Option (List ℕ)) → Bool
is_valid name None = true
is_valid name (Some value) = not (length name == 0) && are_parameters value

abbrev pub is_item : (text : List ℕ) → Bool
is_item text = is_valid (name_and_value text).0 (name_and_value text).1

abbrev pub is_among : (name : List ℕ) → (names : List (List ℕ)) → Bool
is_among name [] = false
is_among name (other ∷ others) = bytes_eq other name || is_among name others

-- the value, or this one if there is none
abbrev pub value_or : (default : List ℕ) → Option (List ℕ) → List ℕ
value_or default None = default
value_or default (Some value) = value

-- the value that an item gives to what has these names, or the one before
abbrev pub next_value : (names : List (List ℕ)) → (before text : List ℕ) → List ℕ
next_value names before text = if is_among (name_and_value text).0 names then value_or before (name_and_value text).1 else before

-- The value of the last item that has one of these names and a value, or this one. A text that is no item ends the items.
abbrev pub last_value : (names : List (List ℕ)) → (default : List ℕ) → (texts : List (List ℕ)) → List ℕ
last_value names default [] = default
last_value names default (text ∷ texts) = if is_item text then last_value names (next_value names default text) texts else default

-- An item has this name. A text that is no item ends the items.
abbrev pub is_given : (name : List ℕ) → (texts : List (List ℕ)) → Bool
is_given name [] = false
is_given name (text ∷ texts) = is_item text && (bytes_eq (name_and_value text).0 name || is_given name texts)

-- the colors by the texts between colons
abbrev pub colors_by : (texts : List (List ℕ)) → Colors
colors_by texts = record {
  selected_match = last_value (codes "mt" ∷ codes "ms" ∷ []) (codes "01;31") texts;
  context_match = last_value (codes "mt" ∷ codes "mc" ∷ []) (codes "01;31") texts;
  selected_line = last_value (codes "sl" ∷ []) [] texts;
  context_line = last_value (codes "cx" ∷ []) [] texts;
  name = last_value (codes "fn" ∷ []) (codes "35") texts;
  number = last_value (codes "ln" ∷ []) (codes "32") texts;
  separator = last_value (codes "se" ∷ []) (codes "36") texts;
  exchanged = is_given (codes "rv") texts;
  clears = not (is_given (codes "ne") texts);
}

-- the colors by the value of the variable
abbrev pub colors_of : (text : List ℕ) → Colors
colors_of text = colors_by (slice_split (λ b. b == 58) text)
