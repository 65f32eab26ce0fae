-- The modifiers of a group: flags that it changes for its body (ECMA-262, RegularExpressionModifiers).
use Rattle.std.specs.Prelude.{ℕ, Bool, true, false, not, ◌&&◌, List, [], ◌∷◌, ◌++◌, length, drop, Option, Some, None, if◌then◌else◌, ◌==◌}
use Rattle.std.specs.List.{list_any}
use Rattle.regress_base.specs.declared.types.Flags.{Flags}
use Rattle.regress_lexer.specs.Source.{Source, Found, char, is_one_of, colon, is_at}
use Rattle.regress_lexer.specs.Digits.{front, after}

-- the change of each flag that modifiers can switch: on, off, or none
pub record Change : Type 0 where
  pub icase : Option Bool
  pub multiline : Option Bool
  pub dot_all : Option Bool

-- the flag after the change
abbrev pub switched : Option Bool → Bool → Bool
switched None old = old
switched (Some new) old = new

-- the flags inside the group (ECMA-262, UpdateModifiers)
abbrev pub changed : Change → Flags → Flags
changed change flags = record flags {
  icase = switched change.icase flags.icase;
  multiline = switched change.multiline flags.multiline;
  dot_all = switched change.dot_all flags.dot_all;
}

-- a letter of a flag that modifiers can switch
abbrev pub is_modifier : ℕ → Bool
is_modifier c = is_one_of "ims" c

-- the letter is in the list
abbrev pub is_in : ℕ → List ℕ → Bool
is_in c letters = list_any (λ d. d == c) letters

-- no letter occurs twice
abbrev pub are_different : List ℕ → Bool
are_different [] = true
are_different (c ∷ cs) = not (is_in c cs) && are_different cs

-- the change of one flag, by the letters that switch on and those that switch off
abbrev pub switch : (on off : List ℕ) → ℕ → Option Bool
switch on off c = if is_in c on then Some true else if is_in c off then Some false else None

-- the change by the letters that switch on and those that switch off
abbrev pub change_by : (on off : List ℕ) → Change
change_by on off = record { icase = switch on off (char "i"); multiline = switch on off (char "m"); dot_all = switch on off (char "s") }

-- the letters after a hyphen, if there is one
abbrev pub letters_off : Source → List ℕ
letters_off t = if is_at (char "-") t then front is_modifier (drop 1 t) else []

-- the source after the hyphen and those letters
abbrev pub after_letters_off : Source → Source
after_letters_off t = if is_at (char "-") t then after is_modifier (drop 1 t) else t

-- Letters, an optional hyphen with letters, and `:`. There is at least one letter, and none occurs twice.
unfoldable pub modifiers_at : Source → Found Change
modifiers_at t =
    let on = front is_modifier t in
    let rest = after is_modifier t in
    let letters = on ++ letters_off rest in
    if not (length letters == 0) && are_different letters && is_at colon (after_letters_off rest)
    then Some (change_by on (letters_off rest), drop 1 (after_letters_off rest))
    else None
