-- The pieces of a template (ECMA-262, GetSubstitution). A template is a list of bytes of UTF-8.
use Rattle.std.specs.Prelude.{ℕ, zero, suc, ◌+◌, ◌-◌, ◌*◌, Bool, ◌&&◌, List, [], ◌∷◌, Option, Some, None, option_map, take, slice_index, if◌then◌else◌, nat_le, ◌==◌}
use Rattle.std.specs.Char.{is_ascii_digit}
use Rattle.std.specs.List.{position}
use Rattle.std.specs.Option.{unwrap_or}

-- a part of a template: bytes that are taken as they are, or a reference
pub data Piece : Type 0 where
  plain : (bytes : List ℕ) → Piece
  text_before : Piece
  whole_match : Piece
  text_after : Piece
  -- the group with this id, from 0
  by_number : (id : ℕ) → Piece
  by_name : (name : List ℕ) → Piece

-- A reference to a group by its number, from 1, with its number of digits. There is none if the pattern has no group
-- with this number.
abbrev pub group_reference : (groups number digits : ℕ) → Option (Piece × ℕ)
group_reference groups number digits =
    if nat_le 1 number && nat_le number groups then Some (by_number (number - 1), digits) else None

-- A reference by a number whose first digit is given. A second digit is taken only if the pattern has as many groups.
abbrev pub number_reference : (groups first : ℕ) → List ℕ → Option (Piece × ℕ)
number_reference groups first t =
    let second = slice_index t 0 in
    let both = first * 10 + (second - 48) in
    if is_ascii_digit second && nat_le both groups then group_reference groups both 2 else group_reference groups first 1

-- a reference by a name, which starts after the `<` and ends at the first `>`
abbrev pub name_reference : List ℕ → Option (Piece × ℕ)
name_reference t = option_map (λ n. (by_name (take n t), n + 2)) (position (λ b. b == 62) t)

-- The reference that follows a `$`, and its number of bytes; none if the `$` is taken as it is. It is a `$`, a grave
-- accent, `&`, an apostrophe, a number or, in a pattern with named groups, a name in angle brackets.
abbrev pub reference : (groups : ℕ) → (has_names : Bool) → List ℕ → Option (Piece × ℕ)
reference groups has_names [] = None
reference groups has_names (b ∷ t) =
    if b == 36 then Some (plain (36 ∷ []), 1)
    else if b == 96 then Some (text_before, 1)
    else if b == 38 then Some (whole_match, 1)
    else if b == 39 then Some (text_after, 1)
    else if is_ascii_digit b then number_reference groups (b - 48) t
    else if b == 60 && has_names then name_reference t
    else None

-- The first piece of a template, and how many bytes it takes after the first byte: a reference, or one byte.
abbrev pub first_piece : (groups : ℕ) → (has_names : Bool) → (b : ℕ) → List ℕ → Piece × ℕ
first_piece groups has_names b t =
    if b == 36 then unwrap_or (reference groups has_names t) (plain (36 ∷ []), 0) else (plain (b ∷ []), 0)

-- the pieces of a template, without those in its first `skipped` bytes
abbrev pub pieces_after : (groups : ℕ) → (has_names : Bool) → (skipped : ℕ) → List ℕ → List Piece
pieces_after groups has_names skipped [] = []
pieces_after groups has_names zero (b ∷ t) =
    (first_piece groups has_names b t).0 ∷ pieces_after groups has_names (first_piece groups has_names b t).1 t
pieces_after groups has_names (suc skipped) (b ∷ t) = pieces_after groups has_names skipped t

-- the pieces of a template
abbrev pub pieces_of : (groups : ℕ) → (has_names : Bool) → List ℕ → List Piece
pieces_of groups has_names template = pieces_after groups has_names 0 template
