-- A leaf that matches one character is a part.
use Rattle.std.proofs.Common.{◌≡◌, true, false, refl}
use Rattle.regress_prefilter.specs.OneCharacter.{takes_one}
use Rattle.regress_tree.specs.Tree.{empty, goal, char, byte_sequence, byte_set, char_set, match_any, match_any_except_line_terminator, anchor, word_boundary, bracket, back_ref, string_set, Tree, leaf, cat, alt, wrapped}
use Rattle.regress_program.specs.Linear.{is_back_ref}
use Rattle.regress_program.specs.Shape.{IsPart}

pub part_if_one : (t : Tree) → takes_one t ≡ true → IsPart t
part_if_one (leaf empty) is = tt
part_if_one (leaf goal) is = tt
part_if_one (leaf (char c)) is = tt
part_if_one (leaf (byte_sequence bytes)) is = tt
part_if_one (leaf (byte_set members)) is = tt
part_if_one (leaf (char_set members)) is = tt
part_if_one (leaf match_any) is = tt
part_if_one (leaf match_any_except_line_terminator) is = tt
part_if_one (leaf (anchor kind multiline)) is = tt
part_if_one (leaf (word_boundary invert unicode_icase)) is = tt
part_if_one (leaf (bracket invert intervals)) is = tt
part_if_one (leaf (back_ref group icase)) is = tt
part_if_one (leaf (string_set ss icase)) is = cc
part_if_one (cat parts) is = cc
part_if_one (alt left right) is = cc
part_if_one (wrapped w body) is = cc

-- It is no back reference.
pub plain_if_one : (t : Tree) → takes_one t ≡ true → is_back_ref t ≡ false
plain_if_one (leaf empty) is = refl
plain_if_one (leaf goal) is = refl
plain_if_one (leaf (char c)) is = refl
plain_if_one (leaf (byte_sequence bytes)) is = refl
plain_if_one (leaf (byte_set members)) is = refl
plain_if_one (leaf (char_set members)) is = refl
plain_if_one (leaf match_any) is = refl
plain_if_one (leaf match_any_except_line_terminator) is = refl
plain_if_one (leaf (anchor kind multiline)) is = refl
plain_if_one (leaf (word_boundary invert unicode_icase)) is = refl
plain_if_one (leaf (bracket invert intervals)) is = refl
plain_if_one (leaf (back_ref group icase)) is = cc
plain_if_one (leaf (string_set ss icase)) is = refl
plain_if_one (cat parts) is = refl
plain_if_one (alt left right) is = refl
plain_if_one (wrapped w body) is = refl
