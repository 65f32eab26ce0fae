-- The parts of a class with the flag v, in the order in which the parser makes them.
use Rattle.std.specs.Prelude.{ℕ, Bool, not, ◌||◌, ◌==◌, List, [], ◌∷◌, ◌++◌, length, if◌then◌else◌}
use Rattle.regress_base.specs.Intervals.{Bounds}
use Rattle.regress_tree.specs.Tree.{Tree, leaf, empty, bracket, string_set}
use Rattle.regress_classes.specs.ClassSets.{Value, has_strings}
use Rattle.regress_syntax.specs.Meaning.{longest_first}

-- the set of strings, if the class has any
abbrev pub strings_part : (icase : Bool) → List (List ℕ) → List Tree
strings_part icase [] = []
strings_part icase (s ∷ ss) = leaf (string_set (s ∷ ss) icase) ∷ []

-- the bracket, if a character can match it or the class has no strings
abbrev pub bracket_part : (alone negated : Bool) → List Bounds → List Tree
bracket_part alone negated members =
    if alone || (negated || not (length members == 0)) then leaf (bracket negated members) ∷ [] else []

-- the empty string, if the class has it
abbrev pub empty_part : Bool → List Tree
empty_part has_empty = if has_empty then leaf empty ∷ [] else []

-- all parts, in the order in which they are tried
abbrev pub class_parts : (icase negated : Bool) → Value → (closed : List Bounds) → List Tree
class_parts icase negated value closed =
    strings_part icase (longest_first value.strings)
    ++ bracket_part (not (has_strings value)) negated closed
    ++ empty_part value.has_empty
