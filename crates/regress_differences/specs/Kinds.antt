-- The names, numbers and texts of the kinds of differences, and what is said of a difference. Names and numbers never
-- change.
use Rattle.std.specs.Prelude.{◌≡◌, ℕ, Bool, true, false, not, ◌&&◌, ◌==◌, List, [], ◌∷◌, ◌++◌, codes, length, map, Option, Some, None, drop, if◌then◌else◌}
use Rattle.std.specs.Fmt.{decimal}
use Rattle.std.specs.List.{filter}
use Rattle.regress_base.specs.Intervals.{Bounds, is_member}
use Rattle.regress_base.specs.declared.charclasses.CharacterClassType.{CharacterClassType}
use Rattle.regress_base.specs.declared.types.Flags.{Flags}
use Rattle.regress_tree.specs.Display.{code_point}
use Rattle.regress_tree.specs.Steps.{Setting}
use Rattle.regress_tree.specs.Tree.{Leaf, bracket, Tree, leaf}
use Rattle.regress_classes.specs.ClassProductions.{class_letter}
use Rattle.regress_lexer.specs.Source.{Source, char}
use Rattle.regress_parse.specs.declared.span.Span.{Span}
use Rattle.regress_spans.specs.Remarks.{Said}
use Rattle.regress_differences.specs.CaseMode.{widest_flags}
use Rattle.regress_differences.specs.Reported.{apart, AreParts, difference_of, kind_of, Part}
use Rattle.regress_differences.specs.declared.kind.Difference.{Difference}
use Rattle.regress_differences.specs.declared.kind.DifferenceKind.{DifferenceKind}
use Rattle.regress_differences.specs.declared.kind.DifferenceKind.TheVariants.{CaseClosure, StringSet, SameName, Grammar}

-- the name of a kind
abbrev pub name_of : DifferenceKind → List ℕ
name_of CaseClosure = codes "case-closure"
name_of StringSet = codes "string-set"
name_of SameName = codes "same-name"
name_of Grammar = codes "grammar"

-- the number of a kind, from 1 to 4
abbrev pub number_of : DifferenceKind → ℕ
number_of CaseClosure = 1
number_of StringSet = 2
number_of SameName = 3
number_of Grammar = 4

-- the text of a kind
abbrev pub text_of : DifferenceKind → List ℕ
text_of CaseClosure = codes "with the flag i other characters may match than in JavaScript: [k] without u also matches U+212A, and [\\W] with u also matches k"
text_of StringSet = codes "the strings of a property such as \\p{RGI_Emoji} are tried in the order of the Unicode table, in JavaScript the longest first"
text_of SameName = codes "a reference to several groups of one name tries each of them, and an unset group gives the empty string: (?:(?<a>x)|(?<a>y))\\k<a> matches y of yy, in JavaScript yy"
text_of Grammar = codes "JavaScript parses the pattern otherwise or rejects it: without u \\u{61} is u, 61 times, and \\b* is a syntax error"

-- ---- what is said of a difference

-- Some of these, the first two by their numbers: `U+1E9E, U+1F88 and 3 more`.
abbrev pub listed : List ℕ → List ℕ
listed [] = []
listed (c ∷ []) = code_point c
listed (c ∷ d ∷ []) = code_point c ++ (codes " and " ++ code_point d)
listed (c ∷ d ∷ e ∷ others) =
    code_point c ++ (codes ", " ++ (code_point d ++ (codes " and " ++ (decimal (length (e ∷ others)) ++ codes " more"))))

-- the text about a class with these members, without u. The set is closed, so it has case variants of these.
abbrev pub members_text : List Bounds → List ℕ
members_text closed =
    codes "with the flag i it also contains " ++ (listed (filter (is_member closed) apart) ++ codes ", in JavaScript only with u or where written")

-- a text about each class in a pattern with these flags
abbrev pub case_text : Flags → List ℕ
case_text flags =
    if flags.unicode_sets
    then codes "with the flags i and v complements and operators work on what is written, in JavaScript on folded characters: [[^A]] also matches A"
    else if flags.unicode
    then codes "with the flags i and u a complement in a class is taken before case is ignored: [\\W] also matches K, S, k, s, U+017F and U+212A, in JavaScript none of these"
    else codes "with the flag i U+017F and U+212A are word characters, in JavaScript only with u: \\w also matches these two"

abbrev pub general_text : Flags → DifferenceKind → List ℕ
general_text flags CaseClosure = case_text flags
general_text flags StringSet = text_of StringSet
general_text flags SameName = text_of SameName
general_text flags Grammar = text_of Grammar

-- the class escape at the start of the source, such as `\w`
abbrev pub letter_at : Source → Option (CharacterClassType × Bool)
letter_at [] = None
letter_at (c ∷ t) = class_letter c

abbrev pub class_escape_at : Source → Option (CharacterClassType × Bool)
class_escape_at [] = None
class_escape_at (c ∷ t) = if c == char "\\" then letter_at t else None

abbrev pub is_escape : Source → Bool
is_escape t = elim (class_escape_at t) [
  | Some named ↦ true
  | None ↦ false
]

-- The text is about the members of the class: in brackets, without u and v.
abbrev pub is_of_members : Flags → Source → DifferenceKind → Bool
is_of_members flags t CaseClosure = not flags.unicode_sets && not flags.unicode && not (is_escape t)
is_of_members flags t StringSet = false
is_of_members flags t SameName = false
is_of_members flags t Grammar = false

module _ (flags : Flags) (t : Source) (kind : DifferenceKind) where
  abbrev pub leaf_text : Leaf → List ℕ
  leaf_text (bracket invert closed) = if is_of_members flags t kind then members_text closed else general_text flags kind
  leaf_text l = general_text flags kind

  -- the text about a difference of this kind, where `t` is the source from the start of its span on
  abbrev pub text_at : Option Tree → List ℕ
  text_at (Some (leaf l)) = leaf_text l
  text_at other = general_text flags kind

-- the flags of the pattern, with i if it may be matched with i somewhere, and its source
module _ (flags : Flags) (source : Source) where
  -- what is said of a part
  abbrev pub said_of : Part → Said
  said_of (node, span) =
      let kind = kind_of flags (drop span.start source) node in
      (span, name_of kind, text_at flags (drop span.start source) kind node)

-- ---- what is reported of a whole pattern

module _ (setting : Setting) (source : Source) (t : Tree) (nodes : List (Tree × Span)) where
  -- the differences of the parts that are reported
  abbrev pub AreDifferences : List Difference → Type 0
  AreDifferences found =
      (parts : List Part) × AreParts setting source t nodes parts × (found ≡ map (difference_of (widest_flags setting.flags source) source) parts)

  -- what is said of them
  abbrev pub AreSaid : List Said → Type 0
  AreSaid found = (parts : List Part) × AreParts setting source t nodes parts × (found ≡ map (said_of (widest_flags setting.flags source) source) parts)
