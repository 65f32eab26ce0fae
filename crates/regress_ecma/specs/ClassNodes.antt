-- ECMA-262, 22.2.1: the parse nodes of classes, as far as 22.2.2.9 CompileToCharSet uses them.
use Rattle.std.specs.Prelude.{ℕ, Bool, List}
use Rattle.regress_base.specs.declared.charclasses.CharacterClassType.{CharacterClassType}
use Rattle.regress_ecma.specs.Notation.{CharSet}

mutual
  -- ClassAtom, and with the flag v ClassSetOperand
  pub data ClassAtom : Type 0 where
    -- a character, also one that is escaped
    character : (value : ℕ) → ClassAtom
    -- CharacterClassEscape: `\d`, `\s` or `\w`, or a capital of these
    class_escape : (kind : CharacterClassType) (capital : Bool) → ClassAtom
    -- `\p` or `\P` with a property: the characters that have it
    property : (members : CharSet) (capital : Bool) → ClassAtom
    -- `\p` with a property of strings: the strings that have it
    string_property : (members : List (List ℕ)) → ClassAtom
    -- ClassStringDisjunction: the characters of each ClassString
    class_strings : (strings : List (List ℕ)) → ClassAtom
    -- NestedClass
    nested_class : (invert : Bool) (contents : ClassContents) → ClassAtom

  -- ClassContents
  pub data ClassContents : Type 0 where
    empty : ClassContents
    -- an atom or operand, and the rest (NonemptyClassRanges, ClassUnion)
    atom_then : (first : ClassAtom) (rest : ClassContents) → ClassContents
    -- a range, and the rest (NonemptyClassRanges, ClassUnion)
    range_then : (first last : ClassAtom) (rest : ClassContents) → ClassContents
    -- ClassIntersection and ClassSubtraction
    intersection : (left : ClassContents) (right : ClassAtom) → ClassContents
    subtraction : (left : ClassContents) (right : ClassAtom) → ClassContents

-- CharacterClass
pub record CharacterClass : Type 0 where
  pub invert : Bool
  pub contents : ClassContents
