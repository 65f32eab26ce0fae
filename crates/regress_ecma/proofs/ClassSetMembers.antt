-- Classes with the flag v: the CharSet of ECMA-262 beside the contents that the syntax tree has. With the flag i the former has
-- foldings, and the latter, where the dialect has it so, is closed under case folding.
use Rattle.std.proofs.Common.{◌≡◌, ℕ, zero, suc, ◌+◌, ◌==◌, Bool, true, false, not, ◌&&◌, ◌||◌, List, [], ◌∷◌, length, drop, Option, Some, None, if◌then◌else◌, refl, sym, ap, ap₂, subst, ◌∙◌, nat_le}
use Rattle.std.proofs.lemmas.Bool.{false≢true}
use Rattle.regress_base.specs.Intervals.{Bounds}
use Rattle.regress_base.specs.Limits.{max_nesting_depth}
use Rattle.regress_base.specs.Table.{Table}
use Rattle.regress_base.specs.declared.charclasses.CharacterClassType.{CharacterClassType}
use Rattle.regress_base.specs.declared.types.Flags.{Flags}
use Rattle.regress_lexer.specs.Dialects.{isolates_ampersand, judges_contents}
use Rattle.regress_lexer.specs.Source.{Source, Found, found_map, first_production, char, is_one_of, is_at}
use Rattle.regress_classes.specs.declared.parameters.Parameters.{Parameters}
use Rattle.regress_classes.specs.ClassProductions.{members_of, class_letter, complement_if, closes, closed_members, class_members, one_point, points_between}
use Rattle.regress_classes.specs.ClassProductions as ClassProductions
use Rattle.regress_classes.specs.ClassSets.{Value, nothing, has_strings, is_not_negatable, joined, folded_left, is_among, common, without, closed_value, closed_value_of, value_of_string, value_of_strings, nested, unless_negated_strings, Operand, value_of, range_of, escaped_character_at, set_character_at, strings_by, quoted_at, property_operand, are_at, class_set_at}
use Rattle.regress_classes.specs.ClassSets as ClassSets
use Rattle.regress_classes.specs.Properties.{Property, of_points, of_strings, property_at}
use Rattle.regress_classes.proofs.lemmas.ClassSets.{no_strings as none_if_negated}
use Rattle.regress_ecma.specs.Notation.{CharSet}
use Rattle.regress_ecma.specs.Characters.{word_characters, class_escape_set, character_class_escape}
use Rattle.regress_ecma.specs.ClassNodes.{ClassAtom, character, class_escape, property, string_property, class_strings, nested_class, ClassContents, empty, atom_then, range_then, intersection, subtraction, CharacterClass}
use Rattle.regress_ecma.specs.CharSets.{Elements, only, union, each_string, character_range, complement, maybe_simple_case_folding, atom_to_char_set, compile_to_char_set}
use Rattle.regress_ecma.specs.ClassGrammar.{property_node, class_strings_at, operand_productions, escaped_operand_at, operand_at, part_after, class_union_by, operands_by, contents_after, contents_at, class_set_by, character_class_at}
use Rattle.regress_ecma.specs.Differences.{HasCaseDataOfUnicode}
use Rattle.regress_ecma.proofs.Follows.{Follows, follows_none, follows_some, follows_if, follows_unless, follows_then, follows_map, follows_mapped, follows_same}
use Rattle.regress_ecma.proofs.FoldedSets.{closed_if, folded_if, strings_if, complement_if_folded, IsFoldingOf, folding_is, uncased_is, strings-twice}
use Rattle.regress_ecma.proofs.IgnoredCase.{digits_uncased, spaces_uncased}
use Rattle.regress_ecma.proofs.Sets.{escape_set-plain}
use Rattle.regress_ecma.proofs.lemmas.ClassCharacters.{words_folded}
use Rattle.regress_base.proofs.lemmas.Sets.{is_member-nil, intervals_of-agree}
use Rattle.regress_base.specs.declared.charclasses.CharacterClassType.TheVariants.{Digits, Spaces, Words}
use Rattle.regress_ecma.proofs.FoldedElements.{elements, union-none, union-assoc, each_string-same, Represents, folded, folding, closing, complementing, joining, intersecting, subtracting}

-- a class, as it is written
pub record IsClassSet (table : Table) (rer : Flags) (folds : Bool) (node : CharacterClass) (read : Bool × Value) : Type 0 where
  pub invert : node.invert ≡ read.0
  pub contents : Represents table folds (compile_to_char_set table rer node.contents) read.1
  pub no_strings : (read.0 && has_strings read.1) ≡ false

module _ (table : Table) (maps : HasCaseDataOfUnicode table) (rer : Flags) (with_u : rer.unicode_sets ≡ true → rer.unicode ≡ true)
    (sets : rer.unicode_sets ≡ true) (parameters : Parameters) (same : (rer.unicode_sets && rer.icase) ≡ closes parameters) where
  abbrev folds : Bool
  folds = closes parameters

  abbrev Is : Elements → Value → Type 0
  Is a v = Represents table folds a v

  -- the same, once the value is closed
  abbrev IsClosed : Elements → Value → Type 0
  IsClosed a v = Represents table folds a (closed_value table parameters v)

  folding_of : (v : Value) → IsClosed (maybe_simple_case_folding table rer (elements v)) v
  folding_of v = subst (λ (b : Bool). IsClosed (folded table b (elements v)) v) (sym same) (folding table maps folds v)

  -- the complement of a class without strings
  complement_is : (a : Elements) (v : Value) → Is a v → has_strings v ≡ false →
      Is (complement table rer a) (record v { members = ClassProductions.complement v.members })
  complement_is a v is none =
      subst (λ (b : Bool). Is (only (complement_if_folded table b a.characters)) (record v { members = ClassProductions.complement v.members })) (sym same)
      (complementing table maps folds a v is none)

  again : (a : Elements) (v : Value) → Is a v → IsClosed a v
  again a v is = closing table maps folds a v is

  abbrev compile : ClassContents → Elements
  compile contents = compile_to_char_set table rer contents

  abbrev compile_atom : ClassAtom → Elements
  compile_atom node = atom_to_char_set table rer node

  abbrev complement_if_negated : Bool → Elements → Elements
  complement_if_negated negated a = if negated then complement table rer a else a

  complement_if_is : (negated : Bool) (a : Elements) (v : Value) → Is a v → (negated && has_strings v) ≡ false →
      Is (complement_if_negated negated a) (record v { members = complement_if negated v.members })
  complement_if_is true a v is none = complement_is a v is none
  complement_if_is false a v is none = is

  -- ---- operands

  abbrev IsOperand : ClassAtom → Operand → Type 0
  IsOperand node (ClassSets.character c) = node ≡ character c
  IsOperand node (ClassSets.class value) = IsClosed (compile_atom node) value

  operand_is : (node : ClassAtom) (operand : Operand) → IsOperand node operand → IsClosed (compile_atom node) (value_of operand)
  operand_is node (ClassSets.character c) is =
      subst (λ (n : ClassAtom). IsClosed (compile_atom n) (ClassSets.only (one_point c))) (sym is) (folding_of (ClassSets.only (one_point c)))
  operand_is node (ClassSets.class value) is = is

  words_are : (i : Bool) → rer.icase ≡ i → IsFoldingOf table folds (class_escape_set table rer Words) (closed_if table folds (members_of Words))
  words_are true i =
      let both : (rer.unicode_sets && rer.icase) ≡ true = ap₂ (λ (x y : Bool). x && y) sets i in
      let words : class_escape_set table rer Words ≡ folded_if table true (members_of Words) =
      ap (λ (b : Bool). folded_if table b (word_characters table rer)) both
      ∙ intervals_of-agree _ _ (λ c le. words_folded table rer maps.idempotent both c) in
      subst (λ (b : Bool). IsFoldingOf table b (class_escape_set table rer Words) (closed_if table b (members_of Words))) (sym both ∙ same)
      (subst (λ (set : CharSet). IsFoldingOf table true set (closed_if table true (members_of Words))) (sym words)
      (folding_is table maps true (members_of Words)))
  words_are false i =
      let none : (rer.unicode_sets && rer.icase) ≡ false = ap₂ (λ (x y : Bool). x && y) sets i in
      subst (λ (b : Bool). IsFoldingOf table b (class_escape_set table rer Words) (closed_if table b (members_of Words))) (sym none ∙ same)
      (subst (λ (set : CharSet). IsFoldingOf table false set (members_of Words)) (sym (escape_set-plain table maps rer with_u i Words))
      (folding_is table maps false (members_of Words)))

  escape_members : (kind : CharacterClassType) → IsFoldingOf table folds (class_escape_set table rer kind) (closed_if table folds (members_of kind))
  escape_members Digits = uncased_is table maps folds (members_of Digits) digits_uncased
  escape_members Spaces = uncased_is table maps folds (members_of Spaces) spaces_uncased
  escape_members Words = words_are rer.icase refl

  no_strings : (b : Bool) → strings_if table b [] ≡ []
  no_strings true = refl
  no_strings false = refl

  no_strings_in : (set members : CharSet) → IsFoldingOf table folds set members → Is (only set) (ClassSets.only members)
  no_strings_in set members is = record { characters = is; strings = refl; folded_strings = no_strings folds; has_empty = refl }

  and_false : (b : Bool) → (b && false) ≡ false
  and_false true = refl
  and_false false = refl

  pub escape_is : (kind : CharacterClassType) (capital : Bool) →
      Is (only (character_class_escape table rer kind capital)) (ClassSets.only (class_members table parameters (kind, capital)))
  escape_is kind true =
      complement_is (only (class_escape_set table rer kind)) (ClassSets.only (closed_if table folds (members_of kind)))
      (no_strings_in _ _ (escape_members kind)) refl
  escape_is kind false = no_strings_in _ _ (escape_members kind)

  pub property_is : (capital : Bool) (members : CharSet) →
      Is (compile_atom (property members capital)) (ClassSets.only (complement_if capital (closed_members table parameters members)))
  property_is capital members =
      let closed' = folding_of (ClassSets.only members) in
      complement_if_is capital (maybe_simple_case_folding table rer (only members)) (ClassSets.only (closed_members table parameters members))
      (record {
        characters = closed'.characters;
        strings = closed'.strings ∙ no_strings folds;
        folded_strings = no_strings folds;
        has_empty = closed'.has_empty;
      })
      (and_false capital)

  strings_are : (strings : List (List ℕ)) → IsClosed (maybe_simple_case_folding table rer (each_string strings)) (value_of_strings strings)
  strings_are strings =
      subst (λ (a : Elements). IsClosed (maybe_simple_case_folding table rer a) (value_of_strings strings)) (sym (each_string-same strings))
      (folding_of (value_of_strings strings))

  property_follows : (in_negated capital : Bool) (p : Property) (t : Source) →
      Follows IsOperand (property_operand table parameters in_negated capital (p, t)) (Some (property_node capital p, t))
  property_follows in_negated capital (of_points members) t =
      let value : Value = ClassSets.only (complement_if capital (closed_members table parameters members)) in
      follows_some IsOperand (property members capital) (ClassSets.class value) t
      (again (compile_atom (property members capital)) value (property_is capital members))
  property_follows in_negated capital (of_strings members) t =
      follows_unless IsOperand (in_negated || capital) _ _
      (λ _. follows_some IsOperand (string_property members) (ClassSets.class (value_of_strings members)) t (strings_are members))

  -- ---- classes in a class

  abbrev IsClass : CharacterClass → Bool × Value → Type 0
  IsClass node read = IsClassSet table rer folds node read

  pub nested_is : (node : CharacterClass) (read : Bool × Value) → IsClass node read → Is (compile_atom (nested_class node.invert node.contents)) (nested read)
  nested_is node (negated, v) is =
      let whole : Is (complement_if_negated node.invert (compile node.contents)) (record v { members = complement_if negated v.members }) =
      subst (λ (b : Bool). Is (complement_if_negated b (compile node.contents)) (record v { members = complement_if negated v.members })) (sym is.invert)
      (complement_if_is negated (compile node.contents) v is.contents is.no_strings) in
      record { characters = whole.characters; strings = whole.strings; folded_strings = whole.folded_strings; has_empty = whole.has_empty }

  module _ (in_negated : Bool) where
    strings_follow : (t : Source) → Follows IsOperand (quoted_at parameters t) (class_strings_at table parameters t)
    strings_follow t =
        follows_if IsOperand (is_at (char "{") t) _ _ _ _
        (λ _.
        follows_map (λ (y x : List (List ℕ)). y ≡ x) IsOperand (λ ss. ClassSets.class (value_of_strings ss)) class_strings _ _ (follows_same _)
        (λ x y same. subst (λ (ss : List (List ℕ)). IsClosed (compile_atom (class_strings y)) (value_of_strings ss)) same (strings_are y)))
        (λ _. follows_none IsOperand None)

    productions_follow : (c : ℕ) (t : Source) →
        Follows IsOperand (first_production (ClassSets.operand_productions table parameters in_negated c t))
        (first_production (operand_productions table parameters c t))
    productions_follow c t =
        follows_if IsOperand (c == char "q") _ _ _ _ (λ _. strings_follow t)
        (λ _. follows_if IsOperand (is_one_of "pP" c) _ _ _ _
        (λ _.
        follows_then (λ (y x : Property). y ≡ x) IsOperand (property_at true table t) (property_at true table t) _ _ (follows_same _)
        (λ p q u same.
        subst
        (λ (r : Property). Follows IsOperand (property_operand table parameters in_negated (c == char "P") (p, u)) (Some (property_node (c == char "P") r, u)))
        (sym same)
        (property_follows in_negated (c == char "P") p u)))
        (λ _.
        follows_map (λ (y x : ℕ). y ≡ x) IsOperand ClassSets.character character _ _ (follows_same (escaped_character_at parameters.unicode (c ∷ t)))
        (λ x y same. ap character same)))

    escape_follows : (t : Source) → Follows IsOperand (ClassSets.escaped_operand_at table parameters in_negated t) (escaped_operand_at table parameters t)
    escape_follows [] = follows_none IsOperand None
    escape_follows (c ∷ t) = by (class_letter c)
      where
        by : (letter : Option (CharacterClassType × Bool)) →
            Follows IsOperand
            (elim letter as (λ _. Found Operand) [
              | Some named ↦ Some (ClassSets.class (ClassSets.only (class_members table parameters named)), t)
              | None ↦ first_production (ClassSets.operand_productions table parameters in_negated c t)
            ])
            (elim letter as (λ _. Found ClassAtom) [
              | Some named ↦ Some (class_escape named.0 named.1, t)
              | None ↦ first_production (operand_productions table parameters c t)
            ])
        by (Some (kind, capital)) =
            follows_some IsOperand (class_escape kind capital) (ClassSets.class (ClassSets.only (class_members table parameters (kind, capital)))) t
            (again _ _ (escape_is kind capital))
        by None = productions_follow c t

    module _ (inner : Source → Found (Bool × Value)) (inner' : Source → Found CharacterClass)
        (inside : (t : Source) → Follows IsClass (inner t) (inner' t)) where
      operand_follows : (t : Source) → Follows IsOperand (ClassSets.operand_at table parameters inner in_negated t) (operand_at table parameters inner' t)
      unfolding ClassSets.operand_at operand_at
      operand_follows t =
          follows_if IsOperand (is_at (char "[") t) _ _ _ _
          (λ _.
          follows_map IsClass IsOperand (λ read. ClassSets.class (nested read)) (λ node. nested_class node.invert node.contents) _ _ (inside (drop 1 t))
          (λ read node is. again _ _ (nested_is node read is)))
          (λ _.
          follows_if IsOperand (is_at (char "\\") t) _ _ _ _ (λ _. escape_follows (drop 1 t))
          (λ _.
          follows_map (λ (y x : ℕ). y ≡ x) IsOperand ClassSets.character character _ _ (follows_same (set_character_at parameters t))
          (λ x y same. ap character same)))

      -- ---- unions

      -- The part puts its elements before those of the rest.
      record IsPart (with_part : ClassContents → ClassContents) (value : Value) : Type 0 where
        part : Elements
        before : (contents : ClassContents) → compile (with_part contents) ≡ union part (compile contents)
        is : IsClosed part value

      operand_part : (first : ClassAtom) (operand : Operand) → IsOperand first operand → IsPart (atom_then first) (value_of operand)
      operand_part first operand is = record { part = compile_atom first; before = λ contents. refl; is = operand_is first operand is }

      range_part : (first last : ClassAtom) (a b : ℕ) → first ≡ character a → last ≡ character b →
          IsPart (range_then first last) (ClassSets.only (record { first = a; last = b } ∷ []))
      range_part first last a b is_first is_last = record {
        part = maybe_simple_case_folding table rer (only (character_range a b));
        before = λ contents. ap₂ (λ (x y : ClassAtom). compile (range_then x y contents)) is_first is_last;
        is = folding_of (ClassSets.only (record { first = a; last = b } ∷ []));
      }

      range_follows : (first last : ClassAtom) (a b : Operand) (t : Source) → IsOperand first a → IsOperand last b →
          Follows IsPart
          (elim (range_of a b) as (λ _. Found Value) [ None ↦ None | Some members ↦ Some (ClassSets.only members, t) ])
          (Some (range_then first last, t))
      range_follows first last (ClassSets.character a) (ClassSets.character b) t is_first is_last = by_test (nat_le a b)
        where
          maybe : Bool → Option (List Bounds)
          maybe ordered = if ordered then Some (record { first = a; last = b } ∷ []) else None

          by_test : (ordered : Bool) →
              Follows IsPart (elim (maybe ordered) as (λ _. Found Value) [ None ↦ None | Some members ↦ Some (ClassSets.only members, t) ])
              (Some (range_then first last, t))
          by_test true = follows_some IsPart (range_then first last) _ t (range_part first last a b is_first is_last)
          by_test false = follows_none IsPart _
      range_follows first last (ClassSets.character a) (ClassSets.class others) t is_first is_last = follows_none IsPart _
      range_follows first last (ClassSets.class value) b t is_first is_last = follows_none IsPart _

      part_follows : (first : ClassAtom) (operand : Operand) (t : Source) → IsOperand first operand →
          Follows IsPart (ClassSets.part_after table parameters inner in_negated (operand, t)) (part_after table parameters inner' (first, t))
      part_follows first operand t is_first =
          follows_if IsPart (is_at (char "-") t) _ _ _ _
          (λ _.
          follows_then IsOperand IsPart _ _ _ _ (operand_follows (drop 1 t))
          (λ b last rest is_last. range_follows first last operand b rest is_first is_last))
          (λ _. follows_some IsPart (atom_then first) (value_of operand) t (operand_part first operand is_first))

      -- The contents have the parts, after those that are held.
      abbrev AreParts : ClassContents → List Value → Type 0
      AreParts contents parts = (a : Elements) (held : Value) → IsClosed a held → IsClosed (union a (compile contents)) (folded_left joined held parts)

      no_parts : AreParts empty []
      no_parts a held is = subst (λ (e : Elements). IsClosed e held) (sym (union-none a)) is

      more_parts : (with_part : ClassContents → ClassContents) (part : Value) → IsPart with_part part →
          (contents : ClassContents) (parts : List Value) → AreParts contents parts → AreParts (with_part contents) (part ∷ parts)
      more_parts with_part part is contents parts are a held h =
          subst (λ (e : Elements). IsClosed e (folded_left joined (joined held part) parts))
          (sym (ap (union a) (is.before contents) ∙ union-assoc a is.part (compile contents)))
          (are (union a is.part) (joined held part) (joining table maps folds a held is.part part h is.is))

      first_part : (with_part : ClassContents → ClassContents) (part : Value) → IsPart with_part part →
          (contents : ClassContents) (parts : List Value) → AreParts contents parts → IsClosed (compile (with_part contents)) (folded_left joined part parts)
      first_part with_part part is contents parts are =
          subst (λ (e : Elements). IsClosed e (folded_left joined part parts)) (sym (is.before contents)) (are is.part part is.is)

      operand_alone : (first : ClassAtom) (operand : Operand) → IsOperand first operand → IsClosed (compile (atom_then first empty)) (value_of operand)
      operand_alone first operand is = first_part (atom_then first) (value_of operand) (operand_part first operand is) empty [] no_parts

      union_follows : (n : ℕ) (t : Source) →
          Follows AreParts (ClassSets.parts_by table parameters inner in_negated n t) (class_union_by table parameters inner' n t)
      unfolding ClassSets.parts_by class_union_by
      union_follows zero t = follows_none AreParts None
      union_follows (suc n) t =
          follows_if AreParts (is_at (char "]") t) _ _ _ _
          (λ _. follows_some AreParts empty [] (drop 1 t) no_parts)
          (λ _.
          follows_then IsPart AreParts _ _ _ _
          (follows_then IsOperand IsPart _ _ _ _ (operand_follows t) (λ operand first rest is. part_follows first operand rest is))
          (λ part with_part rest is.
          follows_map AreParts AreParts (λ parts. part ∷ parts) with_part _ _ (union_follows n rest)
          (λ parts contents are. more_parts with_part part is contents parts are)))

      -- ---- operators

      next_follows : (c : ℕ) (t : Source) →
          Follows IsOperand (ClassSets.next_operand_at table parameters inner in_negated c t) (operand_at table parameters inner' t)
      next_follows c t = follows_unless IsOperand (not (isolates_ampersand parameters.dialect) && is_at c t) _ _ (λ _. operand_follows t)

      -- the contents, which are closed once they are all read
      abbrev IsContents : ClassContents → Value → Type 0
      IsContents contents value = IsClosed (compile contents) value

      -- the contents that an operator makes of two
      abbrev IsOperator : (ClassContents → ClassAtom → ClassContents) → (Value → Value → Value) → Type 0
      IsOperator operator f =
          (left : ClassContents) (right : ClassAtom) (a b : Value) → Is (compile left) a → Is (compile_atom right) b →
          Is (compile (operator left right)) (f a b)

      is_intersection : IsOperator intersection common
      is_intersection left right a b = intersecting table maps folds (compile left) a (compile_atom right) b

      is_subtraction : IsOperator subtraction without
      is_subtraction left right a b = subtracting table maps folds (compile left) a (compile_atom right) b

      abbrev closed_operand : Operand → Value
      closed_operand operand = closed_value_of table parameters operand

      module _ (c : ℕ) (operator : ClassContents → ClassAtom → ClassContents) (f : Value → Value → Value) (is : IsOperator operator f) where
        abbrev IsLeft : Value → ClassContents → List Value → Type 0
        IsLeft held contents operands = Is (compile contents) (folded_left f held operands)

        operands_follow : (n : ℕ) (left : ClassContents) (held : Value) (t : Source) → Is (compile left) held →
            Follows (IsLeft held) (ClassSets.operands_by table parameters inner in_negated n c t) (operands_by table parameters inner' n c operator left t)
        unfolding ClassSets.operands_by operands_by
        operands_follow zero left held t is_left = follows_none (IsLeft held) None
        operands_follow (suc n) left held t is_left =
            follows_then IsOperand (IsLeft held) _ _ _ _ (next_follows c t)
            (λ operand right rest is_right.
            let both : Is (compile (operator left right)) (f held (closed_operand operand)) =
            is left right held (closed_operand operand) is_left (operand_is right operand is_right) in
            follows_if (IsLeft held) (is_at (char "]") rest) _ _ _ _
            (λ _. follows_some (IsLeft held) (operator left right) (closed_operand operand ∷ []) (drop 1 rest) both)
            (λ _.
            follows_if (IsLeft held) (are_at c rest) _ _ _ _
            (λ _.
            follows_mapped (IsLeft (f held (closed_operand operand))) (IsLeft held) (λ others. closed_operand operand ∷ others) _ _
            (operands_follow n (operator left right) (f held (closed_operand operand)) (drop 2 rest) both)
            (λ others contents h. h))
            (λ _. follows_none (IsLeft held) None)))

        operator_follows : (first : ClassAtom) (operand : Operand) (t : Source) → IsOperand first operand →
            Follows IsContents
            (found_map (folded_left f (closed_operand operand)) (ClassSets.operands_at table parameters inner in_negated c t))
            (operands_by table parameters inner' (length t + 1) c operator (atom_then first empty) t)
        operator_follows first operand t is_first =
            follows_mapped (IsLeft (closed_operand operand)) IsContents (folded_left f (closed_operand operand)) _ _
            (operands_follow (length t + 1) (atom_then first empty) (closed_operand operand) t (operand_alone first operand is_first))
            (λ operands contents h. again (compile contents) (folded_left f (closed_operand operand) operands) h)

      -- ---- contents

      after_follows : (first : ClassAtom) (operand : Operand) (t : Source) → IsOperand first operand →
          Follows IsContents (ClassSets.contents_after table parameters inner in_negated (operand, t)) (contents_after table parameters inner' (first, t))
      after_follows first operand t is_first =
          follows_if IsContents (are_at (char "&") t) _ _ _ _
          (λ _. operator_follows (char "&") intersection common is_intersection first operand (drop 2 t) is_first)
          (λ _.
          follows_if IsContents (are_at (char "-") t) _ _ _ _
          (λ _. operator_follows (char "-") subtraction without is_subtraction first operand (drop 2 t) is_first)
          (λ _.
          follows_if IsContents (is_at (char "&") t && isolates_ampersand parameters.dialect) _ _ _ _
          (λ _.
          follows_map AreParts IsContents
          (λ parts. folded_left joined (value_of operand) (ClassSets.only (one_point (char "&")) ∷ parts))
          (λ rest. atom_then first (atom_then (character (char "&")) rest)) _ _
          (union_follows (length (drop 1 t) + 1) (drop 1 t))
          (λ parts rest are.
          first_part (atom_then first) (value_of operand) (operand_part first operand is_first) (atom_then (character (char "&")) rest)
          (ClassSets.only (one_point (char "&")) ∷ parts)
          (more_parts (atom_then (character (char "&"))) (ClassSets.only (one_point (char "&")))
          (operand_part (character (char "&")) (ClassSets.character (char "&")) refl) rest parts are)))
          (λ _.
          follows_then IsPart IsContents _ _ _ _ (part_follows first operand t is_first)
          (λ part with_part rest is.
          follows_map AreParts IsContents (folded_left joined part) with_part _ _ (union_follows (length rest + 1) rest)
          (λ parts contents are. first_part with_part part is contents parts are)))))

      empty_is : IsContents empty nothing
      empty_is = record {
        characters = uncased_is table maps folds [] (λ c member. absurd (false≢true (sym (is_member-nil c) ∙ member)));
        strings = sym (no_strings folds);
        folded_strings = strings-twice table maps folds [];
        has_empty = refl;
      }

      contents_follow : (t : Source) → Follows IsContents (ClassSets.contents_at table parameters inner in_negated t) (contents_at table parameters inner' t)
      contents_follow t =
          follows_if IsContents (is_at (char "]") t) _ _ _ _ (λ _. follows_some IsContents empty nothing (drop 1 t) empty_is)
          (λ _. follows_then IsOperand IsContents _ _ _ _ (operand_follows t) (λ operand first rest is. after_follows first operand rest is))

  -- ---- classes

  abbrev HasContents : ClassContents → Value → Type 0
  HasContents contents value = Is (compile contents) value

  abbrev WillHaveContents : ClassContents → Value → Type 0
  WillHaveContents contents value = IsClosed (compile contents) value

  unless_strings : (negated : Bool) (value : Value) (contents : ClassContents) (rest : Source) → HasContents contents value →
      Follows IsClass (unless_negated_strings parameters.dialect negated (value, rest)) (Some (record { invert = negated; contents = contents }, rest))
  unless_strings negated value contents rest is = by_test (negated && is_not_negatable parameters.dialect value) refl
    where
      by_test : (b : Bool) → (negated && is_not_negatable parameters.dialect value) ≡ b →
          Follows IsClass (if b then None else Some ((negated, value), rest)) (Some (record { invert = negated; contents = contents }, rest))
      by_test true e = follows_none IsClass _
      by_test false e =
          follows_some IsClass _ (negated, value) rest
          (record { invert = refl; contents = is; no_strings = none_if_negated parameters.dialect negated value e })

  set_follows : (n : ℕ) (t : Source) → Follows IsClass (ClassSets.class_set_by table parameters n t) (class_set_by table parameters n t)
  unfolding ClassSets.class_set_by class_set_by
  set_follows zero t = follows_none IsClass None
  set_follows (suc n) t =
      let negated : Bool = is_at (char "^") t in
      follows_then HasContents IsClass _ _ _ _
      (follows_mapped WillHaveContents HasContents (closed_value table parameters) _ _
      (contents_follow (negated && judges_contents parameters.dialect) (ClassSets.class_set_by table parameters n) (class_set_by table parameters n)
      (set_follows n)
      (if negated then drop 1 t else t))
      (λ value contents is. is))
      (λ value contents rest is. unless_strings negated value contents rest is)

  pub class_set_follows : (t : Source) → Follows IsClass (class_set_at table parameters t) (character_class_at table parameters true t)
  unfolding character_class_at
  class_set_follows t = set_follows max_nesting_depth t

-- The parse node of a class ends where the class does.
pub class_set_ends : (table : Table) → HasCaseDataOfUnicode table → (flags : Flags) (parameters : Parameters) (t rest : Source) (read : Bool × Value) →
    class_set_at table parameters t ≡ Some (read, rest) → (node : CharacterClass) × (character_class_at table parameters true t ≡ Some (node, rest))
class_set_ends table maps flags parameters t rest read found =
    let rer : Flags = record flags { icase = closes parameters; unicode = true; unicode_sets = true } in
    let node = (class_set_follows table maps rer (λ _. refl) refl parameters refl t).each read rest found in
    (node.value, node.found)
