-- Classes with the flag v as atoms: what the CharSet of ECMA-262 matches, the class of the syntax tree matches.
use Rattle.std.proofs.Common.{◌≡◌, ℕ, ◌≤◌, Bool, true, false, not, ◌&&◌, List, [], Option, Some, None, if◌then◌else◌, refl, sym, ap, ap₂, subst, ◌∙◌, All}
use Rattle.regress_base.specs.Intervals.{code_point_max, is_member}
use Rattle.regress_base.specs.Table.{Table, is_in_closure, denotes}
use Rattle.regress_base.specs.Table as Table
use Rattle.regress_base.specs.declared.types.Flags.{Flags}
use Rattle.regress_base.proofs.lemmas.Sets.{intervals_of-member}
use Rattle.regress_tree.specs.Assertions.{differ}
use Rattle.regress_tree.specs.Reading.{Direction}
use Rattle.regress_tree.specs.Steps.{Setting}
use Rattle.regress_lexer.specs.Source.{Source, Found, IsCodePoint}
use Rattle.regress_classes.specs.declared.parameters.Parameters.{Parameters}
use Rattle.regress_classes.specs.ClassProductions.{complement_if, closes}
use Rattle.regress_classes.specs.ClassSets.{Value, class_set_at}
use Rattle.regress_syntax.specs.Meaning.{is_in_class, atom_steps}
use Rattle.regress_syntax.specs.Productions.{Context, class_parameters}
use Rattle.regress_syntax.specs.Syntax.{Name, Atom, class, class_set}
use Rattle.regress_ecma.specs.Notation.{CharSet}
use Rattle.regress_ecma.specs.Atoms.{compile_atom, compile_strings}
use Rattle.regress_ecma.specs.CharacterMatchers.{is_found}
use Rattle.regress_ecma.specs.Characters.{canonicalize}
use Rattle.regress_ecma.specs.CharSets.{Elements, atom_to_char_set, compile_to_char_set, class_of, compile_character_class}
use Rattle.regress_ecma.specs.ClassGrammar.{character_class_at}
use Rattle.regress_ecma.specs.ClassNodes.{nested_class, CharacterClass}
use Rattle.regress_ecma.specs.CompiledClasses.{class_compiled}
use Rattle.regress_ecma.specs.Differences.{HasCaseDataOfUnicode}
use Rattle.regress_ecma.proofs.Bridge.{Agrees}
use Rattle.regress_ecma.proofs.CharacterSets.{IsSetOf}
use Rattle.regress_ecma.proofs.ClassSetMembers.{IsClassSet, nested_is, class_set_follows}
use Rattle.regress_ecma.proofs.FoldedSets.{closed_if, IsFoldingOf, members_closed}
use Rattle.regress_ecma.proofs.Sets.{same_truth, canonicalize-same, found_if, found_plain, found_gives, found_from, literal_set}
use Rattle.regress_ecma.proofs.Strings.{Agrees-strings}

complement_member : (negated : Bool) (members : CharSet) (ch : ℕ) → ch ≤ code_point_max →
    is_member (complement_if negated members) ch ≡ differ negated (is_member members ch)
complement_member true members ch le = intervals_of-member (λ c. not (is_member members c)) ch le ∙ not_differ (is_member members ch)
  where
    not_differ : (b : Bool) → not b ≡ differ true b
    not_differ true = refl
    not_differ false = refl
complement_member false members ch le = refl

-- ---- characters

module _ (table : Table) (maps : HasCaseDataOfUnicode table) (rer : Flags) (with_u : rer.unicode_sets ≡ true → rer.unicode ≡ true)
    (sets : rer.unicode_sets ≡ true) (folds : Bool) (same : (rer.unicode_sets && rer.icase) ≡ folds) where
  folds_if : (i : Bool) → rer.icase ≡ i → folds ≡ i
  folds_if i e = sym same ∙ ap₂ (λ (x y : Bool). x && y) sets e

  to_fold : rer.icase ≡ true → (c : ℕ) → canonicalize table rer c ≡ table.fold c
  to_fold icase c = canonicalize-same table maps rer with_u icase c ∙ ap (λ (b : Bool). Table.canonicalize table b c) (with_u sets)

  module _ (set members : CharSet) (is : IsFoldingOf table folds set members) (ch : ℕ) (le : ch ≤ code_point_max) where
    -- The members are found by the foldings.
    pub found_is : is_found table rer set ch ≡ is_member members ch
    found_is = by_test rer.icase refl
      where
        has_if : (i : Bool) → rer.icase ≡ i → is_member set (if i then table.fold ch else ch) ≡ is_member members ch
        has_if i e = sym (ap (λ (b : Bool). is_member set (if b then table.fold ch else ch)) (folds_if i e)) ∙ is.has ch le

        by_test : (i : Bool) → rer.icase ≡ i → is_found table rer set ch ≡ is_member members ch
        by_test true e =
            found_if table maps rer with_u e set ch
            ∙ same_truth _ (is_member set (table.fold ch))
            (λ h.
            let found = found_gives table maps rer with_u set ch h in
            let own : table.fold ch ≡ found.0 =
            sym (to_fold e ch) ∙ sym found.2 ∙ to_fold e found.0 ∙ is.folded (folds_if true e) found.0 found.1 in
            ap (is_member set) own ∙ found.1)
            (λ h. found_from table maps rer with_u set ch (table.fold ch) h (to_fold e (table.fold ch) ∙ maps.idempotent ch ∙ sym (to_fold e ch)))
            ∙ has_if true e
        by_test false e = found_plain table maps rer with_u e set ch ∙ has_if false e

    pub in_class_is : (inverted : Bool) → is_in_class table rer inverted members ch ≡ differ inverted (is_member members ch)
    in_class_is inverted = ap (differ inverted) (by_test rer.icase refl)
      where
        by_test : (i : Bool) → rer.icase ≡ i → (if rer.icase then is_in_closure table members ch else is_member members ch) ≡ is_member members ch
        by_test true e =
            ap (λ (b : Bool). if b then is_in_closure table members ch else is_member members ch) e
            ∙ members_closed table maps folds set members is (folds_if true e) ch le
        by_test false e = ap (λ (b : Bool). if b then is_in_closure table members ch else is_member members ch) e

  -- Foldings of the members, or of the complement, match as the class does.
  pub class_is : (negated : Bool) (set members whole : CharSet) → IsFoldingOf table folds set members →
      IsFoldingOf table folds whole (complement_if negated members) → IsSetOf table rer whole false (is_in_class table rer negated members)
  class_is negated set members whole is is_whole ch le =
      found_is whole (complement_if negated members) is_whole ch le
      ∙ complement_member negated members ch le
      ∙ sym (in_class_is set members is ch le negated)

  -- The same where the members are not closed, as those of a property.
  pub closure_is : (negated : Bool) (members whole : CharSet) → IsFoldingOf table folds whole (complement_if negated (closed_if table folds members)) →
      IsSetOf table rer whole false (is_in_class table rer negated members)
  closure_is negated members whole is_whole ch le =
      found_is whole (complement_if negated (closed_if table folds members)) is_whole ch le
      ∙ complement_member negated (closed_if table folds members) ch le
      ∙ ap (differ negated) (by_test le rer.icase refl)
    where
      by_test : ch ≤ code_point_max → (i : Bool) → rer.icase ≡ i →
          is_member (closed_if table folds members) ch ≡ (if rer.icase then is_in_closure table members ch else is_member members ch)
      by_test le true e =
          ap (λ (b : Bool). is_member (closed_if table b members) ch) (folds_if true e)
          ∙ intervals_of-member (is_in_closure table members) ch le
          ∙ sym (ap (λ (b : Bool). if b then is_in_closure table members ch else is_member members ch) e)
      by_test le false e =
          ap (λ (b : Bool). is_member (closed_if table b members) ch) (folds_if false e)
          ∙ sym (ap (λ (b : Bool). if b then is_in_closure table members ch else is_member members ch) e)

-- ---- classes

module _ (setting : Setting) (maps : HasCaseDataOfUnicode setting.table) (all : List (Option Name)) (text : List ℕ) (is_text : All IsCodePoint text)
    (rer : Flags) (with_u : rer.unicode_sets ≡ true → rer.unicode ≡ true) (unicode : rer.unicode ≡ setting.flags.unicode)
    (sets : rer.unicode_sets ≡ true) (parameters : Parameters) (same : (rer.unicode_sets && rer.icase) ≡ closes parameters) where
  -- the elements of the class, of which the complement is taken if it is negated
  abbrev of_class : CharacterClass → Elements
  of_class node = atom_to_char_set setting.table rer (nested_class node.invert node.contents)

  pub class_set_agrees : (node : CharacterClass) (negated : Bool) (value : Value) → IsClassSet setting.table rer (closes parameters) node (negated, value) →
      (d : Direction) →
      Agrees text d (atom_steps setting all text d (class_set rer negated value))
      (compile_atom setting.table all rer d (compile_character_class setting.table rer node))
  class_set_agrees node negated value is d =
      let whole = nested_is setting.table maps rer with_u sets parameters same node (negated, value) is in
      let matches : Agrees text d (atom_steps setting all text d (class_set rer negated value))
      (compile_strings setting.table rer d value.strings (of_class node).characters value.has_empty) =
      Agrees-strings setting.table rer text is_text d (denotes setting.table rer.icase setting.flags.unicode)
      (λ c ch h. literal_set setting.table maps rer with_u c ch h ∙ ap (λ (u : Bool). denotes setting.table rer.icase u c ch) unicode)
      value.strings (of_class node).characters (is_in_class setting.table rer negated value.members)
      (class_is setting.table maps rer with_u sets (closes parameters) same negated
      (compile_to_char_set setting.table rer node.contents).characters value.members
      (of_class node).characters is.contents.characters whole.characters)
      value.has_empty in
      subst
      (λ (b : Bool). Agrees text d (atom_steps setting all text d (class_set rer negated value))
      (compile_atom setting.table all rer d
      (if b then class_of setting.table rer (of_class node) else class rer node.invert (compile_to_char_set setting.table rer node.contents).characters)))
      (sym sets)
      (subst
      (λ (b : Bool). Agrees text d (atom_steps setting all text d (class_set rer negated value))
      (compile_strings setting.table rer d (of_class node).strings (of_class node).characters b))
      (sym whole.has_empty)
      (subst
      (λ (ss : List (List ℕ)). Agrees text d (atom_steps setting all text d (class_set rer negated value))
      (compile_strings setting.table rer d ss (of_class node).characters value.has_empty))
      (sym whole.strings) matches))

module _ (setting : Setting) (maps : HasCaseDataOfUnicode setting.table) (all : List (Option Name)) (text : List ℕ) (is_text : All IsCodePoint text)
    (context : Context) (with_u : context.setting.flags.unicode_sets ≡ true → context.setting.flags.unicode ≡ true)
    (same : context.setting.table ≡ setting.table) (unicode : context.setting.flags.unicode ≡ setting.flags.unicode)
    (sets : context.setting.flags.unicode_sets ≡ true)
    (folds : (context.setting.flags.unicode_sets && context.setting.flags.icase) ≡ closes (class_parameters context)) where
  abbrev rer : Flags
  rer = context.setting.flags

  abbrev by_node : Found CharacterClass → Atom
  by_node found =
      elim found as (λ _. Atom) [ None ↦ class rer false [] | Some read ↦ compile_character_class context.setting.table rer read.0 ]

  -- A class as it is written.
  pub class_set_matches : (t : Source) (negated : Bool) (value : Value) (rest : Source) →
      class_set_at context.setting.table (class_parameters context) t ≡ Some ((negated, value), rest) → (d : Direction) →
      Agrees text d (atom_steps setting all text d (class_set rer negated value)) (compile_atom setting.table all rer d (class_compiled context t))
  class_set_matches t negated value rest found d =
      let here : HasCaseDataOfUnicode context.setting.table = subst HasCaseDataOfUnicode (sym same) maps in
      let read = (class_set_follows context.setting.table here rer with_u sets (class_parameters context) folds t).each (negated, value) rest found in
      let compiled_is : class_compiled context t ≡ compile_character_class setting.table rer read.value =
      ap (λ (b : Bool). by_node (character_class_at context.setting.table (class_parameters context) b t)) sets
      ∙ ap by_node read.found
      ∙ ap (λ (table : Table). compile_character_class table rer read.value) same in
      subst (λ (a : Atom). Agrees text d (atom_steps setting all text d (class_set rer negated value)) (compile_atom setting.table all rer d a))
      (sym compiled_is)
      (class_set_agrees setting maps all text is_text rer with_u unicode sets (class_parameters context) folds read.value negated value
      (subst (λ (table : Table). IsClassSet table rer (closes (class_parameters context)) read.value (negated, value)) same read.related) d)
