-- The dialect `Ecma` with the flag v, with and without the flag i: classes and properties match what those of ECMA-262 match.
use Rattle.std.proofs.Common.{◌≡◌, ℕ, ◌==◌, Bool, true, false, not, ◌&&◌, List, [], ◌∷◌, Option, Some, None, if◌then◌else◌, refl, sym, ap, subst, ◌∙◌, All}
use Rattle.regress_base.specs.Table.{Table}
use Rattle.regress_base.specs.declared.types.Flags.{Flags}
use Rattle.regress_tree.specs.Reading.{Direction}
use Rattle.regress_tree.specs.Steps.{Setting}
use Rattle.regress_lexer.specs.declared.dialect.Dialect.TheVariants.{Ecma}
use Rattle.regress_lexer.specs.Source.{Source, Found, char, IsCodePoint}
use Rattle.regress_classes.specs.ClassProductions.{members_of, closes}
use Rattle.regress_classes.specs.ClassProductions as ClassProductions
use Rattle.regress_classes.specs.ClassSets.{Value, class_set_at}
use Rattle.regress_classes.specs.Properties.{Property, of_points, property_at}
use Rattle.regress_syntax.specs.Meaning.{is_in_class, atom_steps}
use Rattle.regress_syntax.specs.Productions.{Context, class_parameters, point_property}
use Rattle.regress_syntax.specs.Syntax.{Name, Atom, class, class_set}
use Rattle.regress_ecma.specs.Notation.{CharSet}
use Rattle.regress_ecma.specs.Atoms.{compile_atom}
use Rattle.regress_ecma.specs.CharSets.{atom_to_char_set}
use Rattle.regress_ecma.specs.ClassGrammar.{property_node, character_class_at}
use Rattle.regress_ecma.specs.ClassNodes.{property, CharacterClass}
use Rattle.regress_ecma.specs.CompiledClasses.{compiled, atom_of}
use Rattle.regress_ecma.specs.Differences.{HasCaseDataOfUnicode}
use Rattle.regress_ecma.proofs.Bridge.{Agrees}
use Rattle.regress_ecma.proofs.CharacterSets.{Agrees-character}
use Rattle.regress_ecma.proofs.ClassSetAtoms.{closure_is, class_set_matches}
use Rattle.regress_ecma.proofs.ClassSetMembers.{property_is, class_set_ends}

module _ (setting : Setting) (maps : HasCaseDataOfUnicode setting.table) (all : List (Option Name)) (text : List ℕ) (is_text : All IsCodePoint text) (given : Context)
    (with_u : given.setting.flags.unicode_sets ≡ true → given.setting.flags.unicode ≡ true)
    (same : given.setting.table ≡ setting.table) (unicode : given.setting.flags.unicode ≡ setting.flags.unicode) where
  abbrev context : Context
  context = record given { dialect = Ecma }

  abbrev flags : Flags
  flags = context.setting.flags

  -- an atom at the head of a source
  abbrev AtomMatches : Atom → Source → Type 0
  AtomMatches a t = (d : Direction) → Agrees text d (atom_steps setting all text d a) (compile_atom setting.table all flags d (atom_of context a t))

  module _ (sets : flags.unicode_sets ≡ true) where
    folds_same : (flags.unicode_sets && flags.icase) ≡ closes (class_parameters context)
    folds_same = ap (λ (b : Bool). b && flags.icase) sets ∙ and_true flags.icase ∙ sym (ap (λ (b : Bool). flags.icase && b) (with_u sets))
      where
        and_true : (b : Bool) → b ≡ (b && true)
        and_true true = refl
        and_true false = refl

    -- A class.
    pub set_matches : (t : Source) (negated : Bool) (value : Value) (rest : Source) →
        class_set_at context.setting.table (class_parameters context) t ≡ Some ((negated, value), rest) →
        AtomMatches (class_set flags negated value) (char "[" ∷ t)
    set_matches t negated value rest found d =
        class_set_matches setting maps all text is_text context with_u same unicode sets folds_same t negated value rest found d

    -- Its parse node ends where it does.
    pub set_ends : (t : Source) (read : Bool × Value) (rest : Source) → class_set_at context.setting.table (class_parameters context) t ≡ Some (read, rest) →
        (node : CharacterClass)
        × (character_class_at context.setting.table (class_parameters context) flags.unicode_sets t ≡ Some (node, rest))
    set_ends t read rest found =
        let ends = class_set_ends context.setting.table (subst HasCaseDataOfUnicode (sym same) maps) flags (class_parameters context) t rest read found in
        (ends.0, ap (λ (b : Bool). character_class_at context.setting.table (class_parameters context) b t) sets ∙ ends.1)

    -- ---- properties

    abbrev property_set : Bool → CharSet → CharSet
    property_set capital members = (atom_to_char_set setting.table flags (property members capital)).characters

    abbrev by_property : Bool → Found Property → Atom
    by_property capital found =
        elim found as (λ _. Atom) [
          | None ↦ class flags false []
          | Some read ↦ class flags false ((atom_to_char_set context.setting.table flags (property_node capital read.0)).characters)
        ]

    property_agrees : (members : CharSet) (capital : Bool) (d : Direction) →
        Agrees text d (atom_steps setting all text d (class flags capital members))
        (compile_atom setting.table all flags d (class flags false (property_set capital members)))
    property_agrees members capital d =
        Agrees-character setting.table flags (property_set capital members) false (is_in_class setting.table flags capital members) text is_text
        (closure_is setting.table maps flags with_u sets (closes (class_parameters context)) folds_same capital members (property_set capital members)
        (property_is setting.table maps flags with_u sets (class_parameters context) folds_same capital members).characters)
        d

    -- With v the complement of a property is taken after its closure.
    property_is_class : (capital : Bool) (members : CharSet) → point_property context capital members ≡ class flags capital members
    property_is_class capital members =
        ap (λ (v : Bool). by_order (capital && (flags.icase && not v))) sets ∙ ap by_order (nowhere capital flags.icase)
      where
        by_order : Bool → Atom
        by_order first = if first then class flags false (ClassProductions.complement members) else class flags capital members

        nowhere : (b i : Bool) → (b && (i && false)) ≡ false
        nowhere true true = refl
        nowhere true false = refl
        nowhere false i = refl

    -- A property of code points, after `\p` or `\P`.
    pub property_matches : (k : ℕ) (t : Source) (members : CharSet) (rest : Source) →
        property_at flags.unicode_sets context.setting.table t ≡ Some (of_points members, rest) →
        AtomMatches (point_property context (k == char "P") members) (char "\\" ∷ k ∷ t)
    property_matches k t members rest found =
        subst (λ (a : Atom). AtomMatches a (char "\\" ∷ k ∷ t)) (sym (property_is_class (k == char "P") members))
        (λ d.
        subst
        (λ (a : Atom). Agrees text d (atom_steps setting all text d (class flags (k == char "P") members)) (compile_atom setting.table all flags d a))
        (sym compiled_is) (property_agrees members (k == char "P") d))
      where
        compiled_is : compiled context (char "\\" ∷ k ∷ t) ≡ class flags false (property_set (k == char "P") members)
        compiled_is =
            ap (by_property (k == char "P")) found
            ∙ ap (λ (table : Table). class flags false ((atom_to_char_set table flags (property members (k == char "P"))).characters)) same
