-- Classes as they are written: their CharSets in ECMA-262 match what the classes of the syntax tree match.
use Rattle.std.proofs.Common.{◌≡◌, ℕ, ◌+◌, ◌-◌, ◌<◌, ◌≤◌, nat_le, ◌==◌, Bool, true, false, ◌&&◌, ◌||◌, List, [], ◌∷◌, length, slice_get, Option, Some, None, option_map, if◌then◌else◌, refl, sym, ap, ap₂, subst, ◌∙◌, arith, All}
use Rattle.std.proofs.Math.ListN.{replicate}
use Rattle.std.proofs.lemmas.Bool.{eqb-true, false≢true, or_parts}
use Rattle.regress_base.specs.Table.{Table}
use Rattle.regress_base.specs.declared.charclasses.CharacterClassType.{CharacterClassType}
use Rattle.regress_base.specs.declared.types.Flags.{Flags}
use Rattle.regress_tree.specs.Assertions.{differ}
use Rattle.regress_tree.specs.Reading.{Direction, forwards}
use Rattle.regress_tree.specs.Steps.{Setting}
use Rattle.regress_base.specs.declared.types.AnchorType.TheVariants.{StartOfLine, EndOfLine}
use Rattle.regress_lexer.specs.declared.dialect.Dialect.{Dialect}
use Rattle.regress_lexer.specs.declared.dialect.Dialect.TheVariants.{Regress}
use Rattle.regress_lexer.specs.Digits.{is_decimal, number, front}
use Rattle.regress_lexer.specs.Escapes.{character_escape_at}
use Rattle.regress_lexer.specs.Source.{Source, Found, ◌>>=◌, found_map, first_production, char, IsCodePoint}
use Rattle.regress_lexer.proofs.lemmas.Sources.{EachProduction, no_more, ◌also◌, first_production-has}
use Rattle.regress_classes.specs.ClassProductions.{class_letter, complement_if, class_at}
use Rattle.regress_classes.specs.ClassProductions as ClassProductions
use Rattle.regress_classes.specs.ClassSets.{Value, has_strings, class_set_at}
use Rattle.regress_classes.specs.Properties.{Property, of_points, of_strings, property_at}
use Rattle.regress_syntax.specs.Grammar.{IsPattern, AreTerms, IsItem}
use Rattle.regress_syntax.specs.Meaning.{is_in_class, atom_steps, meaning}
use Rattle.regress_syntax.specs.Names.{group_name_at}
use Rattle.regress_syntax.specs.Productions.{named_target, class_parameters, Context, context_inside, single, head_at, character_at, point_property, property_atom, number_reference_at, name_reference_at, has_name, escape_productions, escaped_by, escaped_at, brackets_at, atom_productions, atom_by}
use Rattle.regress_syntax.specs.Syntax.{Name, names, Atom, literal, dot, anchor, boundary, class_escape, class, class_set, string_property, back_reference, by_number, Group, grouping, modified, capture, look, Pattern, Terms, Item, one, either, no_terms, more_terms, atom, group}
use Rattle.regress_ecma.specs.Notation.{CharSet}
use Rattle.regress_ecma.specs.Assertions.{accept}
use Rattle.regress_ecma.specs.Atoms.{compile_atom}
use Rattle.regress_ecma.specs.CharacterMatchers.{is_found}
use Rattle.regress_ecma.specs.Characters.{character_complement}
use Rattle.regress_ecma.specs.CharSets.{complement, atom_to_char_set, compile_to_char_set, class_of, compile_character_class}
use Rattle.regress_ecma.specs.ClassGrammar.{property_node, character_class_at}
use Rattle.regress_ecma.specs.ClassNodes.{property, CharacterClass}
use Rattle.regress_ecma.specs.CompiledClasses.{class_compiled, property_compiled, compiled, atom_of, with_char_sets, terms_with_char_sets, item_with_char_sets}
use Rattle.regress_ecma.specs.Compile.{compile_disjunction, compile_pattern}
use Rattle.regress_ecma.specs.Compared.{state_on, IsComparable}
use Rattle.regress_ecma.specs.Differences.{HasCaseDataOfUnicode, has_ends, has_unlike, differs_in_case}
use Rattle.regress_ecma.specs.Exec.{match_at, builtin_exec}
use Rattle.regress_ecma.proofs.Bridge.{Agrees}
use Rattle.regress_ecma.proofs.CharacterSets.{Agrees-character}
use Rattle.regress_ecma.proofs.ClassMembers.{IsCharSetOf, HasNoEnds, covers-same, covers-found, complement-same, property_is, class_follows}
use Rattle.regress_ecma.proofs.ClassSetAtoms.{class_set_matches}
use Rattle.regress_ecma.proofs.Derived.{dialect_inside}
use Rattle.regress_ecma.proofs.Heads.{head_holds}
use Rattle.regress_ecma.proofs.Holds.{Holds, holds_none, holds_some, holds_if, holds_then, holds_map, holds_found}
use Rattle.regress_ecma.proofs.Sets.{complement_is_set}
use Rattle.regress_ecma.proofs.lemmas.Searches.{first_same}
use Rattle.regress_ecma.proofs.Theorem.{HasFlagsOf, AtomAgrees, with_u_in, members_set, atom_agrees, IsLikeAtom, IsLike, like_one, like_either, AreLike, like_none, like_more, IsLikeItem, like_atom, like_group, names_like, like_outcome, unset_everywhere, pattern_outcome}

and_true : (b : Bool) → (b && true) ≡ b
and_true true = refl
and_true false = refl

-- Without u and i, or where the class may contain `\W`, no condition is needed.
no_ends_of : (rer : Flags) (members : CharSet) → (rer.icase && differs_in_case rer members) ≡ false → HasNoEnds rer members
no_ends_of rer members none case' = by_tests rer.unicode rer.icase refl case' none
  where
    by_tests : (u i : Bool) → rer.unicode ≡ u → (u && i) ≡ true →
        (i && (rer.unicode_sets || (if u then has_ends members else has_unlike members))) ≡ false → has_ends members ≡ false
    by_tests true true e both h = (or_parts rer.unicode_sets (has_ends members) h).1
    by_tests true false e both h = absurd (false≢true both)
    by_tests false i e both h = absurd (false≢true both)

no_fold_of : (rer : Flags) (members : CharSet) → (rer.icase && differs_in_case rer members) ≡ false → (rer.unicode_sets && rer.icase) ≡ false
no_fold_of rer members none = by_tests rer.unicode_sets rer.icase none
  where
    by_tests : (v i : Bool) → (i && (v || (if rer.unicode then has_ends members else has_unlike members))) ≡ false → (v && i) ≡ false
    by_tests true true h = absurd (false≢true (sym h))
    by_tests true false h = refl
    by_tests false i h = refl

module _ (setting : Setting) (maps : HasCaseDataOfUnicode setting.table) (with_u : setting.flags.unicode_sets ≡ true → setting.flags.unicode ≡ true)
    (all : List (Option Name)) (text : List ℕ) (is_text : All IsCodePoint text) (fuel : ℕ) (enough : length text < fuel) where
  abbrev HasFlags : Flags → Type 0
  HasFlags rer = HasFlagsOf setting maps with_u all text is_text fuel enough rer

  abbrev Like : Atom → Atom → Type 0
  Like a b = IsLikeAtom setting maps with_u all text is_text fuel enough a b

  alike : (a : Atom) → Like a a
  alike a d = atom_agrees setting maps with_u all text is_text fuel enough d a

  with_u_of : (rer : Flags) → HasFlags rer → rer.unicode_sets ≡ true → rer.unicode ≡ true
  with_u_of rer flags = with_u_in setting maps with_u all text is_text fuel enough rer flags

  class_like : (rer : Flags) (inverted : Bool) (members set' : CharSet) → (HasFlags rer → IsCharSetOf setting.table rer set' members) →
      Like (class rer inverted members) (class rer inverted set')
  class_like rer inverted members set' is d flags none =
      Agrees-character setting.table rer set' inverted (is_in_class setting.table rer inverted members) text is_text
      (λ ch le.
      ap (differ inverted)
      (covers-found setting.table maps rer (with_u_of rer flags) set' members ((is flags).covers (no_ends_of rer members none)) ch)
      ∙ members_set setting maps with_u all text is_text fuel enough rer flags inverted members none ch le)
      d

  module _ (given : Context) (same : given.setting.table ≡ setting.table) where
    abbrev context : Context
    context = record given { dialect = Regress }

    abbrev flags' : Flags
    flags' = context.setting.flags

    abbrev IsGood : Source → Atom → Type 0
    IsGood t a = Like a (atom_of context a t)

    abbrev Matches : Direction → Atom → Atom → Type 0
    Matches d a b = AtomAgrees setting maps with_u all text is_text fuel enough d a b flags'

    here : HasCaseDataOfUnicode context.setting.table
    here = subst HasCaseDataOfUnicode (sym same) maps

    -- ---- classes in brackets

    abbrev by_class : Found CharacterClass → Atom
    by_class found =
        elim found as (λ _. Atom) [ None ↦ class flags' false [] | Some read ↦ compile_character_class context.setting.table flags' read.0 ]

    compiled_is : (c : ℕ) (t : Source) (sets : Bool) (node : CharacterClass) (rest : Source) → (c == char "[") ≡ true → flags'.unicode_sets ≡ sets →
        character_class_at context.setting.table (class_parameters context) sets t ≡ Some (node, rest) →
        compiled context (c ∷ t) ≡ compile_character_class context.setting.table flags' node
    compiled_is c t sets node rest first is_sets found =
        ap (λ (b : Bool). if b then class_compiled context t else property_compiled context t) first
        ∙ ap (λ (b : Bool). by_class (character_class_at context.setting.table (class_parameters context) b t)) is_sets
        ∙ ap by_class found

    class_good : (c : ℕ) (t : Source) (inverted : Bool) (members : CharSet) (rest : Source) → (c == char "[") ≡ true →
        flags'.unicode_sets ≡ false → class_at context.setting.table (class_parameters context) t ≡ Some ((inverted, members), rest) →
        IsGood (c ∷ t) (class flags' inverted members)
    class_good c t inverted members rest first no_sets found d flags none =
        let read =
        (class_follows context.setting.table here flags' (with_u_of flags' flags) (no_fold_of flags' members none) (class_parameters context) t).each
        (inverted, members) rest found in
        let set' : CharSet = (compile_to_char_set context.setting.table flags' read.value.contents).characters in
        let is : compiled context (c ∷ t) ≡ class flags' inverted set' =
        compiled_is c t false read.value rest first no_sets read.found
        ∙ ap (λ (b : Bool). if b then class_of context.setting.table flags' (if read.value.invert then complement context.setting.table flags' (compile_to_char_set context.setting.table flags' read.value.contents) else compile_to_char_set context.setting.table flags' read.value.contents) else class flags' read.value.invert set') no_sets
        ∙ ap (λ (b : Bool). class flags' b set') read.related.invert in
        subst (λ (b : Atom). Matches d (class flags' inverted members) b) (sym is)
        (class_like flags' inverted members set' (λ _. subst (λ (table : Table). IsCharSetOf table flags' set' members) same read.related.contents) d)
        flags none

    class_set_good : (c : ℕ) (t : Source) (negated : Bool) (value : Value) (rest : Source) → (c == char "[") ≡ true →
        flags'.unicode_sets ≡ true → class_set_at context.setting.table (class_parameters context) t ≡ Some ((negated, value), rest) →
        IsGood (c ∷ t) (class_set flags' negated value)
    class_set_good c t negated value rest first sets found d flags none =
        let plain : flags'.icase ≡ false = (or_parts flags'.icase (negated && has_strings value) none).0 in
        let is : compiled context (c ∷ t) ≡ class_compiled context t =
        ap (λ (b : Bool). if b then class_compiled context t else property_compiled context t) first in
        subst (λ (a : Atom). Agrees text d (atom_steps setting all text d (class_set flags' negated value)) (compile_atom setting.table all flags' d a)) (sym is)
        (class_set_matches setting maps all text is_text context (with_u_of flags' flags) same flags.unicode sets
        (ap₂ (λ (x y : Bool). x && y) sets plain) t negated value rest found d)

    brackets_good : (c : ℕ) (t : Source) → (c == char "[") ≡ true → Holds (IsGood (c ∷ t)) (brackets_at context t)
    brackets_good c t first = by_test flags'.unicode_sets refl
      where
        by_test : (v : Bool) → flags'.unicode_sets ≡ v →
            Holds (IsGood (c ∷ t))
            (if v
            then found_map (λ (negated, value). class_set flags' negated value) (class_set_at context.setting.table (class_parameters context) t)
            else found_map (λ (inverted, members). class flags' inverted members) (class_at context.setting.table (class_parameters context) t))
        by_test true e =
            holds_found (IsGood (c ∷ t)) (λ (negated, value). class_set flags' negated value) (class_set_at context.setting.table (class_parameters context) t)
            (λ (negated, value) rest found. class_set_good c t negated value rest first e found)
        by_test false e =
            holds_found (IsGood (c ∷ t)) (λ (inverted, members). class flags' inverted members) (class_at context.setting.table (class_parameters context) t)
            (λ (inverted, members) rest found. class_good c t inverted members rest first e found)

    -- ---- properties

    abbrev by_property : Bool → Found Property → Atom
    by_property capital found =
        elim found as (λ _. Atom) [
          | None ↦ class flags' false []
          | Some read ↦ class flags' false ((atom_to_char_set context.setting.table flags' (property_node capital read.0)).characters)
        ]

    abbrev property_set : Bool → CharSet → CharSet
    property_set capital members = (atom_to_char_set context.setting.table flags' (property members capital)).characters

    property_is_good : (members : CharSet) (capital cased : Bool) → flags'.icase ≡ cased →
        Like (if capital && cased then class flags' false (ClassProductions.complement members) else class flags' capital members)
        (class flags' false (property_set capital members))
    property_is_good members false cased e d flags none =
        class_like flags' false members (property_set false members)
        (λ _. covers-same setting.table flags' _ _
        (property_is context.setting.table here flags' (with_u_of flags' flags) (no_fold_of flags' members none) false members))
        d flags none
    property_is_good members true true e d flags none =
        class_like flags' false (ClassProductions.complement members) (property_set true members)
        (λ _. covers-same setting.table flags' _ _
        (property_is context.setting.table here flags' (with_u_of flags' flags)
        (no_fold_of flags' (ClassProductions.complement members) none) true members))
        d flags none
    property_is_good members true false e d flags none =
        let no_fold = no_fold_of flags' members none in
        let is : property_set true members ≡ character_complement setting.table flags' members =
        property_is context.setting.table here flags' (with_u_of flags' flags) no_fold true members
        ∙ sym (complement-same setting.table maps flags' (with_u_of flags' flags) no_fold members) in
        Agrees-character setting.table flags' (property_set true members) false (is_in_class setting.table flags' true members) text is_text
        (λ ch le.
        ap (λ (s : CharSet). is_found setting.table flags' s ch) is
        ∙ complement_is_set setting.table maps flags' (with_u_of flags' flags) e members ch le)
        d

    property_good : (c k : ℕ) (t : Source) (members : CharSet) (rest : Source) → (c == char "\\") ≡ true →
        property_at flags'.unicode_sets context.setting.table t ≡ Some (of_points members, rest) →
        IsGood (c ∷ k ∷ t) (point_property context (k == char "P") members)
    property_good c k t members rest first found =
        good (k == char "P") (flags'.icase && true) (sym (and_true flags'.icase))
        (ap (λ (b : Bool). if b then class_compiled context (k ∷ t) else property_compiled context (k ∷ t)) no_bracket ∙ ap (by_property (k == char "P")) found)
      where
        no_bracket : (c == char "[") ≡ false
        no_bracket = ap (λ (x : ℕ). x == char "[") (eqb-true c (char "\\") first)

        good : (capital cased : Bool) → flags'.icase ≡ cased → compiled context (c ∷ k ∷ t) ≡ class flags' false (property_set capital members) →
            IsGood (c ∷ k ∷ t) (if capital && cased then class flags' false (ClassProductions.complement members) else class flags' capital members)
        good true true e is = subst (Like (class flags' false (ClassProductions.complement members))) (sym is) (property_is_good members true true e)
        good true false e is = subst (Like (class flags' true members)) (sym is) (property_is_good members true false e)
        good false cased e is = subst (Like (class flags' false members)) (sym is) (property_is_good members false cased e)

    property_holds : (c k : ℕ) (t : Source) → (c == char "\\") ≡ true → (p : Property) (rest : Source) →
        property_at flags'.unicode_sets context.setting.table t ≡ Some (p, rest) → Holds (IsGood (c ∷ k ∷ t)) (property_atom context (k == char "P") (p, rest))
    property_holds c k t first (of_points members) rest found =
        holds_some (IsGood (c ∷ k ∷ t)) (point_property context (k == char "P") members) rest (property_good c k t members rest first found)
    property_holds c k t first (of_strings written) rest found =
        holds_if (IsGood (c ∷ k ∷ t)) (k == char "P") _ _ (holds_none (IsGood (c ∷ k ∷ t)))
        (holds_some (IsGood (c ∷ k ∷ t)) (string_property flags' written) rest (alike (string_property flags' written)))

    property_at_holds : (c k : ℕ) (t : Source) → (c == char "\\") ≡ true →
        Holds (IsGood (c ∷ k ∷ t)) (property_at flags'.unicode_sets context.setting.table t >>= property_atom context (k == char "P"))
    property_at_holds c k t first = by (property_at flags'.unicode_sets context.setting.table t) refl
      where
        by : (found : Found Property) → property_at flags'.unicode_sets context.setting.table t ≡ found →
            Holds (IsGood (c ∷ k ∷ t)) (found >>= property_atom context (k == char "P"))
        by None e = holds_none (IsGood (c ∷ k ∷ t))
        by (Some (p, rest)) e = property_holds c k t first p rest e

    -- ---- other atoms

    module _ (s : Source) where
      literal_good : (c : ℕ) → IsGood s (literal flags' c)
      literal_good c = alike (literal flags' c)

      character_good : (c : ℕ) (t : Source) → Holds (IsGood s) (character_at context c t)
      character_good c t = holds_map (IsGood s) (literal flags') (character_escape_at context.dialect flags'.unicode (c ∷ t)) literal_good

      number_good : (c : ℕ) (t : Source) → Holds (IsGood s) (number_reference_at context c t)
      number_good c t =
          holds_if (IsGood s) (nat_le (number 10 (front is_decimal (c ∷ t))) context.groups) _ _
          (holds_some (IsGood s) (back_reference flags' (by_number (number 10 (front is_decimal (c ∷ t))))) _ (alike (back_reference flags' (by_number _))))
          (holds_if (IsGood s) flags'.unicode _ _ (holds_none (IsGood s)) (character_good c t))

      name_good : (t : Source) → Holds (IsGood s) (name_reference_at context t)
      name_good t =
          holds_then (IsGood s) (group_name_at context.setting.table t) _
          (λ x. holds_if (IsGood s) (has_name x.0 context.names) _ _
          (holds_some (IsGood s) (back_reference flags' (named_target context.dialect x.0)) x.1 (alike (back_reference flags' (named_target context.dialect x.0))))
          (holds_none (IsGood s)))

    escapes_good : (c k : ℕ) (t : Source) → (c == char "\\") ≡ true → EachProduction (Holds (IsGood (c ∷ k ∷ t))) (escape_productions context k t)
    escapes_good c k t first =
        (λ _. holds_some (IsGood (c ∷ k ∷ t)) (boundary flags' false) _ (alike (boundary flags' false)))
        also (λ _. holds_some (IsGood (c ∷ k ∷ t)) (boundary flags' true) _ (alike (boundary flags' true)))
        also (λ _. holds_some (IsGood (c ∷ k ∷ t)) (literal flags' (char "\\")) _ (alike (literal flags' (char "\\"))))
        also (λ _. property_at_holds c k t first)
        also (λ _. number_good (c ∷ k ∷ t) k t)
        also (λ _. name_good (c ∷ k ∷ t) t)
        also (λ _. character_good (c ∷ k ∷ t) k t)
        also no_more

    escaped_by-good : (c k : ℕ) (t : Source) → (c == char "\\") ≡ true → Holds (IsGood (c ∷ k ∷ t)) (escaped_by context k t)
    escaped_by-good c k t first = by (class_letter k)
      where
        by : (letter : Option (CharacterClassType × Bool)) →
            Holds (IsGood (c ∷ k ∷ t)) (elim letter as (λ _. Found Atom) [
              | Some named ↦ Some (class_escape flags' named.0 named.1, t)
              | None ↦ first_production (escape_productions context k t)
            ])
        by (Some named) = holds_some (IsGood (c ∷ k ∷ t)) (class_escape flags' named.0 named.1) t (alike (class_escape flags' named.0 named.1))
        by None =
            first_production-has (Holds (IsGood (c ∷ k ∷ t))) (escape_productions context k t) (holds_none (IsGood (c ∷ k ∷ t))) (escapes_good c k t first)

    escaped_good : (c : ℕ) (t : Source) → (c == char "\\") ≡ true → Holds (IsGood (c ∷ t)) (escaped_at context t)
    escaped_good c [] first = holds_none (IsGood (c ∷ []))
    escaped_good c (k ∷ t) first = escaped_by-good c k t first

    atoms_good : (c : ℕ) (t : Source) → EachProduction (Holds (IsGood (c ∷ t))) (atom_productions context c t)
    atoms_good c t =
        (λ _. holds_some (IsGood (c ∷ t)) (dot flags') t (alike (dot flags')))
        also (λ _. holds_some (IsGood (c ∷ t)) (anchor flags' StartOfLine) t (alike (anchor flags' StartOfLine)))
        also (λ _. holds_some (IsGood (c ∷ t)) (anchor flags' EndOfLine) t (alike (anchor flags' EndOfLine)))
        also (λ first. escaped_good c t first)
        also (λ first. brackets_good c t first)
        also (λ _. holds_if (IsGood (c ∷ t)) _ _ _ (holds_none (IsGood (c ∷ t))) (holds_some (IsGood (c ∷ t)) (literal flags' c) t (alike (literal flags' c))))
        also (λ _. holds_some (IsGood (c ∷ t)) (literal flags' c) t (alike (literal flags' c)))
        also no_more

    atom_good : (c : ℕ) (t : Source) → Holds (IsGood (c ∷ t)) (atom_by context c t)
    atom_good c t =
        first_production-has (Holds (IsGood (c ∷ t))) (atom_productions context c t) (holds_none (IsGood (c ∷ t))) (atoms_good c t)

  -- ---- syntax trees

  table_inside : (kind : Group) (ctx : Context) → (context_inside kind ctx).setting.table ≡ ctx.setting.table
  table_inside grouping ctx = refl
  table_inside (modified change) ctx = refl
  table_inside (capture name) ctx = refl
  table_inside (look negate direction) ctx = refl

  atom_like : (ctx : Context) → ctx.setting.table ≡ setting.table → ctx.dialect ≡ Regress → (a : Atom) (t rest : Source) →
      head_at ctx t ≡ Some (single a, rest) → Like a (atom_of ctx a t)
  atom_like ctx same regress a t rest =
      let Is : Dialect → Type 0 =
      λ dialect. head_at (record ctx { dialect = dialect }) t ≡ Some (single a, rest) → Like a (atom_of (record ctx { dialect = dialect }) a t) in
      subst Is (sym regress) (λ found. (head_holds (context ctx same) (IsGood ctx same) (atom_good ctx same) t).each (single a, rest) found)

  abbrev LikePatterns : Pattern → Pattern → Type 0
  LikePatterns p q = IsLike setting maps with_u all text is_text fuel enough p q

  abbrev LikeTerms : Terms → Terms → Type 0
  LikeTerms ts us = AreLike setting maps with_u all text is_text fuel enough ts us

  abbrev LikeItems : Item → Item → Type 0
  LikeItems x y = IsLikeItem setting maps with_u all text is_text fuel enough x y

  mutual
    pub derived_like : (ctx : Context) → ctx.setting.table ≡ setting.table → ctx.dialect ≡ Regress → (p : Pattern) (t rest : Source) (derived : IsPattern ctx p t rest) →
        LikePatterns p (with_char_sets ctx p t rest derived)
    derived_like ctx same regress (one ts) t rest derived = like_one ts _ (terms_like ctx same regress ts t rest derived.0)
    derived_like ctx same regress (either ts p) t rest derived =
        like_either ts _ p _ (terms_like ctx same regress ts t _ derived.1) (derived_like ctx same regress p derived.0 rest derived.2)

    terms_like : (ctx : Context) → ctx.setting.table ≡ setting.table → ctx.dialect ≡ Regress → (ts : Terms) (t rest : Source) (derived : AreTerms ctx ts t rest) →
        LikeTerms ts (terms_with_char_sets ctx ts t rest derived)
    terms_like ctx same regress no_terms t rest derived = like_none
    terms_like ctx same regress (more_terms x q xs) t rest derived =
        like_more x _ q xs _ (item_like ctx same regress x t derived.0 derived.2) (terms_like ctx same regress xs derived.1 rest derived.4)

    item_like : (ctx : Context) → ctx.setting.table ≡ setting.table → ctx.dialect ≡ Regress → (x : Item) (t rest : Source) (derived : IsItem ctx x t rest) →
        LikeItems x (item_with_char_sets ctx x t rest derived)
    item_like ctx same regress (atom a) t rest derived = like_atom a _ (atom_like ctx same regress a t rest derived)
    item_like ctx same regress (group kind p) t rest derived =
        like_group kind p _
        (derived_like (context_inside kind ctx) (table_inside kind ctx ∙ same) (dialect_inside kind ctx ∙ regress) p derived.0 _ derived.2)

-- ---- the theorem, from the source

module _ (ctx : Context) (regress : ctx.dialect ≡ Regress) (p : Pattern) (t rest : Source) (derived : IsPattern ctx p t rest) (comparable : IsComparable ctx.setting p)
    (text : List ℕ) (is_text : All IsCodePoint text) where
  abbrev standard : Pattern
  standard = with_char_sets ctx p t rest derived

  pub source_outcome : (fuel : ℕ) → length text < fuel → (index : ℕ) → index ≤ length text →
      compile_pattern fuel ctx.setting.table ctx.setting.flags standard text index
      ≡ option_map (state_on text) (slice_get (meaning ctx.setting text forwards p (record { position = index; captures = replicate (length (names p)) None })) 0)
  source_outcome fuel enough index within =
      let like = derived_like ctx.setting comparable.maps comparable.with_u (names p) text is_text fuel enough ctx refl regress p t rest derived in
      ap (λ (ns : List (Option Name)). compile_disjunction ctx.setting.table ns fuel ctx.setting.flags forwards 0 standard
      (record { input = text; end_index = index; captures = replicate (length ns) None }) accept)
      (names_like ctx.setting comparable.maps comparable.with_u (names p) text is_text fuel enough p standard like)
      ∙ like_outcome ctx.setting p standard comparable text is_text fuel enough like forwards
      (record { position = index; captures = replicate (length (names p)) None })
      (record { position = within; captures = unset_everywhere text (length (names p)) })

  -- RegExpBuiltinExec finds the same.
  same_at : (index : ℕ) → index ≤ length text → match_at ctx.setting standard text index ≡ match_at ctx.setting p text index
  same_at index within =
      source_outcome (length text + 1) (omega arith) index within
      ∙ sym (pattern_outcome ctx.setting p comparable text is_text (length text + 1) (omega arith) index within)

  pub source_search : (index : ℕ) → index ≤ length text → builtin_exec ctx.setting standard text index ≡ builtin_exec ctx.setting p text index
  source_search index within =
      first_same (match_at ctx.setting standard text) (match_at ctx.setting p text) (length text + 1 - index) index
      (λ k above below. same_at k (omega (arith, below, within)))
