-- The start of an item in the dialect `Ecma`: an atom that is found there is matched as in ECMA-262.
use Rattle.std.proofs.Common.{◌≡◌, ℕ, ◌==◌, nat_le, Bool, true, false, ◌&&◌, ◌||◌, List, [], ◌∷◌, Option, Some, None, if◌then◌else◌, refl, sym, ap, subst, ◌∙◌, All}
use Rattle.std.proofs.lemmas.Bool.{eqb-true, and_parts}
use Rattle.regress_base.specs.declared.charclasses.CharacterClassType.{CharacterClassType}
use Rattle.regress_base.specs.declared.types.AnchorType.{AnchorType}
use Rattle.regress_base.specs.declared.types.AnchorType.TheVariants.{StartOfLine, EndOfLine}
use Rattle.regress_base.specs.declared.types.Flags.{Flags}
use Rattle.regress_tree.specs.Steps.{Setting}
use Rattle.regress_lexer.specs.declared.dialect.Dialect.TheVariants.{Ecma}
use Rattle.regress_lexer.specs.Digits.{is_decimal, number, front}
use Rattle.regress_lexer.specs.Escapes.{character_escape_at}
use Rattle.regress_lexer.specs.Source.{Source, Found, ◌>>=◌, found_map, first_production, char, is_one_of, IsCodePoint}
use Rattle.regress_lexer.proofs.lemmas.Sources.{EachProduction, no_more, ◌also◌, first_production-has}
use Rattle.regress_classes.specs.ClassProductions.{class_letter, class_at}
use Rattle.regress_classes.specs.ClassSets.{Value, class_set_at}
use Rattle.regress_classes.specs.Properties.{Property, of_points, of_strings, property_at}
use Rattle.regress_syntax.specs.Meaning.{longest_first}
use Rattle.regress_syntax.specs.Names.{group_name_at}
use Rattle.regress_syntax.specs.Productions.{class_parameters, class_flags, compared_members, Context, single, head_at, character_at, point_property, property_atom, number_reference_at, name_reference_at, has_name, escape_productions, escaped_by, escaped_at, brackets_at, atom_productions}
use Rattle.regress_syntax.specs.Syntax.{Name, Atom, literal, dot, anchor, boundary, class_escape, class, class_set, string_property, back_reference, by_number, by_name_if_set}
use Rattle.regress_ecma.specs.Notation.{CharSet}
use Rattle.regress_ecma.specs.Differences.{HasCaseDataOfUnicode}
use Rattle.regress_ecma.proofs.Holds.{Holds, holds_none, holds_some, holds_if, holds_then, holds_map, holds_found}
use Rattle.regress_ecma.proofs.EcmaAtoms.{AtomMatches, literal_matches, dot_matches, anchor_matches, boundary_matches, number_matches, escape_matches, class_matches, property_matches}
use Rattle.regress_ecma.proofs.EcmaSets.{KeepsWords}
use Rattle.regress_ecma.proofs.Heads.{head_holds}

module _ (setting : Setting) (maps : HasCaseDataOfUnicode setting.table) (keeps : KeepsWords setting.table)
    (all : List (Option Name)) (text : List ℕ) (is_text : All IsCodePoint text)
    (given : Context) (same : given.setting.table ≡ setting.table) (unicode : given.setting.flags.unicode ≡ setting.flags.unicode)
    (with_u : given.setting.flags.unicode_sets ≡ true → given.setting.flags.unicode ≡ true) where
  abbrev pub context : Context
  context = record given { dialect = Ecma }

  abbrev rer : Flags
  rer = given.setting.flags

  abbrev Matches : Atom → Source → Type 0
  Matches = AtomMatches setting all text context

  -- What holds of an atom in a source: what follows where ECMA-262 matches it in the same way, and for a class set with v, a
  -- property with v and i, a property of strings and a reference by name what is given.
  pub record IsGiven (P : Source → Atom → Type 0) : Type 0 where
    pub matched : (t : Source) (a : Atom) → Matches a t → P t a
    pub sets : rer.unicode_sets ≡ true → (t rest : Source) (negated : Bool) (value : Value) →
        class_set_at given.setting.table (class_parameters context) t ≡ Some ((negated, value), rest) → P (char "[" ∷ t) (class_set rer negated value)
    pub points : rer.unicode_sets ≡ true → rer.icase ≡ true → (k : ℕ) (t rest : Source) (members : CharSet) → is_one_of "pP" k ≡ true →
        property_at true given.setting.table t ≡ Some (of_points members, rest) → P (char "\\" ∷ k ∷ t) (point_property context (k == char "P") members)
    pub strings : (k : ℕ) (t rest : Source) (written : List (List ℕ)) → (k == char "P") ≡ false → is_one_of "pP" k ≡ true →
        property_at rer.unicode_sets given.setting.table t ≡ Some (of_strings written, rest) →
        P (char "\\" ∷ k ∷ t) (string_property rer (longest_first written))
    pub names : (name : Name) (t : Source) → has_name name given.names ≡ true → P t (back_reference rer (by_name_if_set name))

  module _ (P : Source → Atom → Type 0) (is_given : IsGiven P) where
    -- ---- properties

    point_holds : (k : ℕ) (t rest : Source) (members : CharSet) → is_one_of "pP" k ≡ true → rer.unicode ≡ true →
        property_at rer.unicode_sets given.setting.table t ≡ Some (of_points members, rest) →
        P (char "\\" ∷ k ∷ t) (point_property context (k == char "P") members)
    point_holds k t rest members letter u found = by_tests rer.unicode_sets refl rer.icase refl
      where
        plain : (rer.unicode_sets && rer.icase) ≡ false → P (char "\\" ∷ k ∷ t) (point_property context (k == char "P") members)
        plain no_fold =
            is_given.matched (char "\\" ∷ k ∷ t) (point_property context (k == char "P") members)
            (property_matches setting maps keeps all text is_text given same unicode with_u no_fold u k t rest members found)

        by_tests : (v : Bool) → rer.unicode_sets ≡ v → (i : Bool) → rer.icase ≡ i →
            P (char "\\" ∷ k ∷ t) (point_property context (k == char "P") members)
        by_tests true e true f =
            is_given.points e f k t rest members letter (ap (λ (v : Bool). property_at v given.setting.table t) (sym e) ∙ found)
        by_tests true e false f = plain (ap (λ (i : Bool). rer.unicode_sets && i) f ∙ ap (λ (v : Bool). v && false) e)
        by_tests false e i f = plain (ap (λ (v : Bool). v && rer.icase) e)

    property_holds : (k : ℕ) (t : Source) → is_one_of "pP" k ≡ true → rer.unicode ≡ true → (p : Property) (rest : Source) →
        property_at rer.unicode_sets given.setting.table t ≡ Some (p, rest) →
        Holds (P (char "\\" ∷ k ∷ t)) (property_atom context (k == char "P") (p, rest))
    property_holds k t letter u (of_points members) rest found =
        holds_some (P (char "\\" ∷ k ∷ t)) (point_property context (k == char "P") members) rest (point_holds k t rest members letter u found)
    property_holds k t letter u (of_strings written) rest found = by_test (k == char "P") refl
      where
        by_test : (capital : Bool) → (k == char "P") ≡ capital →
            Holds (P (char "\\" ∷ k ∷ t)) (if capital then None else Some (string_property rer (longest_first written), rest))
        by_test true e = holds_none (P (char "\\" ∷ k ∷ t))
        by_test false e =
            holds_some (P (char "\\" ∷ k ∷ t)) (string_property rer (longest_first written)) rest (is_given.strings k t rest written e letter found)

    property_at_holds : (k : ℕ) (t : Source) → is_one_of "pP" k ≡ true → rer.unicode ≡ true →
        Holds (P (char "\\" ∷ k ∷ t)) (property_at rer.unicode_sets given.setting.table t >>= property_atom context (k == char "P"))
    property_at_holds k t letter u = by (property_at rer.unicode_sets given.setting.table t) refl
      where
        by : (found : Found Property) → property_at rer.unicode_sets given.setting.table t ≡ found →
            Holds (P (char "\\" ∷ k ∷ t)) (found >>= property_atom context (k == char "P"))
        by None e = holds_none (P (char "\\" ∷ k ∷ t))
        by (Some (p, rest)) e = property_holds k t letter u p rest e

    has_u : (rer.unicode || rer.unicode_sets) ≡ true → rer.unicode ≡ true
    has_u e = by_test rer.unicode refl e
      where
        by_test : (u : Bool) → rer.unicode ≡ u → (u || rer.unicode_sets) ≡ true → rer.unicode ≡ true
        by_test true e h = e
        by_test false e h = with_u h

    -- ---- other atoms

    module _ (s : Source) where
      literal_holds : (c : ℕ) → P s (literal rer c)
      literal_holds c = is_given.matched s (literal rer c) (literal_matches setting maps keeps all text is_text given same unicode with_u c s)

      boundary_holds : (inverted : Bool) → P s (boundary rer inverted)
      boundary_holds inverted =
          is_given.matched s (boundary rer inverted) (boundary_matches setting maps keeps all text is_text given same unicode with_u inverted s)

      character_holds : (c : ℕ) (t : Source) → Holds (P s) (character_at context c t)
      character_holds c t = holds_map (P s) (literal rer) (character_escape_at Ecma rer.unicode (c ∷ t)) literal_holds

      number_holds : (c : ℕ) (t : Source) → Holds (P s) (number_reference_at context c t)
      number_holds c t =
          holds_if (P s) (nat_le (number 10 (front is_decimal (c ∷ t))) given.groups) _ _
          (holds_some (P s) (back_reference rer (by_number (number 10 (front is_decimal (c ∷ t))))) _
          (is_given.matched s (back_reference rer (by_number _)) (number_matches setting maps keeps all text is_text given same unicode with_u _ s)))
          (holds_if (P s) rer.unicode _ _ (holds_none (P s)) (character_holds c t))

      name_holds : (t : Source) → Holds (P s) (name_reference_at context t)
      name_holds t =
          holds_then (P s) (group_name_at given.setting.table t) _ (λ (name, rest). by name rest (has_name name given.names) refl)
        where
          by : (name : Name) (rest : Source) (has : Bool) → has_name name given.names ≡ has →
              Holds (P s) (if has then Some (back_reference rer (by_name_if_set name), rest) else None)
          by name rest true e = holds_some (P s) (back_reference rer (by_name_if_set name)) rest (is_given.names name s e)
          by name rest false e = holds_none (P s)

    escapes_hold : (k : ℕ) (t : Source) → EachProduction (Holds (P (char "\\" ∷ k ∷ t))) (escape_productions context k t)
    escapes_hold k t =
        let s : Source = char "\\" ∷ k ∷ t in
        (λ _. holds_some (P s) (boundary rer false) _ (boundary_holds s false))
        also (λ _. holds_some (P s) (boundary rer true) _ (boundary_holds s true))
        also (λ _. holds_some (P s) (literal rer (char "\\")) _ (literal_holds s (char "\\")))
        also (λ e.
        let parts = and_parts (is_one_of "pP" k) (rer.unicode || rer.unicode_sets) e in
        property_at_holds k t parts.0 (has_u parts.1))
        also (λ _. number_holds s k t)
        also (λ _. name_holds s t)
        also (λ _. character_holds s k t)
        also no_more

    escaped_by-holds : (k : ℕ) (t : Source) → Holds (P (char "\\" ∷ k ∷ t)) (escaped_by context k t)
    escaped_by-holds k t = by (class_letter k)
      where
        by : (letter : Option (CharacterClassType × Bool)) →
            Holds (P (char "\\" ∷ k ∷ t)) (elim letter as (λ _. Found Atom) [
              | Some named ↦ Some (class_escape (class_flags context) named.0 named.1, t)
              | None ↦ first_production (escape_productions context k t)
            ])
        by (Some (kind, negated)) =
            holds_some (P (char "\\" ∷ k ∷ t)) (class_escape (class_flags context) kind negated) t
            (is_given.matched (char "\\" ∷ k ∷ t) (class_escape (class_flags context) kind negated)
            (escape_matches setting maps keeps all text is_text given same unicode with_u kind negated (char "\\" ∷ k ∷ t)))
        by None =
            first_production-has (Holds (P (char "\\" ∷ k ∷ t))) (escape_productions context k t) (holds_none (P (char "\\" ∷ k ∷ t))) (escapes_hold k t)

    escaped_holds : (t : Source) → Holds (P (char "\\" ∷ t)) (escaped_at context t)
    escaped_holds [] = holds_none (P (char "\\" ∷ []))
    escaped_holds (k ∷ t) = escaped_by-holds k t

    brackets_hold : (t : Source) → Holds (P (char "[" ∷ t)) (brackets_at context t)
    brackets_hold t = by_test rer.unicode_sets refl
      where
        by_test : (v : Bool) → rer.unicode_sets ≡ v →
            Holds (P (char "[" ∷ t))
            (if v
            then found_map (λ (negated, value). class_set rer negated value) (class_set_at given.setting.table (class_parameters context) t)
            else found_map (λ (inverted, members). class (class_flags context) inverted (compared_members context members))
            (class_at given.setting.table (class_parameters context) t))
        by_test true e =
            holds_found (P (char "[" ∷ t)) (λ (negated, value). class_set rer negated value) (class_set_at given.setting.table (class_parameters context) t)
            (λ (negated, value) rest found. is_given.sets e t rest negated value found)
        by_test false e =
            holds_found (P (char "[" ∷ t)) (λ (inverted, members). class (class_flags context) inverted (compared_members context members))
            (class_at given.setting.table (class_parameters context) t)
            (λ (inverted, members) rest found.
            is_given.matched (char "[" ∷ t) (class (class_flags context) inverted (compared_members context members))
            (class_matches setting maps keeps all text is_text given same unicode with_u e t rest inverted members found))

    atoms_hold : (c : ℕ) (t : Source) → EachProduction (Holds (P (c ∷ t))) (atom_productions context c t)
    atoms_hold c t =
        let s : Source = c ∷ t in
        (λ _. holds_some (P s) (dot rer) t (is_given.matched s (dot rer) (dot_matches setting maps keeps all text is_text given same unicode with_u s)))
        also (λ _. anchor_holds StartOfLine)
        also (λ _. anchor_holds EndOfLine)
        also (λ first. subst (λ (x : ℕ). Holds (P (x ∷ t)) (escaped_at context t)) (sym (eqb-true c (char "\\") first)) (escaped_holds t))
        also (λ first. subst (λ (x : ℕ). Holds (P (x ∷ t)) (brackets_at context t)) (sym (eqb-true c (char "[") first)) (brackets_hold t))
        also (λ _. holds_if (P s) _ _ _ (holds_none (P s)) (holds_some (P s) (literal rer c) t (literal_holds s c)))
        also (λ _. holds_some (P s) (literal rer c) t (literal_holds s c))
        also no_more
      where
        anchor_holds : (kind : AnchorType) → Holds (P (c ∷ t)) (Some (anchor rer kind, t))
        anchor_holds kind =
            holds_some (P (c ∷ t)) (anchor rer kind) t
            (is_given.matched (c ∷ t) (anchor rer kind) (anchor_matches setting maps keeps all text is_text given same unicode with_u kind (c ∷ t)))

    -- the atom at the start of a source
    pub atom_holds : (t rest : Source) (a : Atom) → head_at context t ≡ Some (single a, rest) → P t a
    atom_holds t rest a found =
        (head_holds context P
        (λ c u. first_production-has (Holds (P (c ∷ u))) (atom_productions context c u) (holds_none (P (c ∷ u))) (atoms_hold c u))
        t).each (single a, rest) found
