-- Atoms as they are written in the dialect `Ecma`: the matcher of ECMA-262, with the CharSets of what is written, matches
-- what the atom of the syntax tree does.
use Rattle.std.proofs.Common.{◌≡◌, ℕ, ◌==◌, Bool, true, false, not, ◌&&◌, List, [], ◌∷◌, Option, Some, None, if◌then◌else◌, refl, sym, ap, subst, ◌∙◌, All}
use Rattle.std.proofs.lemmas.Bool.{false≢true}
use Rattle.regress_base.specs.Table.{Table, denotes}
use Rattle.regress_base.specs.declared.charclasses.CharacterClassType.{CharacterClassType}
use Rattle.regress_base.specs.declared.types.AnchorType.{AnchorType}
use Rattle.regress_base.specs.declared.types.Flags.{Flags}
use Rattle.regress_tree.specs.Reading.{Direction}
use Rattle.regress_tree.specs.Steps.{Setting}
use Rattle.regress_lexer.specs.declared.dialect.Dialect.TheVariants.{Ecma}
use Rattle.regress_lexer.specs.Source.{Source, Found, char, IsCodePoint}
use Rattle.regress_classes.specs.ClassProductions.{complement, class_at}
use Rattle.regress_classes.specs.Properties.{Property, of_points, property_at}
use Rattle.regress_syntax.specs.Meaning.{is_literal, is_any, is_in_class, is_in_word, atom_steps}
use Rattle.regress_syntax.specs.Productions.{class_parameters, class_flags, compared_members, complements_first, Context, point_property, has_names}
use Rattle.regress_syntax.specs.Syntax.{Name, Atom, literal, dot, anchor, boundary, class_escape, class, back_reference, by_number}
use Rattle.regress_ecma.specs.Notation.{CharSet}
use Rattle.regress_ecma.specs.Atoms.{compile_atom}
use Rattle.regress_ecma.specs.CharacterMatchers.{is_same}
use Rattle.regress_ecma.specs.CharSets.{atom_to_char_set, compile_to_char_set, class_of, complement as complement_of, compile_character_class}
use Rattle.regress_ecma.specs.ClassGrammar.{property_node, character_class_at}
use Rattle.regress_ecma.specs.ClassNodes.{property, CharacterClass}
use Rattle.regress_ecma.specs.CompiledClasses.{compiled, atom_of}
use Rattle.regress_ecma.specs.Differences.{HasCaseDataOfUnicode}
use Rattle.regress_ecma.proofs.Bridge.{Agrees}
use Rattle.regress_ecma.proofs.BackReferences.{Agrees-back_reference}
use Rattle.regress_ecma.proofs.CharacterSets.{IsSetOf, Agrees-character}
use Rattle.regress_ecma.proofs.EcmaClasses.{class_follows}
use Rattle.regress_ecma.proofs.EcmaSets.{KeepsWords, class_finds, escape_finds, property_finds, first_finds, last_finds}
use Rattle.regress_ecma.proofs.SameSets.{IsSame}
use Rattle.regress_ecma.proofs.Sets.{same-literal, literal_set, dot_is_set, word_member}
use Rattle.regress_ecma.proofs.Theorem.{Agrees-anchor, Agrees-boundary}

-- ECMA-262 matches an atom at the start of a source as the syntax tree does.
abbrev pub AtomMatches : Setting → (all : List (Option Name)) → (text : List ℕ) → Context → Atom → Source → Type 0
AtomMatches setting all text ctx a t =
    (d : Direction) → Agrees text d (atom_steps setting all text d a) (compile_atom setting.table all ctx.setting.flags d (atom_of ctx a t))

module _ (setting : Setting) (maps : HasCaseDataOfUnicode setting.table) (keeps : KeepsWords setting.table)
    (all : List (Option Name)) (text : List ℕ) (is_text : All IsCodePoint text)
    (given : Context) (same : given.setting.table ≡ setting.table) (unicode : given.setting.flags.unicode ≡ setting.flags.unicode)
    (with_u : given.setting.flags.unicode_sets ≡ true → given.setting.flags.unicode ≡ true) where
  abbrev context : Context
  context = record given { dialect = Ecma }

  abbrev table : Table
  table = given.setting.table

  abbrev rer : Flags
  rer = given.setting.flags

  abbrev Matches : Atom → Source → Type 0
  Matches = AtomMatches setting all text context

  -- the same with the table of the context
  abbrev MatchesHere : Atom → Source → Type 0
  MatchesHere = AtomMatches (record { flags = setting.flags; table = table }) all text context

  on_table : (a : Atom) (t : Source) → MatchesHere a t → Matches a t
  on_table a t = subst (λ (u : Table). AtomMatches (record { flags = setting.flags; table = u }) all text context a t) same

  here : HasCaseDataOfUnicode table
  here = subst HasCaseDataOfUnicode (sym same) maps

  keeps_here : KeepsWords table
  keeps_here = subst KeepsWords (sym same) keeps

  -- ---- atoms that are no classes

  pub literal_matches : (c : ℕ) (t : Source) → Matches (literal rer c) t
  literal_matches c t =
      on_table (literal rer c) t (λ d. Agrees-character table rer _ false (is_literal table rer c) text is_text (literal_set table here rer with_u c) d)

  pub dot_matches : (t : Source) → Matches (dot rer) t
  dot_matches t = on_table (dot rer) t (λ d. Agrees-character table rer _ false (is_any rer) text is_text (dot_is_set table here rer with_u) d)

  pub anchor_matches : (kind : AnchorType) (t : Source) → Matches (anchor rer kind) t
  anchor_matches kind t d = Agrees-anchor text is_text d rer kind

  pub boundary_matches : (inverted : Bool) (t : Source) → Matches (boundary rer inverted) t
  boundary_matches inverted t =
      on_table (boundary rer inverted) t
      (λ d.
      Agrees-boundary text is_text d table rer (is_in_word table rer) (λ ch le. word_member table here rer with_u ch le)
      inverted)

  compared : (a b : ℕ) → is_same table rer a b ≡ denotes table rer.icase setting.flags.unicode a b
  compared a b = same-literal table here rer with_u a b ∙ ap (λ (u : Bool). denotes table rer.icase u a b) unicode

  pub number_matches : (n : ℕ) (t : Source) → Matches (back_reference rer (by_number n)) t
  number_matches n t =
      on_table (back_reference rer (by_number n)) t
      (λ d. Agrees-back_reference table rer text (denotes table rer.icase setting.flags.unicode) compared d n)

  pub escape_matches : (kind : CharacterClassType) (negated : Bool) (t : Source) → Matches (class_escape (class_flags context) kind negated) t
  escape_matches kind negated t =
      on_table (class_escape (class_flags context) kind negated) t
      (λ d. Agrees-character table rer _ false _ text is_text (escape_finds table here rer with_u keeps_here kind negated) d)

  -- ---- classes without the flag v

  abbrev by_class : Found CharacterClass → Atom
  by_class found = elim found as (λ _. Atom) [ None ↦ class rer false [] | Some read ↦ compile_character_class table rer read.0 ]

  class_is : rer.unicode_sets ≡ false → (t rest : Source) (inverted : Bool) (members : CharSet) (node : CharacterClass) →
      character_class_at table (class_parameters context) false t ≡ Some (node, rest) → node.invert ≡ inverted →
      IsSame (compile_to_char_set table rer node.contents).characters members →
      Matches (class (class_flags context) inverted (compared_members context members)) (char "[" ∷ t)
  class_is no_sets t rest inverted members node found invert same_members =
      on_table (class (class_flags context) inverted (compared_members context members)) (char "[" ∷ t)
      (λ d.
      subst
      (λ (b : Atom). Agrees text d
      (atom_steps (record { flags = setting.flags; table = table }) all text d (class (class_flags context) inverted (compared_members context members)))
      (compile_atom table all rer d b))
      (sym is) (Agrees-character table rer set' inverted _ text is_text (class_finds table here rer with_u inverted members set' same_members) d))
    where
      set' : CharSet
      set' = (compile_to_char_set table rer node.contents).characters

      is : compiled context (char "[" ∷ t) ≡ class rer inverted set'
      is =
          ap (λ (b : Bool). by_class (character_class_at table (class_parameters context) b t)) no_sets ∙ ap by_class found
          ∙ ap (λ (b : Bool).
          if b
          then class_of table rer
          (if node.invert then complement_of table rer (compile_to_char_set table rer node.contents) else compile_to_char_set table rer node.contents)
          else class rer node.invert set') no_sets
          ∙ ap (λ (b : Bool). class rer b set') invert

  pub class_matches : rer.unicode_sets ≡ false → (t rest : Source) (inverted : Bool) (members : CharSet) →
      class_at table (class_parameters context) t ≡ Some ((inverted, members), rest) →
      Matches (class (class_flags context) inverted (compared_members context members)) (char "[" ∷ t)
  class_matches no_sets t rest inverted members found =
      let read =
      (class_follows table here rer with_u (ap (λ (b : Bool). b && rer.icase) no_sets) (has_names given.names) t).each (inverted, members) rest found in
      class_is no_sets t rest inverted members read.value read.found read.related.invert read.related.contents

  -- ---- properties, not with both v and i

  abbrev property_set : Bool → CharSet → CharSet
  property_set capital members = (atom_to_char_set table rer (property members capital)).characters

  abbrev by_property : Bool → Found Property → Atom
  by_property capital found =
      elim found as (λ _. Atom) [
        | None ↦ class rer false []
        | Some read ↦ class rer false ((atom_to_char_set table rer (property_node capital read.0)).characters)
      ]

  set_matches : (s : Source) (inverted : Bool) (members set' : CharSet) → compiled context s ≡ class rer false set' →
      IsSetOf table rer set' false (is_in_class table rer inverted members) → Matches (class rer inverted members) s
  set_matches s inverted members set' is set =
      on_table (class rer inverted members) s
      (λ d.
      subst
      (λ (b : Atom). Agrees text d (atom_steps (record { flags = setting.flags; table = table }) all text d (class rer inverted members))
      (compile_atom table all rer d b))
      (sym is) (Agrees-character table rer set' false _ text is_text set d))

  no_icase : (rer.unicode_sets && rer.icase) ≡ false → complements_first context ≡ false → rer.icase ≡ false
  no_icase no_fold first = by_tests rer.icase rer.unicode_sets refl first no_fold
    where
      by_tests : (i v : Bool) → rer.icase ≡ i → (i && not v) ≡ false → (v && i) ≡ false → rer.icase ≡ false
      by_tests false v e h k = e
      by_tests true true e h k = absurd (false≢true (sym k))
      by_tests true false e h k = absurd (false≢true (sym h))

  pub property_matches : (rer.unicode_sets && rer.icase) ≡ false → rer.unicode ≡ true → (k : ℕ) (t rest : Source) (members : CharSet) →
      property_at rer.unicode_sets table t ≡ Some (of_points members, rest) → Matches (point_property context (k == char "P") members) (char "\\" ∷ k ∷ t)
  property_matches no_fold u k t rest members found = by (k == char "P") (complements_first context) refl (ap (by_property (k == char "P")) found)
    where
      by : (capital first : Bool) → complements_first context ≡ first → compiled context (char "\\" ∷ k ∷ t) ≡ class rer false (property_set capital members) →
          Matches (if capital && first then class rer false (complement members) else class rer capital members) (char "\\" ∷ k ∷ t)
      by false first e is = set_matches (char "\\" ∷ k ∷ t) false members _ is (property_finds table here rer with_u no_fold u members)
      by true true e is = set_matches (char "\\" ∷ k ∷ t) false (complement members) _ is (first_finds table here rer with_u no_fold u members)
      by true false e is = set_matches (char "\\" ∷ k ∷ t) true members _ is (last_finds table here rer with_u no_fold u (no_icase no_fold e) members)
