-- In the dialect `Ecma` ECMA-262 matches each atom as the syntax tree does, but references by name to groups of one name.
use Rattle.std.proofs.Common.{◌≡◌, ℕ, Bool, true, false, List, ◌∷◌, Option, Some, sym, ap, ◌∙◌, All}
use Rattle.std.proofs.lemmas.Bool.{false≢true}
use Rattle.regress_base.specs.Table.{Table, HasStrings, denotes}
use Rattle.regress_base.specs.declared.types.Flags.{Flags}
use Rattle.regress_tree.specs.Steps.{Setting}
use Rattle.regress_lexer.specs.declared.dialect.Dialect.TheVariants.{Ecma}
use Rattle.regress_lexer.specs.Source.{Source, char, IsCodePoint}
use Rattle.regress_classes.specs.Properties.{of_strings, property_at}
use Rattle.regress_syntax.specs.Meaning.{longest_first}
use Rattle.regress_syntax.specs.Productions.{Context}
use Rattle.regress_syntax.specs.Syntax.{Name, string_property}
use Rattle.regress_ecma.specs.Differences.{HasCaseDataOfUnicode}
use Rattle.regress_ecma.proofs.EcmaClassSets.{set_matches, property_matches}
use Rattle.regress_ecma.proofs.EcmaHeads.{atom_holds}
use Rattle.regress_ecma.proofs.EcmaSets.{KeepsWords}
use Rattle.regress_ecma.proofs.PropertyStrings.{Agrees-property, property_at-strings}
use Rattle.regress_ecma.proofs.Sets.{literal_set}
use Rattle.regress_ecma.proofs.InEcma.{AtomMatches, AtomsMatch, match_in_dialect, refers_if_set}

module _ (setting : Setting) (maps : HasCaseDataOfUnicode setting.table) (keeps : KeepsWords setting.table) (strings : HasStrings setting.table.strings)
    (with_u : setting.flags.unicode_sets ≡ true → setting.flags.unicode ≡ true) (all : List (Option Name)) (text : List ℕ) (is_text : All IsCodePoint text) where
  -- a property of strings
  string_property_matches : (given : Context) → given.setting.table ≡ setting.table → given.setting.flags.unicode ≡ setting.flags.unicode →
      (given.setting.flags.unicode_sets ≡ true → given.setting.flags.unicode ≡ true) → (k : ℕ) (t rest : Source) (written : List (List ℕ)) →
      property_at given.setting.flags.unicode_sets given.setting.table t ≡ Some (of_strings written, rest) →
      AtomMatches setting all text (record given { dialect = Ecma }) (string_property given.setting.flags (longest_first written)) (char "\\" ∷ k ∷ t)
  string_property_matches given same unicode with_u' k t rest written found d =
      let rer : Flags = given.setting.flags in
      Agrees-property setting.table rer text is_text (denotes setting.table rer.icase setting.flags.unicode)
      (λ c ch le.
      literal_set setting.table maps rer with_u' c ch le ∙ ap (λ (u : Bool). denotes setting.table rer.icase u c ch) unicode)
      d written
      ((property_at-strings setting.table strings rer.unicode_sets t).each (of_strings written, rest)
      (ap (λ (table : Table). property_at rer.unicode_sets table t) (sym same) ∙ found))

  pub atoms_match : AtomsMatch setting all text
  atoms_match =
      match_in_dialect setting all text with_u
      (λ given same unicode with_u' a t rest found.
      atom_holds setting maps keeps all text is_text given same unicode with_u'
      (λ t a. refers_if_set a ≡ false → AtomMatches setting all text (record given { dialect = Ecma }) a t)
      (record {
        matched = λ t a matches _. matches;
        sets = λ v t rest negated value found _. set_matches setting maps all text is_text given with_u' same unicode v t negated value rest found;
        points = λ v i k t rest members letter found _.
            property_matches setting maps all text is_text given with_u' same unicode v k t members rest
            (ap (λ (b : Bool). property_at b given.setting.table t) v ∙ found);
        strings = λ k t rest written small letter found _. string_property_matches given same unicode with_u' k t rest written found;
        names = λ name t has other. absurd (false≢true (sym other));
      })
      t rest a found)
