-- The syntax tree of ECMA-262: that of the grammar, but each class has the CharSet that CompileCharacterClass or
-- CompileToCharSet returns for its source.
use Rattle.std.specs.Prelude.{false, [], drop, Some, None, if◌then◌else◌}
use Rattle.regress_lexer.specs.Source.{Source, char, is_at}
use Rattle.regress_classes.specs.Properties.{property_at}
use Rattle.regress_syntax.specs.Grammar.{IsPattern, AreTerms, IsItem}
use Rattle.regress_syntax.specs.Productions.{Context, context_inside, class_parameters}
use Rattle.regress_syntax.specs.Syntax.{Atom, class, class_set, Pattern, Terms, Item, one, either, no_terms, more_terms, atom, group}
use Rattle.regress_ecma.specs.CharSets.{atom_to_char_set, compile_character_class}
use Rattle.regress_ecma.specs.ClassGrammar.{property_node, character_class_at}

module _ (ctx : Context) where
  -- 22.2.2.7 CompileAtom, CharacterClass: after its `[`
  abbrev pub class_compiled : Source → Atom
  class_compiled t =
      elim (character_class_at ctx.setting.table (class_parameters ctx) ctx.setting.flags.unicode_sets t) [
        | None ↦ class ctx.setting.flags false []
        | Some found ↦ compile_character_class ctx.setting.table ctx.setting.flags found.0
      ]

  -- 22.2.2.7 CompileAtom, AtomEscape: a property, after its backslash
  abbrev pub property_compiled : Source → Atom
  property_compiled t =
      elim (property_at ctx.setting.flags.unicode_sets ctx.setting.table (drop 1 t)) [
        | None ↦ class ctx.setting.flags false []
        | Some found ↦
            class ctx.setting.flags false
            ((atom_to_char_set ctx.setting.table ctx.setting.flags (property_node (is_at (char "P") t) found.0)).characters)
      ]

  -- the class at the start of the source
  abbrev pub compiled : Source → Atom
  compiled t = if is_at (char "[") t then class_compiled (drop 1 t) else property_compiled (drop 1 t)

  -- an atom that the source begins with
  abbrev pub atom_of : Atom → Source → Atom
  atom_of (class flags inverted members) t = compiled t
  atom_of (class_set flags negated value) t = compiled t
  atom_of other t = other

-- the syntax tree, by the derivation of the source
abbrev mutual
  pub with_char_sets : (ctx : Context) (p : Pattern) (t rest : Source) → IsPattern ctx p t rest → Pattern
  with_char_sets ctx (one ts) t rest derived = one (terms_with_char_sets ctx ts t rest derived.0)
  with_char_sets ctx (either ts p) t rest derived =
      either (terms_with_char_sets ctx ts t _ derived.1) (with_char_sets ctx p derived.0 rest derived.2)

  pub terms_with_char_sets : (ctx : Context) (ts : Terms) (t rest : Source) → AreTerms ctx ts t rest → Terms
  terms_with_char_sets ctx no_terms t rest derived = no_terms
  terms_with_char_sets ctx (more_terms x q xs) t rest derived =
      more_terms (item_with_char_sets ctx x t derived.0 derived.2) q (terms_with_char_sets ctx xs derived.1 rest derived.4)

  pub item_with_char_sets : (ctx : Context) (x : Item) (t rest : Source) → IsItem ctx x t rest → Item
  item_with_char_sets ctx (atom a) t rest derived = atom (atom_of ctx a t)
  item_with_char_sets ctx (group kind p) t rest derived =
      group kind (with_char_sets (context_inside kind ctx) p derived.0 _ derived.2)
