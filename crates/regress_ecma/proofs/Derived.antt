-- The syntax trees of the grammar have the flags in force, and quantifiers in order.
use Rattle.std.proofs.Common.{◌≡◌, ℕ, ◌≤◌, nat_le, Bool, true, false, not, ◌&&◌, [], ◌∷◌, Option, Some, None, if◌then◌else◌, refl, ap, subst, ◌∙◌, arith}
use Rattle.std.specs.Prelude.{IfSome}
use Rattle.std.proofs.lemmas.Bool.Decides.{nat_tests}
use Rattle.regress_base.specs.declared.charclasses.CharacterClassType.{CharacterClassType}
use Rattle.regress_base.specs.declared.types.Flags.{Flags}
use Rattle.regress_base.specs.declared.types.Quantifier.{Quantifier}
use Rattle.regress_lexer.specs.declared.dialect.Dialect.{Dialect}
use Rattle.regress_lexer.specs.declared.dialect.Dialect.TheVariants.{Regress}
use Rattle.regress_lexer.specs.Dialects.{compiles_case}
use Rattle.regress_lexer.specs.Digits.{is_decimal, number, front}
use Rattle.regress_lexer.specs.Escapes.{character_escape_at}
use Rattle.regress_lexer.specs.Modifiers.{Change, changed, switched as switched_to}
use Rattle.regress_lexer.specs.Source.{Source, Found, first_production}
use Rattle.regress_lexer.proofs.lemmas.Sources.{EachProduction, no_more, ◌also◌, first_production-has}
use Rattle.regress_classes.specs.ClassProductions.{class_letter, class_at}
use Rattle.regress_classes.specs.ClassSets.{class_set_at}
use Rattle.regress_classes.specs.Properties.{Property, of_points, of_strings, property_at}
use Rattle.regress_syntax.specs.Grammar.{IsPattern, AreTerms, IsItem}
use Rattle.regress_syntax.specs.Names.{group_name_at}
use Rattle.regress_syntax.specs.Productions.{class_flags, class_parameters, complements_first, Context, context_inside, single, head_of_item, allows, head_at, optional_quantifier_at, character_at, property_atom, number_reference_at, name_reference_at, has_name, escape_productions, escaped_by, escaped_at, brackets_at, atom_productions, atom_by}
use Rattle.regress_syntax.specs.Syntax.{Target, Atom, class_escape, class, back_reference, Group, grouping, modified, capture, look, Pattern, Terms, Item, one, either, no_terms, more_terms, atom, group}
use Rattle.regress_syntax.proofs.lemmas.Productions.{optional_quantifier_at-ordered}
use Rattle.regress_ecma.specs.Characters.{switched, update_modifiers}
use Rattle.regress_ecma.specs.Compile.{flags_inside}
use Rattle.regress_ecma.specs.Differences.{flags_of, IsInOrder, IsProper, AreProper, IsProperItem}
use Rattle.regress_ecma.proofs.Heads.{OfAtom, head_holds}
use Rattle.regress_ecma.proofs.Holds.{Holds, holds_none, holds_some, holds_if, holds_then, holds_map}

abbrev is_class : Atom → Bool
is_class (class flags inverted members) = true
is_class (class_escape flags kind negated) = true
is_class other = false

module _ (context : Context) where
  -- The atom has the flags in force, unless it is a class and the dialect compiles these for the flag i.
  abbrev HasFlags : Atom → Type 0
  HasFlags a = (is_class a && compiles_case context.dialect) ≡ false → flags_of a ≡ context.setting.flags

  same_class_flags : compiles_case context.dialect ≡ false → class_flags context ≡ context.setting.flags
  same_class_flags e =
      ap (λ (b : Bool). if b && context.setting.flags.icase && not context.setting.flags.unicode
      then record context.setting.flags { icase = false } else context.setting.flags) e

  character_holds : (c : ℕ) (t : Source) → Holds HasFlags (character_at context c t)
  character_holds c t = holds_map HasFlags _ (character_escape_at context.dialect context.setting.flags.unicode (c ∷ t)) (λ a _. refl)

  class_if : (b : Bool) (members others : _) (negated : Bool) →
      HasFlags (if b then class context.setting.flags false members else class context.setting.flags negated others)
  class_if true members others negated _ = refl
  class_if false members others negated _ = refl

  property_holds : (negated : Bool) (x : Property × Source) → Holds HasFlags (property_atom context negated x)
  property_holds negated (of_points members, t) = holds_some HasFlags _ t (class_if (negated && complements_first context) _ members negated)
  property_holds negated (of_strings written, t) = holds_if HasFlags negated _ _ (holds_none HasFlags) (holds_some HasFlags _ t (λ _. refl))

  number_holds : (c : ℕ) (t : Source) → Holds HasFlags (number_reference_at context c t)
  number_holds c t =
      holds_if HasFlags (nat_le (number 10 (front is_decimal (c ∷ t))) context.groups) _ _ (holds_some HasFlags _ _ (λ _. refl))
      (holds_if HasFlags context.setting.flags.unicode _ _ (holds_none HasFlags) (character_holds c t))

  name_holds : (t : Source) → Holds HasFlags (name_reference_at context t)
  name_holds t =
      holds_then HasFlags (group_name_at context.setting.table t) _
      (λ x. holds_if HasFlags (has_name x.0 context.names) _ _ (holds_some HasFlags _ x.1 (λ _. refl)) (holds_none HasFlags))

  escapes_hold : (c : ℕ) (t : Source) → EachProduction (Holds HasFlags) (escape_productions context c t)
  escapes_hold c t =
      (λ _. holds_some HasFlags _ _ (λ _. refl))
      also (λ _. holds_some HasFlags _ _ (λ _. refl))
      also (λ _. holds_some HasFlags _ _ (λ _. refl))
      also (λ _. holds_then HasFlags (property_at context.setting.flags.unicode_sets context.setting.table t) _ (property_holds _))
      also (λ _. number_holds c t)
      also (λ _. name_holds t)
      also (λ _. character_holds c t)
      also no_more

  escaped_by-holds : (c : ℕ) (t : Source) → Holds HasFlags (escaped_by context c t)
  escaped_by-holds c t = by (class_letter c)
    where
      by : (letter : Option (CharacterClassType × Bool)) →
          Holds HasFlags (elim letter as (λ _. Found Atom) [
            | Some named ↦ Some (class_escape (class_flags context) named.0 named.1, t)
            | None ↦ first_production (escape_productions context c t)
          ])
      by (Some named) = holds_some HasFlags _ t same_class_flags
      by None = first_production-has (Holds HasFlags) (escape_productions context c t) (holds_none HasFlags) (escapes_hold c t)

  escaped_holds : (t : Source) → Holds HasFlags (escaped_at context t)
  escaped_holds [] = holds_none HasFlags
  escaped_holds (c ∷ t) = escaped_by-holds c t

  brackets_hold : (t : Source) → Holds HasFlags (brackets_at context t)
  brackets_hold t =
      holds_if HasFlags context.setting.flags.unicode_sets _ _
      (holds_map HasFlags _ (class_set_at context.setting.table (class_parameters context) t) (λ a _. refl))
      (holds_map HasFlags _ (class_at context.setting.table (class_parameters context) t) (λ a. same_class_flags))

  atoms_hold : (c : ℕ) (t : Source) → EachProduction (Holds HasFlags) (atom_productions context c t)
  atoms_hold c t =
      (λ _. holds_some HasFlags _ t (λ _. refl))
      also (λ _. holds_some HasFlags _ t (λ _. refl))
      also (λ _. holds_some HasFlags _ t (λ _. refl))
      also (λ _. escaped_holds t)
      also (λ _. brackets_hold t)
      also (λ _. holds_if HasFlags _ _ _ (holds_none HasFlags) (holds_some HasFlags _ t (λ _. refl)))
      also (λ _. holds_some HasFlags _ t (λ _. refl))
      also no_more

  atom_holds : (c : ℕ) (t : Source) → Holds HasFlags (atom_by context c t)
  atom_holds c t = first_production-has (Holds HasFlags) (atom_productions context c t) (holds_none HasFlags) (atoms_hold c t)

  single_holds : (t : Source) → Holds (OfAtom HasFlags) (head_at context t)
  single_holds = head_holds context (λ _. HasFlags) atom_holds

-- ---- quantifiers and modifiers

pub in_order : (ctx : Context) (allowed : Bool) (t : Source) (q : Option Quantifier) (rest : Source) →
    optional_quantifier_at ctx allowed t ≡ Some (q, rest) → IsInOrder q
in_order ctx allowed t None rest e = tt
in_order ctx allowed t (Some q) rest e = by q.max ((optional_quantifier_at-ordered ctx allowed t q rest e).1)
  where
    by : (max : Option ℕ) → elim max as (λ _. Bool) [ None ↦ true | Some most ↦ nat_le q.min most ] ≡ true → IfSome max (λ most. q.min ≤ most)
    by None h = tt
    by (Some most) h = grind (arith, nat_tests, h)

switched_same : (change : Option Bool) (old : Bool) → switched_to change old ≡ switched change old
switched_same None old = refl
switched_same (Some new) old = refl

modified_same : (change : Change) (flags : Flags) → changed change flags ≡ update_modifiers flags change
modified_same change flags =
    ap (λ (i : Bool). record flags {
      icase = i;
      multiline = switched_to change.multiline flags.multiline;
      dot_all = switched_to change.dot_all flags.dot_all;
    }) (switched_same change.icase flags.icase)
    ∙ ap (λ (m : Bool). record flags {
      icase = switched change.icase flags.icase;
      multiline = m;
      dot_all = switched_to change.dot_all flags.dot_all;
    }) (switched_same change.multiline flags.multiline)
    ∙ ap (λ (s : Bool). record flags {
      icase = switched change.icase flags.icase;
      multiline = switched change.multiline flags.multiline;
      dot_all = s;
    }) (switched_same change.dot_all flags.dot_all)

pub inside_same : (kind : Group) (ctx : Context) → (context_inside kind ctx).setting.flags ≡ flags_inside kind ctx.setting.flags
inside_same grouping ctx = refl
inside_same (modified change) ctx = modified_same change ctx.setting.flags
inside_same (capture name) ctx = refl
inside_same (look negate direction) ctx = refl

-- ---- patterns

pub dialect_inside : (kind : Group) (ctx : Context) → (context_inside kind ctx).dialect ≡ ctx.dialect
dialect_inside grouping ctx = refl
dialect_inside (modified change) ctx = refl
dialect_inside (capture name) ctx = refl
dialect_inside (look negate direction) ctx = refl

atom_proper : (ctx : Context) → ctx.dialect ≡ Regress → (a : Atom) (t rest : Source) → head_at ctx t ≡ Some (single a, rest) →
    flags_of a ≡ ctx.setting.flags
atom_proper ctx regress a t rest found =
    (single_holds ctx t).each (single a, rest) found (ap (λ (dialect : Dialect). is_class a && compiles_case dialect) regress ∙ and_false (is_class a))
  where
    and_false : (b : Bool) → (b && false) ≡ false
    and_false true = refl
    and_false false = refl

-- In each dialect a reference has the flags in force.
pub reference_proper : (ctx : Context) (flags : Flags) (to : Target) (t rest : Source) → head_at ctx t ≡ Some (single (back_reference flags to), rest) →
    flags ≡ ctx.setting.flags
reference_proper ctx flags to t rest found = (single_holds ctx t).each (single (back_reference flags to), rest) found refl

mutual
  pub derived_proper : (ctx : Context) → ctx.dialect ≡ Regress → (p : Pattern) (t rest : Source) → IsPattern ctx p t rest → IsProper ctx.setting.flags p
  derived_proper ctx regress (one ts) t rest derived = terms_proper ctx regress ts t rest derived.0
  derived_proper ctx regress (either ts p) t rest derived =
      (terms_proper ctx regress ts t _ derived.1, derived_proper ctx regress p derived.0 rest derived.2)

  terms_proper : (ctx : Context) → ctx.dialect ≡ Regress → (ts : Terms) (t rest : Source) → AreTerms ctx ts t rest → AreProper ctx.setting.flags ts
  terms_proper ctx regress no_terms t rest derived = tt
  terms_proper ctx regress (more_terms x q xs) t rest derived = (
    item_proper ctx regress x t derived.0 derived.2,
    in_order ctx (allows ctx (head_of_item x)) derived.0 q derived.1 derived.3,
    terms_proper ctx regress xs derived.1 rest derived.4,
  )

  item_proper : (ctx : Context) → ctx.dialect ≡ Regress → (x : Item) (t rest : Source) → IsItem ctx x t rest → IsProperItem ctx.setting.flags x
  item_proper ctx regress (atom a) t rest derived = atom_proper ctx regress a t rest derived
  item_proper ctx regress (group kind p) t rest derived =
      subst (λ (flags : Flags). IsProper flags p) (inside_same kind ctx)
      (derived_proper (context_inside kind ctx) (dialect_inside kind ctx ∙ regress) p derived.0 _ derived.2)
