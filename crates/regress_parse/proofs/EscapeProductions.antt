-- Which production an escape belongs to, by its first code point.
use Rattle.std.proofs.Common.{◌≡◌, ℕ, Bool, true, false, not, cond, ◌&&◌, ◌||◌, ◌==◌, ◌∷◌, Option, Some, None, ⊎_elim, refl, ap, subst, eqb-true, sym, ◌∙◌, arith}
use Rattle.std.proofs.lemmas.Bool.{cond-true, cond-false, or_cases, and_parts, ne_eqb}
use Rattle.std.proofs.lemmas.Option.{none-some}
use Rattle.std.proofs.lemmas.Bool.Decides.{nat_tests}
use Rattle.regress_base.specs.declared.charclasses.CharacterClassType.{CharacterClassType}
use Rattle.regress_lexer.specs.Dialects.{quantifies_boundaries}
use Rattle.regress_lexer.specs.Source.{Source, Found, first_production, is_one_of}
use Rattle.regress_classes.specs.ClassProductions.{class_letter}
use Rattle.regress_syntax.specs.Syntax.{Atom, literal, boundary, class_escape}
use Rattle.regress_syntax.specs.Productions.{Context, class_flags, is_lone_backslash, begins_number, has_names, character_at, number_reference_at, name_reference_at, property_atom_at, escape_productions, escaped_by, escaped_at}
use Rattle.regress_parse.specs.Parsing.{is_lone_boundary}

-- ---- whether a quantifier may follow

nothing_lone : (b : Bool) → true ≡ not (not b && false)
nothing_lone true = refl
nothing_lone false = refl

lone_unless : (b : Bool) → b ≡ not (not b && true)
lone_unless true = refl
lone_unless false = refl

module _ (ctx : Context) (s : Source) (c : ℕ) (t : Source) (front : s ≡ c ∷ t) where
  by_letter : (letter : Option (CharacterClassType × Bool)) → class_letter c ≡ letter →
      escaped_at ctx s ≡ elim letter as (λ _. Found Atom) [
        | Some named ↦ Some (class_escape (class_flags ctx) named.0 named.1, t)
        | None ↦ first_production (escape_productions ctx c t)
      ]
  by_letter letter e =
      ap (escaped_at ctx) front
      ∙ ap (λ (o : Option (CharacterClassType × Bool)). elim o as (λ _. Found Atom) [
        | Some named ↦ Some (class_escape (class_flags ctx) named.0 named.1, t)
        | None ↦ first_production (escape_productions ctx c t)
      ]) e

  -- a class escape
  pub class_read : (named : CharacterClassType × Bool) → class_letter c ≡ Some named →
      escaped_at ctx s ≡ Some (class_escape (class_flags ctx) named.0 named.1, t)
  class_read named letter = by_letter (Some named) letter

  -- No quantifier may follow `\b` and `\B` in some dialects; one may follow every other escape.
  pub quantifiable : (c == 98) ≡ false → (c == 66) ≡ false → true ≡ not (is_lone_boundary ctx.dialect s)
  quantifiable small large = rw (front, small, large) (nothing_lone (quantifies_boundaries ctx.dialect))

  pub class_quantifiable : (named : CharacterClassType × Bool) → class_letter c ≡ Some named → true ≡ not (is_lone_boundary ctx.dialect s)
  class_quantifiable named letter =
      quantifiable
      (ne_eqb c 98 (λ e. none-some named (sym (ap class_letter e) ∙ letter)))
      (ne_eqb c 66 (λ e. none-some named (sym (ap class_letter e) ∙ letter)))

  pub boundary_quantifiable : c ≡ 98 → quantifies_boundaries ctx.dialect ≡ not (is_lone_boundary ctx.dialect s)
  boundary_quantifiable e = rw (front, e) (lone_unless (quantifies_boundaries ctx.dialect))

  pub no_boundary_quantifiable : c ≡ 66 → quantifies_boundaries ctx.dialect ≡ not (is_lone_boundary ctx.dialect s)
  no_boundary_quantifiable e = rw (front, e) (lone_unless (quantifies_boundaries ctx.dialect))

  -- a word boundary
  pub boundary_read : c ≡ 98 → escaped_at ctx s ≡ Some (boundary ctx.setting.flags false, t)
  boundary_read e = ap (escaped_at ctx) (front ∙ ap (λ d. d ∷ t) e)

  pub no_boundary_read : c ≡ 66 → escaped_at ctx s ≡ Some (boundary ctx.setting.flags true, t)
  no_boundary_read e = ap (escaped_at ctx) (front ∙ ap (λ d. d ∷ t) e)

  -- a literal backslash, before a `c`
  pub lone_read : is_lone_backslash ctx.setting.flags.unicode c t ≡ true → escaped_at ctx s ≡ Some (literal ctx.setting.flags 92, s)
  lone_read alone =
      let letter : c ≡ 99 = grind (arith, nat_tests, alone) in
      ap (escaped_at ctx) front
      ∙ subst (λ d. is_lone_backslash ctx.setting.flags.unicode d t ≡ true → escaped_by ctx d t ≡ Some (literal ctx.setting.flags 92, d ∷ t))
      (sym letter) (λ h. cond-true _ _ _ h) alone
      ∙ ap (λ (r : Source). Some (literal ctx.setting.flags 92, r)) (sym front)

  -- a property escape
  pub property_read : (is_one_of "pP" c && (ctx.setting.flags.unicode || ctx.setting.flags.unicode_sets)) ≡ true →
      escaped_at ctx s ≡ property_atom_at ctx (c == 80) t
  property_read both =
      let parts = and_parts (is_one_of "pP" c) _ both in
      let one : is_one_of "pP" c ≡ true = parts.0 in
      let letter : (c == 112 || c == 80) ≡ true = grind (arith, nat_tests, one) in
      ap (escaped_at ctx) front
      ∙ ⊎_elim
      (λ (small : (c == 112) ≡ true). subst (λ d. escaped_by ctx d t ≡ property_atom_at ctx (d == 80) t) (sym (eqb-true c 112 small)) (cond-true _ _ _ parts.1))
      (λ (large : (c == 80) ≡ true). subst (λ d. escaped_by ctx d t ≡ property_atom_at ctx (d == 80) t) (sym (eqb-true c 80 large)) (cond-true _ _ _ parts.1))
      (or_cases (c == 112) (c == 80) letter)

  -- an escape of none of these kinds
  module _ (letter : class_letter c ≡ None) (small : (c == 98) ≡ false) (large : (c == 66) ≡ false)
      (alone : is_lone_backslash ctx.setting.flags.unicode c t ≡ false)
      (property : (is_one_of "pP" c && (ctx.setting.flags.unicode || ctx.setting.flags.unicode_sets)) ≡ false) where
    others : escaped_at ctx s ≡ cond (begins_number c) (number_reference_at ctx c t)
        (cond (c == 107 && (ctx.setting.flags.unicode || has_names ctx.names)) (name_reference_at ctx t) (character_at ctx c t))
    others =
        by_letter None letter ∙ cond-false _ _ _ small ∙ cond-false _ _ _ large ∙ cond-false _ _ _ alone ∙ cond-false _ _ _ property

    pub number_read : begins_number c ≡ true → escaped_at ctx s ≡ number_reference_at ctx c t
    number_read number = others ∙ cond-true _ _ _ number

    pub name_read : begins_number c ≡ false → (c == 107 && (ctx.setting.flags.unicode || has_names ctx.names)) ≡ true →
        escaped_at ctx s ≡ name_reference_at ctx t
    name_read number name = others ∙ cond-false _ _ _ number ∙ cond-true _ _ _ name

    pub character_read : begins_number c ≡ false → (c == 107 && (ctx.setting.flags.unicode || has_names ctx.names)) ≡ false →
        escaped_at ctx s ≡ character_at ctx c t
    character_read number name = others ∙ cond-false _ _ _ number ∙ cond-false _ _ _ name
