-- Which production an escape in a class belongs to, by its first code point.
use Rattle.std.proofs.Common.{◌≡◌, ℕ, Bool, true, false, cond, not, ◌&&◌, ◌||◌, ◌==◌, ◌∷◌, Option, Some, None, ⊎_elim, refl, sym, ap, ◌∙◌, subst, eqb-true, arith}
use Rattle.std.proofs.lemmas.Bool.{cond-true, cond-false, or_cases}
use Rattle.std.proofs.lemmas.Bool.Decides.{nat_tests}
use Rattle.regress_base.specs.declared.charclasses.CharacterClassType.{CharacterClassType}
use Rattle.regress_base.specs.Table.{Table}
use Rattle.regress_lexer.specs.Dialects.{reserves_k}
use Rattle.regress_lexer.specs.Escapes.{character_escape_at}
use Rattle.regress_lexer.specs.Source.{Source, Found, found_map, first_production, is_one_of}
use Rattle.regress_classes.specs.declared.parameters.Parameters.{Parameters}
use Rattle.regress_classes.specs.ClassProductions.{ClassAtom, point, set, class_letter, class_members, class_control_at, class_property_at, class_escape_productions, class_escape_at}
use Rattle.regress_classes.specs.ClassSets.{Operand, character, class, only, quoted_at, property_operand_at, escaped_character_at, operand_productions, escaped_operand_at}

pub property_letter : (c : ℕ) → is_one_of "pP" c ≡ (c == 112 || c == 80)
property_letter c = grind (arith, nat_tests)

-- ---- an escape in a class without the flag v

module _ (table : Table) (parameters : Parameters) (s : Source) (c : ℕ) (t : Source) (front : s ≡ c ∷ t) where
  by_letter : (letter : Option (CharacterClassType × Bool)) → class_letter c ≡ letter →
      class_escape_at table parameters s ≡ elim letter as (λ _. Found ClassAtom) [
        | None ↦ first_production (class_escape_productions table parameters c t)
        | Some named ↦ Some (set (class_members table parameters named), t)
      ]
  by_letter letter e =
      ap (class_escape_at table parameters) front
      ∙ ap (λ (o : Option (CharacterClassType × Bool)). elim o as (λ _. Found ClassAtom) [
        | None ↦ first_production (class_escape_productions table parameters c t)
        | Some named ↦ Some (set (class_members table parameters named), t)
      ]) e

  pub set_read : (named : CharacterClassType × Bool) → class_letter c ≡ Some named →
      class_escape_at table parameters s ≡ Some (set (class_members table parameters named), t)
  set_read named letter = by_letter (Some named) letter

  pub backspace_read : c ≡ 98 → class_escape_at table parameters s ≡ Some (point 8, t)
  backspace_read e = ap (class_escape_at table parameters) (front ∙ ap (λ d. d ∷ t) e)

  pub hyphen_read : c ≡ 45 → parameters.unicode ≡ true → class_escape_at table parameters s ≡ Some (point c, t)
  hyphen_read e u =
      ap (class_escape_at table parameters) (front ∙ ap (λ d. d ∷ t) e) ∙ cond-true _ _ _ u ∙ ap (λ d. Some (point d, t)) (sym e)

  pub control_read : c ≡ 99 → parameters.unicode ≡ false → class_escape_at table parameters s ≡ class_control_at t
  control_read e u = ap (class_escape_at table parameters) (front ∙ ap (λ d. d ∷ t) e) ∙ cond-true _ _ _ (ap not u)

  pub property_read : (c == 112 || c == 80) ≡ true → parameters.unicode ≡ true →
      class_escape_at table parameters s ≡ class_property_at table (c == 80) t
  property_read letter u =
      ap (class_escape_at table parameters) front
      ∙ ⊎_elim
      (λ (small : (c == 112) ≡ true).
      subst (λ d. class_escape_at table parameters (d ∷ t) ≡ class_property_at table (d == 80) t) (sym (eqb-true c 112 small)) (cond-true _ _ _ u))
      (λ (large : (c == 80) ≡ true).
      subst (λ d. class_escape_at table parameters (d ∷ t) ≡ class_property_at table (d == 80) t) (sym (eqb-true c 80 large)) (cond-true _ _ _ u))
      (or_cases (c == 112) (c == 80) letter)

  -- an escape of none of these kinds
  module _ (letter : class_letter c ≡ None) (small : (c == 98) ≡ false) (hyphen : (c == 45 && parameters.unicode) ≡ false)
      (control : (c == 99 && not parameters.unicode) ≡ false) (property : ((c == 112 || c == 80) && parameters.unicode) ≡ false) where
    others : class_escape_at table parameters s
        ≡ cond (c == 107 && parameters.named && reserves_k parameters.dialect) None
        (found_map point (character_escape_at parameters.dialect parameters.unicode (c ∷ t)))
    others =
        by_letter None letter ∙ cond-false _ _ _ small ∙ cond-false _ _ _ hyphen ∙ cond-false _ _ _ control
        ∙ cond-false _ _ _ (ap (λ b. b && parameters.unicode) (property_letter c) ∙ property)

    pub reserved_read : (c == 107 && parameters.named && reserves_k parameters.dialect) ≡ true → class_escape_at table parameters s ≡ None
    reserved_read reserved = others ∙ cond-true _ _ _ reserved

    pub point_read : (c == 107 && parameters.named && reserves_k parameters.dialect) ≡ false →
        class_escape_at table parameters s ≡ found_map point (character_escape_at parameters.dialect parameters.unicode s)
    point_read free =
        others ∙ cond-false _ _ _ free
        ∙ ap (λ (r : Source). found_map point (character_escape_at parameters.dialect parameters.unicode r)) (sym front)

-- ---- an escape in a class with the flag v

module _ (table : Table) (parameters : Parameters) (in_negated : Bool) (s : Source) (c : ℕ) (t : Source) (front : s ≡ c ∷ t) where
  by_operand : (letter : Option (CharacterClassType × Bool)) → class_letter c ≡ letter →
      escaped_operand_at table parameters in_negated s ≡ elim letter as (λ _. Found Operand) [
        | Some named ↦ Some (class (only (class_members table parameters named)), t)
        | None ↦ first_production (operand_productions table parameters in_negated c t)
      ]
  by_operand letter e =
      ap (escaped_operand_at table parameters in_negated) front
      ∙ ap (λ (o : Option (CharacterClassType × Bool)). elim o as (λ _. Found Operand) [
        | Some named ↦ Some (class (only (class_members table parameters named)), t)
        | None ↦ first_production (operand_productions table parameters in_negated c t)
      ]) e

  pub class_escape_read : (named : CharacterClassType × Bool) → class_letter c ≡ Some named →
      escaped_operand_at table parameters in_negated s ≡ Some (class (only (class_members table parameters named)), t)
  class_escape_read named letter = by_operand (Some named) letter

  pub quoted_read : c ≡ 113 → escaped_operand_at table parameters in_negated s ≡ quoted_at parameters t
  quoted_read e = ap (escaped_operand_at table parameters in_negated) (front ∙ ap (λ d. d ∷ t) e)

  pub property_operand_read : (c == 112 || c == 80) ≡ true →
      escaped_operand_at table parameters in_negated s ≡ property_operand_at table parameters in_negated (c == 80) t
  property_operand_read letter =
      ap (escaped_operand_at table parameters in_negated) front
      ∙ ⊎_elim
      (λ (small : (c == 112) ≡ true).
      subst (λ d. escaped_operand_at table parameters in_negated (d ∷ t) ≡ property_operand_at table parameters in_negated (d == 80) t) (sym (eqb-true c 112 small)) refl)
      (λ (large : (c == 80) ≡ true).
      subst (λ d. escaped_operand_at table parameters in_negated (d ∷ t) ≡ property_operand_at table parameters in_negated (d == 80) t) (sym (eqb-true c 80 large)) refl)
      (or_cases (c == 112) (c == 80) letter)

  pub character_escape_read : class_letter c ≡ None → (c == 113) ≡ false → (c == 112 || c == 80) ≡ false →
      escaped_operand_at table parameters in_negated s ≡ found_map character (escaped_character_at parameters.unicode s)
  character_escape_read letter quoted property =
      by_operand None letter ∙ cond-false _ _ _ quoted ∙ cond-false _ _ _ (property_letter c ∙ property)
      ∙ ap (λ (r : Source). found_map character (escaped_character_at parameters.unicode r)) (sym front)
