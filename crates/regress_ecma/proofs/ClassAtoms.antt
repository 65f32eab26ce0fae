-- The atoms of a class without the flag v: what the grammar of ECMA-262 finds for each that the syntax tree has.
use Rattle.std.proofs.Common.{◌≡◌, ℕ, ◌==◌, Bool, false, not, ◌&&◌, ◌||◌, [], ◌∷◌, Option, Some, None, refl, sym, ap, subst}
use Rattle.regress_base.specs.Table.{Table}
use Rattle.regress_base.specs.declared.charclasses.CharacterClassType.{CharacterClassType}
use Rattle.regress_base.specs.declared.types.Flags.{Flags}
use Rattle.regress_lexer.specs.Digits.{is_decimal, is_letter}
use Rattle.regress_lexer.specs.Dialects.{reserves_k}
use Rattle.regress_lexer.specs.Escapes.{character_escape_at}
use Rattle.regress_lexer.specs.Source.{Source, Found, first_production, char, is_one_of}
use Rattle.regress_classes.specs.declared.parameters.Parameters.{Parameters}
use Rattle.regress_classes.specs.ClassProductions.{class_letter, complement_if, class_members, point, set, class_control_at, class_property, class_escape_productions}
use Rattle.regress_classes.specs.ClassProductions as ClassProductions
use Rattle.regress_classes.specs.Properties.{Property, of_points, of_strings, property_at}
use Rattle.regress_ecma.specs.Notation.{CharSet}
use Rattle.regress_ecma.specs.Characters.{character_class_escape}
use Rattle.regress_ecma.specs.Atoms.{one_character}
use Rattle.regress_ecma.specs.ClassNodes.{ClassAtom, character, class_escape, property}
use Rattle.regress_ecma.specs.CharSets.{Elements, only, union, character_of, range_or_union, atom_to_char_set}
use Rattle.regress_ecma.specs.ClassGrammar.{property_node, control_at, escape_productions, class_escape_at, class_atom_at}
use Rattle.regress_ecma.proofs.Follows.{Follows, follows_none, follows_some, follows_if, follows_then, follows_map, follows_same}

-- The same character, or a set that is related to the members.
abbrev pub IsAtomOf : Table → Flags → (CharSet → CharSet → Type 0) → ClassAtom → ClassProductions.ClassAtom → Type 0
IsAtomOf table rer R node (point c) = node ≡ character c
IsAtomOf table rer R node (set members) = (character_of node ≡ None) × R (atom_to_char_set table rer node).characters members

-- Class escapes and properties have related sets.
pub record HasRelatedSets (table : Table) (rer : Flags) (parameters : Parameters) (R : CharSet → CharSet → Type 0) : Type 0 where
  pub escape : (kind : CharacterClassType) (capital : Bool) →
      R (character_class_escape table rer kind capital) (class_members table parameters (kind, capital))
  pub property : (capital : Bool) (members : CharSet) →
      R (atom_to_char_set table rer (property members capital)).characters (complement_if capital members)

module _ (table : Table) (rer : Flags) (parameters : Parameters) (R : CharSet → CharSet → Type 0) (related : HasRelatedSets table rer parameters R) where
  abbrev Is : ClassAtom → ClassProductions.ClassAtom → Type 0
  Is = IsAtomOf table rer R

  control_follows : (t : Source) → Follows Is (class_control_at t) (control_at t)
  control_follows [] = follows_some Is (character (char "\\")) (point (char "\\")) (char "c" ∷ []) refl
  control_follows (d ∷ t) =
      follows_if Is (is_letter d || is_decimal d || d == char "_") _ _ _ _ (λ _. follows_some Is _ _ t refl)
      (λ _. follows_some Is _ _ (char "c" ∷ d ∷ t) refl)

  property_follows : (negated : Bool) (p : Property) (t : Source) →
      Follows Is (class_property negated (p, t)) (Some (property_node negated p, t))
  property_follows negated (of_points members) t =
      follows_some Is (property members negated) (set (complement_if negated members)) t (refl, related.property negated members)
  property_follows negated (of_strings written) t = follows_none Is _

  escapes_follow : (c : ℕ) (t : Source) →
      Follows Is (first_production (class_escape_productions table parameters c t)) (first_production (escape_productions table parameters c t))
  escapes_follow c t =
      follows_if Is (c == char "b") _ _ _ _ (λ _. follows_some Is (character 8) (point 8) t refl)
      (λ _. follows_if Is (c == char "-" && parameters.unicode) _ _ _ _ (λ _. follows_some Is (character (char "-")) (point (char "-")) t refl)
      (λ _. follows_if Is (c == char "c" && not parameters.unicode) _ _ _ _ (λ _. control_follows t)
      (λ _. follows_if Is (is_one_of "pP" c && parameters.unicode) _ _ _ _
      (λ _.
      follows_then (λ (y x : Property). y ≡ x) Is (property_at false table t) (property_at false table t) _ _ (follows_same _)
      (λ p q u same. subst (λ (r : Property). Follows Is (class_property (c == char "P") (p, u)) (Some (property_node (c == char "P") r, u))) (sym same)
      (property_follows (c == char "P") p u)))
      (λ _.
      follows_if Is (c == char "k" && parameters.named && reserves_k parameters.dialect) _ _ _ _ (λ _. follows_none Is None)
      (λ _.
      follows_map (λ (y x : ℕ). y ≡ x) Is point character
      (character_escape_at parameters.dialect parameters.unicode (c ∷ t)) (character_escape_at parameters.dialect parameters.unicode (c ∷ t)) (follows_same _)
      (λ x y same. ap character same))))))

  class_escape_follows : (t : Source) → Follows Is (ClassProductions.class_escape_at table parameters t) (class_escape_at table parameters t)
  class_escape_follows [] = follows_none Is None
  class_escape_follows (c ∷ t) = by (class_letter c)
    where
      by : (letter : Option (CharacterClassType × Bool)) →
          Follows Is
          (elim letter as (λ _. Found ClassProductions.ClassAtom) [
            | None ↦ first_production (class_escape_productions table parameters c t)
            | Some named ↦ Some (set (class_members table parameters named), t)
          ])
          (elim letter as (λ _. Found ClassAtom) [
            | None ↦ first_production (escape_productions table parameters c t)
            | Some named ↦ Some (class_escape named.0 named.1, t)
          ])
      by None = escapes_follow c t
      by (Some (kind, capital)) =
          follows_some Is (class_escape kind capital) (set (class_members table parameters (kind, capital))) t (refl, related.escape kind capital)

  pub atom_follows : (t : Source) → Follows Is (ClassProductions.class_atom_at table parameters t) (class_atom_at table parameters t)
  atom_follows [] = follows_none Is None
  atom_follows (c ∷ t) =
      follows_if Is (c == char "]") _ _ _ _ (λ _. follows_none Is None)
      (λ _.
      follows_if Is (c == char "\\") _ _ _ _ (λ _. class_escape_follows t)
      (λ _. follows_some Is (character c) (point c) t refl))

-- ---- atoms with a hyphen between them

abbrev pub with_hyphen : Elements → Elements → Elements
with_hyphen a b = union a (union (only (one_character (char "-"))) b)

pub first_none : (a b : Elements) (first last : Option ℕ) → first ≡ None → range_or_union a b first last ≡ with_hyphen a b
first_none a b None last e = refl
first_none a b (Some c) last e = absurd (cc)

pub last_none : (a b : Elements) (first last : Option ℕ) → last ≡ None → range_or_union a b first last ≡ with_hyphen a b
last_none a b None None e = refl
last_none a b (Some c) None e = refl
last_none a b first (Some c) e = absurd (cc)
