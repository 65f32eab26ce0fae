-- The atoms of a class without the flag v are code points, and leave code points.
use Rattle.std.proofs.Common.{◌≡◌, ℕ, ◌<◌, ◌≤◌, ◌==◌, Bool, true, false, not, ◌||◌, [], ◌∷◌, Option, Some, None, ap, nat_le, arith}
use Rattle.std.specs.List.{All}
use Rattle.std.proofs.lemmas.Bool.{false≢true}
use Rattle.std.proofs.lemmas.Bool.Decides.{nat_tests}
use Rattle.std.proofs.lemmas.Option.{none-some}
use Rattle.std.proofs.lemmas.List.Elements.{All-head}
use Rattle.regress_base.specs.Intervals.{code_point_max}
use Rattle.regress_base.specs.Table.{Table}
use Rattle.regress_lexer.specs.Escapes.{lead_surrogate, trail_surrogate}
use Rattle.regress_base.specs.declared.charclasses.CharacterClassType.{CharacterClassType}
use Rattle.regress_lexer.specs.Source.{Source, Found, first_production, IsCodePoint, char}
use Rattle.regress_lexer.specs.Digits.{is_decimal, is_letter, control}
use Rattle.regress_lexer.proofs.lemmas.Sources.{EachProduction, no_more, ◌also◌, first_production-has}
use Rattle.regress_lexer.proofs.lemmas.InRange.{Finds, finds_none, finds_some, finds_cond, finds_map, character_escape_at-in_range}
use Rattle.regress_lexer.proofs.lemmas.After.{after_all, after_drop}
use Rattle.regress_classes.specs.ClassProductions.{class_letter}
use Rattle.regress_classes.specs.declared.parameters.Parameters.{Parameters}
use Rattle.regress_classes.specs.Properties.{Property, of_points, of_strings, property_at}
use Rattle.regress_ecma.specs.ClassGrammar.{property_node, control_at, escape_productions, class_escape_at, is_pair, lead, trail, class_atom_at}
use Rattle.regress_ecma.specs.ClassNodes.{ClassAtom, character, class_escape, property, string_property, class_strings, nested_class}
use Rattle.regress_ecma.specs.ClassRanges.{is_wrong_range}
use Rattle.regress_ecma.proofs.ClassRangeNodes.{atom-ends}

-- ---- atoms are code points

abbrev pub IsPoint : ClassAtom → Type 0
IsPoint (character c) = IsCodePoint c
IsPoint (class_escape kind capital) = Unit {0}
IsPoint (property members capital) = Unit {0}
IsPoint (string_property strings) = Unit {0}
IsPoint (class_strings strings) = Unit {0}
IsPoint (nested_class invert contents) = Unit {0}

Anything : Property → Type 0
Anything p = Unit {0}

anything : (found : Found Property) → Finds Anything found
unfolding Anything
anything found = record { each = λ x e. tt }

property_point : (capital : Bool) (p : Property) → Anything p → IsPoint (property_node capital p)
property_point capital (of_points members) h = tt
property_point capital (of_strings strings) h = tt

control_point : (t : Source) → Finds IsPoint (control_at t)
control_point [] = finds_some IsPoint (character (char "\\"), char "c" ∷ []) (omega arith)
control_point (d ∷ t) =
    finds_cond IsPoint (is_letter d || is_decimal d || d == char "_") _ _ (λ _. finds_some IsPoint (character (control d), t) (omega arith))
    (λ _. finds_some IsPoint (character (char "\\"), char "c" ∷ d ∷ t) (omega arith))

module _ (table : Table) (parameters : Parameters) where
  escape_point : (t : Source) → All IsCodePoint t → Finds IsPoint (class_escape_at table parameters t)
  escape_point [] h = finds_none IsPoint
  escape_point (c ∷ t) h = by (class_letter c)
    where
      each : EachProduction (λ found. Finds IsPoint found) (escape_productions table parameters c t)
      each =
          (λ _. finds_some IsPoint (character 8, t) (omega arith))
          also (λ _. finds_some IsPoint (character (char "-"), t) (omega arith))
          also (λ e. control_point t)
          also (λ _. finds_map Anything IsPoint (property_node (c == char "P")) (property_at false table t) (property_point (c == char "P"))
          (anything (property_at false table t)))
          also (λ _. finds_none IsPoint)
          also (λ _. finds_map IsCodePoint IsPoint character _ (λ x k. k) (character_escape_at-in_range parameters.dialect parameters.unicode (c ∷ t) h))
          also no_more

      by : (letter : Option (CharacterClassType × Bool)) →
          Finds IsPoint (elim letter as (λ _. Found ClassAtom) [
            | None ↦ first_production (escape_productions table parameters c t)
            | Some named ↦ Some (class_escape named.0 named.1, t)
          ])
      by (Some named) = finds_some IsPoint (class_escape named.0 named.1, t) tt
      by None = first_production-has (λ found. Finds IsPoint found) (escape_productions table parameters c t) (finds_none IsPoint) each

  pub atom_point : (t : Source) → All IsCodePoint t → Finds IsPoint (class_atom_at table parameters t)
  atom_point [] h = finds_none IsPoint
  atom_point (c ∷ t) h =
      finds_cond IsPoint (c == char "]") _ _ (λ _. finds_none IsPoint)
      (λ _. finds_cond IsPoint (c == char "\\") _ _ (λ _. escape_point t (after_all (c ∷ t) t (after_drop 1 (c ∷ t)) h)) (λ _. finds_some IsPoint
      (character c, t) (All-head IsCodePoint c t h)))

  pub rest_points : (t u : Source) (a : ClassAtom) → All IsCodePoint t → class_atom_at table parameters t ≡ Some (a, u) → All IsCodePoint u
  rest_points [] u a h e = absurd (none-some (a, u) e)
  rest_points (c ∷ t) u a h e = after_all t u ((atom-ends table parameters c t).each (a, u) e) (after_all (c ∷ t) t (after_drop 1 (c ∷ t)) h)

-- A lead surrogate is below a trail surrogate.
units_apart : (x y : ℕ) → y ≤ code_point_max → nat_le (trail_surrogate x) (lead_surrogate y) ≡ false
units_apart x y within =
    let lead_small : lead_surrogate y < 0xDC00 = omega arith in
    let trail_large : 0xDC00 ≤ trail_surrogate x = omega arith in
    grind (arith, nat_tests)

pub wrong_pair : (a b : ClassAtom) → is_pair a ≡ true → is_pair b ≡ true → IsPoint b → is_wrong_range false (trail a) (lead b) ≡ true
wrong_pair (character x) (character y) first second point = ap not (units_apart x y point)
wrong_pair (character x) (class_escape kind capital) first second point = absurd (false≢true second)
wrong_pair (character x) (property members capital) first second point = absurd (false≢true second)
wrong_pair (character x) (string_property strings) first second point = absurd (false≢true second)
wrong_pair (character x) (class_strings strings) first second point = absurd (false≢true second)
wrong_pair (character x) (nested_class invert contents) first second point = absurd (false≢true second)
wrong_pair (class_escape kind capital) b first second point = absurd (false≢true first)
wrong_pair (property members capital) b first second point = absurd (false≢true first)
wrong_pair (string_property strings) b first second point = absurd (false≢true first)
wrong_pair (class_strings strings) b first second point = absurd (false≢true first)
wrong_pair (nested_class invert contents) b first second point = absurd (false≢true first)
