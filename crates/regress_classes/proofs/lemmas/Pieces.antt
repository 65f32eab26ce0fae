-- Properties and classes without the flag v, at the start of a source.
use Rattle.std.proofs.Common.{◌≡◌, ℕ, zero, suc, ◌+◌, ◌<◌, Bool, true, false, ◌||◌, ◌==◌, cond, List, [], ◌∷◌, ◌++◌, length, drop, Option, Some, None, refl, sym, ap, ◌∙◌, subst, add-one, arith, eqb-true}
use Rattle.std.proofs.lemmas.Option.{none-some}
use Rattle.std.proofs.lemmas.Bool.{cond-true, cond-false, and_parts}
use Rattle.regress_base.specs.declared.charclasses.CharacterClassType.{CharacterClassType}
use Rattle.regress_base.specs.Intervals.{Bounds}
use Rattle.regress_base.specs.Table.{Table}
use Rattle.regress_lexer.specs.Source.{Source, Found, ◌>>=◌, is_at, first_production}
use Rattle.regress_lexer.specs.Digits.{is_decimal, is_letter}
use Rattle.regress_classes.specs.Properties.{Property, points_of, is_property_character, closed_property, braced_property_at, property_at, property_word_at, listed_value_at}
use Rattle.regress_classes.specs.declared.parameters.Parameters.{Parameters}
use Rattle.regress_classes.specs.ClassProductions.{ClassAtom, point, set, complement_if, class_members, class_letter, class_control_at, class_property, class_property_at, class_escape_productions, class_escape_by, class_escape_at, class_atom_at, splits, range_of, range_to, range_end_at, ranges_to, range_at, begins_range, begins_next, class_part_at, class_parts_by, class_at, atom_members}
use Rattle.regress_lexer.proofs.lemmas.Sources.{then_same, cond_same, EachProduction, no_more, ◌also◌, first_production-has}
use Rattle.regress_lexer.proofs.lemmas.After.{IsSuffix, after_same, after_drop, after_front, after_shorter, Ends, ends_none, ends_some, one-ends, ends_after, ends_more, ends_then, ends_map, ends_cond, character_escape_at-ends}

-- ---- the source after a property

closed_property-ends : (found : Option Property) (t : Source) → Ends (closed_property found t) t
closed_property-ends None t = ends_none t
closed_property-ends (Some property) t = ends_cond (is_at 125 t) _ _ t (ends_some (property, drop 1 t) t (after_drop 1 t)) (ends_none t)

property_word_at-ends : (t : Source) → Ends (property_word_at t) t
property_word_at-ends t = ends_cond _ _ _ t (ends_none t) (ends_some _ t (after_front is_property_character t))

listed_value_at-ends : (table : Table) (name : List ℕ) (t : Source) → Ends (listed_value_at table name t) t
listed_value_at-ends table name t = ends_then (property_word_at t) _ t (property_word_at-ends t) (λ x. closed_property-ends _ x.1)

braced_property_at-ends : (sets : Bool) (table : Table) (t : Source) → Ends (braced_property_at sets table t) t
braced_property_at-ends sets table t =
    ends_then (property_word_at t) _ t (property_word_at-ends t)
    (λ x. ends_cond (is_at 61 x.1) _ _ x.1
    (ends_after _ x.1 (drop 1 x.1) (after_drop 1 x.1) (listed_value_at-ends table x.0 (drop 1 x.1)))
    (closed_property-ends _ x.1))

pub property_at-ends : (sets : Bool) (table : Table) (t : Source) → Ends (property_at sets table t) t
unfolding property_at
property_at-ends sets table t =
    ends_cond (is_at 123 t) _ _ t
    (ends_after _ t (drop 1 t) (after_drop 1 t) (braced_property_at-ends sets table (drop 1 t))) (ends_none t)

-- ---- the source after a class

pub class_control_at-ends : (t : Source) → Ends (class_control_at t) (99 ∷ t)
class_control_at-ends [] = ends_some _ (99 ∷ []) (after_same (99 ∷ []))
class_control_at-ends (d ∷ t) =
    ends_cond (is_letter d || is_decimal d || d == 95) _ _ (99 ∷ d ∷ t) (ends_some _ (99 ∷ d ∷ t) (after_drop 2 (99 ∷ d ∷ t)))
    (ends_some _ (99 ∷ d ∷ t) (after_same (99 ∷ d ∷ t)))

class_property-ends : (negated : Bool) (x : Property × Source) → Ends (class_property negated x) x.1
class_property-ends negated (property, t) = by (points_of property)
  where
    by : (members : Option (List Bounds)) →
        Ends (elim members as (λ _. Found ClassAtom) [ None ↦ None | Some members ↦ Some (set (complement_if negated members), t) ]) t
    by None = ends_none t
    by (Some members) = ends_some _ t (after_same t)

class_property_at-ends : (table : Table) (negated : Bool) (t : Source) → Ends (class_property_at table negated t) t
class_property_at-ends table negated t =
    ends_then (property_at false table t) (class_property negated) t (property_at-ends false table t) (class_property-ends negated)

made-ends : (made : Option (List Bounds)) (t : Source) →
    Ends (elim made as (λ _. Found (List Bounds)) [ None ↦ None | Some members ↦ Some (members, t) ]) t
made-ends None t = ends_none t
made-ends (Some members) t = ends_some (members, t) t (after_same t)

-- the parts without the `^` before them
abbrev inside : Source → Source
inside t = cond (is_at 94 t) (drop 1 t) t

inside-after : (t : Source) → IsSuffix t (inside t)
inside-after t = elim (is_at 94 t) as (λ b. IsSuffix t (cond b (drop 1 t) t)) [ true ↦ after_drop 1 t | false ↦ after_same t ]

-- the members of the parts that follow those parsed already
abbrev pub more_parts : List Bounds → Found (List Bounds) → Found (List Bounds)
more_parts members others = others >>= λ (y : List Bounds × Source). Some (members ++ y.0, y.1)

module _ (table : Table) (parameters : Parameters) where
  class_escape_productions-end : (c : ℕ) (t : Source) → EachProduction (λ found. Ends found (c ∷ t)) (class_escape_productions table parameters c t)
  class_escape_productions-end c t =
      (λ _. one-ends _ c t)
      also (λ _. one-ends _ c t)
      also (λ e. subst (λ d. Ends (class_control_at t) (d ∷ t)) (sym (eqb-true c 99 (and_parts (c == 99) _ e).0)) (class_control_at-ends t))
      also (λ _. ends_more _ c t (class_property_at-ends table _ t))
      also (λ _. ends_none (c ∷ t))
      also (λ _. ends_map point _ (c ∷ t) (character_escape_at-ends parameters.dialect parameters.unicode (c ∷ t)))
      also no_more

  class_escape_by-ends : (c : ℕ) (t : Source) → Ends (class_escape_by table parameters c t) (c ∷ t)
  class_escape_by-ends c t = by (class_letter c)
    where
      by : (letter : Option (CharacterClassType × Bool)) →
          Ends (elim letter as (λ _. Found ClassAtom) [
            | Some named ↦ Some (set (class_members table parameters named), t)
            | None ↦ first_production (class_escape_productions table parameters c t)
          ]) (c ∷ t)
      by (Some named) = one-ends _ c t
      by None = first_production-has (λ found. Ends found (c ∷ t)) (class_escape_productions table parameters c t) (ends_none (c ∷ t)) (class_escape_productions-end c t)

  pub class_escape_at-ends : (t : Source) → Ends (class_escape_at table parameters t) t
  class_escape_at-ends [] = ends_none []
  class_escape_at-ends (c ∷ t) = class_escape_by-ends c t

  -- An atom consumes at least one code point.
  class_atom_at-shortens : (t : Source) → Ends (class_atom_at table parameters t) (drop 1 t)
  class_atom_at-shortens [] = ends_none []
  class_atom_at-shortens (c ∷ t) =
      ends_cond (c == 93) _ _ t (ends_none t)
      (ends_cond (c == 92) _ _ t (class_escape_at-ends t) (ends_some (point c, t) t (after_same t)))

  pub class_atom_at-ends : (t : Source) → Ends (class_atom_at table parameters t) t
  class_atom_at-ends t = ends_after _ t (drop 1 t) (after_drop 1 t) (class_atom_at-shortens t)

  range_to-ends : (first : ClassAtom) (x : ClassAtom × Source) → Ends (range_to table parameters first x) x.1
  range_to-ends first x = made-ends (range_of (splits parameters) parameters.unicode first x.0) x.1

  range_end_at-ends : (first : ClassAtom) (t : Source) → Ends (range_end_at table parameters first t) t
  range_end_at-ends first t = ends_then (class_atom_at table parameters t) _ t (class_atom_at-ends t) (range_to-ends first)

  ranges_to-ends : (first : ClassAtom) (x : ClassAtom × Source) → Ends (ranges_to table parameters first x) x.1
  ranges_to-ends first x =
      ends_after _ x.1 (drop 1 x.1) (after_drop 1 x.1)
      (ends_then (range_to table parameters first (x.0, drop 1 x.1)) _ (drop 1 x.1) (range_to-ends first (x.0, drop 1 x.1))
      (λ y. ends_then (range_end_at table parameters x.0 y.1) _ y.1 (range_end_at-ends x.0 y.1) (λ z. ends_some _ z.1 (after_same z.1))))

  range_at-ends : (first : ClassAtom) (t : Source) → Ends (range_at table parameters first t) t
  range_at-ends first t =
      ends_then (class_atom_at table parameters t) _ t (class_atom_at-ends t)
      (λ x. ends_cond (begins_next parameters x.0 x.1) _ _ x.1 (ranges_to-ends first x) (range_to-ends first x))

  part_after-ends : (x : ClassAtom × Source) →
      Ends (cond (begins_range x.1) (range_at table parameters x.0 (drop 1 x.1)) (Some (atom_members (splits parameters) x.0, x.1))) x.1
  part_after-ends x =
      ends_cond (begins_range x.1) _ _ x.1
      (ends_after _ x.1 (drop 1 x.1) (after_drop 1 x.1) (range_at-ends x.0 (drop 1 x.1)))
      (ends_some _ x.1 (after_same x.1))

  class_part_at-after : (t : Source) → Ends (class_part_at table parameters t) (drop 1 t)
  class_part_at-after t =
      ends_then (class_atom_at table parameters t) _ (drop 1 t) (class_atom_at-shortens t) part_after-ends

  -- A part consumes at least one code point.
  pub class_part_at-shortens : (t : Source) (x : List Bounds × Source) → class_part_at table parameters t ≡ Some x → length x.1 < length t
  class_part_at-shortens [] x e = absurd (none-some x e)
  class_part_at-shortens (c ∷ t) x e = omega (arith, after_shorter t x.1 ((class_part_at-after (c ∷ t)).each x e))

  class_part_at-ends : (t : Source) → Ends (class_part_at table parameters t) t
  class_part_at-ends t = ends_after _ t (drop 1 t) (after_drop 1 t) (class_part_at-after t)

  class_parts_by-ends : (n : ℕ) (t : Source) → Ends (class_parts_by table parameters n t) t
  unfolding class_parts_by
  class_parts_by-ends zero t = ends_none t
  class_parts_by-ends (suc n) t =
      ends_cond (is_at 93 t) _ _ t (ends_some _ t (after_drop 1 t))
      (ends_then (class_part_at table parameters t) _ t (class_part_at-ends t)
      (λ x. ends_then (class_parts_by table parameters n x.1) _ x.1 (class_parts_by-ends n x.1) (λ y. ends_some _ y.1 (after_same y.1))))

  pub class_at-ends : (t : Source) → Ends (class_at table parameters t) t
  unfolding class_at
  class_at-ends t =
      ends_after _ t (inside t) (inside-after t)
      (ends_then (class_parts_by table parameters (length (inside t) + 1) (inside t)) _ (inside t)
      (class_parts_by-ends (length (inside t) + 1) (inside t)) (λ x. ends_some _ x.1 (after_same x.1)))

  -- ---- the parts, without a bound

  -- A larger bound changes nothing once it exceeds the length of the source.
  class_parts_by-same : (n m : ℕ) (t : Source) → length t < n → length t < m →
      class_parts_by table parameters n t ≡ class_parts_by table parameters m t
  unfolding class_parts_by
  class_parts_by-same zero m t h k = absurd (omega arith)
  class_parts_by-same (suc n) zero t h k = absurd (omega arith)
  class_parts_by-same (suc n) (suc m) t h k =
      cond_same (is_at 93 t) _ _ _ _ (λ closes. refl)
      (λ goes_on. then_same (class_part_at table parameters t) _ _
      (λ x found. ap (λ (others : Found (List Bounds)). others >>= λ (y : List Bounds × Source). Some (x.0 ++ y.0, y.1))
      (let shorter = class_part_at-shortens t x found in
      class_parts_by-same n m x.1 (omega arith) (omega arith))))

  pub parts_closed : (t : Source) → is_at 93 t ≡ true → class_parts_by table parameters (length t + 1) t ≡ Some ([], drop 1 t)
  unfolding class_parts_by
  parts_closed t closes = ap (λ n. class_parts_by table parameters n t) (add-one (length t)) ∙ cond-true _ _ _ closes

  pub parts_go_on : (t : Source) → is_at 93 t ≡ false →
      class_parts_by table parameters (length t + 1) t
      ≡ class_part_at table parameters t >>= λ (x : List Bounds × Source). more_parts x.0 (class_parts_by table parameters (length x.1 + 1) x.1)
  unfolding class_parts_by
  parts_go_on t goes_on =
      ap (λ n. class_parts_by table parameters n t) (add-one (length t))
      ∙ cond-false _ _ _ goes_on
      ∙ then_same (class_part_at table parameters t) _ _
      (λ x found. ap (more_parts x.0)
      (let shorter = class_part_at-shortens t x found in
      class_parts_by-same (length t) (length x.1 + 1) x.1 shorter (omega arith)))
