-- The scan passes over properties, and over classes without the flag v.
use Rattle.std.proofs.Common.{◌≡◌, ℕ, zero, suc, ◌+◌, Bool, true, false, cond, ◌&&◌, ◌||◌, ◌==◌, List, [], ◌∷◌, length, drop, Option, Some, None, refl, sym, subst, arith, eqb-true}
use Rattle.std.proofs.lemmas.Bool.{false≢true}
use Rattle.std.proofs.lemmas.Bool.Decides.{nat_tests}
use Rattle.regress_base.specs.Intervals.{Bounds}
use Rattle.regress_base.specs.declared.charclasses.CharacterClassType.{CharacterClassType}
use Rattle.regress_base.specs.Table.{Table}
use Rattle.regress_lexer.specs.Source.{Source, Found, is_at, first_production}
use Rattle.regress_lexer.specs.Digits.{is_decimal, is_letter, control, after, front}
use Rattle.regress_lexer.specs.Escapes.{character_escape_at}
use Rattle.regress_classes.specs.Properties.{Property, points_of, is_property_character, closed_property, property_at, property_word_at}
use Rattle.regress_classes.specs.declared.parameters.Parameters.{Parameters}
use Rattle.regress_classes.specs.ClassProductions.{ClassAtom, point, set, complement_if, class_letter, class_members, class_control_at, class_property_at, class_escape_productions, class_escape_by, class_escape_at, class_atom_at, is_pair, splits, atom_members, begins_range, begins_next, range_of, range_to, range_end_at, ranges_to, range_at, class_part_at, class_parts_by, class_at}
use Rattle.regress_syntax.specs.Scan.{plain, class, class_escape, tokens, is_insignificant}
use Rattle.regress_lexer.proofs.lemmas.Digits.{and_both}
use Rattle.regress_syntax.proofs.ScanLemmas.{Passes, Leads, Home, in_class, home, passes_same, passes_then, leads_none, leads_some, leads_after, leads_then, leads_map, leads_cond, pass_quiet, pass_at, pass_backslash, pass_escaped, pass_after, lead_character_escape_at}
use Rattle.regress_lexer.proofs.lemmas.Sources.{EachProduction, no_more, ◌also◌, first_production-has}

-- The scan passes over a class, whether its members are valid or not.
lead_made : {A : Type 0} {sets : Bool} {table : Table} (w : Home) (f : List Bounds → A) (made : Option (List Bounds)) (t : Source) →
    Leads sets table (home w) t (home w) (elim made as (λ _. Found A) [ None ↦ None | Some members ↦ Some (f members, t) ])
lead_made w f None t = leads_none
lead_made w f (Some members) t = leads_some (f members, t) passes_same

-- ---- properties

quiet_property : (c : ℕ) → is_property_character c ≡ true → is_insignificant c ≡ true
quiet_property c e = grind (arith, nat_tests)

module _ {sets : Bool} {table : Table} (w : Home) where
  lead_closed_property : (property : Option Property) (t : Source) → Leads sets table (home w) t (home w) (closed_property property t)
  lead_closed_property None t = leads_none
  lead_closed_property (Some property) t =
      leads_cond (is_at 125 t) _ _ (λ e. leads_some (property, drop 1 t) (pass_at w 125 t refl e)) (λ _. leads_none)

  lead_property_word_at : (t : Source) → Leads sets table (home w) t (home w) (property_word_at t)
  lead_property_word_at t =
      leads_cond (length (front is_property_character t) == 0) _ _ (λ _. leads_none)
      (λ _. leads_some (_, after is_property_character t) (pass_after w is_property_character quiet_property t))

  pub lead_property_at : (of_sets : Bool) (from : Table) (t : Source) → Leads sets table (home w) t (home w) (property_at of_sets from t)
  unfolding property_at
  lead_property_at of_sets from t =
      leads_cond (is_at 123 t) _ _
      (λ e. leads_after (pass_at w 123 t refl e)
      (leads_then (property_word_at (drop 1 t)) _ (lead_property_word_at (drop 1 t))
      (λ x. leads_cond (is_at 61 x.1) _ _
      (λ equals. leads_after (pass_at w 61 x.1 refl equals)
      (leads_then (property_word_at (drop 1 x.1)) _ (lead_property_word_at (drop 1 x.1)) (λ y. lead_closed_property _ y.1)))
      (λ _. lead_closed_property _ x.1))))
      (λ _. leads_none)

-- ---- classes

module _ {table : Table} where
  -- A literal backslash leaves the `c` in the source.
  lead_class_control_at : (t : Source) → Leads false table (class_escape 0 0) (99 ∷ t) (class 0 0) (class_control_at t)
  unfolding tokens
  lead_class_control_at [] = leads_some (point 92, 99 ∷ []) (record { same = refl })
  lead_class_control_at (d ∷ t) =
      leads_cond (is_letter d || is_decimal d || d == 95) _ _
      (λ e. leads_some (point (control d), t)
      (passes_then (pass_escaped (in_class 0 0) 99 (d ∷ t))
      (pass_quiet (in_class 0 0) d t (grind (arith, nat_tests)))))
      (λ _. leads_some (point 92, 99 ∷ d ∷ t) (record { same = refl }))

  lead_class_property_at : (negated : Bool) (c : ℕ) (t : Source) →
      Leads false table (class_escape 0 0) (c ∷ t) (class 0 0) (class_property_at table negated t)
  lead_class_property_at negated c t =
      leads_after (pass_escaped (in_class 0 0) c t)
      (leads_then (property_at false table t) _ (lead_property_at (in_class 0 0) false table t)
      (λ x. lead_made (in_class 0 0) (λ members. set (complement_if negated members)) (points_of x.0) x.1))

  class_escape_productions_lead : (parameters : Parameters) (c : ℕ) (t : Source) →
      EachProduction (Leads false table (class_escape 0 0) (c ∷ t) (class 0 0)) (class_escape_productions table parameters c t)
  class_escape_productions_lead parameters c t =
      (λ _. leads_some (point 8, t) (pass_escaped (in_class 0 0) c t))
      also (λ _. leads_some (point 45, t) (pass_escaped (in_class 0 0) c t))
      also (λ e. subst (λ k. Leads false table (class_escape 0 0) (k ∷ t) (class 0 0) (class_control_at t)) (sym (eqb-true c 99 (and_both _ _ e).0))
      (lead_class_control_at t))
      also (λ _. lead_class_property_at _ c t)
      also (λ _. leads_none)
      also (λ _. leads_map point (character_escape_at parameters.dialect parameters.unicode (c ∷ t))
      (lead_character_escape_at (in_class 0 0) parameters.dialect parameters.unicode (c ∷ t)))
      also no_more

  lead_class_escape_by : (parameters : Parameters) (c : ℕ) (t : Source) →
      Leads false table (class_escape 0 0) (c ∷ t) (class 0 0) (class_escape_by table parameters c t)
  lead_class_escape_by parameters c t = by (class_letter c)
    where
      by : (letter : Option (CharacterClassType × Bool)) →
          Leads false table (class_escape 0 0) (c ∷ t) (class 0 0)
          (elim letter as (λ _. Found ClassAtom) [
            | Some named ↦ Some (set (class_members table parameters named), t)
            | None ↦ first_production (class_escape_productions table parameters c t)
          ])
      by (Some named) = leads_some (set (class_members table parameters named), t) (pass_escaped (in_class 0 0) c t)
      by None = first_production-has (Leads false table (class_escape 0 0) (c ∷ t) (class 0 0)) (class_escape_productions table parameters c t) leads_none
          (class_escape_productions_lead parameters c t)

  lead_class_escape_at : (parameters : Parameters) (t : Source) → Leads false table (class_escape 0 0) t (class 0 0) (class_escape_at table parameters t)
  lead_class_escape_at parameters [] = leads_none
  lead_class_escape_at parameters (c ∷ t) = lead_class_escape_by parameters c t

  -- Here a `[` opens no class.
  pass_member : (c : ℕ) (t : Source) → (c == 93) ≡ false → (c == 92) ≡ false → Passes false table (class 0 0) (c ∷ t) (class 0 0) t
  unfolding tokens
  pass_member c t goes_on e = record { same = rw (e, goes_on) (by (c == 91)) }
    where
      by : (bracket : Bool) →
          tokens false table (cond (bracket && false) (class 1 1) (class 0 0)) t ≡ tokens false table (class 0 0) t
      by true = refl
      by false = refl

  lead_class_atom_at : (parameters : Parameters) (t : Source) → Leads false table (class 0 0) t (class 0 0) (class_atom_at table parameters t)
  lead_class_atom_at parameters [] = leads_none
  lead_class_atom_at parameters (c ∷ t) =
      leads_cond (c == 93) _ _ (λ _. leads_none)
      (λ goes_on. leads_cond (c == 92) _ _
      (λ e. subst (λ k. Leads false table (class 0 0) (k ∷ t) (class 0 0) (class_escape_at table parameters t)) (sym (eqb-true c 92 e))
      (leads_after (pass_backslash (in_class 0 0) t) (lead_class_escape_at parameters t)))
      (λ e. leads_some (point c, t) (pass_member c t goes_on e)))

  lead_range_to : (parameters : Parameters) (first : ClassAtom) (x : ClassAtom × Source) →
      Leads false table (class 0 0) x.1 (class 0 0) (range_to table parameters first x)
  lead_range_to parameters first x = lead_made (in_class 0 0) (λ members. members) (range_of (splits parameters) parameters.unicode first x.0) x.1

  -- A hyphen that begins a range is passed.
  pass_hyphen : (t : Source) → begins_range t ≡ true → Passes false table (class 0 0) t (class 0 0) (drop 1 t)
  pass_hyphen t e = pass_at (in_class 0 0) 45 t refl (and_both _ _ e).0

  lead_range_end_at : (parameters : Parameters) (first : ClassAtom) (t : Source) →
      Leads false table (class 0 0) t (class 0 0) (range_end_at table parameters first t)
  lead_range_end_at parameters first t = leads_then (class_atom_at table parameters t) _ (lead_class_atom_at parameters t) (lead_range_to parameters first)

  lead_ranges_to : (parameters : Parameters) (first : ClassAtom) (x : ClassAtom × Source) → begins_range x.1 ≡ true →
      Leads false table (class 0 0) x.1 (class 0 0) (ranges_to table parameters first x)
  lead_ranges_to parameters first x e =
      leads_after (pass_hyphen x.1 e)
      (leads_then (range_to table parameters first (x.0, drop 1 x.1)) _ (lead_range_to parameters first (x.0, drop 1 x.1))
      (λ y. leads_then (range_end_at table parameters x.0 y.1) _ (lead_range_end_at parameters x.0 y.1) (λ z. leads_some (_, z.1) passes_same)))

  lead_range_at : (parameters : Parameters) (first : ClassAtom) (t : Source) → Leads false table (class 0 0) t (class 0 0) (range_at table parameters first t)
  lead_range_at parameters first t =
      leads_then (class_atom_at table parameters t) _ (lead_class_atom_at parameters t)
      (λ x. leads_cond (begins_next parameters x.0 x.1) _ _
      (λ e. lead_ranges_to parameters first x (and_both (splits parameters && is_pair x.0) _ e).1)
      (λ _. lead_range_to parameters first x))

  lead_class_part_at : (parameters : Parameters) (t : Source) → Leads false table (class 0 0) t (class 0 0) (class_part_at table parameters t)
  lead_class_part_at parameters t =
      leads_then (class_atom_at table parameters t) _ (lead_class_atom_at parameters t)
      (λ x. leads_cond (begins_range x.1) _ _
      (λ e. leads_after (pass_hyphen x.1 e) (lead_range_at parameters x.0 (drop 1 x.1)))
      (λ _. leads_some (atom_members (splits parameters) x.0, x.1) passes_same))

  pass_bracket : (t : Source) → is_at 93 t ≡ true → Passes false table (class 0 0) t plain (drop 1 t)
  unfolding tokens
  pass_bracket [] e = absurd (false≢true e)
  pass_bracket (c ∷ t) e = subst (λ k. Passes false table (class 0 0) (k ∷ t) plain t) (sym (eqb-true c 93 e)) (record { same = refl })

  lead_class_parts_by : (n : ℕ) (parameters : Parameters) (t : Source) → Leads false table (class 0 0) t plain (class_parts_by table parameters n t)
  unfolding class_parts_by
  lead_class_parts_by zero parameters t = leads_none
  lead_class_parts_by (suc n) parameters t =
      leads_cond (is_at 93 t) _ _ (λ e. leads_some ([], drop 1 t) (pass_bracket t e))
      (λ _. leads_then (class_part_at table parameters t) _ (lead_class_part_at parameters t)
      (λ x. leads_then (class_parts_by table parameters n x.1) _ (lead_class_parts_by n parameters x.1)
      (λ y. leads_some (_, y.1) passes_same)))

-- An optional `^` at the start of a class is passed.
pub pass_caret : {sets : Bool} {table : Table} (w : Home) (t : Source) → Passes sets table (home w) t (home w) (cond (is_at 94 t) (drop 1 t) t)
pass_caret {sets} {table} w t = by (is_at 94 t) refl
  where
    by : (q : Bool) → is_at 94 t ≡ q → Passes sets table (home w) t (home w) (cond q (drop 1 t) t)
    by true e = pass_at w 94 t refl e
    by false e = passes_same

pub lead_class_at : {table : Table} (parameters : Parameters) (t : Source) → Leads false table (class 0 0) t plain (class_at table parameters t)
unfolding class_at
lead_class_at {table} parameters t =
    leads_after (pass_caret (in_class 0 0) t)
    (leads_then (class_parts_by table parameters (length (cond (is_at 94 t) (drop 1 t) t) + 1) (cond (is_at 94 t) (drop 1 t) t)) _
    (lead_class_parts_by (length (cond (is_at 94 t) (drop 1 t) t) + 1) parameters (cond (is_at 94 t) (drop 1 t) t))
    (λ x. leads_some (_, x.1) passes_same))
