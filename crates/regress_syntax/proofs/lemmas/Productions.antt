-- Each production leaves a suffix of the source.
use Rattle.std.proofs.Common.{◌≡◌, ℕ, ◌<◌, nat_le, Bool, true, not, ◌&&◌, ◌||◌, ◌==◌, ⊎_elim, [], ◌∷◌, length, drop, Option, Some, None, is_some, refl, sym, ap, subst, arith, eqb-true}
use Rattle.std.proofs.lemmas.Bool.{or_cases, and_parts}
use Rattle.std.proofs.lemmas.Option.{none-some, same_Some, cond_some}
use Rattle.regress_base.specs.declared.charclasses.CharacterClassType.{CharacterClassType}
use Rattle.regress_base.specs.declared.types.Quantifier.{Quantifier}
use Rattle.regress_base.specs.Table.{Table}
use Rattle.regress_lexer.specs.Source.{Source, Found, opening, closing, colon, question_mark, bar, is_at, ends_alternative, first_production}
use Rattle.regress_syntax.specs.Syntax.{Atom, class_escape}
use Rattle.regress_lexer.specs.Digits.{is_decimal, number, front}
use Rattle.regress_lexer.specs.Escapes.{begins_with_letter}
use Rattle.regress_syntax.specs.Names.{group_name_at}
use Rattle.regress_lexer.specs.Quantifiers.{quantifier_at, is_ordered}
use Rattle.regress_classes.specs.Properties.{Property, of_points, of_strings, property_at}
use Rattle.regress_classes.specs.ClassProductions.{class_letter, class_at}
use Rattle.regress_classes.specs.ClassSets.{class_set_at}
use Rattle.regress_syntax.specs.Productions.{class_parameters, class_flags, Context, Head, single, angle_at, after_question_mark_at, group_at, has_name, is_lone_backslash, character_at, property_atom, property_atom_at, number_reference_at, name_reference_at, escape_productions, escaped_by, escaped_at, brace_by, brackets_at, atom_productions, atom_by, head_by, head_at, no_quantifier_at, this_quantifier, optional_quantifier_at}
use Rattle.regress_lexer.proofs.lemmas.After.{after_same, after_drop, after_front, after_shorter, Ends, ends_none, ends_some, one-ends, ends_after, ends_more, ends_then, ends_map, ends_cond, character_escape_at-ends, quantifier_at-ends}
use Rattle.regress_syntax.proofs.lemmas.NameEnds.{group_name_at-ends, modifiers_at-ends}
use Rattle.regress_classes.proofs.lemmas.Pieces.{property_at-ends, class_at-ends}
use Rattle.regress_classes.proofs.lemmas.ClassSets.{class_set_at-ends}
use Rattle.regress_lexer.proofs.lemmas.Sources.{Shortens, chosen, EachProduction, no_more, ◌also◌, first_production-has}

-- What is found leaves the source from its first code point on, or from its second.
this-ends : {A : Type 0} (x : A) (t : Source) → Ends (Some (x, t)) t
this-ends x t = ends_some (x, t) t (after_same t)

module _ (table : Table) where
  angle_at-ends : (t : Source) → Ends (angle_at table t) t
  angle_at-ends t =
      ends_cond (is_at 61 (drop 1 t)) _ _ t (ends_some _ t (after_drop 2 t))
      (ends_cond (is_at 33 (drop 1 t)) _ _ t (ends_some _ t (after_drop 2 t)) (ends_map _ _ t (group_name_at-ends table t)))

  after_question_mark_at-ends : (t : Source) → Ends (after_question_mark_at table t) t
  after_question_mark_at-ends t =
      ends_cond (is_at colon t) _ _ t (ends_some _ t (after_drop 1 t))
      (ends_cond (is_at 61 t) _ _ t (ends_some _ t (after_drop 1 t))
      (ends_cond (is_at 33 t) _ _ t (ends_some _ t (after_drop 1 t))
      (ends_cond (is_at 60 t) _ _ t (angle_at-ends t) (ends_map _ _ t (modifiers_at-ends t)))))

  group_at-ends : (t : Source) → Ends (group_at table t) t
  group_at-ends t =
      ends_cond (is_at question_mark t) _ _ t (ends_after _ t (drop 1 t) (after_drop 1 t) (after_question_mark_at-ends (drop 1 t))) (this-ends _ t)

module _ (ctx : Context) where
  character_at-ends : (c : ℕ) (t : Source) → Ends (character_at ctx c t) (c ∷ t)
  character_at-ends c t = ends_map _ _ (c ∷ t) (character_escape_at-ends ctx.dialect ctx.setting.flags.unicode (c ∷ t))

  property_atom-ends : (negated : Bool) (x : Property × Source) → Ends (property_atom ctx negated x) x.1
  property_atom-ends negated (of_points members, t) = this-ends _ t
  property_atom-ends negated (of_strings written, t) = ends_cond negated _ _ t (ends_none t) (this-ends _ t)

  property_atom_at-ends : (negated : Bool) (t : Source) → Ends (property_atom_at ctx negated t) t
  property_atom_at-ends negated t =
      ends_then (property_at ctx.setting.flags.unicode_sets ctx.setting.table t) (property_atom ctx negated) t
      (property_at-ends ctx.setting.flags.unicode_sets ctx.setting.table t) (property_atom-ends negated)

  number_reference_at-ends : (c : ℕ) (t : Source) → Ends (number_reference_at ctx c t) (c ∷ t)
  number_reference_at-ends c t =
      ends_cond (nat_le (number 10 (front is_decimal (c ∷ t))) ctx.groups) _ _ (c ∷ t)
      (ends_some _ (c ∷ t) (after_front is_decimal (c ∷ t)))
      (ends_cond ctx.setting.flags.unicode _ _ (c ∷ t) (ends_none (c ∷ t)) (character_at-ends c t))

  name_reference_at-ends : (t : Source) → Ends (name_reference_at ctx t) t
  name_reference_at-ends t =
      ends_then (group_name_at ctx.setting.table t) _ t (group_name_at-ends ctx.setting.table t)
      (λ x. ends_cond (has_name x.0 ctx.names) _ _ x.1 (this-ends _ x.1) (ends_none x.1))

  -- A literal backslash leaves the `c`.
  backslash-ends : (c : ℕ) (t : Source) (x : Atom) → is_lone_backslash ctx.setting.flags.unicode c t ≡ true → Ends (Some (x, 99 ∷ t)) (c ∷ t)
  backslash-ends c t x e =
      let unicode = ctx.setting.flags.unicode in
      let front = (and_parts (c == 99 && not unicode) (not (begins_with_letter t)) e).0 in
      subst (λ d. Ends (Some (x, 99 ∷ t)) (d ∷ t)) (sym (eqb-true c 99 (and_parts (c == 99) (not unicode) front).0)) (this-ends x (99 ∷ t))

  escape_productions-end : (c : ℕ) (t : Source) → EachProduction (λ found. Ends found (c ∷ t)) (escape_productions ctx c t)
  escape_productions-end c t =
      (λ _. one-ends _ c t)
      also (λ _. one-ends _ c t)
      also backslash-ends c t _
      also (λ _. ends_more _ c t (property_atom_at-ends _ t))
      also (λ _. number_reference_at-ends c t)
      also (λ _. ends_more _ c t (name_reference_at-ends t))
      also (λ _. character_at-ends c t)
      also no_more

  escaped_by-ends : (c : ℕ) (t : Source) → Ends (escaped_by ctx c t) (c ∷ t)
  escaped_by-ends c t = by (class_letter c)
    where
      by : (letter : Option (CharacterClassType × Bool)) →
          Ends (elim letter as (λ _. Found Atom) [
            | Some named ↦ Some (class_escape (class_flags ctx) named.0 named.1, t)
            | None ↦ first_production (escape_productions ctx c t)
          ]) (c ∷ t)
      by (Some named) = one-ends _ c t
      by None = first_production-has (λ found. Ends found (c ∷ t)) (escape_productions ctx c t) (ends_none (c ∷ t)) (escape_productions-end c t)

  escaped_at-ends : (t : Source) → Ends (escaped_at ctx t) t
  escaped_at-ends [] = ends_none []
  escaped_at-ends (c ∷ t) = escaped_by-ends c t

  brace_by-ends : (c : ℕ) (t : Source) → Ends (brace_by ctx c t) t
  brace_by-ends c t =
      ends_cond (ctx.setting.flags.unicode || is_some (quantifier_at (c ∷ t))) _ _ t (ends_none t) (this-ends _ t)

  brackets_at-ends : (t : Source) → Ends (brackets_at ctx t) t
  brackets_at-ends t =
      ends_cond ctx.setting.flags.unicode_sets _ _ t
      (ends_map _ (class_set_at ctx.setting.table (class_parameters ctx) t) t
      (class_set_at-ends ctx.setting.table (class_parameters ctx) t))
      (ends_map _ (class_at ctx.setting.table (class_parameters ctx) t) t
      (class_at-ends ctx.setting.table (class_parameters ctx) t))

  atom_productions-end : (c : ℕ) (t : Source) → EachProduction (λ found. Ends found t) (atom_productions ctx c t)
  atom_productions-end c t =
      (λ _. this-ends _ t)
      also (λ _. this-ends _ t)
      also (λ _. this-ends _ t)
      also (λ _. escaped_at-ends t)
      also (λ _. brackets_at-ends t)
      also (λ _. brace_by-ends c t)
      also (λ _. this-ends _ t)
      also no_more

  atom_by-ends : (c : ℕ) (t : Source) → Ends (atom_by ctx c t) t
  atom_by-ends c t = first_production-has (λ found. Ends found t) (atom_productions ctx c t) (ends_none t) (atom_productions-end c t)

  head_by-ends : (c : ℕ) (t : Source) → Ends (head_by ctx c t) t
  head_by-ends c t = ends_cond (c == opening) _ _ t (group_at-ends ctx.setting.table t) (ends_map single _ t (atom_by-ends c t))

  pub head_at-ends : (t : Source) → Ends (head_at ctx t) t
  unfolding head_at
  head_at-ends [] = ends_none []
  head_at-ends (c ∷ t) = ends_more _ c t (head_by-ends c t)

  -- The start of an item takes at least one code point.
  pub head_at-shortens : (t : Source) (y : Head × Source) → head_at ctx t ≡ Some y → length y.1 < length t
  unfolding head_at
  head_at-shortens [] y e = absurd (none-some y e)
  head_at-shortens (c ∷ t) y e = omega (arith, after_shorter t y.1 ((head_by-ends c t).each y e))

  no_quantifier_at-ends : (t : Source) → Ends (no_quantifier_at ctx t) t
  no_quantifier_at-ends t = ends_cond (ctx.setting.flags.unicode && is_at 123 t) _ _ t (ends_none t) (this-ends None t)

  pub optional_quantifier_at-ends : (allowed : Bool) (t : Source) → Ends (optional_quantifier_at ctx allowed t) t
  unfolding optional_quantifier_at
  optional_quantifier_at-ends allowed t = by (quantifier_at t) (quantifier_at-ends t)
    where
      by : (found : Found Quantifier) → Ends found t →
          Ends (elim found as (λ _. Found (Option Quantifier)) [
            | None ↦ no_quantifier_at ctx t
            | Some x ↦ this_quantifier ctx allowed x
          ]) t
      by None h = no_quantifier_at-ends t
      by (Some x) h = ends_cond (allowed && is_ordered x.0) _ _ t (ends_some _ t (h.each x refl)) (ends_none t)

  pub optional_quantifier_at-shortens : (allowed : Bool) → Shortens (optional_quantifier_at ctx allowed)
  optional_quantifier_at-shortens allowed t y e = after_shorter t y.1 ((optional_quantifier_at-ends allowed t).each y e)

  -- A quantifier that is parsed is allowed, and its minimum is at most its maximum.
  pub optional_quantifier_at-ordered : (allowed : Bool) (t : Source) (q : Quantifier) (rest : Source) → optional_quantifier_at ctx allowed t ≡ Some (Some q, rest) →
      (allowed ≡ true) × (is_ordered q ≡ true)
  unfolding optional_quantifier_at
  optional_quantifier_at-ordered allowed t q rest e = by (quantifier_at t) e
    where
      by : (found : Found Quantifier) →
          elim found as (λ _. Found (Option Quantifier)) [
            | None ↦ no_quantifier_at ctx t
            | Some x ↦ this_quantifier ctx allowed x
          ] ≡ Some (Some q, rest) → (allowed ≡ true) × (is_ordered q ≡ true)
      by None h =
          ⊎_elim (λ (brace : _ × (None ≡ Some (Some q, rest))). absurd (none-some (Some q, rest) brace.1))
          (λ (none : _ × (Some (None, t) ≡ Some (Some q, rest))).
          absurd (none-some q (ap (λ (z : Option Quantifier × Source). z.0) (same_Some (None, t) (Some q, rest) none.1))))
          (chosen (ctx.setting.flags.unicode && is_at 123 t) _ _ _ h)
      by (Some x) h =
          let found = cond_some (allowed && is_ordered x.0) (Some x.0, x.1) (Some q, rest) h in
          let both = and_parts allowed (is_ordered x.0) found.0 in
          (both.0, subst (λ r. is_ordered r ≡ true) (same_Some x.0 q (ap (λ (z : Option Quantifier × Source). z.0) found.1)) both.1)

  -- No item begins where an alternative ends.
  pub no_head_at_end : (t : Source) → ends_alternative t ≡ true → head_at ctx t ≡ None
  unfolding head_at
  no_head_at_end [] e = refl
  no_head_at_end (c ∷ t) e =
      ⊎_elim
      (λ (h : c == closing ≡ true). subst (λ d. head_by ctx d t ≡ None) (sym (eqb-true c closing h)) refl)
      (λ (h : c == bar ≡ true). subst (λ d. head_by ctx d t ≡ None) (sym (eqb-true c bar h)) refl)
      (or_cases (c == closing) (c == bar) e)
