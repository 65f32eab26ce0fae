-- The parts of a class with the flag u and without v are those that NonemptyClassRanges of ECMA-262 derives.
use Rattle.std.proofs.Common.{◌≡◌, ℕ, zero, suc, ◌<◌, ◌==◌, inl, inr, Bool, true, false, ◌||◌, [], ◌∷◌, length, drop, Option, Some, None, if◌then◌else◌, refl, sym, ap, subst, ◌∙◌, eqb-true, arith}
use Rattle.std.proofs.lemmas.Bool.{and_parts}
use Rattle.std.proofs.lemmas.Option.{none-some, same_Some}
use Rattle.regress_base.specs.Table.{Table}
use Rattle.regress_base.specs.declared.charclasses.CharacterClassType.{CharacterClassType}
use Rattle.regress_lexer.specs.Source.{Source, Found, ◌>>=◌, first_production, char, is_at}
use Rattle.regress_lexer.specs.Digits.{is_decimal, is_letter}
use Rattle.regress_lexer.proofs.lemmas.Sources.{EachProduction, no_more, ◌also◌, first_production-has}
use Rattle.regress_lexer.proofs.lemmas.After.{after_same, after_drop, after_shorter, Ends, ends_none, ends_some, one-ends, ends_more, ends_map, ends_cond, character_escape_at-ends}
use Rattle.regress_classes.proofs.lemmas.Pieces.{property_at-ends}
use Rattle.regress_classes.specs.declared.parameters.Parameters.{Parameters}
use Rattle.regress_classes.specs.ClassProductions.{begins_range, class_letter}
use Rattle.regress_classes.specs.Properties.{property_at}
use Rattle.regress_ecma.specs.ClassGrammar.{property_node, control_at, escape_productions, class_escape_at, class_atom_at, class_part_at, class_ranges_by}
use Rattle.regress_ecma.specs.ClassNodes.{ClassAtom, character, class_escape, ClassContents, empty, atom_then, range_then, intersection, subtraction}
use Rattle.regress_ecma.specs.ClassRanges.{class_atom, IsNonemptyClassRanges, IsClassContents}
use Rattle.regress_ecma.proofs.ClassAtomNodes.{own, atom_u}
use Rattle.regress_ecma.proofs.ClassDerivations.{front_is, end_closes, to_no_dash, no_range, from_no_dash, not_closed, atom_opens}

-- ---- an atom consumes

control_at-ends : (t : Source) → Ends (control_at t) (char "c" ∷ t)
control_at-ends [] = ends_some _ (char "c" ∷ []) (after_same (char "c" ∷ []))
control_at-ends (d ∷ t) =
    ends_cond (is_letter d || is_decimal d || d == char "_") _ _ (char "c" ∷ d ∷ t)
    (ends_some _ (char "c" ∷ d ∷ t) (after_drop 2 (char "c" ∷ d ∷ t))) (ends_some _ (char "c" ∷ d ∷ t) (after_same (char "c" ∷ d ∷ t)))

module _ (table : Table) (parameters : Parameters) where
  productions-end : (c : ℕ) (t : Source) → EachProduction (λ found. Ends found (c ∷ t)) (escape_productions table parameters c t)
  productions-end c t =
      (λ _. one-ends _ c t)
      also (λ _. one-ends _ c t)
      also (λ e. subst (λ d. Ends (control_at t) (d ∷ t)) (sym (eqb-true c (char "c") (and_parts (c == char "c") _ e).0)) (control_at-ends t))
      also (λ _. ends_more _ c t (ends_map (property_node (c == char "P")) (property_at false table t) t (property_at-ends false table t)))
      also (λ _. ends_none (c ∷ t))
      also (λ _. ends_map character _ (c ∷ t) (character_escape_at-ends parameters.dialect parameters.unicode (c ∷ t)))
      also no_more

  escape-ends : (t : Source) → Ends (class_escape_at table parameters t) t
  escape-ends [] = ends_none []
  escape-ends (c ∷ t) = by (class_letter c)
    where
      by : (letter : Option (CharacterClassType × Bool)) →
          Ends (elim letter as (λ _. Found ClassAtom) [
            | None ↦ first_production (escape_productions table parameters c t)
            | Some named ↦ Some (class_escape named.0 named.1, t)
          ]) (c ∷ t)
      by (Some named) = one-ends _ c t
      by None = first_production-has (λ found. Ends found (c ∷ t)) (escape_productions table parameters c t) (ends_none (c ∷ t)) (productions-end c t)

  pub atom-ends : (c : ℕ) (t : Source) → Ends (class_atom_at table parameters (c ∷ t)) t
  atom-ends c t =
      ends_cond (c == char "]") _ _ t (ends_none t)
      (ends_cond (c == char "\\") _ _ t (escape-ends t) (ends_some (character c, t) t (after_same t)))

  pub atom-shortens : (t u : Source) (a : ClassAtom) → class_atom_at table parameters t ≡ Some (a, u) → length u < length t
  atom-shortens [] u a e = absurd (none-some (a, u) e)
  atom-shortens (c ∷ t) u a e = omega (arith, after_shorter t u ((atom-ends c t).each (a, u) e))

-- ---- what is found

-- It has a property.
pub Each : {A : Type 0} → (A × Source → Type 0) → Found A → Type 0
Each {A} P found = (x : A × Source) → found ≡ Some x → P x

pub each_none : {A : Type 0} (P : A × Source → Type 0) → Each P None
unfolding Each
each_none P x e = absurd (none-some x e)

pub each_some : {A : Type 0} (P : A × Source → Type 0) (x : A × Source) → P x → Each P (Some x)
unfolding Each
each_some P x h y e = subst P (same_Some x y e) h

pub each_if : {A : Type 0} (P : A × Source → Type 0) (b : Bool) (f g : Found A) → (b ≡ true → Each P f) → (b ≡ false → Each P g) →
    Each P (if b then f else g)
each_if P true f g h k = h refl
each_if P false f g h k = k refl

pub each_then : {A B : Type 0} (P : B × Source → Type 0) (found : Found A) (next : A × Source → Found B) →
    ((x : A × Source) → found ≡ Some x → Each P (next x)) → Each P (found >>= next)
each_then P None next h = each_none P
each_then P (Some x) next h = h x refl

pub each_at : {A : Type 0} (P : A × Source → Type 0) (found : Found A) → Each P found → (x : A × Source) → found ≡ Some x → P x
unfolding Each
each_at P found h x e = h x e

pub each_weaker : {A : Type 0} (P Q : A × Source → Type 0) (found : Found A) → ((x : A × Source) → P x → Q x) → Each P found → Each Q found
unfolding Each
each_weaker P Q found weaker h x e = weaker x (h x e)

module _ (table : Table) (icase named : Bool) where
  abbrev parameters : Parameters
  parameters = own icase true named

  abbrev parsed : Source → Found ClassAtom
  parsed t = class_atom_at table parameters t

  abbrev atom : Source → Found ClassAtom
  atom t = class_atom table true named t

  abbrev Ranges : ClassContents → (t rest : Source) → Type 0
  Ranges node t rest = IsNonemptyClassRanges table true named node t rest

  abbrev Contents : ClassContents → (t rest : Source) → Type 0
  Contents node t rest = IsClassContents table true named node t rest

  -- ---- from the parts

  abbrev IsPart : Source → (ClassContents → ClassContents) × Source → Type 0
  IsPart t x = (more : ClassContents) (rest : Source) → Contents more x.1 (char "]" ∷ rest) → Ranges (x.0 more) t (char "]" ∷ rest)

  one_then : (a : ClassAtom) (t u : Source) → parsed t ≡ Some (a, u) → begins_range u ≡ false → IsPart t (atom_then a, u)
  one_then a t u e none more rest (inl (is_empty, same)) = (u, atom_u table icase named t ∙ e, inl (is_empty, same))
  one_then a t u e none more rest (inr h) = (u, atom_u table icase named t ∙ e, inr (to_no_dash table true named more u rest none h))

  range_and : (a b : ClassAtom) (t u v : Source) → parsed t ≡ Some (a, u) → begins_range u ≡ true → parsed (drop 1 u) ≡ Some (b, v) →
      IsPart t (range_then a b, v)
  range_and a b t u v e begins f more rest h = (
    drop 1 u,
    v,
    atom_u table icase named t ∙ e ∙ ap (λ (w : Source). Some (a, w)) (front_is (char "-") u (and_parts (is_at (char "-") u) _ begins).0),
    atom_u table icase named (drop 1 u) ∙ f,
    h,
  )

  part_is : (t : Source) → Each (IsPart t) (class_part_at table parameters t)
  part_is t =
      each_then (IsPart t) (parsed t) _
      (λ x e. each_if (IsPart t) (begins_range x.1) _ _
      (λ begins. each_then (IsPart t) (parsed (drop 1 x.1)) _ (λ y f. each_some (IsPart t) (range_then x.0 y.0, y.1) (range_and x.0 y.0 t x.1 y.1 e begins f)))
      (λ none. each_some (IsPart t) (atom_then x.0, x.1) (one_then x.0 t x.1 e none)))

  abbrev AreContents : Source → ClassContents × Source → Type 0
  AreContents t x = Contents x.0 t (char "]" ∷ x.1)

  pub parts_derive : (n : ℕ) (t : Source) → Each (AreContents t) (class_ranges_by table parameters n t)
  unfolding class_ranges_by
  parts_derive zero t = each_none (AreContents t)
  parts_derive (suc n) t =
      each_if (AreContents t) (is_at (char "]") t) _ _ (λ closes. each_some (AreContents t) (empty, drop 1 t) (inl (refl, front_is (char "]") t closes)))
      (λ _. each_then (AreContents t) (class_part_at table parameters t) _
      (λ x e. each_then (AreContents t) (class_ranges_by table parameters n x.1) _
      (λ y f. each_some (AreContents t) (x.0 y.0, y.1)
      (inr (each_at (IsPart t) _ (part_is t) x e y.0 y.1 (each_at (AreContents x.1) _ (parts_derive n x.1) y f))))))

  -- ---- to the parts

  abbrev Parts : ℕ → Source → Found ClassContents
  Parts n t = class_ranges_by table parameters n t

  goes_on : (n : ℕ) (t u rest : Source) (with_part : ClassContents → ClassContents) (more : ClassContents) → is_at (char "]") t ≡ false →
      class_part_at table parameters t ≡ Some (with_part, u) → Parts n u ≡ Some (more, rest) → Parts (suc n) t ≡ Some (with_part more, rest)
  unfolding class_ranges_by
  goes_on n t u rest with_part more open_ e f = rw (class_ranges_by, open_, e, f) refl

  atom_part : (t u : Source) (a : ClassAtom) → atom t ≡ Some (a, u) → begins_range u ≡ false → class_part_at table parameters t ≡ Some (atom_then a, u)
  atom_part t u a e none = let found = sym (atom_u table icase named t) ∙ e in rw (found, none) refl

  range_part : (t u v : Source) (a b : ClassAtom) → atom t ≡ Some (a, char "-" ∷ u) → atom u ≡ Some (b, v) →
      class_part_at table parameters t ≡ Some (range_then a b, v)
  range_part t u v a b e f =
      let found = sym (atom_u table icase named t) ∙ e in
      let next = sym (atom_u table icase named u) ∙ f in
      let opens = atom_opens table true named u v b f in
      rw (found, opens, next) refl

  shorter : (w u : Source) (a : ClassAtom) → atom w ≡ Some (a, u) → length u < length w
  shorter w u a e = atom-shortens table parameters w u a (sym (atom_u table icase named w) ∙ e)

  ranges_step : (n : ℕ) (t : Source) → length t < suc n →
      ((u : Source) → length u < n → (more : ClassContents) (rest : Source) → Contents more u (char "]" ∷ rest) → Parts n u ≡ Some (more, rest)) →
      (m : ClassContents) (rest : Source) → Ranges m t (char "]" ∷ rest) → Parts (suc n) t ≡ Some (m, rest)
  ranges_step n t short others empty rest k = absurd k
  ranges_step n t short others (atom_then a more) rest (u, e, inl (is_empty, same)) =
      let less = shorter t u a e in
      goes_on n t u rest (atom_then a) more (not_closed table true named (atom_then a more) t (char "]" ∷ rest) (u, e, inl (is_empty, same)))
      (atom_part t u a e (end_closes u rest same)) (others u (omega arith) more rest (inl (is_empty, same)))
  ranges_step n t short others (atom_then a more) rest (u, e, inr k) =
      let less = shorter t u a e in
      goes_on n t u rest (atom_then a) more (not_closed table true named (atom_then a more) t (char "]" ∷ rest) (u, e, inr k))
      (atom_part t u a e (no_range table true named more u rest k)) (others u (omega arith) more rest (inr (from_no_dash table true named more u rest k)))
  ranges_step n t short others (range_then a b more) rest (u, v, e, f, k) =
      let less = shorter t (char "-" ∷ u) a e in
      let less_again = shorter u v b f in
      goes_on n t v rest (range_then a b) more (not_closed table true named (range_then a b more) t (char "]" ∷ rest) (u, v, e, f, k))
      (range_part t u v a b e f) (others v (omega arith) more rest k)
  ranges_step n t short others (intersection left right) rest k = absurd k
  ranges_step n t short others (subtraction left right) rest k = absurd k

  pub derived_parts : (n : ℕ) (t : Source) → length t < n → (node : ClassContents) (rest : Source) → Contents node t (char "]" ∷ rest) →
      Parts n t ≡ Some (node, rest)
  unfolding class_ranges_by
  derived_parts zero t short node rest h = absurd (omega arith)
  derived_parts (suc n) t short node rest (inl (is_empty, same)) =
      subst (λ (w : Source). Parts (suc n) w ≡ Some (node, rest)) (sym same)
      (subst (λ (m : ClassContents). Parts (suc n) (char "]" ∷ rest) ≡ Some (m, rest)) (sym is_empty) refl)
  derived_parts (suc n) t short node rest (inr h) =
      ranges_step n t short (λ u less more after k. derived_parts n u less more after k) node rest h
