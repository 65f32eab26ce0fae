-- The code units of a code point, added to a class.
use Rattle.std.proofs.Common.{◌≡◌, ℕ, ◌≤◌, Bool, true, false, ◌&&◌, ◌||◌, List, [], ◌∷◌, ◌++◌, Some, sym, ap, ap₂, subst, ◌∙◌}
use Rattle.std.proofs.lemmas.Bool.{cond-true, cond-false, le-leb}
use Rattle.regress_base.specs.Intervals.{Bounds, is_within, is_member}
use Rattle.regress_classes.specs.ClassProductions.{point, is_pair, one_point, first_unit, last_unit, units_before, units_after, units_between}
use Rattle.regress_classes.specs.ClassViews.{Adds}
use Rattle.regress_classes.proofs.ClassLemmas.{adds_one, adds_none}

-- The interval of one code point is added.
pub adds_unit : (c : ℕ) (iv : Bounds) (old new : List Bounds) → iv ≡ record { first = c; last = c } →
    ((n : ℕ) → is_member new n ≡ (is_member old n || is_within iv n)) → Adds (one_point c) old new
adds_unit c iv old new is adds = subst (λ (added : Bounds). Adds (added ∷ []) old new) is (adds_one iv old new adds)

module _ (splits : Bool) (c : ℕ) (old new : List Bounds) where
  pub adds_lead : (splits && is_pair (point c)) ≡ true → Adds (one_point (first_unit splits c)) old new → Adds (units_before splits c) old new
  adds_lead split =
      subst (λ (members : List Bounds). Adds members old new) (ap one_point (cond-true _ _ _ split) ∙ sym (cond-true _ _ _ split))

  pub adds_trail : (splits && is_pair (point c)) ≡ true → Adds (one_point (last_unit splits c)) old new → Adds (units_after splits c) old new
  adds_trail split =
      subst (λ (members : List Bounds). Adds members old new) (ap one_point (cond-true _ _ _ split) ∙ sym (cond-true _ _ _ split))

module _ (splits : Bool) (c : ℕ) (old : List Bounds) where
  -- One code unit has none before it and none after it.
  pub adds_none_before : (splits && is_pair (point c)) ≡ false → Adds (units_before splits c) old old
  adds_none_before whole = subst (λ (members : List Bounds). Adds members old old) (sym (cond-false _ _ _ whole)) (adds_none old)

  pub adds_none_after : (splits && is_pair (point c)) ≡ false → Adds (units_after splits c) old old
  adds_none_after whole = subst (λ (members : List Bounds). Adds members old old) (sym (cond-false _ _ _ whole)) (adds_none old)

-- The range from one code unit to the other, if they are in order.
pub units_in_order : (splits : Bool) (a b first last : ℕ) → first ≡ last_unit splits a → last ≡ first_unit splits b → first ≤ last →
    units_between splits a b ≡ Some (units_before splits a ++ record { first = first; last = last } ∷ units_after splits b)
units_in_order splits a b first last is_first is_last le =
    cond-true _ _ _
    (le-leb (last_unit splits a) (first_unit splits b)
    (subst (λ (x : ℕ). x ≤ first_unit splits b) is_first (subst (λ (y : ℕ). first ≤ y) is_last le)))
    ∙ ap₂ (λ (x y : ℕ). Some (units_before splits a ++ record { first = x; last = y } ∷ units_after splits b)) (sym is_first) (sym is_last)
