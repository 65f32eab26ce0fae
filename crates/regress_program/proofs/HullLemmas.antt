-- The least range with the ids of both: the order does not matter, nor whether one is added twice.
use Rattle.std.proofs.Common.{◌≡◌, ℕ, Bool, true, false, min, max, if◌then◌else◌, refl, sym, ap, ap₂, ◌∙◌, arith}
use Rattle.regress_program.specs.declared.ranges.GroupRange.{GroupRange}
use Rattle.regress_program.specs.Ranges.{is_empty, hull}

abbrev hull_of : Bool → Bool → GroupRange → GroupRange → GroupRange
hull_of x y a b = if x then b else if y then a else record { start = min a.start b.start; end = max a.end b.end }

hull-same : (a b : GroupRange) (x y : Bool) → is_empty a ≡ x → is_empty b ≡ y → hull a b ≡ hull_of x y a b
hull-same a b x y e e' = ap₂ (λ (x y : Bool). hull_of x y a b) e e'

both-empty : (a b : GroupRange) → is_empty a ≡ false → is_empty b ≡ false → is_empty (record { start = min a.start b.start; end = max a.end b.end }) ≡ false
both-empty a b e e' = grind (arith, e, e')

pub hull-twice : (a v : GroupRange) → hull a (hull a v) ≡ hull a v
hull-twice a v = by (is_empty a) (is_empty v) refl refl
  where
    by : (x y : Bool) → is_empty a ≡ x → is_empty v ≡ y → hull a (hull a v) ≡ hull a v
    by true y e e' = hull-same a (hull a v) true (is_empty (hull a v)) e refl
    by false true e e' =
        ap (hull a) (hull-same a v false true e e') ∙ hull-same a a false false e e ∙ same ∙ sym (hull-same a v false true e e')
      where
        same : hull_of false false a a ≡ a
        same = ap₂ (λ (s t : ℕ). record { start = s; end = t }) (omega arith) (omega arith)
    by false false e e' =
        ap (hull a) (hull-same a v false false e e') ∙ hull-same a (hull_of false false a v) false false e (both-empty a v e e') ∙ same
        ∙ sym (hull-same a v false false e e')
      where
        same : hull_of false false a (hull_of false false a v) ≡ hull_of false false a v
        same = ap₂ (λ (s t : ℕ). record { start = s; end = t }) (omega arith) (omega arith)

pub hull-swap : (a b v : GroupRange) → hull a (hull b v) ≡ hull b (hull a v)
hull-swap a b v = by (is_empty a) (is_empty b) (is_empty v) refl refl refl
  where
    by : (x y z : Bool) → is_empty a ≡ x → is_empty b ≡ y → is_empty v ≡ z → hull a (hull b v) ≡ hull b (hull a v)
    by true y z e e' e'' =
        hull-same a (hull b v) true (is_empty (hull b v)) e refl ∙ ap (hull b) (sym (hull-same a v true z e e''))
    by false true z e e' e'' =
        ap (hull a) (hull-same b v true z e' e'') ∙ sym (hull-same b (hull a v) true (is_empty (hull a v)) e' refl)
    by false false true e e' e'' =
        ap (hull a) (hull-same b v false true e' e'') ∙ hull-same a b false false e e' ∙ same ∙ sym (hull-same b a false false e' e)
        ∙ ap (hull b) (sym (hull-same a v false true e e''))
      where
        same : hull_of false false a b ≡ hull_of false false b a
        same = ap₂ (λ (s t : ℕ). record { start = s; end = t }) (omega arith) (omega arith)
    by false false false e e' e'' =
        ap (hull a) (hull-same b v false false e' e'') ∙ hull-same a (hull_of false false b v) false false e (both-empty b v e' e'') ∙ same
        ∙ sym (hull-same b (hull_of false false a v) false false e' (both-empty a v e e'')) ∙ ap (hull b) (sym (hull-same a v false false e e''))
      where
        same : hull_of false false a (hull_of false false b v) ≡ hull_of false false b (hull_of false false a v)
        same = ap₂ (λ (s t : ℕ). record { start = s; end = t }) (omega arith) (omega arith)
