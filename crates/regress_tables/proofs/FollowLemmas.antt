-- At the instruction that follows, the groups that it claims are unset.
use Rattle.std.proofs.Common.{◌≡◌, ℕ, Bool, true, false, List, [], ◌∷◌, length, slice_get, Option, Some, None, refl, sym, ap, ◌∙◌, subst, if◌then◌else◌}
use Rattle.std.proofs.lemmas.Option.{same_Some}
use Rattle.regress_program.specs.Program.{At, Op, unsets, end_group, look, Routine, goto, enter, ended}
use Rattle.regress_program.specs.Ranges.{changed_by, ranges_of}
use Rattle.regress_program.specs.Tidy.{followers, is_tabled}
use Rattle.regress_code.specs.Code.{code_routines, code_tidy}
use Rattle.regress_tables.specs.declared.evaluate.Input.{Input}
use Rattle.regress_tables.specs.declared.table.Table.{Table}
use Rattle.regress_tables.specs.declared.walker.Walker.{Walker}
use Rattle.regress_tables.specs.Slots.{IsClean}
use Rattle.regress_tables.specs.Walked.{OneSpan, SetInside, StepsAt, UnsetSlots, chosen, iterates}
use Rattle.regress_tables.proofs.CleanLemmas.{IsQuiet, clean-ended, clean-look, clean-quiet, clean-unsets}
use Rattle.regress_tables.proofs.WalkLemmas.{Reaches}

-- ---- the instruction that follows

pub reaches-pc : (next : ℕ) (a b : At) (goes : Bool) (to : Option ℕ) → Reaches next a b goes to → goes ≡ true → b.pc ≡ next
reaches-pc next a b goes None is on = let bad : true ≡ false = sym on ∙ is in cc
reaches-pc next a b goes (Some q) is on = ap (λ (x : At). x.pc) is.1

pub ended-pc : (id next : ℕ) (a : At) (begins : List ℕ) → (ended id next a begins).pc ≡ next
ended-pc id next a [] = refl
ended-pc id next a (k ∷ ks) = refl

pub chosen-pc : (t : Table) (greedy : Bool) (body next : ℕ) (a : At) → (chosen t greedy body next a).pc ≡ (if iterates t greedy body next a then body else next)
chosen-pc t greedy body next a = by (iterates t greedy body next a)
  where
    by : (x : Bool) → (if x then enter body a else goto next a).pc ≡ (if x then body else next)
    by true = refl
    by false = refl

-- ---- the groups that it claims

module _ (input : Input) (w v : Walker) (op : Op) (tabled : is_tabled (code_tidy input.code.now) (code_routines input.code.now) ≡ true) (at : StepsAt input op w)
    (r : Routine) (is : slice_get (code_routines input.code.now) (length input.tables.now) ≡ Some r) where
  abbrev pub IsCleanAt : (next : ℕ) → Type 0
  IsCleanAt next = IsClean (code_routines input.code.now) r next v.slots.items

  to_next : (next : ℕ) → v.pc ≡ next → IsClean (code_routines input.code.now) at.routine next v.slots.items → IsCleanAt v.pc
  to_next next pc clean =
      subst (λ q. IsClean (code_routines input.code.now) q v.pc v.slots.items) (same_Some at.routine r (sym at.is ∙ is))
      (subst (λ k. IsClean (code_routines input.code.now) at.routine k v.slots.items) (sym pc) clean)

  -- one that changes no capture
  pub follow-one : (op' : Op) (j next : ℕ) → op ≡ op' → slice_get (followers op') j ≡ Some next → IsQuiet op' → v.pc ≡ next → v.slots.items ≡ w.slots.items →
      IsCleanAt v.pc
  follow-one op' j next same follows quiet pc slots =
      to_next next pc
      (clean-quiet (code_routines input.code.now) at.routine w.pc w.slots.items v.slots.items at.clean op' j next
      (at.here ∙ ap Some same) follows quiet slots)

  -- one with two that may follow
  pub follow-either : (op' : Op) (x y : ℕ) (b : Bool) → op ≡ op' → followers op' ≡ x ∷ y ∷ [] → IsQuiet op' → v.pc ≡ (if b then x else y) →
      v.slots.items ≡ w.slots.items → IsCleanAt v.pc
  follow-either op' x y true same follows quiet pc slots =
      follow-one op' 0 x same (ap (λ ks. slice_get ks 0) follows) quiet pc slots
  follow-either op' x y false same follows quiet pc slots =
      follow-one op' 1 y same (ap (λ ks. slice_get ks 1) follows) quiet pc slots

  pub follow-unsets : (start end next : ℕ) → op ≡ unsets start end next → v.pc ≡ next → UnsetSlots start end w.slots.items v.slots.items → IsCleanAt v.pc
  follow-unsets start end next same pc set =
      to_next next pc
      (clean-unsets (code_routines input.code.now) at.routine w.pc w.slots.items v.slots.items at.clean start end next
      (at.here ∙ ap Some same) set)

  pub follow-ended : (id next : ℕ) → op ≡ end_group id next → v.pc ≡ next → OneSpan id w.slots.items v.slots.items → IsCleanAt v.pc
  follow-ended id next same pc one =
      to_next next pc
      (clean-ended (code_routines input.code.now) at.routine w.pc w.slots.items v.slots.items at.clean id next _
      (at.here ∙ ap Some same) one.set)

  pub follow-look : (negate : Bool) (j next : ℕ) → op ≡ look negate j next → v.pc ≡ next →
      SetInside (changed_by (ranges_of (code_routines input.code.now)) (look negate j next)) j w.position w.slots.items v.slots.items → IsCleanAt v.pc
  follow-look negate j next same pc set =
      to_next next pc
      (clean-look (code_routines input.code.now) at.routine w.pc w.slots.items v.slots.items at.clean negate j next _
      (at.here ∙ ap Some same) set)
