-- The numbers of the next match of a list, and searches that fail.
use Rattle.std.proofs.Common.{◌≡◌, ◌+◌, ◌-◌, ℕ, List, Option, arith, drop, drop-drop, inl, inr, length, length-drop, min, refl, subst, sym, take, ap, ◌∙◌}
use Rattle.std.proofs.Math.ListN.{drop_of_length-le}
use Rattle.std.proofs.lemmas.Bool.{cases_lt}
use Rattle.std.proofs.lemmas.List.{length-take, take_min}
use Rattle.regress.specs.declared.failure.SearchError.{SearchError}
use Rattle.regress.specs.declared.failure.SearchError.TheVariants.{Memory, OutOfSteps, TooMuchMemory}
use Rattle.regress_capi.specs.ListResults.{ListResult, left, list_out_of_memory, list_out_of_steps, list_too_much_memory, next_of, width}
use Rattle.regress_capi.specs.SearchResults.{status_of}
use Rattle.regress_capi.specs.declared.match_list.MatchList.{MatchList}

difference : (r n : ℕ) → (r + n) - r ≡ n
difference r n = omega arith

drop_min : (n : ℕ) (xs : List ℕ) → drop (min n (length xs)) xs ≡ drop n xs
drop_min n xs = elim (cases_lt (length xs) n) [
  | inl more ↦ drop_of_length-le xs (omega (arith, more)) ∙ sym (drop_of_length-le xs (omega (arith, more)))
  | inr within ↦ ap (λ k. drop k xs) (omega (arith, within))
]

-- how many there are
pub next-length : (l : MatchList) (n : ℕ) → n ≡ min (width l) (length l.ends.items - l.returned) → length (next_of l) ≡ n
next-length l n is = length-take (width l) (left l) ∙ ap (min (width l)) (length-drop l.returned l.ends.items) ∙ sym is

-- they are a part of the numbers, and what is left follows them
module _ (l : MatchList) (n : ℕ) (is : n ≡ min (width l) (length l.ends.items - l.returned)) where
  same : min (width l) (length (left l)) ≡ n
  same = ap (min (width l)) (length-drop l.returned l.ends.items) ∙ sym is

  pub next-taken : (items : List ℕ) → items ≡ l.ends.items → take ((l.returned + n) - l.returned) (drop l.returned items) ≡ next_of l
  next-taken items are =
      ap (λ k. take k (drop l.returned items)) (difference l.returned n) ∙ ap (λ xs. take n (drop l.returned xs)) are
      ∙ ap (λ k. take k (left l)) (sym same) ∙ take_min (width l) (left l)

  pub next-rest : drop (l.returned + n) l.ends.items ≡ drop (width l) (left l)
  next-rest = sym (drop-drop n l.returned l.ends.items) ∙ ap (λ k. drop k (left l)) (sym same) ∙ drop_min (width l) (left l)

-- a search that fails has the status of its error
pub list-fails : {Asked : Type 0} {P : List ℕ → Type 0} {expected : ℕ} {Costly Large : Type 0} {old : Option MatchList} {status : ℕ}
    (error : SearchError) → Asked → (error ≡ OutOfSteps → Costly) → (error ≡ TooMuchMemory → Large) → status ≡ status_of error →
    ListResult Asked P expected Costly Large old status old
list-fails {Asked} {P} {expected} {Costly} {Large} {old} Memory asked late large is =
    subst (λ s. ListResult Asked P expected Costly Large old s old) (sym is) (list_out_of_memory asked)
list-fails {Asked} {P} {expected} {Costly} {Large} {old} OutOfSteps asked late large is =
    subst (λ s. ListResult Asked P expected Costly Large old s old) (sym is) (list_out_of_steps asked (late refl))
list-fails {Asked} {P} {expected} {Costly} {Large} {old} TooMuchMemory asked late large is =
    subst (λ s. ListResult Asked P expected Costly Large old s old) (sym is) (list_too_much_memory asked (large refl))
