-- All instructions, copies included: the first ones, and those of a record that is added.
use Rattle.regress_program.specs.declared.instruction.Instruction.TheVariants as insts
use Rattle.std.proofs.Common.{◌≡◌, ℕ, zero, suc, ◌≤◌, ◌<◌, ◌⊎◌, inl, inr, get_or, List, length, take, slice_get, Some, refl, sym, ap, ◌∙◌, arith}
use Rattle.regress_program.specs.Copies.{expand, expanded, AreCopies}
use Rattle.regress_program.specs.declared.copies.Copies.{Copies}
use Rattle.std.proofs.lemmas.Bool.{cases_lt}
use Rattle.std.proofs.lemmas.List.{length-take}
use Rattle.std.proofs.lemmas.Option.{slice_get_within, slice_get-get_or, same_Some}
use Rattle.regress_program.specs.Listed.{Begins}
use Rattle.regress_program.specs.declared.instruction.Instruction.{Instruction}
use Rattle.regress_program.proofs.ElementLemmas.{get-take}
use Rattle.regress_program.proofs.ExpandedLemmas.{some-record, expand-before}

-- ---- the first instructions

module _ (stored : List Instruction) (copies : List Copies) (are : AreCopies stored copies) (r : Copies) (is : slice_get copies 0 ≡ Some r) where
  first-stored : (j : ℕ) (s : Copies) → slice_get copies j ≡ Some s → r.stored ≤ s.stored
  first-stored zero s found = let same : r ≡ s = same_Some r s (sym is ∙ found) in omega (arith, ap (λ q. q.stored) same)
  first-stored (suc j) s found =
      let before = some-record stored copies are j (omega (arith, slice_get_within copies (suc j) s found)) in
      omega (arith, first-stored j before.0 before.1, (are (suc j) s found).before j before.0 refl before.1)

  first-get : (j k pc : ℕ) → j ≤ length copies → r.stored ≤ k → pc < r.stored → slice_get (expand stored copies j k) pc ≡ slice_get stored pc
  first-get zero k pc le few lt = get-take k stored pc (omega (arith, few, lt))
  first-get (suc j) k pc le few lt =
      let found = some-record stored copies are j (omega (arith, le)) in
      let s = found.0 in
      let the = are j s found.1 in
      let rest = first-get j s.stored pc (omega (arith, le)) (first-stored j s found.1) lt in
      let inside : pc < length stored = omega (arith, lt, (are 0 r is).within) in
      let there = slice_get-get_or stored pc d inside in
      expand-before stored copies are j s found.1 k pc (omega (arith, the.start, slice_get_within (expand stored copies j s.stored) pc (get_or stored pc d) (rest ∙ there)))
      ∙ rest
    where
      d : Instruction
      d = insts.Accept

  -- Those before the first copies are stored one by one.
  pub first-begins : Begins (take r.stored stored) (expanded stored copies)
  first-begins =
      let within : r.stored ≤ length stored = (are 0 r is).within in
      let len : length (take r.stored stored) ≡ r.stored = omega (arith, length-take r.stored stored, within) in
      record {
        within = long (cases_lt (length (expanded stored copies)) r.stored);
        same = λ pc lt.
            first-get (length copies) (length stored) pc (omega arith) within (omega (arith, lt, len)) ∙ sym (get-take r.stored stored pc (omega (arith, lt, len)));
      }
    where
      long : (length (expanded stored copies) < r.stored) ⊎ (r.stored ≤ length (expanded stored copies)) → length (take r.stored stored) ≤ length (expanded stored copies)
      long (inl few) =
          let at : ℕ = length (expanded stored copies) in
          let within : r.stored ≤ length stored = (are 0 r is).within in
          let there = slice_get-get_or stored at insts.Accept (omega (arith, few, within)) in
          let here = first-get (length copies) (length stored) at (omega arith) within few ∙ there in
          absurd (omega (arith, slice_get_within (expanded stored copies) at (get_or stored at insts.Accept) here))
      long (inr le) = omega (arith, length-take r.stored stored, le)
