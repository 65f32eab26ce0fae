-- Choices between an alternative and the instruction before.
use Rattle.std.proofs.Common.{◌≡◌, ℕ, ◌+◌, ◌-◌, ◌<◌, ◌==◌, Bool, true, false, Option, Some, None, if◌then◌else◌, refl, ap, ◌∙◌, arith}
use Rattle.regress_program.specs.declared.instruction.Instruction.{Instruction}
use Rattle.regress_program.specs.declared.instruction.Instruction.TheVariants as insts
use Rattle.regress_code.specs.Choices.{preferred}

same_number : (a b : ℕ) → (a == b) ≡ true → a ≡ b
same_number a b is = grind arith

split_is : (pc first second k : ℕ) (b : Bool) → (second + 1 == pc) ≡ b → (if b then Some first else None) ≡ Some k →
    (0 < pc) × (Some (insts.Split first second) ≡ Some (insts.Split k (pc - 1)))
split_is pc first second k true same is =
    let number = same_number (second + 1) pc same in
    let before : second ≡ pc - 1 = omega (arith, number) in
    let one : first ≡ k = cc in
    (omega (arith, number), ap (λ s. Some (insts.Split first s)) before ∙ ap (λ f. Some (insts.Split f (pc - 1))) one)
split_is pc first second k false same is = let bad : ⊥ = cc in absurd bad

-- the choice that has the preferred alternative `k`
pub preferred_is : (pc k : ℕ) (o : Option Instruction) → preferred pc o ≡ Some k → (0 < pc) × (o ≡ Some (insts.Split k (pc - 1)))
preferred_is pc k (Some (insts.Split first second)) is = split_is pc first second k (second + 1 == pc) refl is
preferred_is pc k None is = let bad : ⊥ = cc in absurd bad
preferred_is pc k (Some insts.Accept) is = let bad : ⊥ = cc in absurd bad
preferred_is pc k (Some insts.Fail) is = let bad : ⊥ = cc in absurd bad
preferred_is pc k (Some (insts.Leaf leaf next)) is = let bad : ⊥ = cc in absurd bad
preferred_is pc k (Some (insts.Characters leaf count next)) is = let bad : ⊥ = cc in absurd bad
preferred_is pc k (Some (insts.BeginLoop greedy body next)) is = let bad : ⊥ = cc in absurd bad
preferred_is pc k (Some (insts.Repeat greedy body next)) is = let bad : ⊥ = cc in absurd bad
preferred_is pc k (Some (insts.EndLoop next)) is = let bad : ⊥ = cc in absurd bad
preferred_is pc k (Some (insts.Unset start end next)) is = let bad : ⊥ = cc in absurd bad
preferred_is pc k (Some (insts.BeginGroup next)) is = let bad : ⊥ = cc in absurd bad
preferred_is pc k (Some (insts.EndGroup id next)) is = let bad : ⊥ = cc in absurd bad
preferred_is pc k (Some (insts.Look negate routine next)) is = let bad : ⊥ = cc in absurd bad
