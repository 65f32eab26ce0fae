-- A program is linear exactly if nothing prevents it.
use Rattle.std.proofs.Common.{◌≡◌, Bool, true, false, not, ◌&&◌, ◌||◌, List, [], ◌∷◌, Some, None, refl, ap₂, ◌∙◌}
use Rattle.std.specs.Prelude.{if◌then◌else◌, is_none}
use Rattle.std.specs.List.{list_all, list_any}
use Rattle.regress_program.specs.declared.nonlinear.Nonlinear.TheVariants.{BackReference, CapturingLookaround}
use Rattle.regress_program.specs.Linear.{is_linear, is_linear_op, is_reason, has_reason, reason}
use Rattle.regress_program.specs.Program.{Routine}

apart : (a b c d : Bool) → ((not a && not b) && (not c && not d)) ≡ (not (a || c) && not (b || d))
apart true b c d = refl
apart false true true d = refl
apart false true false d = refl
apart false false c d = refl

-- All pass a test exactly if none passes one of two others, where each passes it exactly if it passes neither.
all-neither : {X : Type 0} (p q r : X → Bool) (xs : List X) → ((x : X) → p x ≡ (not (q x) && not (r x))) →
    list_all p xs ≡ (not (list_any q xs) && not (list_any r xs))
all-neither p q r [] each = refl
all-neither p q r (x ∷ xs) each =
    ap₂ (λ a b. a && b) (each x) (all-neither p q r xs each) ∙ apart (q x) (r x) (list_any q xs) (list_any r xs)

neither : (a b : Bool) → (not a && not b) ≡ is_none (if a then Some BackReference else if b then Some CapturingLookaround else None)
neither true b = refl
neither false true = refl
neither false false = refl

pub linear-reason : (program : List Routine) → is_linear program ≡ is_none (reason program)
linear-reason program =
    all-neither (λ (r : Routine). list_all (is_linear_op program) r.ops) (λ (r : Routine). list_any (is_reason program BackReference) r.ops)
    (λ (r : Routine). list_any (is_reason program CapturingLookaround) r.ops) program
    (λ r. all-neither (is_linear_op program) (is_reason program BackReference) (is_reason program CapturingLookaround) r.ops (λ op. refl))
    ∙ neither (has_reason program BackReference) (has_reason program CapturingLookaround)
