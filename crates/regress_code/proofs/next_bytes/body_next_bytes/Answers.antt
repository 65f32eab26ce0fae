use Rattle.std.proofs.Common.{◌≡◌, Bool, true, false, get_or, refl, subst}
use Rattle.std.specs.Bool.{beq}
use Rattle.std.proofs.lemmas.Option.{slice_get-get_or}
use Rattle.regress_tree.specs.Reading.{direction_if}
use Rattle.regress_code.specs.declared.next_bytes.Body.{Body}
use Rattle.regress_code.specs.declared.next_bytes.NextBytes.TheVariants as kinds
use Rattle.regress_code.specs.NextBytes.{Bounds}
use Rattle.regress_code.proofs.next_bytes.body_next_bytes.Goals as goal

same_flag : (a b : Bool) → beq a b ≡ true → a ≡ b
same_flag true true is = refl
same_flag false false is = refl
same_flag true false is = let bad : ⊥ = cc in absurd bad
same_flag false true is = let bad : ⊥ = cc in absurd bad

pub returns-then-body-backwards : goal.returns-then-body-backwards
returns-then-body-backwards c = λ text body_of bodies s.
    let i = c.args.routine in
    let body : Body = get_or c.args.bodies.now i (record { backwards = false; next_byte = kinds.Any }) in
    subst (λ b. Bounds body.next_byte (direction_if b) text s.position (body_of i s)) (same_flag body.backwards c.args.backwards c.if-body-backwards.true)
    (bodies i body (slice_get-get_or c.args.bodies.now i _ c.if-routine-bodies.false) s)
