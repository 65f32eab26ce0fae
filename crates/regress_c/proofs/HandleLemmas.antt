-- The regular expression of a handle.
use Rattle.std.proofs.Common.{◌≡◌, Option, subst}
use Rattle.std.specs.Prelude.{IfSome, Some}

-- what holds of the regular expression that was taken holds of the handle
pub held : {R : Type 0} (P : R → Type 0) (old : Option R) (x y : R) → Some x ≡ old → y ≡ x → P y → IfSome old P
held P old x y taken same is = subst (λ v. IfSome v P) taken (subst P same is)
