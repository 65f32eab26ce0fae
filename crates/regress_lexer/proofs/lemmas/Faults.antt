-- A contract on the kind of an error follows from a stronger one.
use Rattle.std.proofs.Common.{◌≡◌, ◌⊎◌, inl, inr, false, Result, Ok, Err}
use Rattle.regress_lexer.specs.declared.fault.Fault.{Fault}
use Rattle.regress_lexer.specs.declared.fault.FaultKind.{FaultKind}
use Rattle.regress_lexer.specs.declared.fault.FaultKind.TheVariants.{TooDeep}
use Rattle.regress_lexer.specs.Fault.{is_limit, FailsBy, FailsByDepthOnlyIf}
use Rattle.regress_lexer.proofs.lemmas.Sources.{on_kind_then}

pub fails_then : {X : Type 0} {P Q : FaultKind → Type 0} (r : Result X Fault) → ((kind : FaultKind) → P kind → Q kind) → FailsBy r P → FailsBy r Q
fails_then (Ok x) f h = tt
fails_then (Err fault) f h = on_kind_then fault f h

pub by_nesting_then : {P Q : Type 0} → (P → Q) → (kind : FaultKind) → (is_limit kind ≡ false) ⊎ ((kind ≡ TooDeep) × P) →
    (is_limit kind ≡ false) ⊎ ((kind ≡ TooDeep) × Q)
by_nesting_then f kind (inl none) = inl none
by_nesting_then f kind (inr (is, h)) = inr (is, f h)

pub nesting_then : {X : Type 0} {P Q : Type 0} (r : Result X Fault) → (P → Q) → FailsByDepthOnlyIf r P → FailsByDepthOnlyIf r Q
nesting_then r f h = fails_then r (by_nesting_then f) h
