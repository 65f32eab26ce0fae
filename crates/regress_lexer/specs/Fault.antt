-- Why a pattern is rejected.
use Rattle.std.specs.Prelude.{◌≡◌, ◌⊎◌, Bool, true, false, Result, Ok, Err}
use Rattle.regress_lexer.specs.declared.fault.FaultKind.{FaultKind}
use Rattle.regress_lexer.specs.declared.fault.FaultKind.TheVariants.{TooDeep, TooManyGroups, TooManyLoops}
use Rattle.regress_lexer.specs.declared.fault.Fault.{Fault}
use Rattle.regress_lexer.specs.declared.fault.Fault.TheVariants.{Rejected, Memory}

-- If the fault is a syntax error, P holds; an allocation failure implies nothing.
abbrev pub OnRejected : Fault → Type 0 → Type 0
OnRejected (Rejected kind left) P = P
OnRejected (Memory e) P = Unit {0}

-- If the fault is a syntax error, P holds of its kind.
abbrev pub OnKind : Fault → (FaultKind → Type 0) → Type 0
OnKind (Rejected kind left) P = P kind
OnKind (Memory e) P = Unit {0}

-- If the result is a syntax error, P holds.
abbrev pub FailsOnlyIf : {X : Type 0} → Result X Fault → Type 0 → Type 0
FailsOnlyIf (Ok x) P = Unit {0}
FailsOnlyIf (Err fault) P = OnRejected fault P

-- If the result is a syntax error, P holds of its kind.
abbrev pub FailsBy : {X : Type 0} → Result X Fault → (FaultKind → Type 0) → Type 0
FailsBy (Ok x) P = Unit {0}
FailsBy (Err fault) P = OnKind fault P

-- The error reports an exceeded limit (dialect).
abbrev pub is_limit : FaultKind → Bool
is_limit TooDeep = true
is_limit TooManyGroups = true
is_limit TooManyLoops = true
is_limit other = false

-- If the result is a syntax error, it reports no exceeded limit.
abbrev pub FailsByNoLimit : {X : Type 0} → Result X Fault → Type 0
FailsByNoLimit result = FailsBy result (λ kind. is_limit kind ≡ false)

-- If the result is a syntax error, it reports no exceeded limit but that of the nesting depth, and that one only if P
-- holds.
abbrev pub FailsByDepthOnlyIf : {X : Type 0} → Result X Fault → Type 0 → Type 0
FailsByDepthOnlyIf result P = FailsBy result (λ kind. (is_limit kind ≡ false) ⊎ ((kind ≡ TooDeep) × P))
