-- That matches are inside a text has at most one proof.
use Rattle.std.specs.Prelude.{ℕ, List, All, Result, Ok, Err, IfOk}
use Rattle.std.proofs.Props.{props}
use Rattle.regress_found.specs.Found.{IsInside}
use Rattle.regress_found.specs.declared.found.Match.{Match}

pub IsInside-prop : (text : List ℕ) (m : Match) → IsProp (IsInside text m)
IsInside-prop text m = hlevel props

pub AllInside-prop : (text : List ℕ) (ms : List Match) → IsProp (All (IsInside text) ms)
AllInside-prop text ms = hlevel (props, IsInside-prop)

-- that a property which has at most one proof holds of the value, if there is one
pub IfOk-prop : {X E : Type 0} (P : X → Type 0) → ((x : X) → IsProp (P x)) → (r : Result X E) → IsProp (IfOk r P)
IfOk-prop P prop (Ok x) = prop x
IfOk-prop P prop (Err e) = hlevel props
