-- Results about changes, composed.
use Rattle.std.proofs.Common.{◌≡◌, Bool, true, false, ◌||◌, Result, Ok, Err, sym, ap, subst, ◌∙◌}
use Rattle.std.specs.declared.alloc.AllocError.{AllocError}
use Rattle.std.proofs.lemmas.Bool.{or_parts}
use Rattle.regress_tree.specs.Tree.{Tree}
use Rattle.regress_tree.specs.Units.{IsLess}
use Rattle.regress_tree.proofs.lemmas.Falling.{IsLess-trans}
use Rattle.regress_passes.specs.Sweep.{ReportsChange}

-- the result of a change and of what follows it
abbrev pub joined : Bool → Result Bool AllocError → Result Bool AllocError
joined a (Ok b) = Ok (a || b)
joined a (Err e) = Err e

pub ReportsChange-then : (a : Bool) (response : Result Bool AllocError) (t u v : Tree) → ReportsChange (Ok a) t u → ReportsChange response u v →
    ReportsChange (joined a response) t v
ReportsChange-then true (Ok true) t u v first second = IsLess-trans t u v first second
ReportsChange-then true (Ok false) t u v first second = subst (λ (x : Tree). IsLess x t) (sym second) first
ReportsChange-then false (Ok true) t u v first second = subst (λ (x : Tree). IsLess v x) first second
ReportsChange-then false (Ok false) t u v first second = second ∙ first
ReportsChange-then a (Err e) t u v first second = tt

pub joined-false : (a : Bool) (response : Result Bool AllocError) → joined a response ≡ Ok false → (a ≡ false) × (response ≡ Ok false)
joined-false a (Ok b) same =
    let both : (a || b) ≡ false = cc in
    let parts = or_parts a b both in
    (parts.0, ap Ok parts.1)
joined-false a (Err e) same = cc
