-- Brackets as the body of a `Loop1CharBody`.
use Rattle.std.proofs.Common.{◌≡◌, Bool, true, false, not, List, IsTrue, ◌↔◌, refl, sym, ◌∙◌}
use Rattle.std.proofs.lemmas.Bool.{false≢true}
use Rattle.regress_base.specs.Intervals.{Bounds, IsCanonical}
use Rattle.regress_tree.specs.Tree.{leaf, bracket}
use Rattle.regress_tree.specs.WellFormed.{one_character}
use Rattle.regress_tree.specs.NodeTests.{accepts_none}
use Rattle.regress_tree.specs.Survey.{IsAllowedInside}
use Rattle.regress_tree.proofs.lemmas.Accepting.{accepts_some, accepts_nothing}

pub reports-bracket : (reported invert : Bool) (intervals : List Bounds) → IsCanonical intervals → reported ≡ accepts_none invert intervals →
    IsTrue (not reported) ↔ IsAllowedInside one_character (leaf (bracket invert intervals))
reports-bracket true invert intervals can e = (
  λ denied. absurd (false≢true denied),
  λ s. let c = s.1.some in absurd (false≢true (sym (accepts_nothing invert intervals can (sym e) c.0 c.1) ∙ c.2)),
)
reports-bracket false invert intervals can e =
    (λ said. (0, record { canonical = can; some = accepts_some invert intervals can (sym e) }), λ s. refl)
