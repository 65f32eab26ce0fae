-- Remarks on what is reported.
use Rattle.std.proofs.Common.{◌≡◌, ℕ, List, [], ◌∷◌, map, refl, sym, ap, subst, ◌∙◌}
use Rattle.regress_front.specs.Accepted.{IsAccepted, OfAccepted}
use Rattle.regress_front.specs.Steps.{Setting}
use Rattle.regress_front.specs.Syntax.{Pattern}
use Rattle.regress_differences.specs.Compared.{IsOfUnicode}
use Rattle.regress_differences.specs.InEcma.{FindsMatchesOfEcma}
use Rattle.regress_differences.specs.Kinds.{AreDifferences}
use Rattle.regress_differences.specs.Paired.{spanned_of}
use Rattle.regress_differences.specs.TreeOf.{tree_of}
use Rattle.regress_differences.specs.declared.kind.Difference.{Difference}
use Rattle.example_callers.specs.declared.remarks.Remark.{Remark}
use Rattle.example_callers.specs.Remarks.{shown, explained, AreRemarksOn}

pub remarked : (setting : Setting) (points source : List ℕ) → points ≡ source → (found : List Difference) →
    ((p : Pattern) × (accepted : IsAccepted setting points p)
    × AreDifferences setting points (tree_of setting.table p) (spanned_of setting points p accepted.derived) found) →
    (remarks : List Remark) → map shown remarks ≡ map explained found → AreRemarksOn setting source remarks
remarked setting points source same found listed remarks each =
    subst (λ (s : List ℕ). AreRemarksOn setting s remarks) same (listed.0, listed.1, found, listed.2, each)

no_difference : (found : List Difference) → map explained found ≡ [] → found ≡ []
no_difference [] e = refl
no_difference (d ∷ ds) e = cc (e)

-- Without remarks there are no differences, and what holds then.
pub without_remarks : (setting : Setting) (points source : List ℕ) → points ≡ source → (found : List Difference) (remarks : List Remark) →
    map shown remarks ≡ map explained found →
    (found ≡ [] → IsOfUnicode setting.table → OfAccepted setting points (λ p. FindsMatchesOfEcma setting points (tree_of setting.table p))) →
    remarks ≡ [] → IsOfUnicode setting.table → OfAccepted setting source (λ p. FindsMatchesOfEcma setting source (tree_of setting.table p))
without_remarks setting points source same found remarks each matches none unicode =
    subst (λ (s : List ℕ). OfAccepted setting s (λ p. FindsMatchesOfEcma setting s (tree_of setting.table p))) same
    (matches (no_difference found (sym each ∙ ap (map shown) none)) unicode)
