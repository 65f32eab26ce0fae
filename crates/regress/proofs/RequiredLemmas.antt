-- A text without what each match contains has no match.
use Rattle.std.proofs.Common.{ℕ, List, length, Option, Some, None, arith}
use Rattle.std.specs.Borrow.{Bor}
use Rattle.std.specs.Prelude.{IfSome}
use Rattle.regress_front.specs.Steps.{Setting}
use Rattle.regress_front.specs.Tree.{Tree}
use Rattle.regress_front.specs.WellFormed.{captures}
use Rattle.regress_found.specs.Found.{outcomes_at, initial_state}
use Rattle.regress_prefilter.specs.Required.{AbsentFrom, IsRequiredLiteral}
use Rattle.regress_prefilter.proofs.lemmas.Required.{no_matches}
use Rattle.regress.specs.Compiled.{setting_of, tree_of}
use Rattle.regress.specs.Searched.{MatchesSomewhere}
use Rattle.regress.specs.Required.{RequiresLiteral}
use Rattle.regress.specs.declared.pattern.Regex.{Regex}

never_matches : (setting : Setting) (t : Tree) (literal text : List ℕ) → IsRequiredLiteral literal t → AbsentFrom literal text 0 →
    MatchesSomewhere text (outcomes_at setting text t) → ⊥
never_matches setting t literal text is absent (p, boundary, some) =
    some (no_matches (AbsentFrom literal) t is setting text (initial_state (length (captures t)) p) (λ k from. absent k (omega arith)))

pub literal_is_required : (r : Regex) (found : Option (Bor (List ℕ))) → IfSome found (λ literal. IsRequiredLiteral literal.now (tree_of r)) →
    IfSome found (λ literal. RequiresLiteral r literal.now)
literal_is_required r None is = tt
literal_is_required r (Some literal) is = λ text. never_matches (setting_of r) (tree_of r) literal.now text is
