-- A code point that is not mapped to another one is its own canonical form.
use Rattle.std.proofs.Common.{◌≡◌, ℕ, List, All, true, refl, sym, subst}
use Rattle.regress_unicode.specs.FoldEntries.{mapped}
use Rattle.regress_unicode.proofs.CaseMapLemmas.{idempotent_from_targets, targets_from_idempotent}
use Rattle.regress_unicode.proofs.checks.check_idempotent.Goals as goal

pub returns-then-are_own_targets : goal.returns-then-are_own_targets
returns-then-are_own_targets c =
    idempotent_from_targets c.args.mappings.now
    (subst (λ (xs : List ℕ). All (λ d. mapped c.args.mappings.now d ≡ d) xs) c.requires.targets
    (c.are_own_targets.ensures.0 c.if-are_own_targets.true))

pub returns-else-are_own_targets : goal.returns-else-are_own_targets
returns-else-are_own_targets c = (
  refl,
  λ h.
      (let own = subst (λ (xs : List ℕ). All (λ d. mapped c.args.mappings.now d ≡ d) xs) (sym c.requires.targets)
      (targets_from_idempotent c.args.mappings.now h) in
      let yes : c.are_own_targets.result ≡ true = c.are_own_targets.ensures.1 own in
      cc (yes, c.if-are_own_targets.false)),
)
