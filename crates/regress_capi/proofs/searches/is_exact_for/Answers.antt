use Rattle.std.proofs.Common.{◌≡◌, true, arith, refl, subst, sym}
use Rattle.std.specs.Prelude.{chars}
use Rattle.regress_ecma.specs.CodeUnits.{IsExactFor}
use Rattle.regress_capi.proofs.searches.is_exact_for.Goals as goal

pub returns-then-is_exact_for : goal.returns-then-is_exact_for
returns-then-is_exact_for c = record {
  binary = omega arith;
  exact = λ dialect setting pattern compiled. (
    λ one. (
      c.in-Ok.ensures.cases.1,
      subst (λ t. IsExactFor setting compiled.tree.pattern pattern (chars t)) c.in-Ok.ensures.cases.0
          ((c.is_exact_for.ensures dialect setting pattern compiled).0 c.if-is_exact_for.true),
    ),
    λ both. refl,
  );
}

pub returns-else-is_exact_for : goal.returns-else-is_exact_for
returns-else-is_exact_for c = record {
  binary = omega arith;
  exact = λ dialect setting pattern compiled. (
    λ one. absurd (omega (arith, one)),
    λ both. let is : c.is_exact_for.result ≡ true = (c.is_exact_for.ensures dialect setting pattern compiled).1
        (subst (λ t. IsExactFor setting compiled.tree.pattern pattern (chars t)) (sym c.in-Ok.ensures.cases.0) both.1) in
        let bad : ⊥ = cc in absurd bad,
  );
}
