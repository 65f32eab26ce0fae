use Rattle.std.specs.Prelude.{IfSome, IsTrue}
use Rattle.regress_base.specs.ByteBitmap.{contains}
use Rattle.regress_prefilter.proofs.required.rarest.Given as goal

abbrev pub invariant-loop-b : goal.invariant-loop-b
invariant-loop-b l = IfSome l.rarest (λ b. IsTrue (contains l.set b))
