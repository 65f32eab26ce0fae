use Rattle.std.proofs.Common.{sym, subst}
use Rattle.regress_parse.specs.Fault.{HasKind}
use Rattle.regress_parse.proofs.FaultLemmas.{has_kind}
use Rattle.regress_parse.proofs.fault.text_before_name.Goals as goal

pub returns-in-Some : goal.returns-in-Some
returns-in-Some c = c.in-Some.ensures.1 c.args.kind.now c.number.ensures

-- Each kind has a number.
pub returns-in-None : goal.returns-in-None
returns-in-None c = absurd (c.in-None.ensures (subst HasKind (sym c.number.ensures) (has_kind c.args.kind.now)))
