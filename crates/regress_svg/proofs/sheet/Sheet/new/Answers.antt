use Rattle.regress_svg.proofs.MarkupLemmas.{begins}
use Rattle.regress_svg.proofs.sheet.Sheet.new.Goals as goal

pub invariant_of-result : goal.invariant_of-result
invariant_of-result c = begins _ c.new.ensures.bytes
