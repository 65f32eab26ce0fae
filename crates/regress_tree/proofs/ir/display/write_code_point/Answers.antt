use Rattle.std.proofs.Common.{ap, ◌++◌, codes}
use Rattle.std.proofs.Output.{has_written_of_eq}
use Rattle.regress_tree.proofs.DisplayLemmas.{padded_to_four}
use Rattle.regress_tree.proofs.ir.display.write_code_point.Goals as goal

pub returns : goal.returns
returns g c plain ok =
    let wrote = rw (c.in_radix.ensures, c.laid_out.ensures) at c.write.ensures.writes in
    has_written_of_eq _ _ _ _ _ (ap (λ t. codes "U+" ++ t) (padded_to_four c.args.c)) (wrote plain ok)
