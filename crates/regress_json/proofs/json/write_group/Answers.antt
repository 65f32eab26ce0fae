use Rattle.std.proofs.Common.{refl, append_assoc, arith}
use Rattle.std.proofs.Output.{has_written_append, has_written_of_eq}
use Rattle.regress_json.proofs.NumeralLemmas.{decimal-numeral}
use Rattle.regress_json.proofs.json.write_group.Goals as goal

pub returns : goal.returns
returns g c plain ok =
    let one = (rw (decimal-numeral c.args.id (omega arith)) at c.in_ok-write.ensures.writes) plain refl in
    let two = c.in_ok-write_name.ensures one.plain refl in
    let three = c.write_str.ensures.writes two.plain ok in
    has_written_of_eq _ _ _ _ _ (simp append_assoc) (has_written_append _ _ _ _ _ _ (has_written_append _ _ _ _ _ _ one two) three)
