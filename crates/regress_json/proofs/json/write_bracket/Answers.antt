use Rattle.std.proofs.Common.{refl, append_assoc}
use Rattle.std.proofs.Output.{has_written_append, has_written_of_eq}
use Rattle.regress_json.proofs.json.write_bracket.Goals as goal

pub returns : goal.returns
returns g c plain ok =
    let one = c.in_ok-write.ensures.writes plain refl in
    let two = (rw c.intervals.ensures.value at c.in_ok-write_intervals.ensures) one.plain refl in
    let three = c.write_str.ensures.writes two.plain ok in
    has_written_of_eq _ _ _ _ _ (simp append_assoc) (has_written_append _ _ _ _ _ _ (has_written_append _ _ _ _ _ _ one two) three)
