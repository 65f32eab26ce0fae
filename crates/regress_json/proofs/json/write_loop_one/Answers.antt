use Rattle.std.proofs.Common.{refl, append_assoc}
use Rattle.std.proofs.Output.{has_written_append, has_written_of_eq}
use Rattle.regress_json.proofs.json.write_loop_one.Goals as goal

pub returns : goal.returns
returns g c plain ok =
    let one = c.in_ok-write_str.ensures.writes plain refl in
    has_written_of_eq _ _ _ _ _ (simp append_assoc) (has_written_append _ _ _ _ _ _ one (c.write_repeat.ensures one.plain ok))
