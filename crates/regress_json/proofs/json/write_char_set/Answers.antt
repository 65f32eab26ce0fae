use Rattle.std.proofs.Common.{refl}
use Rattle.std.proofs.Output.{has_written_append}
use Rattle.regress_json.proofs.json.write_char_set.Goals as goal

pub returns : goal.returns
returns g c plain ok =
    let one = c.in_ok-write_str.ensures.writes plain refl in
    has_written_append _ _ _ _ _ _ one (c.write_numbers.ensures one.plain ok)
