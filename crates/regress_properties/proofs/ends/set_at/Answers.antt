-- The ends in the range are those of a canonical set.
use Rattle.std.proofs.Common.{length}
use Rattle.std.proofs.lemmas.Bool.{and_parts}
use Rattle.regress_properties.specs.Listed.{is_range_within}
use Rattle.regress_properties.proofs.ends.set_at.Goals as goal

pub set-requires : goal.set-requires
set-requires c = (and_parts (is_range_within (length c.args.ends.now) c.args.from c.args.to) _ c.requires).1
