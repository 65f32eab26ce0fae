use Rattle.std.proofs.Common.{refl, append_assoc}
use Rattle.std.proofs.Output.{has_written_append, has_written_of_eq}
use Rattle.regress_json.proofs.json.write_pattern.Goals as goal

pub returns : goal.returns
returns g c plain ok =
    let flags = c.in_ok-write_header.ensures plain refl in
    let node = c.in_ok-write_node.ensures.written c.args.spans.now 0 c.iter.ensures.rest flags.plain refl in
    let end = c.write_str.ensures.writes node.plain ok in
    has_written_of_eq _ _ _ _ _ (simp append_assoc) (has_written_append _ _ _ _ _ _ flags (has_written_append _ _ _ _ _ _ node end))
