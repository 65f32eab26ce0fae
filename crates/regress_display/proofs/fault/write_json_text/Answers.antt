use Rattle.std.proofs.Common.{◌∙◌, [], flat_map, ap, sym, rules}
use Rattle.std.proofs.Output.{has_written_append, has_written_of_eq}
use Rattle.std.proofs.lemmas.Iterator.{YieldsList-from_chars}
use Rattle.std.proofs.lemmas.Iterator.Consumers.{YieldsList-end}
use Rattle.std.proofs.lemmas.List.{flat_map_more, map-id}
use Rattle.regress_display.specs.Fault.{json_character}
use Rattle.regress_display.proofs.fault.write_json_text.Goals as goal

pub returns : goal.returns
returns g c plain ok =
    let yields = YieldsList-from_chars c.args.text.now c.utf8.text cc in
    let all = YieldsList-end yields c.loop-c.yielded _ c.loop-c.yielded_by _ _ c.in-None.is c.next.ensures.steps in
    has_written_of_eq _ _ _ _ _ (ap (flat_map json_character) (sym (map-id c.loop-c.yielded) ∙ all.0)) (c.loop-c.invariant plain)

pub loop-c-preserved : goal.loop-c-preserved
loop-c-preserved g c plain =
    has_written_of_eq _ _ _ _ _ (flat_map_more json_character [] c.loop-c.yielded c.in-Some.c)
    (has_written_append _ _ _ _ _ _ (c.loop-c.invariant plain) (search rules))
