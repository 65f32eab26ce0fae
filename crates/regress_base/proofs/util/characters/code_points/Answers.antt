use Rattle.std.proofs.Common.{sym, ◌∙◌}
use Rattle.std.proofs.lemmas.Iterator.{YieldsList-from_chars}
use Rattle.std.proofs.lemmas.Iterator.Consumers.{YieldsList-end}
use Rattle.std.proofs.lemmas.List.{map-id}
use Rattle.regress_base.proofs.util.characters.code_points.Goals as goal

-- at the end of the text the list has all characters
pub returns-clause-characters : goal.returns-clause-characters
returns-clause-characters c =
    let yields = YieldsList-from_chars c.args.text.now c.utf8.text cc in
    let all = YieldsList-end yields c.loop-c.yielded _ c.loop-c.yielded_by _ _ c.in-None.is c.next.ensures.steps in
    c.loop-c.invariant.so_far ∙ sym (map-id c.loop-c.yielded) ∙ all.0
