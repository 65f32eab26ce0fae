use Rattle.std.proofs.Common.{◌∙◌, ◌&&◌, not, List, ap}
use Rattle.regress_base.specs.Intervals.{Bounds, is_member}
use Rattle.regress_classes.proofs.ChainLemmas.{left_over, others_over}
use Rattle.regress_classes.proofs.class_sets.chain.Taken.take_from.Goals as goal

pub returns : goal.returns
returns c = λ v h.
    let rest = c.in_ok-apply.ensures in
    left_over c.args.operator c.args.value (record { set = c.remove.new.self; others = c.apply.new.self }) c.args.self c.in_ok-points.points v h
    c.in_ok-points.ensures c.in_ok-remove.ensures.canonical
    (λ n. c.in_ok-remove.ensures.members n
    ∙ ap (λ (l : List Bounds). is_member c.args.value.set n && not (is_member l n)) c.intervals.ensures.value)
    (others_over c.args.operator c.args.value.others c.apply.new.self c.args.self.others v h.others rest.strings rest.has_empty rest.may rest.nesting)
