use Rattle.std.proofs.Common.{sym, subst}
use Rattle.regress_classes.specs.ClassViews.{IsLeft, applied}
use Rattle.regress_classes.proofs.ChainLemmas.{remainder_of_more}
use Rattle.regress_classes.proofs.class_sets.chain.Taken.and.Goals as goal

pub returns : goal.returns
returns c = λ first v b h k.
    let others = c.in_ok-and.field-0 in
    subst (λ points. IsLeft c.args.operator first (record { points = points; others = others }) (applied c.args.operator v b))
    (sym c.points-2.view_is)
    (remainder_of_more c.args.operator first v b c.args.operand c.args.self (record { points = c.add_set.new.self; others = others })
    c.in_ok-dropped_points.field-0 h k c.in_ok-dropped_points.ensures c.in_ok-add_set.ensures
    (c.in_ok-and.ensures first.others v b h.others k.others))
