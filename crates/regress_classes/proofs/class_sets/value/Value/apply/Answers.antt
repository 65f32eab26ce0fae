-- The code points, and the strings.
use Rattle.std.proofs.Common.{◌&&◌, sym, ap₂, subst, ◌∙◌}
use Rattle.regress_base.specs.Intervals.{is_member}
use Rattle.regress_classes.specs.ClassViews.{IsValue, kept}
use Rattle.regress_classes.proofs.ChainLemmas.{left_of, applied_is, others_first, others_over}
use Rattle.regress_classes.proofs.ClassSetLemmas.{members_where}
use Rattle.regress_classes.proofs.class_sets.value.Value.apply.Goals as goal

pub returns : goal.returns
returns c = λ a b h k.
    let operator = c.args.operator in
    let old = c.args.self.now in
    let other = c.args.other in
    let rest = c.in_ok-apply.ensures in
    subst (IsValue (record { set = c.apply_points.new.set; others = c.apply.new.self })) (sym (applied_is operator a b)) (record {
      members = members_where (λ n. is_member a.members n && kept operator (is_member b.members n)) c.apply_points.new.set
          c.in_ok-apply_points.ensures.canonical
          (λ n. c.in_ok-apply_points.ensures.members n ∙ ap₂ (λ x y. x && kept operator y) (h.members.each n) (k.members.each n));
      others = others_over operator old.others c.apply.new.self other.others (left_of operator a b)
          (others_first operator a b old.others other.others h.others k.others) rest.strings rest.has_empty rest.may rest.nesting;
    })
