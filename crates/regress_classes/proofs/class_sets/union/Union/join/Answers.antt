use Rattle.std.proofs.Common.{◌||◌, ap₂, sym, ◌∙◌}
use Rattle.std.proofs.lemmas.Result.{on_ok_weaker}
use Rattle.regress_base.proofs.lemmas.Sets.{is_member-append}
use Rattle.regress_classes.proofs.class_sets.union.Union.join.Goals as goal

pub returns : goal.returns
returns c = on_ok_weaker c.join.result
    (λ joins. λ a b h k. record {
      members = λ n. c.in_ok-add_set.ensures n ∙ ap₂ (λ x y. x || y) (h.members n) (k.members.each n) ∙ sym (is_member-append a.members b.members n);
      others = joins a b h.others k.others;
    })
    c.join.ensures
