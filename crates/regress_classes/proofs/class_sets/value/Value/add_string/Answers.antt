use Rattle.std.proofs.Common.{get_or, sym, ap, subst, arith, ◌∙◌}
use Rattle.regress_classes.specs.ClassSets.{Value, joined, value_of_string}
use Rattle.regress_classes.specs.ClassViews.{IsValue}
use Rattle.regress_classes.proofs.ClassSetLemmas.{with_point, one_character}
use Rattle.regress_classes.proofs.class_sets.value.Value.add_string.Goals as goal

pub returns-in_ok-add_one-in-len1 : goal.returns-in_ok-add_one-in-len1
returns-in_ok-add_one-in-len1 c = λ a h.
    let s = c.as_slice.result.now in
    let old = c.args.self.now in
    let one = one_character s 0 (omega (arith, c.in-len1.len_at_least)) (omega (arith, c.in-len1.len_below)) in
    subst (λ (v : Value). IsValue (record old { set = c.add_one.new.self }) (joined a v))
    (sym one ∙ ap value_of_string c.as_slice.ensures.value)
    (with_point a (get_or s 0 0) old c.add_one.new.self h c.in_ok-add_one-in-len1.ensures.canonical c.in_ok-add_one-in-len1.ensures.members)
