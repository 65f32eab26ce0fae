use Rattle.std.proofs.Common.{rules, ◌≤◌, ◌∙◌, sym, subst}
use Rattle.regress_leaves.specs.Starts.{HasClass}
use Rattle.regress_leaves.proofs.StringLemmas.{caseless_class, circled_class}
use Rattle.regress_leaves.proofs.start.class_interval.Goals as goal

pub returns-then-matches : goal.returns-then-matches
returns-then-matches c =
    let low : 0x24B6 ≤ c.args.c = search rules in
    let high : c.args.c ≤ 0x24E9 = search rules in
    subst (λ interval. HasClass interval c.args.c) (sym c.new.ensures) (circled_class c.args.c low high)

pub returns-then-c-le-CODE_POINT_MAX : goal.returns-then-c-le-CODE_POINT_MAX
returns-then-c-le-CODE_POINT_MAX c =
    subst (λ interval. HasClass interval c.args.c) (sym c.new-then-c-le-CODE_POINT_MAX.ensures)
    (caseless_class c.args.c (sym c.is_caseless.ensures ∙ c.if-is_caseless.true))
