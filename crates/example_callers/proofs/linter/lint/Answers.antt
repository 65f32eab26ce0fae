-- The groups that the calls of the walk have listed, in order, and the nested loops that they have found.
use Rattle.std.proofs.Common.{rules, ◌≡◌, ◌++◌, ◌∙◌, ◌||◌, ◌≤◌, false, refl, ap, arith}
use Rattle.std.specs.List.{list_any}
use Rattle.regress_front.specs.Tree.{tree}
use Rattle.regress_front.specs.Measures.{nesting}
use Rattle.example_callers.specs.Listed.{groups_of, Lists}
use Rattle.regress_tree.specs.Gathered.{gathered, own_group}
use Rattle.regress_tree.proofs.lemmas.Gathered.{visited_adds, gathered-groups}
use Rattle.regress_tree.proofs.lemmas.Inherited.{visited_inherits}
use Rattle.example_callers.specs.Nested.{is_around}
use Rattle.example_callers.proofs.NestedLemmas.{handed, is_met, met_none, met_more, met_here, reported_same, from_none, at_call, around_inside, around_outside}
use Rattle.example_callers.proofs.ListedLemmas.{Lists-none, Lists-then, ended}
use Rattle.example_callers.proofs.linter.lint.Goals as goal

pub returns : goal.returns
returns c =
    let lists = visited_adds _ own_group (λ a b xs. (b.0.ghost_name ≡ a.0.ghost_name) × Lists a.0.now b.0.now xs) (record {
      none = λ a. (refl, Lists-none _);
      joined = λ a b d xs ys first second. (second.0 ∙ first.0, Lists-then _ b.0.now _ xs ys first.1 second.1);
      adds = λ a b t u d lookbehind skip call. (search rules, rw (← call.on) (search rules));
      leaves = λ a b t u d lookbehind skip call. call.leaves;
      goes_on = λ a b t u d lookbehind skip call. search rules;
    }) _ _ _ _ _ _ c.walk.ensures.visited in
    let meets = λ (fits : nesting (tree c.args.regex.now.node) ≤ 18446744073709551615).
    visited_inherits _ handed (λ a d x. is_around d a.0.now.repeated_at ≡ x)
    (λ a b ps. b.0.now.report.nested ≡ (a.0.now.report.nested || list_any is_met ps)) (record {
      none = λ a. met_none _;
      joined = λ a b d ps qs first second. met_more _ _ _ ps qs first second;
      adds = λ a b t u d lookbehind skip x is call.
          met_here d t a.0.now.repeated_at b.0.now.repeated_at _ _ x
          (at_call d _ t _ _ _ _ _ (ap (λ w. w.depth) call.shown) call.on (search rules)) is;
      hands_down = λ a b t u d lookbehind skip x is call.
          around_inside d t a.0.now.repeated_at b.0.now.repeated_at a.0.now.report.nested b.0.now.report.nested x
          (at_call d _ t _ _ _ _ _ (ap (λ w. w.depth) call.shown) call.on (search rules)) is;
      keeps = λ a b t u d lookbehind skip e x up is call.
          around_outside d t a.0.now.repeated_at b.0.now.repeated_at a.0.now.report.nested b.0.now.report.nested e x up
          (at_call d _ t _ _ _ _ _ (ap (λ w. w.depth) call.shown) call.on (search rules)) is;
      leaves = λ a b t u d lookbehind skip call. call.leaves;
      goes_on = λ a b t u d lookbehind skip call. search rules;
    }) _ _ _ _ 0 false false (omega (arith, fits)) (search rules) c.walk.ensures.visited in
    let groups = gathered own_group (tree c.args.regex.now.node) in
    record {
      groups = ended _ c.walk.new.func.0.now.report.groups.items (search rules) _
          (lists.1.listed (search rules) ∙ ap (λ gs. groups_of gs ++ groups) c.new.ensures.items
          ∙ gathered-groups (tree c.args.regex.now.node));
      nested = λ fits.
          reported_same _ c.walk.new.func.0.now.report.nested _ (search rules) (meets fits ∙ search (rules, from_none));
    }
