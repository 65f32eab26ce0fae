use Rattle.std.proofs.Common.{rules, ap, ◌∙◌}
use Rattle.regress_tree.specs.Tree.{tree, trees}
use Rattle.regress_tree.proofs.lemmas.Copies.{trees-push_copy}
use Rattle.regress_rewrite.proofs.unroll_loops.required_copies.Goals as goal

pub loop-preserved : goal.loop-preserved
loop-preserved c =
    let l = c.loop in
    record {
      copied = ap trees c.in_ok-push-in-Some.ensures.items
          ∙ trees-push_copy l.parts.items l.counter (tree c.args.body.now) c.in-Some.copy l.invariant.copied (search rules);
      count = search rules;
      room = search rules;
    }
