use Rattle.std.proofs.Common.{Some, ap, ◌∙◌}
use Rattle.regress_backtrack.proofs.LeafLemmas.{entry-in, leaf_body-is}
use Rattle.regress_backtrack.proofs.leaf_body.sole_leaf_of.Goals as goal

pub leaf_at-requires-clause-pc : goal.leaf_at-requires-clause-pc
leaf_at-requires-clause-pc c = entry-in c.args.input.now c.requires.input c.requires.program

pub returns-in-Accept : goal.returns-in-Accept
returns-in-Accept c =
    leaf_body-is (λ x. x.now) c.args.input.now c.in_ok-leaf.leaf c.in_ok-leaf.next (entry-in c.args.input.now c.requires.input c.requires.program)
    c.in_ok-leaf.ensures c.in_ok-instruction_in.ensures.0 (c.in_ok-instruction_in.ensures.1 ∙ ap Some c.in-Accept.is) c.test_at.result c.test_at.ensures
