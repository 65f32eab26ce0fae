use Rattle.std.proofs.Common.{rules, arith, ◌≡◌, [], length, ap}
use Rattle.regress_tree.specs.declared.ir.node.Node.{the_lemmas}
use Rattle.regress_tree.specs.Gathered.{own_group}
use Rattle.regress_tree.specs.Tree.{tree}
use Rattle.regress_program.proofs.groups.Counter.visit.Goals as goal

pub returns-in_default : goal.returns-in_default
returns-in_default c =
    let none : own_group (tree c.args.node.now) ≡ [] = first_of (search (rules, the_lemmas), grind (arith, the_lemmas)) in
    omega (arith, ap length none)
