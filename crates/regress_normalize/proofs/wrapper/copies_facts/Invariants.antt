use Rattle.std.proofs.Common.{◌≡◌}
use Rattle.regress_tree.specs.Shapes.{is_cat}
use Rattle.regress_tree.specs.Tree.{Tree, copies}
use Rattle.regress_normalize.specs.PartFacts.{HasFacts, HasListFacts}
use Rattle.regress_normalize.proofs.wrapper.copies_facts.Given as goal

abbrev pub invariant-loop : goal.invariant-loop
invariant-loop l = (t : Tree) → HasFacts l.part t → l.cat ≡ is_cat t → HasListFacts l.list (copies l.counter t)
