-- One more copy follows the others.
use Rattle.std.proofs.Common.{subst}
use Rattle.regress_tree.specs.Tree.{Trees, copies}
use Rattle.regress_normalize.specs.PartFacts.{HasListFacts}
use Rattle.regress_tree.proofs.lemmas.Copies.{copies-push}
use Rattle.regress_normalize.proofs.wrapper.copies_facts.Goals as goal

pub loop-preserved : goal.loop-preserved
loop-preserved c t has cat =
    let l = c.loop in
    subst (λ (ts : Trees). HasListFacts c.add.new.self ts) (copies-push l.counter t)
    (c.in_ok-add.ensures (copies l.counter t) t (l.invariant t has cat) has cat)
