-- A loop of either kind is a node around the body, and the other forms are leaves.
use Rattle.std.proofs.Common.{ℕ, List, refl, ap, ◌∙◌}
use Rattle.regress_tree.specs.Tree.{loop, loop_one, leaf, byte_set}
use Rattle.regress_tree.proofs.lemmas.Nodes.{tree-Empty, tree-ByteSet}
use Rattle.regress_normalize.proofs.wrapper.facts_of.Goals as goal

pub returns-in-OneCharacter-clause-has : goal.returns-in-OneCharacter-clause-has
returns-in-OneCharacter-clause-has c q start end t has = rw c.in-OneCharacter.is (c.around.ensures.has (loop_one q) t has refl refl)

pub returns-in-Stays-clause-has : goal.returns-in-Stays-clause-has
returns-in-Stays-clause-has c q start end t has = rw c.in-Stays.is (c.around-in-Stays.ensures.has (loop q start end) t has refl refl)

pub returns-in-Empty-clause-has : goal.returns-in-Empty-clause-has
returns-in-Empty-clause-has c q start end t has = rw c.in-Empty.is (rw tree-Empty at c.leaf_facts.ensures.has)

pub returns-in-AlwaysFails-clause-has : goal.returns-in-AlwaysFails-clause-has
returns-in-AlwaysFails-clause-has c q start end t has =
    let made = tree-ByteSet c.new.result ∙ ap (λ (bytes : List ℕ). leaf (byte_set bytes)) c.new.ensures.items in
    rw c.in-AlwaysFails.is (rw made at c.leaf_facts-in-AlwaysFails.ensures.has)
