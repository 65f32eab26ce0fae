-- By what the leaf becomes.
use Rattle.std.proofs.Common.{ap, ◌∙◌}
use Rattle.regress_tree.specs.SmallSets.{set_of}
use Rattle.regress_tree.specs.Tree.{char, char_set, tree}
use Rattle.regress_tree.proofs.lemmas.Nodes.{tree-Char, tree-CharSet}
use Rattle.regress_rewrite.specs.Formed.{formed_character}
use Rattle.regress_normalize.proofs.LeafLemmas.{Clears-formed}
use Rattle.regress_normalize.proofs.leaf.formed.Goals as goal

pub returns-in-Char-clause-clears : goal.returns-in-Char-clause-clears
returns-in-Char-clause-clears c =
    let step = c.form_character.ensures in
    let is = ap tree c.in-Char.is ∙ tree-Char c.in-Char.c in
    Clears-formed _ (char c.in-Char.c) (formed_character c.in-Char.c) is _ step.lawful step.formed

pub returns-in-CharSet-clause-clears : goal.returns-in-CharSet-clause-clears
returns-in-CharSet-clause-clears c =
    let characters = c.in-CharSet.characters in
    let step = rw c.deref.ensures.value at c.form_set.ensures in
    let is = ap tree c.in-CharSet.is ∙ tree-CharSet characters in
    Clears-formed _ (char_set characters.items) (set_of characters.items) is _ step.lawful step.formed
