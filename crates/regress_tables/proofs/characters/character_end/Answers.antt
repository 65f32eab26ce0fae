use Rattle.regress_leaves.specs.Subject.{subject}
use Rattle.regress_leaves.proofs.lemmas.Leaves.{simple_if_one}
use Rattle.regress_tree.specs.Tree.{tree}
use Rattle.regress_tables.proofs.characters.character_end.Goals as goal

pub returns-in-Some : goal.returns-in-Some
returns-in-Some c = λ s at.
    let u = subject c.args.rules c.args.text.now in
    let t = c.args.test.now in
    c.in-Some.ensures (tree t.node) t.begins u.setting s at

pub returns-in-None : goal.returns-in-None
returns-in-None c = c.simple_leaf.ensures (simple_if_one (tree c.args.test.now.node) c.requires)
