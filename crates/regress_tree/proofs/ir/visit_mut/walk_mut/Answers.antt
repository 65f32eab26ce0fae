use Rattle.regress_tree.proofs.ir.visit_mut.walk_mut.Goals as goal

pub returns-clause-visited : goal.returns-clause-visited
returns-clause-visited g c =
    let root = c.root.ensures in
    rw (root.depth, root.direction, root.unicode) at c.visit_mut.ensures.visited
