use Rattle.std.proofs.Common.{◌≡◌, rules, true, false, length}
use Rattle.regress_tree.specs.Tree.{tree}
use Rattle.regress_tree.specs.WellFormed.{captures, root}
use Rattle.regress_tree.specs.Units.{account}
use Rattle.regress_tree.proofs.lemmas.Falling.{changes_left-falls}
use Rattle.regress_passes.specs.Passes.{unchanged, stopped, again}
use Rattle.regress_passes.proofs.PassesLemmas.{not_returned, less_differs}
use Rattle.regress_passes.proofs.pass.run_pass.Goals as goal

pub loop-changed-smaller : goal.loop-changed-smaller
loop-changed-smaller g c =
    let swept = rw c.if-branch.true at c.in_ok-traverse.ensures.swept in
    let so_far = c.loop-changed.invariant.swept.keeps in
    let n = length (captures (tree c.args.r.now.node)) in
    changes_left-falls (account (tree c.args.r.now.node)) (tree c.loop-changed.r.node) (tree c.traverse.new.node)
    n root (swept.keeps.occurs n root (so_far.occurs n root c.requires.occurs)) so_far.account swept.keeps.account swept.changed

pub returns-clause-passed : goal.returns-clause-passed
returns-clause-passed g c =
    let l = c.loop-changed in
    let root = c.root-walk.ensures in
    let swept = rw c.if-branch.false at c.in_ok-traverse.ensures.swept in
    let same : tree c.traverse.new.node ≡ tree l.r.node = swept.changed in
    let visited = rw (root.depth, root.direction, root.unicode, same) at c.in_ok-traverse.ensures.visited in
    l.invariant.passed (tree c.traverse.new.node) c.traverse.new.pass true (rw same (unchanged visited))

pub returns-in_err-traverse-clause-passed : goal.returns-in_err-traverse-clause-passed
returns-in_err-traverse-clause-passed g c =
    let root = c.root-walk.ensures in
    let visited = rw (root.depth, root.direction, root.unicode) at c.in_err-traverse.ensures.visited in
    rw (not_returned _ c.from_residual.ensures.0)
    (c.loop-changed.invariant.passed (tree c.traverse.new.node) c.traverse.new.pass false (stopped visited))

pub loop-changed-preserved : goal.loop-changed-preserved
loop-changed-preserved g c =
    let l = c.loop-changed in
    let root = c.root-walk.ensures in
    let swept = rw c.if-branch.true at c.in_ok-traverse.ensures.swept in
    let visited = rw (root.depth, root.direction, root.unicode) at c.in_ok-traverse.ensures.visited in
    let differs = less_differs (tree l.r.node) (tree c.traverse.new.node) swept.changed in
    record {
      flags = l.invariant.flags;
      passed = λ u b going rest. l.invariant.passed u b going (again visited differs rest);
      swept = search rules;
    }
