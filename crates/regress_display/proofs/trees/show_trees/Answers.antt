-- Both trees in order.
use Rattle.regress_tree.specs.Tree.{tree}
use Rattle.regress_display.proofs.ShownLemmas.{shows_both}
use Rattle.regress_display.proofs.trees.show_trees.Goals as goal

pub returns-in_ok-write_tree-in-Both-clause-shown : goal.returns-in_ok-write_tree-in-Both-clause-shown
returns-in_ok-write_tree-in-Both-clause-shown g c =
    let contents = g.W.Write.contents in
    let regex = c.args.regex.now in
    rw c.in-Both.is
    (shows_both c.args.written.now.format regex.flags (tree regex.node) c.args.written.now.spans.now c.show_optimized-in-Both.result
    (contents c.args.out.now) (contents c.write_tree-in-Both.new.out) (contents c.show_optimized-in-Both.new.out)
    c.in_ok-write_tree-in-Both.ensures.written c.show_optimized-in-Both.ensures.shown)
