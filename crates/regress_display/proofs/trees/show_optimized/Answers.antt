use Rattle.regress_tree.specs.Tree.{tree}
use Rattle.regress_display.proofs.ShownLemmas.{shows_optimized}
use Rattle.regress_display.proofs.trees.show_optimized.Goals as goal

pub returns-clause-shown : goal.returns-clause-shown
returns-clause-shown g c =
    let contents = g.W.Write.contents in
    let optimized = c.in_ok-optimize.ensures in
    shows_optimized c.args.format c.args.regex.now.flags (tree c.args.regex.now.node) (tree c.optimize.new.r.node) c.write_tree.result
    (contents c.args.out.now) (contents c.write_tree.new.out)
    (record { normal = optimized.normal; meaning = optimized.meaning; captures = optimized.captures })
    (rw optimized.flags at c.write_tree.ensures.written)
