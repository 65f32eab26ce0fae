use Rattle.regress_display.specs.Request.{requested}
use Rattle.regress_display.proofs.ShownLemmas.{leaves_output, shows_output}
use Rattle.regress_display.proofs.trees.show.Goals as goal

pub returns-clause-shown : goal.returns-clause-shown
returns-clause-shown g c =
    let contents = g.W.Write.contents in
    shows_output (requested c.args.request.now) c.in_ok-parsed.parsed (contents c.args.out.now) (contents c.show_trees.new.out)
    (rw (c.deref.ensures.value, c.in_ok-points.ensures.characters) at c.in_ok-parsed.ensures.parsed) c.show_trees.result
    (rw (c.deref-3.ensures.value, c.in_ok-parsed.ensures.flags) at c.show_trees.ensures.shown)

pub returns-clause-leaves : goal.returns-clause-leaves
returns-clause-leaves g c =
    let contents = g.W.Write.contents in
    leaves_output (requested c.args.request.now) c.in_ok-parsed.parsed (contents c.args.out.now) (contents c.show_trees.new.out)
    (rw (c.deref.ensures.value, c.in_ok-points.ensures.characters) at c.in_ok-parsed.ensures.parsed) _ c.show_trees.result
    (rw (c.deref-3.ensures.value, c.in_ok-parsed.ensures.flags) at c.show_trees.ensures.leaves)
