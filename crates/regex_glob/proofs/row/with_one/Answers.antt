use Rattle.std.proofs.Common.{◌≡◌, ◌∙◌, ◌∷◌, ◌&&◌, ◌-◌, ◌+◌, ap, arith, get_or, subst}
use Rattle.regex_glob.specs.Glob.{characters}
use Rattle.regex_glob.proofs.RowLemmas.{one_step}
use Rattle.regex_glob.proofs.row.with_one.Goals as goal

pub loop-index-preserved : goal.loop-index-preserved
loop-index-preserved c =
    let row = c.args.row.now.items in
    let i = c.loop-index.index in
    let x = c.index.result.now in
    one_step c.args.text.now row c.requires (characters c.args.set.now) c.loop-index.next.items i x c.loop-index-test.true
    (subst (λ j. x ≡ get_or row j x) (let same : i - 1 + 1 ≡ i = omega (arith, c.loop-index-test.true) in same) c.index.ensures)
    c.loop-index.invariant c.push_front-in-loop-index.new.self.items
    (c.in_ok-push_front-2.ensures.items ∙ ap (λ has. (has && x) ∷ c.loop-index.next.items) c.has-has.ensures)
