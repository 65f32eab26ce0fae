use Rattle.std.proofs.Common.{◌≡◌, ◌≤◌, ◌<◌, ◌∙◌, [], ◌∷◌, refl, ap, arith}
use Rattle.regress_tree.specs.Matching.{steps}
use Rattle.regress_tree.specs.Repetition.{iterations}
use Rattle.regress_tree.specs.Steps.{MatchState, Matcher}
use Rattle.regress_tree.specs.Tree.{tree}
use Rattle.regress_leaves.specs.Leaves.{put}
use Rattle.regress_leaves.specs.Subject.{subject}
use Rattle.regress_leaves.proofs.lemmas.Leaves.{counted-steps, iterations_none, iterations_some, iterations_all, simple_if_one}
use Rattle.regress_leaves.proofs.leaves.exactly.Goals as goal

pub returns-in_err-here : goal.returns-in_err-here
returns-in_err-here c = λ takes q least most s at.
    let u = subject c.args.rules c.args.text.now in
    let f : Matcher = steps u.setting u.bytes u.direction (tree c.args.node.now) in
    let here : MatchState = record s { position = c.loop-i.here } in
    let within : c.loop-i._i < c.args.count = omega (arith, c.loop-i-test.true, c.loop-i.auto._i-end) in
    let none : f here ≡ [] = c.simple_leaf.ensures (simple_if_one _ takes) here refl ∙ ap (put here) c.in_err-here.was in
    rw c.from_residual.ensures
    (counted-steps u.setting u.bytes u.direction q (tree c.args.node.now) s most ∙ ap (λ n. iterations n f s) least
    ∙ iterations_none f c.args.count c.loop-i._i c.loop-i.here s (c.loop-i.invariant takes s at) within none)

pub loop-i-preserved : goal.loop-i-preserved
loop-i-preserved c = λ takes s at.
    let u = subject c.args.rules c.args.text.now in
    let f : Matcher = steps u.setting u.bytes u.direction (tree c.args.node.now) in
    let here : MatchState = record s { position = c.loop-i.here } in
    let within : c.loop-i._i < c.args.count = omega (arith, c.loop-i-test.true, c.loop-i.auto._i-end) in
    let some : f here ≡ record s { position = c.in_ok-here.here } ∷ [] =
    c.simple_leaf.ensures (simple_if_one _ takes) here refl ∙ ap (put here) c.in_ok-here.was in
    iterations_some f c.args.count c.loop-i._i c.loop-i.here s (c.loop-i.invariant takes s at) within c.in_ok-here.here some

pub returns : goal.returns
returns c = λ takes q least most s at.
    let u = subject c.args.rules c.args.text.now in
    let f : Matcher = steps u.setting u.bytes u.direction (tree c.args.node.now) in
    let past : c.args.count ≤ c.loop-i._i = omega (arith, c.loop-i-test.false, c.loop-i.auto._i-end) in
    counted-steps u.setting u.bytes u.direction q (tree c.args.node.now) s most ∙ ap (λ n. iterations n f s) least
    ∙ iterations_all f c.args.count c.loop-i._i c.loop-i.here s (c.loop-i.invariant takes s at) past
