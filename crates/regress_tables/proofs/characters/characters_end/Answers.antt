use Rattle.std.proofs.Common.{◌≡◌, ◌-◌, ◌≤◌, ◌<◌, ◌∙◌, [], ◌∷◌, length, refl, sym, ap, subst, arith}
use Rattle.regress_leaves.specs.Leaves.{put}
use Rattle.regress_leaves.specs.Subject.{subject}
use Rattle.regress_leaves.proofs.lemmas.Leaves.{exactly-steps, iterations_none, iterations_some, iterations_all}
use Rattle.regress_program.specs.Cost.{bytes_ahead}
use Rattle.regress_program.proofs.lemmas.Ahead.{exactly_none}
use Rattle.regress_tree.specs.Matching.{steps}
use Rattle.regress_tree.specs.Reading.{direction_if}
use Rattle.regress_tree.specs.Repetition.{iterations}
use Rattle.regress_tree.specs.Steps.{MatchState, Matcher}
use Rattle.regress_tree.specs.Tree.{tree}
use Rattle.regress_tables.proofs.RunLemmas.{ahead-backwards, ahead-forwards, run-iterations}
use Rattle.regress_tables.proofs.characters.characters_end.Goals as goal

pub returns-then-count-bytes_ahead : goal.returns-then-count-bytes_ahead
returns-then-count-bytes_ahead c = λ s at.
    let u = subject c.args.rules c.args.text.now in
    let few : bytes_ahead u.direction (length u.bytes) s.position < c.args.count =
    subst (λ k. bytes_ahead u.direction (length u.bytes) k < c.args.count) (sym at)
    (omega (arith, c.bytes_ahead.ensures, c.if-count-bytes_ahead.true)) in
    exactly_none u.setting u.bytes u.direction (tree c.args.test.now.node) c.requires.one c.args.count s (omega (arith, at, c.requires.inside)) few

pub bytes_on-here-requires-clause-forwards : goal.bytes_on-here-requires-clause-forwards
bytes_on-here-requires-clause-forwards c = λ is.
    let text = c.args.text.now in
    let ahead : c.min-known.result ≤ bytes_ahead (direction_if c.args.rules.backwards) (length text) c.args.position =
    omega (arith, c.bytes_ahead.ensures, c.if-count-bytes_ahead.false, c.min-known.ensures) in
    omega (arith, ahead-forwards c.args.rules.backwards (length text) c.args.position c.min-known.result ahead c.requires.inside is)

pub bytes_on-here-requires-clause-backwards : goal.bytes_on-here-requires-clause-backwards
bytes_on-here-requires-clause-backwards c = λ is.
    let text = c.args.text.now in
    let ahead : c.min-known.result ≤ bytes_ahead (direction_if c.args.rules.backwards) (length text) c.args.position =
    omega (arith, c.bytes_ahead.ensures, c.if-count-bytes_ahead.false, c.min-known.ensures) in
    ahead-backwards c.args.rules.backwards (length text) c.args.position c.min-known.result ahead is

pub loop-i-init : goal.loop-i-init
loop-i-init c = λ s at.
    let u = subject c.args.rules c.args.text.now in
    let t = tree c.args.test.now.node in
    let n = c.min-known.result in
    ap (λ k. iterations (c.args.count - n) (steps u.setting u.bytes u.direction t) (record s { position = k })) c.bytes_on-here.ensures
    ∙ run-iterations u t c.args.run n c.args.count c.args.position s at c.requires.run (omega (arith, c.min-known.ensures)) (omega (arith, c.min-known.ensures))

pub returns-in_err-here : goal.returns-in_err-here
returns-in_err-here c = λ s at.
    let u = subject c.args.rules c.args.text.now in
    let t = tree c.args.test.now.node in
    let f : Matcher = steps u.setting u.bytes u.direction t in
    let here : MatchState = record s { position = c.loop-i.here } in
    let within : c.loop-i._i < c.args.count = omega (arith, c.loop-i-test.true, c.loop-i.auto._i-end) in
    let none : f here ≡ [] = c.character_end.ensures here refl ∙ ap (put here) c.in_err-here.was in
    rw c.from_residual.ensures
    (exactly-steps u.setting u.bytes u.direction c.args.count t s
    ∙ iterations_none f c.args.count c.loop-i._i c.loop-i.here s (c.loop-i.invariant s at) within none)

pub loop-i-preserved : goal.loop-i-preserved
loop-i-preserved c = λ s at.
    let u = subject c.args.rules c.args.text.now in
    let f : Matcher = steps u.setting u.bytes u.direction (tree c.args.test.now.node) in
    let here : MatchState = record s { position = c.loop-i.here } in
    let within : c.loop-i._i < c.args.count = omega (arith, c.loop-i-test.true, c.loop-i.auto._i-end) in
    let some : f here ≡ record s { position = c.in_ok-here.here } ∷ [] = c.character_end.ensures here refl ∙ ap (put here) c.in_ok-here.was in
    iterations_some f c.args.count c.loop-i._i c.loop-i.here s (c.loop-i.invariant s at) within c.in_ok-here.here some

pub returns : goal.returns
returns c = λ s at.
    let u = subject c.args.rules c.args.text.now in
    let t = tree c.args.test.now.node in
    let f : Matcher = steps u.setting u.bytes u.direction t in
    let past : c.args.count ≤ c.loop-i._i = omega (arith, c.loop-i-test.false, c.loop-i.auto._i-end) in
    exactly-steps u.setting u.bytes u.direction c.args.count t s
    ∙ iterations_all f c.args.count c.loop-i._i c.loop-i.here s (c.loop-i.invariant s at) past
