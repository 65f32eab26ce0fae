use Rattle.std.proofs.Common.{◌≡◌, ◌-◌, ◌≤◌, ◌<◌, ◌∙◌, [], ◌∷◌, length, min, refl, sym, ap, ap₂, subst, arith}
use Rattle.regress_leaves.specs.Leaves.{put}
use Rattle.regress_leaves.specs.Subject.{subject}
use Rattle.regress_leaves.proofs.lemmas.Leaves.{exactly-steps, iterations_none, iterations_some, iterations_all}
use Rattle.regress_program.specs.Cost.{bytes_ahead}
use Rattle.regress_program.proofs.lemmas.Ahead.{exactly_none}
use Rattle.regress_program.proofs.lemmas.Blocks.{blocks_within}
use Rattle.regress_tree.specs.Matching.{steps}
use Rattle.regress_tree.specs.Repetition.{iterations}
use Rattle.regress_tree.specs.Steps.{MatchState, Matcher}
use Rattle.regress_tree.specs.Tree.{tree}
use Rattle.regress_backtrack.proofs.step.characters_end.Goals as goal

pub returns-then-count-bytes_ahead-clause-to : goal.returns-then-count-bytes_ahead-clause-to
returns-then-count-bytes_ahead-clause-to c = λ s at.
    let u = subject c.args.input.now.rules c.args.input.now.text.now in
    let few : bytes_ahead u.direction (length u.bytes) s.position < c.args.count =
    subst (λ k. bytes_ahead u.direction (length u.bytes) k < c.args.count) (sym at)
    (omega (arith, c.bytes_ahead.ensures, c.if-count-bytes_ahead.true)) in
    exactly_none u.setting u.bytes u.direction (tree c.args.test.now.node) c.requires.one c.args.count s (omega (arith, at, c.requires.inside)) few

pub loop-i-init : goal.loop-i-init
loop-i-init c =
    let u = subject c.args.input.now.rules c.args.input.now.text.now in
    let f : Matcher = steps u.setting u.bytes u.direction (tree c.args.test.now.node) in
    let number : c.args.count - 0 ≡ c.args.count = omega arith in
    record { so_far = λ s at. ap₂ (λ n k. iterations n f (record s { position = k })) number (sym at); same = refl }

pub returns-in_default-clause-to : goal.returns-in_default-clause-to
returns-in_default-clause-to c = λ s at.
    let u = subject c.args.input.now.rules c.args.input.now.text.now in
    let t = tree c.args.test.now.node in
    let f : Matcher = steps u.setting u.bytes u.direction t in
    let here : MatchState = record s { position = c.loop-i.end } in
    let within : c.loop-i.i < c.args.count = omega (arith, c.loop-i-test.true, c.loop-i.auto.i-end) in
    let none : f here ≡ [] = c.character_end.ensures here refl ∙ ap (put here) c.in_default.is in
    exactly-steps u.setting u.bytes u.direction c.args.count t s
    ∙ iterations_none f c.args.count c.loop-i.i c.loop-i.end s (c.loop-i.invariant.so_far s at) within none

pub returns-in_default-clause-remaining : goal.returns-in_default-clause-remaining
returns-in_default-clause-remaining c = omega (arith, c.loop-i.invariant.same, c.saturating_sub.ensures)

pub returns-in_default-clause-costs : goal.returns-in_default-clause-costs
returns-in_default-clause-costs c =
    let u = subject c.args.input.now.rules c.args.input.now.text.now in
    let ahead = bytes_ahead u.direction (length u.bytes) c.args.position in
    let within : c.loop-i.i ≤ min (c.args.count - 1) ahead =
    omega (arith, c.loop-i-test.true, c.loop-i.auto.i-end, c.bytes_ahead.ensures, c.if-count-bytes_ahead.false) in
    omega (
      arith,
      c.loop-i.invariant.same,
      c.saturating_sub.ensures,
      c.blocks-in_default.ensures,
      blocks_within c.loop-i.i (min (c.args.count - 1) ahead) within,
    )

pub loop-i-preserved : goal.loop-i-preserved
loop-i-preserved c =
    let u = subject c.args.input.now.rules c.args.input.now.text.now in
    let f : Matcher = steps u.setting u.bytes u.direction (tree c.args.test.now.node) in
    let within : c.loop-i.i < c.args.count = omega (arith, c.loop-i-test.true, c.loop-i.auto.i-end) in
    record {
      so_far = λ s at.
          let here : MatchState = record s { position = c.loop-i.end } in
          let some : f here ≡ record s { position = c.in-Some.to } ∷ [] = c.character_end.ensures here refl ∙ ap (put here) c.in-Some.is in
          iterations_some f c.args.count c.loop-i.i c.loop-i.end s (c.loop-i.invariant.so_far s at) within c.in-Some.to some;
      same = c.loop-i.invariant.same;
    }

pub returns-clause-to : goal.returns-clause-to
returns-clause-to c = λ s at.
    let u = subject c.args.input.now.rules c.args.input.now.text.now in
    let t = tree c.args.test.now.node in
    let f : Matcher = steps u.setting u.bytes u.direction t in
    let past : c.args.count ≤ c.loop-i.i = omega (arith, c.loop-i-test.false, c.loop-i.auto.i-end) in
    exactly-steps u.setting u.bytes u.direction c.args.count t s
    ∙ iterations_all f c.args.count c.loop-i.i c.loop-i.end s (c.loop-i.invariant.so_far s at) past

pub returns-clause-remaining : goal.returns-clause-remaining
returns-clause-remaining c = omega (arith, c.loop-i.invariant.same)

pub returns-clause-costs : goal.returns-clause-costs
returns-clause-costs c = omega (arith, c.loop-i.invariant.same)
