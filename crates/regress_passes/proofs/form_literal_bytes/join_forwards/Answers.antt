-- Each pair is joined, or is no pair of neighbours with bytes.
use Rattle.std.proofs.Common.{◌+◌, ◌-◌, Bool, List, map, arith, sym, ap, subst, ◌∙◌}
use Rattle.std.proofs.lemmas.List.{length-map}
use Rattle.regress_tree.specs.declared.ir.node.Node.{Node}
use Rattle.regress_tree.specs.Reading.{forwards}
use Rattle.regress_tree.specs.Tree.{Tree, list, tree}
use Rattle.regress_passes.specs.Joined.{JoinsSome}
use Rattle.regress_passes.proofs.NeighbourLemmas.{ForwardSoFar, forward_skip, forward_join, forward_end, have_bytes}
use Rattle.regress_passes.proofs.form_literal_bytes.join_forwards.Goals as goal
use Rattle.regress_passes.proofs.form_literal_bytes.join_forwards.Goals.{then-have_bytes+in_default, else-have_bytes}

pub loop-later-preserved : goal.loop-later-preserved
loop-later-preserved c =
    let l = c.loop-later in
    let i = l.later in
    let old = map tree c.args.parts.now in
    let now = map tree l.parts in
    elim c.if-have_bytes.branch [
      | then-have_bytes+in_default w ↦
          let have = have_bytes l.parts (i - 1) i (omega (arith, l.auto.later)) (omega (arith, c.loop-later-test.true, l.auto.parts))
          (sym c.have_bytes.ensures ∙ w.if-have_bytes.true) in
          let joined = forward_join i old now l.joined l.auto.later have l.invariant in
          let is = ap (map tree) w.parts-is ∙ w.in_default.ensures.ok in
          subst (λ (b : Bool). ForwardSoFar b (i + 1) old (map tree c.if-have_bytes.parts)) (sym w.joined-is)
          (subst (λ (ts : List Tree). JoinsSome forwards (list old) (list ts)) (sym is) joined)
      | else-have_bytes w ↦
          let skipped = forward_skip i old now l.joined l.auto.later (omega (arith, c.loop-later-test.true, l.auto.parts, length-map l.parts tree))
          (sym c.have_bytes.ensures ∙ w.if-have_bytes.false) l.invariant in
          subst (λ (b : Bool). ForwardSoFar b (i + 1) old (map tree c.if-have_bytes.parts)) (sym w.joined-is)
          (subst (λ (nodes : List Node). ForwardSoFar l.joined (i + 1) old (map tree nodes)) (sym w.parts-is) skipped)
    ]

pub returns-clause-joins : goal.returns-clause-joins
returns-clause-joins c =
    let l = c.loop-later in
    forward_end l.later (map tree c.args.parts.now) (map tree l.parts) l.joined l.auto.later
    (omega (arith, c.loop-later-test.false, l.auto.parts, length-map l.parts tree)) l.invariant
