-- The list is the complement.
use Rattle.std.proofs.Common.{◌≡◌, ◌-◌, ◌++◌, [], ◌∷◌, ◌∙◌, ap, arith, rules}
use Rattle.regress_base.proofs.GapsLemmas.{gaps_from, gaps_step_gap, gaps_step_none, gaps_end, gaps_full, complement_from}
use Rattle.regress_base.proofs.codepointset.invert.gaps.Goals as goal
use Rattle.regress_base.proofs.codepointset.invert.gaps.Goals.{then-start-first+in_ok-push, else-start-first, then-start-le-CODE_POINT_MAX+in_ok-push-2, else-start-le-CODE_POINT_MAX}

pub loop-iv-preserved : goal.loop-iv-preserved
loop-iv-preserved c =
    elim c.if-start-first.branch [
      | then-start-first+in_ok-push w ↦ gaps_step_gap c.loop-iv.start c.loop-iv.iv-index c.last-start.result c.iv-item.result
          c.args.ivs.now c.loop-iv-test.true c.iv-item.is c.last-start.ensures.value _ _ _ c.loop-iv.invariant (omega arith)
          (ap (λ v. v.items) w.gaps-is ∙ w.in_ok-push.ensures.items ∙ ap (λ b. c.loop-iv.gaps.items ++ b ∷ []) w.new.ensures
          ∙ ap (λ n. c.loop-iv.gaps.items ++ record { first = c.loop-iv.start; last = n - 1 } ∷ []) w.first-then-start-first.ensures.value)
      | else-start-first w ↦ gaps_step_none c.loop-iv.start c.loop-iv.iv-index c.last-start.result c.iv-item.result c.args.ivs.now
          c.loop-iv-test.true c.iv-item.is c.last-start.ensures.value _ _ _ c.loop-iv.invariant (omega arith) (ap (λ v. v.items) w.gaps-is)
    ]

made : (c : goal.Joined-start-le-CODE_POINT_MAX) → c.if-start-le-CODE_POINT_MAX.gaps.items ≡ gaps_from 0 c.args.ivs.now
made c =
    elim c.if-start-le-CODE_POINT_MAX.branch [
      | then-start-le-CODE_POINT_MAX+in_ok-push-2 w ↦ gaps_end c.loop-iv.gaps.items _ c.loop-iv.start c.loop-iv.iv-index c.args.ivs.now
          (search rules) c.loop-iv.invariant (search rules)
          (ap (λ v. v.items) w.gaps-is ∙ w.in_ok-push-2.ensures.items
          ∙ ap (λ b. c.loop-iv.gaps.items ++ b ∷ []) w.new-then-start-le-CODE_POINT_MAX.ensures)
      | else-start-le-CODE_POINT_MAX w ↦ gaps_full c.loop-iv.gaps.items _ c.loop-iv.start c.loop-iv.iv-index c.args.ivs.now (search rules)
          c.loop-iv.invariant (search rules) (ap (λ v. v.items) w.gaps-is)
    ]

pub returns-clause-members : goal.returns-clause-members
returns-clause-members c = (complement_from c.args.ivs.now _ c.requires (made c)).1

pub returns-clause-canonical : goal.returns-clause-canonical
returns-clause-canonical c = (complement_from c.args.ivs.now _ c.requires (made c)).0
