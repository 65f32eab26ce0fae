use Rattle.std.proofs.Common.{◌∙◌, subst, sym}
use Rattle.std.specs.Prelude.{IfSome}
use Rattle.regress_tree.specs.Steps.{◌then_◌}
use Rattle.regress_prefilter.specs.Required.{Needs}
use Rattle.regress_prefilter.proofs.FirstSetLemmas.{if-some}
use Rattle.regress_prefilter.proofs.NearLemmas.{IsOff, reach_then}
use Rattle.regress_prefilter.proofs.RequiredLemmas.{needs_first}
use Rattle.regress_prefilter.proofs.near.Reach.then.Goals.{in-Some, in-None}
use Rattle.regress_prefilter.proofs.near.Reach.then.Goals as goal

pub returns : goal.returns
returns c = λ bytes f g first second.
    let a = c.args.self in
    let b = c.args.next in
    let near : IfSome c.match-self.near (λ near. Needs (IsOff near bytes) (f then_ g)) = elim c.match-self.branch [
      | in-Some w ↦ subst (λ o. IfSome o (λ near. Needs (IsOff near bytes) (f then_ g))) (w.in-Some.is ∙ sym w.near-is)
          (if-some a.near (λ near needs. needs_first (IsOff near bytes) f g needs) first.near)
      | in-None w ↦ subst (λ o. IfSome o (λ near. Needs (IsOff near bytes) (f then_ g))) (sym w.near-is)
          (if-some w.near_after-near.result (λ near needs. needs bytes f g first.onward first.width second.near) w.near_after-near.ensures)
    ] in
    reach_then a b _ bytes f g first second
    (if-some c.width_of_both.result (λ n h. h f g first.width second.width) c.width_of_both.ensures) near
