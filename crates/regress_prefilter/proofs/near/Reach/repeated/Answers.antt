use Rattle.regress_prefilter.proofs.FirstSetLemmas.{if-some}
use Rattle.regress_prefilter.proofs.NearLemmas.{IsOff, reach_repeat}
use Rattle.regress_prefilter.proofs.RequiredLemmas.{needs_repeat}
use Rattle.regress_prefilter.proofs.near.Reach.repeated.Goals as goal

pub returns-then-quant-gt0 : goal.returns-then-quant-gt0
returns-then-quant-gt0 c = λ bytes f bound start end body.
    reach_repeat c.args.self _ bytes f c.args.quant bound start end body
    (if-some c.width_of_iterations.result (λ n h. h f bound start end body.width) c.width_of_iterations.ensures)
    (if-some c.args.self.near (λ near needs. needs_repeat (IsOff near bytes) bound c.args.quant start end f c.if-quant-gt0.true needs) body.near)

pub returns-else-quant-gt0 : goal.returns-else-quant-gt0
returns-else-quant-gt0 c = λ bytes f bound start end body.
    reach_repeat c.args.self _ bytes f c.args.quant bound start end body
    (if-some c.width_of_iterations.result (λ n h. h f bound start end body.width) c.width_of_iterations.ensures) tt
