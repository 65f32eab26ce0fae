-- The source is appended too where it is next to its target.
use Rattle.std.proofs.lemmas.Result.{on_ok_weaker}
use Rattle.regress_unicode.proofs.ClosingLemmas.{target_after, target_before, target_alone}
use Rattle.regress_unicode.proofs.closure.push_target.Goals as goal

pub returns-then-source-target : goal.returns-then-source-target
returns-then-source-target c =
    on_ok_weaker c.push_joined.result
    (λ added x. target_after _ _ c.new.result c.args.source c.args.target x c.if-source-target.true c.new.ensures (added x)) c.push_joined.ensures

pub returns-then-target-source : goal.returns-then-target-source
returns-then-target-source c =
    on_ok_weaker c.push_joined-then-target-source.result
    (λ added x. target_before _ _ c.new-then-target-source.result c.args.source c.args.target x c.if-target-source.true
    c.new-then-target-source.ensures (added x)) c.push_joined-then-target-source.ensures

pub returns-in_ok-push : goal.returns-in_ok-push
returns-in_ok-push c x = target_alone _ _ _ _ _ x c.in_ok-push.ensures.items c.new-else-target-source.ensures
