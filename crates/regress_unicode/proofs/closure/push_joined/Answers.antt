-- The last interval is put back with the new one.
use Rattle.std.proofs.lemmas.Result.{on_ok_weaker}
use Rattle.regress_unicode.proofs.ClosingLemmas.{put_back, put_first}
use Rattle.regress_unicode.proofs.closure.push_joined.Goals as goal

pub returns-in-Some : goal.returns-in-Some
returns-in-Some c =
    on_ok_weaker c.push_both.result (λ added x. put_back _ _ _ c.in-Some.last c.args.interval x c.in-Some.ensures.items (added x)) c.push_both.ensures

pub returns-in_ok-push-in-None : goal.returns-in_ok-push-in-None
returns-in_ok-push-in-None c x = put_first _ _ _ _ x c.in-None.ensures.items c.in_ok-push-in-None.ensures.items
