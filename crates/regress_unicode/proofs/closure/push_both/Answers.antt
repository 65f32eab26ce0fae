-- Either the interval of both is appended, or one after the other.
use Rattle.std.proofs.Common.{◌||◌, ◌∙◌, ap}
use Rattle.regress_base.specs.Intervals.{is_member}
use Rattle.regress_unicode.proofs.ClosingLemmas.{pushed, pushed_both}
use Rattle.regress_unicode.proofs.closure.push_both.Goals as goal

pub returns-in_ok-push-in-Some : goal.returns-in_ok-push-in-Some
returns-in_ok-push-in-Some c x =
    pushed _ _ _ x c.in_ok-push-in-Some.ensures.items ∙ ap (λ b. is_member c.args.found.now.items x || b) (c.in-Some.ensures x)

pub returns-in_ok-push-in-None-2 : goal.returns-in_ok-push-in-None-2
returns-in_ok-push-in-None-2 c x = pushed_both _ _ _ _ _ x c.in_ok-push-in-None.ensures.items c.in_ok-push-in-None-2.ensures.items
