use Rattle.std.proofs.Common.{arith, ◌≡◌, ◌-◌, length, take, drop}
use Rattle.std.proofs.lemmas.List.{length-drop, take_all}
use Rattle.regress_prefilter.proofs.NearLemmas.{next_is_nearby, none_nearby}
use Rattle.regress_prefilter.proofs.near.next_nearby.Goals as goal

pub returns-in_err-ahead-clause-next : goal.returns-in_err-ahead-clause-next
returns-in_err-ahead-clause-next c =
    let bytes = c.args.bytes.now in
    let start = c.saturating_sub-start.result in
    let whole : take (length bytes - start) (drop start bytes) ≡ drop start bytes = take_all (length bytes - start) (drop start bytes) (omega (arith, length-drop start bytes)) in
    rw c.from_residual.ensures (none_nearby c.args.near.now bytes c.args.from start c.saturating_sub-start.ensures
    (rw whole at (rw c.in_err-ahead.was at c.memchr.ensures)))

pub returns-clause-next : goal.returns-clause-next
returns-clause-next c =
    let bytes = c.args.bytes.now in
    let start = c.saturating_sub-start.result in
    let whole : take (length bytes - start) (drop start bytes) ≡ drop start bytes = take_all (length bytes - start) (drop start bytes) (omega (arith, length-drop start bytes)) in
    rw (c.max.ensures, c.saturating_sub.ensures) (next_is_nearby c.args.near.now bytes c.args.from start c.saturating_sub-start.ensures c.in_ok-ahead.ahead
    (rw whole at (rw c.in_ok-ahead.was at c.memchr.ensures)))
