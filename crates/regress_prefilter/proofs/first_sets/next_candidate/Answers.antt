use Rattle.std.proofs.Common.{arith, ◌≡◌, ◌-◌, length, take, drop}
use Rattle.std.proofs.lemmas.List.{length-drop, take_all}
use Rattle.regress_base.specs.ByteBitmap.{contains}
use Rattle.regress_prefilter.proofs.FirstSetLemmas.{none_in, found_in}
use Rattle.regress_prefilter.proofs.first_sets.next_candidate.Goals as goal

pub returns-in_err-ahead : goal.returns-in_err-ahead
returns-in_err-ahead c =
    let bytes = c.args.bytes.now in
    let from = c.args.from in
    let whole : take (length bytes - from) (drop from bytes) ≡ drop from bytes =
    take_all (length bytes - from) (drop from bytes) (omega (arith, length-drop from bytes)) in
    rw c.from_residual.ensures (none_in (contains c.args.set.now) bytes _ from whole (rw c.in_err-ahead.was at c.find_in.ensures))

pub returns : goal.returns
returns c =
    let bytes = c.args.bytes.now in
    let from = c.args.from in
    let whole : take (length bytes - from) (drop from bytes) ≡ drop from bytes =
    take_all (length bytes - from) (drop from bytes) (omega (arith, length-drop from bytes)) in
    found_in (contains c.args.set.now) bytes _ from _ c.in_ok-ahead.ahead whole (rw c.in_ok-ahead.was at c.find_in.ensures)
