-- The intervals that are left out have no code point from `low` on.
use Rattle.std.proofs.Common.{arith}
use Rattle.regress_unicode.proofs.ClosingLemmas.{slice_canonical, slice_within, slice_members}
use Rattle.regress_unicode.proofs.closure.skip_below.Goals as goal

pub returns-clause-canonical : goal.returns-clause-canonical
returns-clause-canonical c = slice_canonical c.args.intervals.now c.loop-position.position c.requires

pub returns-clause-within : goal.returns-clause-within
returns-clause-within c x = slice_within c.args.intervals.now c.loop-position.position x

pub returns-clause-members : goal.returns-clause-members
returns-clause-members c x le =
    slice_members c.args.intervals.now c.loop-position.position c.args.low x (λ j d lt. c.loop-position.invariant.below j d (omega arith) lt) le
