use Rattle.std.proofs.Common.{◌+◌, ◌≡◌, suc, subst, arith}
use Rattle.regress_leaves.specs.Starts.{AreIn}
use Rattle.regress_backtrack.proofs.PossessiveLemmas.{iterations_fail}
use Rattle.regress_backtrack.proofs.sweep.points_kept.Goals as goal

pub returns-then-is_possessive-clause-fails : goal.returns-then-is_possessive-clause-fails
returns-then-is_possessive-clause-fails c =
    let input = c.args.input.now in
    let first = c.args.first in
    let set = c.args.swept.set.now in
    let number : c.args.more + 1 ≡ suc c.args.more = omega arith in
    iterations_fail input c.requires.input c.args.looping set c.args.swept.repeat_pc c.requires.swept (c.is_possessive.ensures c.if-is_possessive.true) first c.args.more
    c.requires.follows (subst (AreIn set input.text.now first.position) number c.requires.are_in)
