use Rattle.std.proofs.Common.{◌≡◌, ℕ, ◌+◌, ◌<◌, ◌≤◌, [], ◌∷◌, length, min, arith}
use Rattle.regress_lexer.specs.Source.{Source}
use Rattle.regress_parse.specs.Bound.{total, nodes_at}
use Rattle.regress_parse.proofs.bound.count.Goals as goal

-- At the end of the source the sum is complete.
all_summed : (count : Source → ℕ) (rest : Source) (nodes whole most : ℕ) → length rest < 1 → nodes ≤ most →
    min (nodes + total count rest) most ≡ min whole most → nodes ≡ min whole most
all_summed count [] nodes whole most none fits sum = omega arith
all_summed count (c ∷ t) nodes whole most none fits sum = absurd (omega arith)

pub returns-clause-nodes : goal.returns-clause-nodes
returns-clause-nodes c =
    all_summed (nodes_at c.args.sets 0) c.loop-rest.rest.now c.loop-rest.nodes
    (3 + total (nodes_at c.args.sets 0) c.args.pattern.now) 18446744073709551615 (omega arith) c.loop-rest.invariant.fits
    c.loop-rest.invariant.sum
