use Rattle.std.proofs.Common.{◌≡◌, ◌+◌, take, sum_by}
use Rattle.regress_base.specs.Limits.{max_char_set_length}
use Rattle.regress_rewrite.proofs.SimplifyLemmas.{size}
use Rattle.regress_rewrite.proofs.simplify_brackets.is_small.Given as goal

abbrev pub invariant-loop-iv : goal.invariant-loop-iv
invariant-loop-iv l = sum_by size (take l.iv-index l.intervals) + l.room ≡ max_char_set_length
