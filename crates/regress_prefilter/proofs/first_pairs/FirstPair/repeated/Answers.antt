use Rattle.std.proofs.Common.{◌==◌, ◌||◌, ◌&&◌, subst}
use Rattle.std.specs.Prelude.{nat_lt}
use Rattle.regress_base.specs.ByteBitmap.{contains}
use Rattle.regress_prefilter.specs.FirstPairs.{AllBegin, is_second}
use Rattle.regress_prefilter.proofs.FirstPairLemmas.{pair_repeat}
use Rattle.regress_tree.specs.Repetition.{repeat_matcher}
use Rattle.regress_prefilter.proofs.first_pairs.FirstPair.repeated.Goals as goal

pub returns : goal.returns
returns c = λ bytes f q bound start end least first.
    let a = c.args.self in
    subst (λ n. AllBegin (contains a.first) (is_second (contains c.union_if.result)) (a.empty || (n == 0)) (a.single && (a.empty || nat_lt n 2)) bytes
    (repeat_matcher bound q start end f)) least
    (pair_repeat a (contains c.union_if.result) bytes f q bound start end c.union_if.ensures first)
