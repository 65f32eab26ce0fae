use Rattle.std.proofs.Common.{refl, arith}
use Rattle.regress_tree.proofs.lemmas.NodeLists.{is_short-from_len}
use Rattle.regress_rewrite.proofs.remove_empties.collapse.Goals as goal

pub returns-then-len-gt1-clause-none : goal.returns-then-len-gt1-clause-none
returns-then-len-gt1-clause-none c same =
    let parts = c.args.parts.now in
    (refl, is_short-from_len parts.items (omega (arith, parts.ok.0, c.len.ensures, c.if-len-gt1.true)))
