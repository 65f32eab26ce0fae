use Rattle.std.proofs.Common.{arith}
use Rattle.std.specs.Prelude.{Ok}
use Rattle.regress_tree.specs.Tree.{tree}
use Rattle.regress_match.proofs.MatcherLemmas.{result_means}
use Rattle.regress_match.proofs.compiling.compiled.Goals as goal

pub returns-clause-means : goal.returns-clause-means
returns-clause-means c =
    let made = c.in_ok-code.ensures in
    result_means (tree c.args.regex.now.node) c.args.regex.now.flags _ (Ok c.in_ok-code.code) made.pattern made.flags made.groups
    (omega (arith, c.groups.ensures, made.groups, c.if-groups.false))
