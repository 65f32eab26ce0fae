use Rattle.std.proofs.Common.{ap, ◌∙◌}
use Rattle.regress_tree.specs.Tree.{trees}
use Rattle.regress_tree.proofs.lemmas.Reversed.{trees-reversed}
use Rattle.regress_parse.proofs.build.reverse_if_backwards.Goals as goal

pub returns-then-backwards : goal.returns-then-backwards
returns-then-backwards c = rw c.if-backwards.true (ap trees c.reverse.ensures.items ∙ trees-reversed c.args.parts.now.items)
