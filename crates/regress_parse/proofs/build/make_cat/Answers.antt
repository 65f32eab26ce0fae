use Rattle.std.proofs.Common.{◌<◌, length, ap, ◌∙◌, arith}
use Rattle.regress_tree.specs.Reading.{direction_if}
use Rattle.regress_tree.specs.Tree.{cat}
use Rattle.regress_tree.proofs.lemmas.Nodes.{tree-Cat}
use Rattle.regress_parse.proofs.BuildLemmas.{joined-many}
use Rattle.regress_parse.proofs.build.make_cat.Goals as goal

pub returns-then-len-gt1 : goal.returns-then-len-gt1
returns-then-len-gt1 c =
    let many : 1 < length c.args.parts.items = omega arith in
    tree-Cat c.reverse_if_backwards.new.parts ∙ ap cat c.reverse_if_backwards.ensures ∙ joined-many (direction_if c.args.backwards) c.args.parts.items many
