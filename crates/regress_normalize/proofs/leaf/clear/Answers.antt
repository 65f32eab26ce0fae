use Rattle.std.proofs.Common.{sym, ◌∙◌}
use Rattle.regress_tree.proofs.lemmas.Nodes.{tree-Empty}
use Rattle.regress_normalize.proofs.LeafLemmas.{Clears-empty}
use Rattle.regress_normalize.proofs.leaf.clear.Goals as goal

pub returns-then-has_no_byte-clause-clears : goal.returns-then-has_no_byte-clause-clears
returns-then-has_no_byte-clause-clears c =
    rw tree-Empty (Clears-empty _ c.requires.leaf (sym c.has_no_byte.ensures ∙ c.if-has_no_byte.true) c.requires.part)
