use Rattle.regress_leaves.proofs.lemmas.Starts.{tree_begins}
use Rattle.regress_leaves.proofs.start.folded_bytes.Goals as goal

pub returns : goal.returns
returns c = tree_begins c.variants.result c.in_ok-folded_first.field-0 _ c.in_ok-folded_first.ensures c.variants.ensures
