use Rattle.regress_tree.specs.Tree.{tree}
use Rattle.regress_prefilter.proofs.CandidateLemmas.{are_candidates}
use Rattle.regress_prefilter.proofs.candidates.candidates_of.Goals as goal

pub returns : goal.returns
returns c = are_candidates _ (tree c.args.node.now) c.first_bytes_of.ensures c.near_byte.ensures
