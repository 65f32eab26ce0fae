use Rattle.regress_tree.proofs.TextLemmas.{reports-utf8}
use Rattle.regress_tree.proofs.ir.well_formed.is_encoded.Goals as goal

pub returns : goal.returns
returns c = reports-utf8 _ _ c.from_utf8.result c.is_ok.result c.args.bytes.now c.from_utf8.ensures.cases c.is_ok.ensures.value
