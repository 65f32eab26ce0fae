use Rattle.regress_encoding.proofs.DecodedLemmas.{decode-encode}
use Rattle.regress_encoding.proofs.encoding.encoding_determines_the_tree.Goals as goal

pub returns : goal.returns
returns c = decode-encode
