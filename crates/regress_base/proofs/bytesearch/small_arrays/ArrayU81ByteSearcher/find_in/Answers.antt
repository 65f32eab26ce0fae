use Rattle.std.proofs.Common.{◌≡◌, eqb, get_or, sym, ◌∙◌, rules}
use Rattle.regress_base.specs.ByteSets.{bytes_of}
use Rattle.regress_base.proofs.FindLemmas.{bytes_of-one}
use Rattle.regress_base.proofs.bytesearch.small_arrays.ArrayU81ByteSearcher.find_in.Goals as goal

pub returns : goal.returns
returns c =
    c.find_byte.ensures (bytes_of c.args.self.now) (λ b r byte says.
    let is : r ≡ eqb b (get_or c.args.self.now 0 0) = search rules in
    is ∙ sym (bytes_of-one c.args.self.now b c.told-self byte))
