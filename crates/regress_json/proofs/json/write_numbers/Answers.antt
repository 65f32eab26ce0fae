use Rattle.std.proofs.Common.{refl, arith}
use Rattle.std.specs.Fmt.{decimal}
use Rattle.regress_json.proofs.NumeralLemmas.{join-numerals}
use Rattle.regress_json.proofs.json.write_numbers.Goals as goal

pub returns : goal.returns
returns g c plain ok =
    rw (join-numerals c.args.values.now (λ i. omega (arith, c.type_inv.values i))) at (c.write_list.ensures decimal (λ n. refl) plain ok)
