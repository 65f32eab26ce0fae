use Rattle.std.proofs.Common.{◌≡◌, ◌*◌, min, arith, ap₂}
use Rattle.regress_parse.specs.Bound.{positions, opens_name, is_reference, node_bound}
use Rattle.regress_parse.proofs.BoundLemmas.{bounded, bound-counted, bound-near, capped}
use Rattle.regress_parse.proofs.bound.node_bound.Goals as goal

pub returns : goal.returns
returns c =
    let sets = c.args.flags.unicode_sets in
    let counts = c.count-counts in
    let product : counts.result.named * counts.result.references ≡ positions opens_name c.args.pattern.now * positions is_reference c.args.pattern.now =
    ap₂ (λ a b. a * b) counts.ensures.named counts.ensures.references in
    let doubled : c.saturating_mul.result ≡ min (counts.result.named * 2) 18446744073709551615 = omega arith in
    let value : c.saturating_add.result ≡ min (node_bound sets c.args.pattern.now) 18446744073709551615 =
    omega (
      arith,
      product,
      bound-counted sets c.args.pattern.now,
      capped 18446744073709551615 counts.result.named counts.result.references c.saturating_mul.result doubled,
    ) in
    record {
      nodes = λ small dialect table p derived. omega (arith, value, small, bounded c.args.flags c.args.pattern.now dialect table p derived);
      value = value;
      near = omega (arith, value, bound-near sets c.args.pattern.now);
    }
