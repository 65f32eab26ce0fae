use Rattle.std.proofs.Common.{arith}
use Rattle.regress_prefilter.proofs.CandidateLemmas.{none_before}
use Rattle.regress_prefilter.proofs.candidates.next_near.Goals as goal

pub loop-position-init : goal.loop-position-init
loop-position-init c =
    let same = c.as_bytes-bytes.ensures.value in
    let p = c.in_ok-position.ensures in
    let next = rw same at c.in_ok-nearby.ensures.next in
    let within = rw same at c.in_ok-nearby.ensures.within in
    record {
      low = p.next.0;
      high = p.within.1;
      begins = p.next.1;
      reaches = next.0;
      inside = within p.within.1;
      near = next.1;
      none = λ k low high is. p.next.2 k low high is.first;
      far = next.2;
    }

pub loop-position-preserved : goal.loop-position-preserved
loop-position-preserved c =
    let same = c.as_bytes-bytes.ensures.value in
    let i = c.loop-position.invariant in
    let p = c.in_ok-position-2.ensures in
    let next = rw same at c.in_ok-nearby-2.ensures.next in
    let within = rw same at c.in_ok-nearby-2.ensures.within in
    record {
      low = omega (arith, i.low, i.reaches, p.next.0);
      high = p.within.1;
      begins = p.next.1;
      reaches = next.0;
      inside = within p.within.1;
      near = next.1;
      none = none_before c.args.candidates.now c.args.near.now c.requires.near c.args.text.now c.args.from c.loop-position.position c.loop-position.nearby
          c.in_ok-position-2.position i.none i.far p.next.2;
      far = next.2;
    }
