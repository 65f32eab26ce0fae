use Rattle.std.proofs.Common.{◌≡◌, subst, true}
use Rattle.regress_capi.specs.BoundResults.{IsNodeBound, bad, bounded}
use Rattle.regress_capi.proofs.bounds.write_node_bound.Goals as goal

pub returns-then-not-is_request : goal.returns-then-not-is_request
returns-then-not-is_request c = record {
  status = bad (λ asked. let yes : c.is_request.result ≡ true = c.is_request.ensures.1 asked in cc);
}

pub returns : goal.returns
returns c = record {
  status =
      bounded (c.is_request.ensures.0 (cc))
      (subst (λ flags. IsNodeBound flags c.args.pattern.now c.node_bound.result) c.front_flags.ensures
      (record { value = c.node_bound.ensures.value; nodes = c.node_bound.ensures.nodes }));
}
