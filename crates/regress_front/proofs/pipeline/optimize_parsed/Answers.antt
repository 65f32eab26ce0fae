use Rattle.regress_front.proofs.pipeline.optimize_parsed.Goals as goal

pub returns-in-Ok : goal.returns-in-Ok
returns-in-Ok g c = rw c.in-Ok.is (record {
  meaning = c.optimize-optimized.ensures.meaning;
  well_formed = c.optimize-optimized.ensures.well_formed;
  captures = c.optimize-optimized.ensures.captures;
  account = c.optimize-optimized.ensures.account;
  units = c.optimize-optimized.ensures.units;
  flags = c.optimize-optimized.ensures.flags;
  goal = c.optimize-optimized.ensures.goal;
  normal = c.optimize-optimized.ensures.normal;
  left = c.optimize-optimized.ensures.left;
})
