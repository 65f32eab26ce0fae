use Rattle.std.proofs.Common.{rules, arith}
use Rattle.std.proofs.lemmas.Grind.{common_steps}
use Rattle.regress_capi.proofs.DifferencesLemmas.{differences-given, differences-fault}
use Rattle.regress_capi.proofs.differing.write_differences.Goals as goal

pub returns-in-Ok : goal.returns-in-Ok
returns-in-Ok c = record {
  status =
      rw c.of_items.ensures
      (differences-given c.copy_to-fits.result c.in-Ok.items.items c.deref.result.now c.in-Ok.ensures.listed
      (first_of (search rules, grind (arith, common_steps))) c.deref.ensures.value c.copy_to-fits.ensures);
}

pub returns-in-Err : goal.returns-in-Err
returns-in-Err c = record {
  status = rw c.of_fault.ensures (differences-fault c.in-Err.fault c.in-Err.ensures.rejected);
}
