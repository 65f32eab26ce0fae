use Rattle.std.proofs.Common.{rules, arith}
use Rattle.std.proofs.lemmas.Grind.{common_steps}
use Rattle.regress_capi.proofs.SpannedLemmas.{spanned-given, spanned-fault}
use Rattle.regress_capi.proofs.spanning.write_spanned.Goals as goal

pub returns-in-Ok : goal.returns-in-Ok
returns-in-Ok c = record {
  status =
      rw c.of_items.ensures
      (spanned-given c.copy_both-fit.result c.in-Ok.found.words.items c.in-Ok.found.spans.items tt c.in-Ok.ensures.words
      (first_of (search rules, grind (arith, common_steps))) (first_of (search rules, grind (arith, common_steps)))
      c.copy_both-fit.ensures);
}

pub returns-in-Err : goal.returns-in-Err
returns-in-Err c = record {
  status = rw c.of_fault.ensures (spanned-fault c.in-Err.fault tt c.in-Err.ensures.rejected);
}
