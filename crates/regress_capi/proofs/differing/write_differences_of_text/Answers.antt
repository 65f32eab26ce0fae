use Rattle.std.proofs.Common.{◌≡◌, subst, ◌∙◌, chars, true}
use Rattle.regress_capi.specs.DifferencesResults.{DifferencesResult, differences_out_of_memory, differences_bad}
use Rattle.regress_capi.specs.Request.{setting_by}
use Rattle.regress_capi.proofs.DifferencesLemmas.{differences-asked}
use Rattle.regress_capi.proofs.differing.write_differences_of_text.Goals as goal

pub returns-then-not-is_regress : goal.returns-then-not-is_regress
returns-then-not-is_regress c = record {
  status = rw c.bare.ensures (differences_bad (λ asked. let yes : c.is_regress.result ≡ true = c.is_regress.ensures.1 asked.1 in cc));
}

-- the differences are those of the code points of the bytes
pub returns-in-Ok-Some : goal.returns-in-Ok-Some
returns-in-Ok-Some c =
    let read = rw c.in-Ok-Some.field-0-is at c.in-Ok-Some.ensures.points in
    let same : c.deref.result.now ≡ chars c.args.pattern.now = c.deref.ensures.value ∙ read.1 in
    record {
      status =
          differences-asked (read.0, c.is_regress.ensures.0 (cc))
          (subst
          (λ source. DifferencesResult (Unit {0}) (setting_by c.args.bits) source c.args.buffer.now c.write_differences.result.status
          c.write_differences.result.needed c.write_differences.result.kind c.write_differences.result.position c.write_differences.new.buffer)
          same c.write_differences.ensures.status);
    }

pub returns-in-Ok-None : goal.returns-in-Ok-None
returns-in-Ok-None c = record {
  status = rw c.bare-in-Ok-None.ensures (differences_bad (λ asked. (rw c.in-Ok-None.field-0-is at c.in-Ok-None.ensures.points) asked.0));
}

pub returns-in-Err : goal.returns-in-Err
returns-in-Err c = record {
  status = rw c.bare-in-Err.ensures (differences_out_of_memory (c.in-Err.ensures.out_of_memory, c.is_regress.ensures.0 (cc)));
}
