use Rattle.std.proofs.Common.{◌≡◌, ◌≤◌, subst, ◌∙◌, chars}
use Rattle.std.specs.List.{All}
use Rattle.regress_base.specs.Intervals.{code_point_max}
use Rattle.regress_capi.specs.Request.{front_dialect, front_setting, IsRequest}
use Rattle.regress_capi.specs.ErrorResults.{ErrorResult, out_of_memory, bad}
use Rattle.regress_capi.proofs.ResultLemmas.{fault-asked}
use Rattle.regress_capi.proofs.results.write_error_of_text.Goals as goal

-- the request is for the code points of the bytes
pub returns-in-Ok-Some : goal.returns-in-Ok-Some
returns-in-Ok-Some c =
    let read = rw c.in-Ok-Some.field-0-is at c.in-Ok-Some.ensures.points in
    let same : c.deref.result.now ≡ chars c.args.pattern.now = c.deref.ensures.value ∙ read.1 in
    let status = subst (λ source. ErrorResult (IsRequest source c.args.bits 0) (front_dialect c.args.bits) (front_setting c.args.bits) source c.args.text.now c.write_error.result.status
    c.write_error.result.needed c.write_error.result.kind c.write_error.result.position c.write_error.new.text) same c.write_error.ensures.status in
    let points : All (λ c. c ≤ code_point_max) (chars c.args.pattern.now) = subst (All (λ c. c ≤ code_point_max)) read.1 read.2 in
    record { status = fault-asked (λ asked. read.0) (λ asked. (points, asked.1)) status }

pub returns-in-Ok-None : goal.returns-in-Ok-None
returns-in-Ok-None c = record { status = rw c.bare.ensures (bad (rw c.in-Ok-None.field-0-is at c.in-Ok-None.ensures.points)) }

pub returns-in-Err : goal.returns-in-Err
returns-in-Err c = record { status = rw c.bare-in-Err.ensures (out_of_memory c.in-Err.ensures.out_of_memory) }
