use Rattle.std.proofs.Common.{◌≡◌, subst, ◌∙◌, chars}
use Rattle.regress_capi.specs.SpannedResults.{SpannedResult, spanned_out_of_memory, spanned_bad}
use Rattle.regress_capi.specs.Request.{front_dialect, front_setting}
use Rattle.regress_capi.proofs.SpannedLemmas.{spanned-asked}
use Rattle.regress_capi.proofs.spanning.write_encoding_of_text_with_spans.Goals as goal

-- the tree is that of the code points of the bytes
pub returns-in-Ok-Some : goal.returns-in-Ok-Some
returns-in-Ok-Some c =
    let read = rw c.in-Ok-Some.field-0-is at c.in-Ok-Some.ensures.points in
    let same : c.deref.result.now ≡ chars c.args.pattern.now = c.deref.ensures.value ∙ read.1 in
    record {
      status =
          spanned-asked read.0
          (subst
          (λ source. SpannedResult (Unit {0}) (front_dialect c.args.bits) (front_setting c.args.bits) source c.args.words.now c.args.spans.now c.write_spanned.result.reply.status
          c.write_spanned.result.reply.needed c.write_spanned.result.spans_needed c.write_spanned.result.reply.kind
          c.write_spanned.result.reply.position
          c.write_spanned.new.words c.write_spanned.new.spans)
          same c.write_spanned.ensures.status);
    }

pub returns-in-Ok-None : goal.returns-in-Ok-None
returns-in-Ok-None c = record { status = rw c.bare.ensures (spanned_bad (rw c.in-Ok-None.field-0-is at c.in-Ok-None.ensures.points)) }

pub returns-in-Err : goal.returns-in-Err
returns-in-Err c = record { status = rw c.bare-in-Err.ensures (spanned_out_of_memory c.in-Err.ensures.out_of_memory) }
