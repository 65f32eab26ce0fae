use Rattle.std.proofs.Common.{◌≡◌, chars, string_bytes, subst}
use Rattle.std.proofs.lemmas.Str.{IsUtf8-string_bytes}
use Rattle.regress_capi.specs.EscapeResults.{escape_bad, escape_out_of_memory}
use Rattle.regress_capi.specs.TextResults.{PlainResult}
use Rattle.regress_escape.specs.Escape.{escaped}
use Rattle.regress_capi.proofs.ReplaceLemmas.{escape-writes}
use Rattle.regress_capi.proofs.escaping.write_escaped.Goals as goal

pub returns-in-Ok-escape : goal.returns-in-Ok-escape
returns-in-Ok-escape c = record {
  status =
      escape-writes (string_bytes c.in-Ok-escape.pattern) c.in-Ok.ensures.cases.1 (IsUtf8-string_bytes c.in-Ok-escape.pattern)
      (subst (λ t. chars (string_bytes c.in-Ok-escape.pattern) ≡ escaped (chars t)) c.in-Ok.ensures.cases.0 c.in-Ok-escape.ensures)
      (subst (λ t. PlainResult (λ bytes. bytes ≡ t) c.args.out.now c.give_text.result c.give_text.new.needed c.give_text.new.out)
      c.deref.ensures c.give_text.ensures);
}

pub returns-in-Err-escape : goal.returns-in-Err-escape
returns-in-Err-escape c = record { status = escape_out_of_memory c.in-Ok.ensures.cases.1 }

pub returns-in-Err : goal.returns-in-Err
returns-in-Err c = record { status = escape_bad c.in-Err.ensures.cases.0 }
