use Rattle.std.proofs.Common.{string_bytes, subst}
use Rattle.std.specs.Prelude.{IfOk, MatchOption}
use Rattle.regress_found.specs.declared.found.Match.{Match}
use Rattle.regress.specs.Compiled.{groups_of}
use Rattle.regress_capi.specs.ExpandResults.{HasNumbers, IsExpandedAt, expand_bad}
use Rattle.regress_capi.proofs.ReplaceLemmas.{expand-reports}
use Rattle.regress_capi.proofs.expanding.write_expanded.Goals as goal

pub returns-in-Some : goal.returns-in-Some
returns-in-Some c =
    let regex = c.args.regex.now in
    let numbers = c.args.expanded.numbers.now in
    record {
      status =
          expand-reports c.expand.result c.in-Some.ensures.2 c.in-Some.ensures.3
          (subst (λ t. IfOk c.expand.result (λ some. MatchOption some ((m : Match) → HasNumbers c.args.expanded.text.now (groups_of regex) numbers m → ⊥)
          (λ out. IsExpandedAt regex c.args.expanded.text.now t numbers (string_bytes out)))) c.in-Some.ensures.1
          (subst (λ t. IfOk c.expand.result (λ some. MatchOption some ((m : Match) → HasNumbers t (groups_of regex) numbers m → ⊥)
          (λ out. IsExpandedAt regex t c.in-Some.template.now numbers (string_bytes out)))) c.in-Some.ensures.0 c.expand.ensures))
          c.report.ensures;
    }

pub returns-in-None : goal.returns-in-None
returns-in-None c = record { status = expand_bad (λ can. c.in-None.ensures (can.text_utf8, can.template_utf8)) }
