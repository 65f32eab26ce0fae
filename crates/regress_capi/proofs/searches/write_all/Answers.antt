use Rattle.std.proofs.Common.{subst}
use Rattle.std.specs.Prelude.{IsUtf8}
use Rattle.regress.specs.Compiled.{outcomes_of}
use Rattle.regress.specs.Costs.{AllAreTooCostly}
use Rattle.regress.specs.Memory.{AllNeedMore}
use Rattle.regress_capi.specs.SearchResults.{SearchResult, bad}
use Rattle.regress_capi.specs.Spans.{AreEndsOfAll}
use Rattle.regress_capi.proofs.SearchLemmas.{search-reports}
use Rattle.regress_capi.proofs.searches.write_all.Goals as goal

pub returns-in-Ok : goal.returns-in-Ok
returns-in-Ok c = record {
  status =
      subst
      (λ t. SearchResult (IsUtf8 c.args.searched.text.now) (AreEndsOfAll t (outcomes_of c.args.regex.now t) c.args.searched.from)
      ⊥ (AllAreTooCostly c.args.regex.now t c.args.searched.from) (AllNeedMore c.args.regex.now t c.args.searched.from) c.args.spans.now c.report.result c.report.new.needed c.report.new.buffer)
      c.in-Ok.ensures.cases.0
      (search-reports (λ v. v.items) c.all_ends.result c.in-Ok.ensures.cases.1 c.all_ends.ensures.ends c.all_ends.ensures.failed c.all_ends.ensures.too_much
      c.report.ensures);
}

pub returns-in-Err : goal.returns-in-Err
returns-in-Err c = record { status = bad c.in-Err.ensures.cases.0 }
