use Rattle.std.proofs.Common.{subst}
use Rattle.std.specs.Prelude.{IsUtf8, None}
use Rattle.regress.specs.Compiled.{match_of, outcomes_of}
use Rattle.regress.specs.Costs.{IsTooCostly}
use Rattle.regress.specs.Memory.{SearchNeedsMore}
use Rattle.regress_capi.specs.SearchResults.{SearchResult, bad}
use Rattle.regress_capi.specs.Spans.{AreEndsOfFirst, match_ends}
use Rattle.regress_found.specs.Found.{Finds}
use Rattle.regress_capi.proofs.SearchLemmas.{first-found, search-reports, too-costly}
use Rattle.regress_capi.proofs.searches.write_first_with.Goals as goal

pub returns-in-Ok : goal.returns-in-Ok
returns-in-Ok c =
    let search = c.find_at-found.ensures in
    record {
      status =
          subst
          (λ t. SearchResult (IsUtf8 c.args.searched.text.now) (AreEndsOfFirst t (outcomes_of c.args.regex.now t) c.args.searched.from)
          (Finds t (outcomes_of c.args.regex.now t) c.args.searched.from None) (IsTooCostly c.args.regex.now t c.args.searched.from) (SearchNeedsMore c.args.regex.now t c.args.searched.from) c.args.spans.now c.report_first.result c.report_first.new.needed c.report_first.new.buffer)
          c.in-Ok.ensures.cases.0
          (search-reports (λ m. match_ends (match_of m)) c.find_at-found.result c.in-Ok.ensures.cases.1 (first-found _ _ c.args.searched.from c.find_at-found.result search.finds)
          (too-costly c.args.regex.now _ c.args.searched.from c.find_at-found.result search.linear search.bounded search.costs) search.too_much c.report_first.ensures);
    }

pub returns-in-Err : goal.returns-in-Err
returns-in-Err c = record { status = bad c.in-Err.ensures.cases.0 }
