use Rattle.std.proofs.Common.{codes}
use Rattle.std.proofs.lemmas.Result.{on_ok_weaker}
use Rattle.regress_explain.proofs.PageLemmas.{lead_added}
use Rattle.regress_explain.proofs.listing.write_lead.Goals as goal

pub returns : goal.returns
returns c =
    on_ok_weaker c.write_link.result
    (λ added. lead_added c.args.leads.now c.args.number _ (codes " ") _ _ _ _ c.in-Some.ensures c.in_ok-text.ensures added)
    c.write_link.ensures
