use Rattle.std.proofs.Common.{codes, subst}
use Rattle.regress_explain.specs.Page.{ShowsPart}
use Rattle.regress_explain.specs.Written.{Adds}
use Rattle.regress_explain.proofs.PageLemmas.{part_shown}
use Rattle.regress_explain.proofs.listing.content.Goals as goal

pub returns : goal.returns
returns c =
    let pattern = c.args.listing.pattern.now in
    let leads = c.args.listing.leads.now in
    let number = c.args.number in
    let span = c.args.line.span in
    subst (λ none. Adds (ShowsPart pattern leads number span) none c.write_lead.new.page) c.new-page.ensures
    (part_shown pattern leads number span _ (codes " ") _ _ _ _ _ _ c.in_ok-write_source.ensures c.in_ok-text.ensures
    c.in_ok-text-2.ensures c.in_ok-write_place.ensures c.in_ok-write_lead.ensures)
