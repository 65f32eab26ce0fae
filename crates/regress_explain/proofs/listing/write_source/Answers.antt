use Rattle.std.proofs.Common.{Some, codes, string_bytes}
use Rattle.std.proofs.lemmas.Result.{on_ok_weaker}
use Rattle.regress_railroad.specs.Excerpt.{points_at}
use Rattle.regress_explain.proofs.PageLemmas.{excerpt_written}
use Rattle.regress_explain.proofs.listing.write_source.Goals as goal

pub returns : goal.returns
returns c =
    let points = points_at c.args.listing.pattern.now (Some c.args.span) in
    let excerpt = rw c.in-Some.is at c.in_ok-written.ensures in
    on_ok_weaker c.text.result
    (λ added. excerpt_written points (string_bytes c.in-Some.written) (codes " ") _ _ _ excerpt.1 (rw c.deref.ensures at c.in_ok-element.ensures) added)
    c.text.ensures
