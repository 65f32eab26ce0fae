use Rattle.std.proofs.Common.{◌≡◌, ◌∙◌, append_assoc, codes, sym}
use Rattle.std.specs.Fmt.{decimal}
use Rattle.std.proofs.lemmas.Result.{on_ok_weaker}
use Rattle.regress_explain.specs.Page.{place}
use Rattle.regress_explain.proofs.PageLemmas.{place_linked, place_written}
use Rattle.regress_explain.proofs.listing.write_place.Goals as goal

pub returns-then-start-end : goal.returns-then-start-end
returns-then-start-end c =
    let is : c.deref.result.now ≡ place c.args.span = c.deref.ensures ∙ c.in_ok-place.ensures.ok ∙ sym (append_assoc (decimal c.args.span.start) (codes "..") (decimal c.args.span.end)) in
    on_ok_weaker c.element.result (λ added. place_written c.args.span _ _ _ is added) c.element.ensures

pub returns : goal.returns
returns c =
    let is : c.deref-2.result.now ≡ place c.args.span = c.deref-2.ensures ∙ c.in_ok-place.ensures.ok ∙ sym (append_assoc (decimal c.args.span.start) (codes "..") (decimal c.args.span.end)) in
    on_ok_weaker c.write_link.result (λ added. place_linked c.args.span _ _ _ is added) c.write_link.ensures
