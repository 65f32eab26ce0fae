use Rattle.std.proofs.Common.{◌≡◌, ◌∙◌, ap, length}
use Rattle.regress_explain.proofs.html.picture.Goals as goal

pub returns-clause-lines : goal.returns-clause-lines
returns-clause-lines c =
    let same : length c.deref-2.result.now ≡ length c.args.lines.now = ap length c.deref-2.ensures.value ∙ c.in_ok-spans.ensures in
    rw same at c.svg_with_links.ensures.lines
