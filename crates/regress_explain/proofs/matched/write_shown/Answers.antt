use Rattle.std.proofs.Common.{◌≡◌, ◌∙◌}
use Rattle.regress_explain.specs.Shown.{shown_text}
use Rattle.regress_explain.proofs.matched.write_shown.Goals as goal

pub returns : goal.returns
returns c =
    let shown : c.deref.result.now ≡ shown_text c.args.text.now = c.deref.ensures ∙ c.in_ok-shown_text.ensures in
    rw shown at c.text.ensures
