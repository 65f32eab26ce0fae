use Rattle.std.proofs.lemmas.Result.{on_ok_weaker}
use Rattle.std.proofs.Common.{string_bytes}
use Rattle.regress_explain.specs.Page.{ShowsSource, text}
use Rattle.regress_explain.proofs.PageLemmas.{adds_one}
use Rattle.regress_explain.proofs.SourceLemmas.{shows_characters}
use Rattle.regress_explain.proofs.source.write_characters.Goals as goal

pub returns : goal.returns
returns c =
    let shown = string_bytes c.in_ok-text.text in
    on_ok_weaker c.text.result
    (λ added start. adds_one (ShowsSource start c.args.points.now) (text shown) _ _ (shows_characters start c.args.points.now shown c.in_ok-text.ensures)
    (rw c.deref.ensures at added))
    c.text.ensures
