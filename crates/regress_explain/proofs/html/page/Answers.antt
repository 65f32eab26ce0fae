use Rattle.std.proofs.Common.{◌≡◌, ◌≢◌, ◌∙◌, ◌<◌, ℕ, List, [], All, ap, arith, length, map, subst, sym}
use Rattle.std.proofs.lemmas.List.{length-map}
use Rattle.regress_outline.specs.declared.lines.Line.{Line}
use Rattle.regress_explain.specs.Page.{AreLines, Contains}
use Rattle.regress_explain.specs.Written.{Adds, IsAnything, span_of}
use Rattle.regress_explain.proofs.PageLemmas.{adds_all, whole_page}
use Rattle.regress_explain.proofs.html.page.Goals as goal

some_spans : (lines : List Line) → 0 < length lines → map span_of lines ≢ []
some_spans lines some none =
    let empty : length lines ≡ 0 = sym (length-map lines span_of) ∙ ap length none in
    absurd (omega (arith, some, empty))

pub returns : goal.returns
returns c =
    let pattern = c.args.pattern.now in
    let leads = c.in_ok-picture.picture.lines.items in
    let lines = c.deref-lines.result.now in
    let spans = map span_of lines in
    let head : Adds IsAnything [] c.append.new.self = subst (λ (none : List ℕ). Adds IsAnything none c.append.new.self) c.new-page.ensures c.in_ok-append.ensures.anything in
    let explained = rw c.deref-4.ensures.value at c.in_ok-explanation.ensures in
    let count : length spans ≡ length lines = length-map lines span_of in
    let linked = subst (λ (n : ℕ). All (λ line. line < n) leads) (sym count) c.in_ok-picture.ensures.lines in
    let parts : length c.deref.result.now ≡ length c.in_ok-parts.parts.items = ap length c.deref.ensures.value in
    let all : length lines ≡ length c.in_ok-all.all.items = ap length c.deref-lines.ensures.value in
    let some = some_spans lines (omega (arith, parts, all, c.in_ok-parts.ensures, c.in_ok-all.ensures)) in
    let whole =
    whole_page pattern _ leads _ _ _ _ _ _ head c.in_ok-write_pattern.ensures c.in_ok-write_diagram.ensures spans some linked
    (adds_all (Contains (AreLines pattern leads 0 spans)) _ _ _ explained c.in_ok-append-2.ensures.other)
    c.in_ok-write_matches.ensures c.in_ok-append-3.ensures.anything in
    rw c.finish.ensures whole
