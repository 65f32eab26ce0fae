use Rattle.std.proofs.Common.{◌≡◌, ◌∙◌, ℕ, ◌+◌, ◌<◌, List, [], ◌∷◌, ◌++◌, All, ap, arith, get_or, length, map, subst, sym, take}
use Rattle.std.proofs.lemmas.List.{length-map, length-take-le, map-append, take_all, take_more}
use Rattle.std.proofs.lemmas.Result.{on_ok_weaker}
use Rattle.regress_outline.specs.declared.lines.Line.{Line}
use Rattle.regress_explain.specs.Page.{AreLines, IsListTag}
use Rattle.regress_explain.specs.Written.{Adds, span_of}
use Rattle.regress_explain.proofs.PageLemmas.{adds_both, lines_then, one_line}
use Rattle.regress_explain.proofs.listing.write_lines.Goals as goal

spans_more : (lines : List Line) (i : ℕ) (other : Line) → i < length lines →
    map span_of (take (i + 1) lines) ≡ map span_of (take i lines) ++ (get_or lines i other).span ∷ []
spans_more lines i other below = ap (map span_of) (take_more lines i other below) ∙ map-append span_of (take i lines) (get_or lines i other ∷ [])

count_so_far : (lines : List Line) (i : ℕ) → i < length lines → i ≡ length (map span_of (take i lines))
count_so_far lines i below = sym (length-map (take i lines) span_of ∙ length-take-le i lines (omega (arith, below)))

pub loop-number-preserved : goal.loop-number-preserved
loop-number-preserved c =
    let pattern = c.args.listing.pattern.now in
    let leads = c.args.listing.leads.now in
    let lines = c.args.lines.now in
    let number = c.loop-number.number in
    let below = c.loop-number-test.true in
    let first : Line = record { span = record { start = 0; end = 0 }; words = record { ref_ptr = (0, 0); now = [] }; depth = 0 } in
    subst (λ spans. Adds (AreLines pattern leads 0 spans) c.args.page.now c.tag-in-loop-number.new.self) (sym (spans_more lines number first below))
    (one_line pattern leads number (map span_of (take number lines)) (get_or lines number first).span _ _ _ _ _ _ _
    (count_so_far lines number below) c.loop-number.invariant c.in_ok-write_between.ensures c.in_ok-tag.ensures c.in_ok-content.ensures
    c.in_ok-append.ensures.other c.in_ok-tag-2.ensures)

pub returns : goal.returns
returns c =
    let pattern = c.args.listing.pattern.now in
    let leads = c.args.listing.leads.now in
    let lines = c.args.lines.now in
    let all : take c.loop-number.number lines ≡ lines = take_all c.loop-number.number lines (omega (arith, c.loop-number-test.false)) in
    let P = AreLines pattern leads 0 (map span_of lines) in
    on_ok_weaker c.close_lists.result
    (λ added. adds_both P (All IsListTag) P _ _ _ (λ ps qs has tags. lines_then pattern leads 0 (map span_of lines) ps qs has tags)
    (rw all at c.loop-number.invariant) added)
    c.close_lists.ensures
