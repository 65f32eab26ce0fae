use Rattle.std.proofs.Common.{◌≡◌, true, rules, slice_range}
use Rattle.std.proofs.lemmas.Result.{on_ok_weaker}
use Rattle.regress_explain.specs.declared.markup.Element.TheVariants.{Inline}
use Rattle.regress_explain.specs.declared.markup.Tag.TheVariants.{Close, Part}
use Rattle.regress_explain.specs.Page.{ShowsSource, tag}
use Rattle.regress_explain.proofs.PageLemmas.{adds_framed}
use Rattle.regress_explain.proofs.SourceLemmas.{adjoined, length-slice_range, no_parts, one_part, shows_part}
use Rattle.regress_explain.proofs.source.+write_range.Goals as goal

pub write_range-loop-part-init : goal.write_range-loop-part-init
write_range-loop-part-init t c = no_parts c.args.pattern.now c.args.range.start c.args.range.end _ c.requires.ordered

pub write_range-loop-part-preserved : goal.write_range-loop-part-preserved
write_range-loop-part-preserved t c =
    let yes : c.is_between.result ≡ true = search rules in
    let between = c.is_between.ensures yes in
    one_part c.args.pattern.now c.args.range.start c.args.range.end c.loop-part.at _ _ _ _ _ _ c.requires.within between.0 between.1 between.2
    c.loop-part.invariant (c.in_ok-write_characters.ensures c.loop-part.at) c.in_ok-write_part.ensures

pub write_range-returns : goal.write_range-returns
write_range-returns t c =
    let at = c.loop-part.at in
    let range = c.args.range in
    let so_far = c.loop-part.invariant in
    on_ok_weaker c.write_characters-2.result
    (λ added. adjoined c.args.pattern.now range.start at range.end _ _ _ so_far.lower so_far.upper c.requires.within so_far.shows (added at))
    c.write_characters-2.ensures

pub write_part-returns : goal.write_part-returns
write_part-returns t c =
    let pattern = c.args.pattern.now in
    let span = c.args.span in
    let shows = ShowsSource span.start (slice_range pattern span.start span.end) in
    on_ok_weaker c.tag-2.result
    (λ closed. adds_framed shows shows (tag (Part span)) (tag (Close Inline)) _ _ _ _
    (λ ps shown. shows_part span _ ps (length-slice_range pattern span.start span.end c.requires.ordered c.requires.within) shown)
    c.in_ok-tag.ensures c.in_ok-write_range.ensures closed)
    c.tag-2.ensures
