use Rattle.std.proofs.Common.{◌≡◌, ◌∙◌, ℕ, ◌-◌, List, ap, arith, length, slice_range, take}
use Rattle.std.proofs.lemmas.List.{take_all}
use Rattle.std.proofs.lemmas.Result.{on_ok_weaker}
use Rattle.regress_explain.specs.declared.markup.Element.TheVariants.{Section}
use Rattle.regress_explain.specs.declared.markup.Tag.TheVariants.{Close}
use Rattle.regress_explain.specs.Page.{IsParagraph, ShowsSource}
use Rattle.regress_explain.proofs.PageLemmas.{adds_after, adds_tag, shows_paragraph}
use Rattle.regress_explain.proofs.source.write_pattern.Goals as goal

all_of : (xs : List ℕ) → slice_range xs 0 (length xs) ≡ xs
all_of xs =
    let all : length xs - 0 ≡ length xs = omega arith in
    ap (λ n. take n xs) all ∙ take_all (length xs) xs (omega arith)

pub returns : goal.returns
returns c =
    let pattern = c.args.pattern.now in
    let shown =
    shows_paragraph (ShowsSource 0 pattern) _ _ _ _ _ c.in_ok-begin_section.ensures c.in_ok-tag.ensures
    (rw (all_of pattern) at c.in_ok-write_range.ensures) c.in_ok-tag-2.ensures in
    on_ok_weaker c.tag-3.result (λ added. adds_after (IsParagraph (ShowsSource 0 pattern)) _ _ _ shown (adds_tag (Close Section) _ _ added)) c.tag-3.ensures
