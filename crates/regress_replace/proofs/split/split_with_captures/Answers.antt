use Rattle.std.proofs.Common.{◌≡◌, length, subst}
use Rattle.std.specs.Prelude.{IfOk}
use Rattle.regress_replace.specs.Split.{all_parts, limited, part_spans, part_texts, span_texts}
use Rattle.regress_replace.proofs.SplitLemmas.{limited_inside, limited_texts}
use Rattle.regress_replace.proofs.split.split_with_captures.Goals as goal

pub slices-requires : goal.slices-requires
slices-requires c =
    rw (c.deref.ensures.value, c.in_ok-spans.ensures)
    (limited_inside c.args.text.now c.args.limit c.args.matches.now c.utf8.text c.requires.order c.requires.inside)

pub returns : goal.returns
returns c =
    let text = c.args.text.now in
    let spans = part_spans (length text) c.args.matches.now in
    let same : span_texts text c.deref.result.now ≡ limited c.args.limit (all_parts text c.args.matches.now) =
    rw (c.deref.ensures.value, c.in_ok-spans.ensures) (limited_texts text c.args.limit spans) in
    subst (λ texts. IfOk c.slices.result (λ parts. part_texts parts.items ≡ texts)) same c.slices.ensures
