use Rattle.std.proofs.Common.{◌++◌, [], ◌∷◌, List, replicate, sym, ap, ◌∙◌, subst}
use Rattle.regress_tree.specs.Tree.{Tree, tree}
use Rattle.regress_tree.specs.Visits.{nodes}
use Rattle.regress_tree.proofs.lemmas.Nodes.{tree-Alt}
use Rattle.regress_parse.specs.declared.span.Span.{Span}
use Rattle.regress_parse.specs.Recorded.{IsChain}
use Rattle.regress_parse.proofs.FlatLemmas.{chain-alt}
use Rattle.regress_parse.proofs.recording.push_alternatives.Goals as goal

pub loop-last-preserved : goal.loop-last-preserved
loop-last-preserved c flat =
    let s = c.args.span in
    let before = c.loop-last.spans.items in
    let left = tree c.in-Alt.field-0.value in
    let right = tree c.in-Alt.right.value in
    let is = ap tree c.in-Alt.is ∙ tree-Alt c.in-Alt.field-0 c.in-Alt.right in
    let here = c.loop-last.invariant flat in
    let both = chain-alt left right before s (subst IsChain is here.0) in
    let below = ap tree c.deref-last.ensures in (
      subst IsChain (sym below) both.0,
      ap (λ (t : Tree). c.push-in-Alt.new.self.items ++ replicate (nodes t) s) below
          ∙ ap (λ (ss : List Span). ss ++ replicate (nodes right) s)
          (c.in_ok-push-2.ensures.items ∙ ap (λ (ss : List Span). ss ++ s ∷ []) c.in_ok-push.ensures.items)
          ∙ sym both.1
          ∙ ap (λ (t : Tree). before ++ replicate (nodes t) s) (sym is)
          ∙ here.1,
    )
