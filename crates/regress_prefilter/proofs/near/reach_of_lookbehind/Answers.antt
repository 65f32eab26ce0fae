use Rattle.std.proofs.Common.{◌≡◌, ◌∙◌, Some, ap, false, refl, sym, subst}
use Rattle.regress_tree.specs.Lookaround.{lookaround_matcher}
use Rattle.regress_tree.specs.Matching.{steps}
use Rattle.regress_tree.specs.Reading.{backwards}
use Rattle.regress_tree.specs.Tree.{Tree, tree, leaf, byte_sequence}
use Rattle.regress_tree.proofs.lemmas.Nodes.{tree-ByteSequence}
use Rattle.regress_prefilter.specs.Near.{IsReachOf}
use Rattle.regress_prefilter.specs.declared.near.Reach.{Reach}
use Rattle.regress_prefilter.proofs.FirstSetLemmas.{if-some}
use Rattle.regress_prefilter.proofs.NearLemmas.{IsOff, needs_look, reach_look}
use Rattle.regress_prefilter.proofs.near.reach_of_lookbehind.Goals as goal

pub returns-in-ByteSequence : goal.returns-in-ByteSequence
returns-in-ByteSequence c = λ setting bytes.
    let is : tree c.args.body.now ≡ leaf (byte_sequence c.deref.result.now) =
    ap tree c.in-ByteSequence.is ∙ tree-ByteSequence c.in-ByteSequence.written ∙ ap (λ bytes. leaf (byte_sequence bytes)) (sym c.deref.ensures.value) in
    let r : Reach = record { width = Some 0; near = c.near_before-near.result } in
    subst (λ (t : Tree). IsReachOf r bytes (lookaround_matcher false (steps setting bytes backwards t))) (sym is)
    (reach_look r bytes false _ refl (if-some c.near_before-near.result (λ near needs. needs_look (IsOff near bytes) _ (needs bytes)) c.near_before-near.ensures))

pub returns-in_default : goal.returns-in_default
returns-in_default c = λ setting bytes. reach_look _ bytes false _ refl tt
