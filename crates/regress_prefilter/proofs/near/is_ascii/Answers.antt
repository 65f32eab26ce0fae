use Rattle.std.proofs.Common.{◌∙◌, ap, sym}
use Rattle.std.specs.List.{list_all}
use Rattle.std.specs.Prelude.{nat_lt}
use Rattle.regress_base.specs.Intervals.{Bounds}
use Rattle.regress_tree.specs.Tree.{tree, leaf, bracket}
use Rattle.regress_tree.proofs.lemmas.Nodes.{tree-Bracket, tree-ByteSet}
use Rattle.regress_prefilter.specs.OneCharacter.{test_of}
use Rattle.regress_prefilter.proofs.NearLemmas.{accepted, listed_ascii, within_ascii}
use Rattle.regress_prefilter.proofs.near.is_ascii.Goals as goal

pub returns-in-ByteSet : goal.returns-in-ByteSet
returns-in-ByteSet c = λ all x is.
    let members = c.in-ByteSet.bytes in
    let same = ap (λ bs. list_all (λ b. nat_lt b 128) bs) c.deref.ensures.value in
    listed_ascii members.items (sym same ∙ sym c.are_ascii.ensures ∙ all) x
    (sym (ap (λ t. test_of t x) (ap tree c.in-ByteSet.is ∙ tree-ByteSet members)) ∙ is)

pub returns-then-not-contents : goal.returns-then-not-contents
returns-then-not-contents c = λ all x is.
    let contents = c.in-Bracket.contents in
    let same = ap (λ is. list_all (λ (i : Bounds). nat_lt i.last 128) is) c.intervals.ensures.value in
    let there = ap tree c.in-Bracket.is ∙ tree-Bracket contents ∙ ap (λ invert. leaf (bracket invert contents.cps)) c.if-not-contents.true in
    within_ascii contents.cps (sym same ∙ sym c.end_in_ascii.ensures ∙ all) x (accepted contents.cps x (sym (ap (λ t. test_of t x) there) ∙ is))
