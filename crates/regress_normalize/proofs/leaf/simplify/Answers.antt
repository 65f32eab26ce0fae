-- One more action of the rewrite.
use Rattle.std.proofs.Common.{ap, subst, sym, ◌∙◌}
use Rattle.regress_tree.specs.Copies.{is_leaf}
use Rattle.regress_tree.specs.Reading.{forwards}
use Rattle.regress_tree.specs.Shapes.{is_simplified_away}
use Rattle.regress_tree.specs.Tree.{Tree, tree}
use Rattle.regress_tree.specs.Units.{IsLess}
use Rattle.regress_normalize.proofs.LeafLemmas.{IsPart-cleared, Clears-next, removed, leaf_lighter}
use Rattle.regress_normalize.proofs.leaf.simplify.Goals as goal

pub simplify_brackets-requires : goal.simplify_brackets-requires
simplify_brackets-requires c = IsPart-cleared is_simplified_away _ _ c.loop-action.invariant c.requires.part

pub returns-then-not-carry_out-clause-clears : goal.returns-then-not-carry_out-clause-clears
returns-then-not-carry_out-clause-clears c =
    let so_far = c.loop-action.invariant in
    let step = c.in_ok-action.ensures in
    let put = c.carry_out.ensures.made in
    Clears-next is_simplified_away (tree c.loop-action.node) _ c.in_ok-action.action step.lawful _ _ so_far put
    (ap is_leaf put ∙ step.leaf ∙ so_far.leaf)

pub returns-then-not-carry_out-clause-removed : goal.returns-then-not-carry_out-clause-removed
returns-then-not-carry_out-clause-removed c =
    ap is_simplified_away c.carry_out.ensures.made
    ∙ removed is_simplified_away (tree c.loop-action.node) _ c.in_ok-action.action c.in_ok-action.ensures.lawful c.if-not-carry_out.ensures.some

pub loop-action-smaller : goal.loop-action-smaller
loop-action-smaller c =
    let so_far = c.loop-action.invariant in
    let step = c.in_ok-action.ensures in
    let put = c.carry_out.ensures.made in
    leaf_lighter (tree c.loop-action.node) (tree c.carry_out.new.node) so_far.leaf (ap is_leaf put ∙ step.leaf ∙ so_far.leaf)
    (subst (λ (t : Tree). IsLess t (tree c.loop-action.node)) (sym put) ((step.lawful forwards).less c.if-not-carry_out.ensures.some))

pub loop-action-preserved : goal.loop-action-preserved
loop-action-preserved c =
    let so_far = c.loop-action.invariant in
    let step = c.in_ok-action.ensures in
    let put = c.carry_out.ensures.made in
    Clears-next is_simplified_away (tree c.loop-action.node) _ c.in_ok-action.action step.lawful _ _ so_far put
    (ap is_leaf put ∙ step.leaf ∙ so_far.leaf)
