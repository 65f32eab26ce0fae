-- The parts are spliced, and then packed.
use Rattle.std.proofs.Common.{◌∙◌, sym, ap, subst, arith}
use Rattle.regress_tree.specs.NodeTests.{is_goal}
use Rattle.regress_tree.specs.Shapes.{some_part}
use Rattle.regress_tree.specs.Tree.{Trees, cat, trees}
use Rattle.regress_tree.specs.Walk.{direction_of}
use Rattle.regress_rewrite.specs.Law.{Keeps}
use Rattle.regress_rewrite.specs.Splice.{list_length}
use Rattle.regress_rewrite.proofs.lemmas.Flattening.{spliced_keeps}
use Rattle.regress_rewrite.proofs.lemmas.Keeps.{Keeps-trans}
use Rattle.regress_rewrite.proofs.lemmas.Splicing.{list_length-trees, spliced-same}
use Rattle.regress_normalize.specs.Packed.{Packs, IsPacked}
use Rattle.regress_normalize.proofs.GoalLemmas.{spliced_goal}
use Rattle.regress_normalize.proofs.cat.pack.Goals as goal

pub returns-in_err-pack_in_order-clause-keeps : goal.returns-in_err-pack_in_order-clause-keeps
returns-in_err-pack_in_order-clause-keeps c =
    let d = direction_of c.args.walk.now in
    let was = trees c.args.parts.now.items in
    Keeps-trans d (subst (λ (ts : Trees). Keeps d (cat was) (cat ts)) (sym c.in_ok-splice_cats.ensures.ok) (spliced_keeps d was))
    c.pack_in_order.ensures.packs.keeps

pub returns-in_err-pack_in_order-clause-left : goal.returns-in_err-pack_in_order-clause-left
returns-in_err-pack_in_order-clause-left c no_cat packed =
    let same = c.in_ok-splice_cats.ensures.ok ∙ spliced-same (trees c.args.parts.now.items) no_cat in
    c.pack_in_order.ensures.left (subst IsPacked (sym same) packed) ∙ same

pub returns-in_err-pack_in_order-clause-goal : goal.returns-in_err-pack_in_order-clause-goal
returns-in_err-pack_in_order-clause-goal c has =
    c.pack_in_order.ensures.packs.goals ∙ ap (some_part is_goal) c.in_ok-splice_cats.ensures.ok
    ∙ spliced_goal (trees c.args.parts.now.items) has

pub overflow_sub-result : goal.overflow_sub-result
overflow_sub-result c =
    let middle = c.splice_cats.new.parts in
    let new = c.pack_in_order.new.parts in
    omega (
      arith,
      c.pack_in_order.ensures.packs.fewer,
      c.len-len.ensures,
      c.len.ensures,
      middle.ok.0,
      new.ok.0,
      list_length-trees middle.items,
      list_length-trees new.items,
    )

pub returns-clause-keeps : goal.returns-clause-keeps
returns-clause-keeps c =
    let d = direction_of c.args.walk.now in
    let was = trees c.args.parts.now.items in
    Keeps-trans d (subst (λ (ts : Trees). Keeps d (cat was) (cat ts)) (sym c.in_ok-splice_cats.ensures.ok) (spliced_keeps d was))
    c.pack_in_order.ensures.packs.keeps

pub returns-clause-packed : goal.returns-clause-packed
returns-clause-packed c =
    let middle = c.splice_cats.new.parts in
    let new = c.pack_in_order.new.parts in
    record {
      packs = subst (λ (ts : Trees). Packs (direction_of c.args.walk.now) ts (trees new.items)) c.in_ok-splice_cats.ensures.ok
          c.pack_in_order.ensures.packs;
      packed = c.in_ok-pack_in_order.ensures.packed;
      count = omega (
        arith,
        c.pack_in_order.ensures.packs.fewer,
        c.len-len.ensures,
        c.len.ensures,
        middle.ok.0,
        new.ok.0,
        list_length-trees middle.items,
        list_length-trees new.items,
        ap list_length c.in_ok-splice_cats.ensures.ok,
      );
    }

pub returns-clause-left : goal.returns-clause-left
returns-clause-left c no_cat packed =
    let same = c.in_ok-splice_cats.ensures.ok ∙ spliced-same (trees c.args.parts.now.items) no_cat in
    c.pack_in_order.ensures.left (subst IsPacked (sym same) packed) ∙ same

pub returns-clause-goal : goal.returns-clause-goal
returns-clause-goal c has =
    c.pack_in_order.ensures.packs.goals ∙ ap (some_part is_goal) c.in_ok-splice_cats.ensures.ok
    ∙ spliced_goal (trees c.args.parts.now.items) has
