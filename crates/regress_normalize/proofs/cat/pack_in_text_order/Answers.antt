-- The two steps in sequence.
use Rattle.std.proofs.Common.{ap, rules, ◌∙◌}
use Rattle.regress_tree.specs.NodeTests.{is_empty}
use Rattle.regress_tree.specs.Shapes.{some_part}
use Rattle.regress_tree.specs.Tree.{trees}
use Rattle.regress_normalize.proofs.CatLemmas.{left_out_packs, without_none}
use Rattle.regress_normalize.proofs.PackedLemmas.{Packs-trans}
use Rattle.regress_normalize.proofs.cat.pack_in_text_order.Goals as goal

pub returns-then-has_byte_neighbours-clause-packs : goal.returns-then-has_byte_neighbours-clause-packs
returns-then-has_byte_neighbours-clause-packs c d =
    Packs-trans d _ _ _ (left_out_packs d _ _ c.drop_empties.ensures) (c.join_neighbours.ensures.packs d)

pub returns-clause-packs : goal.returns-clause-packs
returns-clause-packs c d = Packs-trans d _ _ _ (left_out_packs d _ _ c.drop_empties.ensures) (c.join_neighbours.ensures.packs d)

pub returns-clause-packed : goal.returns-clause-packed
returns-clause-packed c = record {
  no_empty = c.join_neighbours.ensures.empties ∙ ap (some_part is_empty) c.drop_empties.ensures
      ∙ without_none (trees c.args.parts.now.items);
  no_neighbours = search rules;
}
