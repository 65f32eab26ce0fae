-- The part of the tree that is surveyed so far.
use Rattle.std.proofs.Common.{◌≤◌, take}
use Rattle.regress_tree.specs.declared.ir.node.Node.{size-Node}
use Rattle.regress_tree.specs.Tree.{tree, trees, cat}
use Rattle.regress_tree.specs.WellFormed.{inside}
use Rattle.regress_tree.specs.Survey.{SurveyedAt}
use Rattle.regress_tree.proofs.PassLemmas.{SpineSurveyed}
use Rattle.regress_tree.proofs.ir.well_formed.+survey.Given as goal

abbrev pub invariant-survey-loop-node : goal.invariant-survey-loop-node
invariant-survey-loop-node l = record {
  smaller : size-Node l.node ≤ size-Node l.initial.node;
  so_far : SpineSurveyed (tree l.initial.node) (tree l.node) l.initial.ids l.ids l.groups;
}

abbrev pub invariant-survey_parts-loop-part : goal.invariant-survey_parts-loop-part
invariant-survey_parts-loop-part l = SurveyedAt inside (cat (trees (take l.part-index l.parts))) l.initial.ids l.ids l.groups
