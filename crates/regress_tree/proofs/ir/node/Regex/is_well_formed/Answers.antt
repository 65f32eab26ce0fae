use Rattle.std.proofs.Common.{◌∙◌, sym, leb-true, le-leb}
use Rattle.std.proofs.lemmas.Bool.{false≢true}
use Rattle.regress_tree.specs.Tree.{tree}
use Rattle.regress_tree.proofs.RootLemmas.{well_formed-from, from-well_formed, fails-well_formed}
use Rattle.regress_tree.proofs.ir.node.Regex.is_well_formed.Goals as goal

pub returns-then-are : goal.returns-then-are
returns-then-are c =
    let t = tree c.args.self.now.node in
    let g = c.in-Some.groups in (
      λ low. well_formed-from t c.new-ids.result c.survey_root.new.ids g c.in-Some.ensures (sym c.if-are.ensures)
          (leb-true g.reference g.count low),
      λ w. le-leb g.reference g.count (from-well_formed t c.new-ids.result c.survey_root.new.ids g c.in-Some.ensures w).1,
    )

pub returns-else-are : goal.returns-else-are
returns-else-are c =
    let t = tree c.args.self.now.node in (
      λ said. absurd (false≢true (sym c.if-are.false ∙ said)),
      λ w. c.are.ensures ∙ (from-well_formed t c.new-ids.result c.survey_root.new.ids c.in-Some.groups c.in-Some.ensures w).0,
    )

pub returns-in-None : goal.returns-in-None
returns-in-None c =
    let t = tree c.args.self.now.node in (
      λ denied. absurd (false≢true denied),
      λ w. absurd (fails-well_formed t c.new-ids.result c.new-ids.ensures c.in-None.ensures w),
    )
