use Rattle.std.proofs.Common.{◌≡◌, ◌++◌, ◌+◌, ℕ, List, Result, Ok, Err, OnOk, length, map, replicate, sym, ap, subst, ◌∙◌, arith}
use Rattle.std.proofs.lemmas.List.{length-map}
use Rattle.regress_tree.specs.Tree.{Tree, tree, trees}
use Rattle.regress_tree.specs.Visits.{nodes}
use Rattle.regress_tree.proofs.lemmas.Nodes.{tree-Cat}
use Rattle.regress_parse.specs.declared.span.Span.{Span}
use Rattle.regress_parse.specs.Recorded.{IsFlat}
use Rattle.regress_parse.proofs.FlatLemmas.{leaves-nodes}
use Rattle.regress_parse.proofs.recording.push_nodes.Goals as goal

pub returns-in-Cat : goal.returns-in-Cat
returns-in-Cat c flat =
    let is = ap tree c.in-Cat.is ∙ tree-Cat c.in-Cat.parts in
    let count : nodes (tree c.args.item.now) ≡ length c.in-Cat.parts.items + 1 =
    ap nodes is
    ∙ omega (arith, leaves-nodes (map tree c.in-Cat.parts.items) (subst IsFlat is flat), length-map c.in-Cat.parts.items tree) in
    subst (λ n. OnOk c.push_copies.result (c.push_copies.new.spans.items ≡ c.args.spans.now.items ++ replicate n c.args.span))
    (ap (λ n. n + 1) (c.len.ensures ∙ c.in-Cat.parts.ok.0) ∙ sym count) c.push_copies.ensures
