use Rattle.std.proofs.Common.{ap, sym, ◌∙◌}
use Rattle.std.proofs.lemmas.Bool.{cond-false}
use Rattle.regress_tree.specs.declared.ir.node.Node.TheVariants.{Char}
use Rattle.regress_tree.specs.Tree.{leaf}
use Rattle.regress_tree.proofs.lemmas.Nodes.{tree-Char}
use Rattle.regress_parse.proofs.build.push_literal.Goals as goal

pub returns-then-not-scope : goal.returns-then-not-scope
returns-then-not-scope c = record {
  node = Char c.args.c;
  items = c.in_ok-push.ensures.items;
  is = tree-Char c.args.c ∙ sym (ap leaf (cond-false _ _ _ c.if-not-scope.true));
}

pub returns : goal.returns
returns c = record {
  node = c.in_ok-make_literal.field-0;
  items = c.in_ok-push-2.ensures.items;
  is = c.in_ok-make_literal.ensures;
}
