use Rattle.std.proofs.Common.{◌≡◌, Some, refl, sym, subst, arith}
use Rattle.regress_syntax.specs.Numbering.{group_number_at}
use Rattle.regress_lexer.specs.Source.{Source}
use Rattle.regress_syntax.specs.Syntax.{by_number, back_reference}
use Rattle.regress_syntax.specs.Views.{context_of}
use Rattle.regress_lexer.specs.Views.{source}
use Rattle.regress_syntax.proofs.lemmas.References.{group_number_at-ends, numbered-some}
use Rattle.regress_tree.proofs.lemmas.Nodes.{tree-BackRef}
use Rattle.regress_lexer.proofs.lemmas.After.{after_all}
use Rattle.regress_parse.proofs.atom.read_numbered.Goals as goal

pub invariant_of-cursor : goal.invariant_of-cursor
invariant_of-cursor c = record {
  in_range = after_all _ _
      ((group_number_at-ends c.count.result c.args.cursor.now.rest.now).each (c.in-Some.group, c.in-Some.rest.now) (sym c.in-Some.ensures))
      c.args.cursor.now.in_range;
}

pub returns-in-Some-clause-value : goal.returns-in-Some-clause-value
returns-in-Some-clause-value c =
    let ctx = context_of c.args.scope.now in
    let t = source c.args.cursor.now in
    let found : group_number_at ctx.groups t ≡ Some (c.in-Some.group, c.in-Some.rest.now) =
    subst (λ groups. group_number_at groups t ≡ Some (c.in-Some.group, c.in-Some.rest.now)) c.count.ensures (sym c.in-Some.ensures) in (
      back_reference ctx.setting.flags (by_number c.in-Some.group),
      numbered-some ctx c.args.c _ c.in-Some.group c.in-Some.rest.now
          (subst (λ (u : Source). group_number_at ctx.groups u ≡ Some (c.in-Some.group, c.in-Some.rest.now)) c.requires.front found),
      record { node = tree-BackRef c.in-Some.group c.args.scope.now.flags.icase; nesting = omega arith; allows = refl },
    )
