use Rattle.std.proofs.Common.{sym, ◌∙◌}
use Rattle.regress_syntax.proofs.lemmas.Plain.{no_times}
use Rattle.regress_syntax.specs.Views.{context_of}
use Rattle.regress_lexer.specs.Views.{source}
use Rattle.regress_lexer.proofs.lemmas.After.{after_all, quantifier_at-ends}
use Rattle.regress_syntax.proofs.times.parse_optional_quantifier.Goals as goal

pub invariant_of-cursor : goal.invariant_of-cursor
invariant_of-cursor c = record {
  in_range = after_all _ _
      ((quantifier_at-ends c.args.cursor.now.rest.now).each (c.in-Some.quantifier, c.in-Some.rest.now) (sym c.in-Some.ensures))
      c.args.cursor.now.in_range;
}

pub returns-then-not-may_begin-clause-value : goal.returns-then-not-may_begin-clause-value
returns-then-not-may_begin-clause-value c =
    no_times (context_of c.args.scope.now) c.args.allowed (source c.args.cursor.now)
    (sym c.may_begin.ensures ∙ c.if-not-may_begin.true)
