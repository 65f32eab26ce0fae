use Rattle.std.proofs.Common.{refl, rules, arith}
use Rattle.regress_syntax.specs.Syntax.{literal}
use Rattle.regress_parse.proofs.atom.read_brace.Goals as goal

pub returns-in_ok-make_literal-clause-value : goal.returns-in_ok-make_literal-clause-value
returns-in_ok-make_literal-clause-value c = (
  literal c.args.scope.now.flags c.args.c,
  search rules,
  record { node = c.in_ok-make_literal.ensures; nesting = omega arith; allows = refl },
)
