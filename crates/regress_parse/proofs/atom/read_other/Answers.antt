-- Each branch is the atom that the grammar selects by the first code point.
use Rattle.std.proofs.Common.{rules, arith}
use Rattle.std.proofs.lemmas.Bool.Decides.{nat_tests}
use Rattle.regress_base.specs.declared.types.AnchorType.TheVariants.{StartOfLine, EndOfLine}
use Rattle.regress_syntax.specs.Syntax.{literal, dot, anchor}
use Rattle.regress_parse.proofs.atom.read_other.Goals as goal

pub returns-then-c-from-clause-value : goal.returns-then-c-from-clause-value
returns-then-c-from-clause-value c = (
  dot c.args.scope.now.flags,
  search rules,
  record { node = c.make_dot.ensures; nesting = omega arith; allows = grind (arith, nat_tests) },
)

pub returns-then-c-from-2-clause-value : goal.returns-then-c-from-2-clause-value
returns-then-c-from-2-clause-value c = (
  anchor c.args.scope.now.flags StartOfLine,
  search rules,
  record { node = c.make_anchor.ensures; nesting = omega arith; allows = grind (arith, nat_tests) },
)

pub returns-then-c-from-3-clause-value : goal.returns-then-c-from-3-clause-value
returns-then-c-from-3-clause-value c = (
  anchor c.args.scope.now.flags EndOfLine,
  search rules,
  record { node = c.make_anchor-then-c-from-3.ensures; nesting = omega arith; allows = grind (arith, nat_tests) },
)

pub returns-in_ok-make_literal-clause-value : goal.returns-in_ok-make_literal-clause-value
returns-in_ok-make_literal-clause-value c = (
  literal c.args.scope.now.flags c.args.c,
  search rules,
  record { node = c.in_ok-make_literal.ensures; nesting = omega arith; allows = grind (arith, nat_tests) },
)
