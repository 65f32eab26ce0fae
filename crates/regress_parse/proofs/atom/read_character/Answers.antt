use Rattle.std.proofs.Common.{refl, sym, rules, arith}
use Rattle.regress_lexer.proofs.lemmas.After.{after_all, character_escape_at-ends}
use Rattle.regress_syntax.specs.Syntax.{literal}
use Rattle.regress_parse.proofs.atom.read_character.Goals as goal

pub invariant_of-cursor : goal.invariant_of-cursor
invariant_of-cursor c = record {
  in_range = after_all _ _
      ((character_escape_at-ends c.args.scope.now.dialect c.args.scope.now.flags.unicode c.args.cursor.now.rest.now).each
      (c.in-Some.found, c.in-Some.rest.now) (sym c.in-Some.ensures.value))
      c.args.cursor.now.in_range;
}

pub returns-clause-value : goal.returns-clause-value
returns-clause-value c = (
  literal c.args.scope.now.flags c.in-Some.found,
  search rules,
  record { node = c.in_ok-make_literal.ensures; nesting = omega arith; allows = refl },
)
