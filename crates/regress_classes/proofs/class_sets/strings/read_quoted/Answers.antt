use Rattle.std.proofs.Common.{sym, refl, ◌∙◌}
use Rattle.std.proofs.lemmas.Bool.{cond-true}
use Rattle.regress_classes.specs.ClassSets.{class, value_of_strings}
use Rattle.regress_lexer.specs.Views.{source}
use Rattle.regress_classes.proofs.ClassStringLemmas.{quoted}
use Rattle.regress_classes.proofs.class_sets.strings.read_quoted.Goals as goal

pub returns-clause-value : goal.returns-clause-value
returns-clause-value c =
    let found = c.in_ok-read_strings.ensures.value in
    let opens = sym c.try_consume.ensures.found ∙ c.if-not-try_consume.false in (
      class (value_of_strings found.0),
      quoted c.args.parameters.now (source c.args.cursor.now) (source c.try_consume.new.self) _ opens
          (c.try_consume.ensures.moves ∙ cond-true _ _ _ c.if-not-try_consume.false) found.1,
      (value_of_strings found.0, refl, found.2),
    )
