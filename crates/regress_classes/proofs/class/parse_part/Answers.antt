-- A plain part, or any other part.
use Rattle.std.proofs.Common.{[], ◌∷◌, subst}
use Rattle.regress_unicode.specs.TableOf.{table_of}
use Rattle.regress_lexer.specs.Reads.{ParsesAs}
use Rattle.regress_lexer.specs.Source.{Source}
use Rattle.regress_lexer.specs.Views.{source}
use Rattle.regress_classes.specs.ClassProductions.{class_part_at}
use Rattle.regress_classes.specs.ClassViews.{Adds}
use Rattle.regress_classes.proofs.ClassLemmas.{adds_one}
use Rattle.regress_classes.proofs.class.parse_part.Goals as goal

pub returns-in-Some-clause-value : goal.returns-in-Some-clause-value
returns-in-Some-clause-value c = (
  c.in-Some.interval ∷ [],
  c.in-Some.ensures.some (table_of c.args.around.now.tables.now),
  adds_one c.in-Some.interval c.args.set.now c.add.new.self c.in_ok-add.ensures,
)

pub returns-clause-value : goal.returns-clause-value
returns-clause-value c =
    subst (λ (t : Source). ParsesAs (λ _ members. Adds members c.args.set.now c.read_any_part.new.set) (source c.read_any_part.new.cursor)
    c.read_any_part.result (class_part_at (table_of c.args.around.now.tables.now) c.args.around.now.parameters.now t))
    c.in_default.ensures.none c.read_any_part.ensures.value
