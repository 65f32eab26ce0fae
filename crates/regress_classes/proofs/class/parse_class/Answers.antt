-- The parts, and whether the class is inverted.
use Rattle.std.proofs.Common.{None, Some, refl}
use Rattle.std.proofs.lemmas.Result.{err_from_is_err_and}
use Rattle.regress_unicode.specs.TableOf.{table_of}
use Rattle.regress_lexer.specs.Views.{source}
use Rattle.regress_lexer.proofs.lemmas.Sources.{on_rejected_then}
use Rattle.regress_classes.proofs.ClassLemmas.{class_is}
use Rattle.regress_classes.proofs.class.parse_class.Goals as goal

pub returns-in_err-set-clause-value : goal.returns-in_err-set-clause-value
returns-in_err-set-clause-value c =
    let p = err_from_is_err_and c.from_residual.result c.from_residual.ensures.1 in
    let caret = c.try_consume-inverted in
    rw (p.1, p.2) (on_rejected_then c.in_err-set.field-0.0
    (class_is (table_of c.args.tables.now) c.args.parameters.now caret.result (source c.args.cursor.now) (source caret.new.self) None caret.ensures.found
    caret.ensures.moves)
    c.in_err-set.ensures.value)

pub returns-clause-value : goal.returns-clause-value
returns-clause-value c =
    let caret = c.try_consume-inverted in
    let found = c.in_ok-set.ensures.value in (
      (caret.result, found.0),
      class_is (table_of c.args.tables.now) c.args.parameters.now caret.result (source c.args.cursor.now) (source caret.new.self)
          (Some (found.0, source c.parse_parts.new.cursor))
          caret.ensures.found caret.ensures.moves found.1,
      (refl, found.2),
    )
