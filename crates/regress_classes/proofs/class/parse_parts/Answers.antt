-- Each iteration parses one more part.
use Rattle.std.proofs.Common.{◌≡◌, true, Some, sym, ap, ◌∙◌}
use Rattle.std.proofs.lemmas.Bool.{cond-true}
use Rattle.std.proofs.lemmas.Result.{err_from_is_err_and}
use Rattle.regress_unicode.specs.TableOf.{table_of}
use Rattle.regress_lexer.specs.Source.{Source, is_at}
use Rattle.regress_lexer.specs.Views.{source}
use Rattle.regress_lexer.proofs.lemmas.Sources.{on_rejected_then}
use Rattle.regress_classes.proofs.lemmas.Pieces.{class_part_at-shortens}
use Rattle.regress_classes.proofs.ClassLemmas.{one_more_read, all_read, none_after}
use Rattle.regress_classes.proofs.class.parse_parts.Goals as goal

pub loop-cursor-smaller : goal.loop-cursor-smaller
loop-cursor-smaller c =
    let found = c.in_ok-parse_part.ensures.value in
    class_part_at-shortens (table_of c.args.around.now.tables.now) c.args.around.now.parameters.now (source c.loop-cursor.cursor) (found.0, source c.parse_part.new.cursor) found.1

pub loop-cursor-preserved : goal.loop-cursor-preserved
loop-cursor-preserved c =
    let found = c.in_ok-parse_part.ensures.value in
    one_more_read (table_of c.args.around.now.tables.now) c.args.around.now.parameters.now _ (source c.loop-cursor.cursor) (source c.parse_part.new.cursor) c.loop-cursor.gathered
    c.parse_part.new.set found.0
    c.loop-cursor.invariant (sym c.is_at.ensures ∙ c.loop-cursor-test.true) found.1 found.2

pub returns-in_err-parse_part-clause-value : goal.returns-in_err-parse_part-clause-value
returns-in_err-parse_part-clause-value c =
    let p = err_from_is_err_and c.from_residual-in_err-parse_part.result c.from_residual-in_err-parse_part.ensures.1 in
    rw (p.1, p.2) (on_rejected_then c.in_err-parse_part.field-0.0
    (none_after (table_of c.args.around.now.tables.now) c.args.around.now.parameters.now _ (source c.loop-cursor.cursor) c.loop-cursor.gathered c.loop-cursor.invariant
    (sym c.is_at.ensures ∙ c.loop-cursor-test.true))
    c.in_err-parse_part.ensures.value)

pub returns-clause-value : goal.returns-clause-value
returns-clause-value c =
    let closes : is_at 93 (source c.loop-cursor.cursor) ≡ true = sym c.is_at.ensures ∙ c.loop-cursor-test.false in
    let all = all_read (table_of c.args.around.now.tables.now) c.args.around.now.parameters.now _ (source c.loop-cursor.cursor) c.loop-cursor.gathered _ c.loop-cursor.invariant closes
    c.in_ok-into_set.ensures in (
      all.0,
      all.1 ∙ ap (λ (rest : Source). Some (all.0, rest)) (sym (c.try_consume.ensures.moves ∙ cond-true _ _ _ (c.try_consume.ensures.found ∙ closes))),
      all.2,
    )
