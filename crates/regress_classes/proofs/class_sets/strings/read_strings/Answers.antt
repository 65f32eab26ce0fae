-- Each iteration parses one more character, or starts one more string.
use Rattle.std.proofs.Common.{◌≡◌, length, sym, ap, arith, ◌∙◌}
use Rattle.std.proofs.lemmas.Bool.{cond-true, cond-false}
use Rattle.std.proofs.lemmas.Result.{err_from_is_err_and}
use Rattle.regress_classes.specs.ClassSets.{value_of_strings}
use Rattle.regress_lexer.specs.Views.{source}
use Rattle.regress_lexer.proofs.lemmas.Sources.{on_rejected}
use Rattle.regress_lexer.proofs.lemmas.Sources.{length-none}
use Rattle.regress_classes.proofs.ClassStringLemmas.{character_shortens, character_at_end, no_strings, more_character, more_string, all_strings_read, no_character}
use Rattle.regress_classes.proofs.class_sets.strings.read_strings.Goals as goal

pub loop-cursor-init : goal.loop-cursor-init
loop-cursor-init c = no_strings c.args.parameters.now (source c.args.cursor.now) c.new-string.result.items c.new-value.result c.new-string.ensures.items
    c.new-value.ensures

pub loop-cursor-preserved-then-try_consume : goal.loop-cursor-preserved-then-try_consume
loop-cursor-preserved-then-try_consume c =
    let l = c.loop-cursor in
    more_string c.args.parameters.now (source c.args.cursor.now) (source l.cursor) (source c.try_consume.new.self) l.string.items
    c.new-string-then-try_consume.result.items l.value c.add_string.new.self l.invariant (sym c.is_at.ensures ∙ c.loop-cursor-test.true)
    (sym c.try_consume.ensures.found ∙ c.if-try_consume.true) (c.try_consume.ensures.moves ∙ cond-true _ _ _ c.if-try_consume.true)
    c.new-string-then-try_consume.ensures.items
    (c.in_ok-add_string.ensures (value_of_strings l.invariant.strings) l.invariant.value)

pub returns-then-is_empty-clause-value : goal.returns-then-is_empty-clause-value
returns-then-is_empty-clause-value c =
    let l = c.loop-cursor in
    let same : source c.try_consume.new.self ≡ source l.cursor = c.try_consume.ensures.moves ∙ cond-false _ _ _ c.if-try_consume.false in
    on_rejected c.rejected.result
    (no_character c.args.parameters.now (source c.args.cursor.now) (source l.cursor) l.string.items l.value l.invariant
    (sym c.is_at.ensures ∙ c.loop-cursor-test.true) (sym c.try_consume.ensures.found ∙ c.if-try_consume.false)
    (character_at_end c.args.parameters.now (source l.cursor) (sym same ∙ length-none (source c.try_consume.new.self) (sym c.if-is_empty.ensures))))

pub returns-in_err-parse_set_character-clause-value : goal.returns-in_err-parse_set_character-clause-value
returns-in_err-parse_set_character-clause-value c =
    let p = err_from_is_err_and c.from_residual-in_err-parse_set_character.result c.from_residual-in_err-parse_set_character.ensures.1 in
    let l = c.loop-cursor in
    let same : source c.try_consume.new.self ≡ source l.cursor = c.try_consume.ensures.moves ∙ cond-false _ _ _ c.if-try_consume.false in
    let none = c.in_err-parse_set_character.ensures.value in
    rw (p.1, p.2) (on_rejected c.in_err-parse_set_character.field-0.0
    (no_character c.args.parameters.now (source c.args.cursor.now) (source l.cursor) l.string.items l.value l.invariant
    (sym c.is_at.ensures ∙ c.loop-cursor-test.true) (sym c.try_consume.ensures.found ∙ c.if-try_consume.false) (rw same at none)))

pub loop-cursor-smaller : goal.loop-cursor-smaller
loop-cursor-smaller c =
    let same = c.try_consume.ensures.moves ∙ cond-false _ _ _ c.if-try_consume.false in
    omega (
      arith,
      character_shortens c.args.parameters.now (source c.try_consume.new.self) (c.in_ok-parse_set_character.field-0, source c.parse_set_character.new.cursor)
          c.in_ok-parse_set_character.ensures.value,
      ap length same,
    )

pub loop-cursor-preserved : goal.loop-cursor-preserved
loop-cursor-preserved c =
    let l = c.loop-cursor in
    let same : source c.try_consume.new.self ≡ source l.cursor = c.try_consume.ensures.moves ∙ cond-false _ _ _ c.if-try_consume.false in
    more_character c.args.parameters.now (source c.args.cursor.now) (source l.cursor) (source c.parse_set_character.new.cursor) l.string.items
    c.push.new.self.items c.in_ok-parse_set_character.field-0 l.value l.invariant (sym c.is_at.ensures ∙ c.loop-cursor-test.true)
    (sym c.try_consume.ensures.found ∙ c.if-try_consume.false) (rw same at c.in_ok-parse_set_character.ensures.value)
    c.in_ok-parse_set_character.ensures.in_range c.in_ok-push.ensures.items

pub returns-clause-value : goal.returns-clause-value
returns-clause-value c =
    let l = c.loop-cursor in
    let closes = sym c.is_at.ensures ∙ c.loop-cursor-test.false in
    all_strings_read c.args.parameters.now (source c.args.cursor.now) (source l.cursor) (source c.try_consume-2.new.self) l.string.items l.value
    c.add_string-2.new.self l.invariant closes
    (c.try_consume-2.ensures.moves ∙ cond-true _ _ _ (c.try_consume-2.ensures.found ∙ closes))
    (c.in_ok-add_string-2.ensures (value_of_strings l.invariant.strings) l.invariant.value)
