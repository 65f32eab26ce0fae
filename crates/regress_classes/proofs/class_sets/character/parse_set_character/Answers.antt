use Rattle.std.proofs.Common.{◌≡◌, length, sym, ap, subst, ◌∙◌}
use Rattle.std.specs.List.{All}
use Rattle.std.proofs.lemmas.Bool.{cond-true, cond-false}
use Rattle.std.proofs.lemmas.List.Elements.{All-tail}
use Rattle.regress_lexer.specs.Source.{IsCodePoint}
use Rattle.regress_lexer.specs.Reads.{ParsesWithoutAllocating}
use Rattle.regress_lexer.specs.Views.{source}
use Rattle.regress_classes.proofs.ClassOperandLemmas.{set_escape_read, literal_parsed, no_itself, no_character}
use Rattle.regress_classes.proofs.class_sets.character.parse_set_character.Goals as goal
use Rattle.regress_classes.proofs.class_sets.character.parse_set_character.Goals.{in_default-via-in-Some+else-is_literal, in_default-via-in_default}

pub invariant_of-cursor : goal.invariant_of-cursor
invariant_of-cursor c = record {
  in_range = All-tail IsCodePoint c.in-Some.c.now c.in-Some.rest.now (subst (All IsCodePoint) c.in-Some.ensures.cases.0 c.try_consume.new.self.in_range);
}

pub returns-then-try_consume-clause-value : goal.returns-then-try_consume-clause-value
returns-then-try_consume-clause-value c =
    subst (ParsesWithoutAllocating (λ d. d) (source c.read_escaped_character.new.cursor) c.read_escaped_character.result)
    (sym (set_escape_read c.args.parameters.now (source c.args.cursor.now) (source c.try_consume.new.self)
    (sym c.try_consume.ensures.found ∙ c.if-try_consume.true) (c.try_consume.ensures.moves ∙ cond-true _ _ _ c.if-try_consume.true)))
    c.read_escaped_character.ensures.value

pub returns-in-Some-clause-value : goal.returns-in-Some-clause-value
returns-in-Some-clause-value c =
    let same : source c.try_consume.new.self ≡ source c.args.cursor.now = c.try_consume.ensures.moves ∙ cond-false _ _ _ c.if-try_consume.false in
    literal_parsed c.args.parameters.now (source c.args.cursor.now) c.in-Some.c.now c.in-Some.rest.now (sym same ∙ c.in-Some.ensures.cases.0)
    (sym c.try_consume.ensures.found ∙ c.if-try_consume.false) (sym c.is_literal.ensures ∙ c.if-is_literal.true)

pub returns-in_default-clause-value : goal.returns-in_default-clause-value
returns-in_default-clause-value c =
    let same : source c.try_consume.new.self ≡ source c.args.cursor.now = c.try_consume.ensures.moves ∙ cond-false _ _ _ c.if-try_consume.false in
    elim c.in_default.branch [
      | in_default-via-in-Some+else-is_literal w ↦
          no_itself c.args.parameters.now (source c.args.cursor.now) w.in-Some.c.now w.in-Some.rest.now (sym same ∙ w.in-Some.ensures.cases.0)
          (sym c.try_consume.ensures.found ∙ c.if-try_consume.false) (sym w.is_literal.ensures ∙ w.if-is_literal.false)
      | in_default-via-in_default w ↦ no_character c.args.parameters.now (source c.args.cursor.now) (ap length (sym same) ∙ w.in_default.ensures.cases)
    ]
