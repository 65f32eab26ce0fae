-- Each branch is the production that the grammar selects.
use Rattle.std.proofs.Common.{Bool, ◌==◌, refl, sym, ap, subst, ◌∙◌}
use Rattle.std.proofs.lemmas.Bool.{ne_eqb}
use Rattle.std.proofs.lemmas.List.{nil_from_length}
use Rattle.std.proofs.lemmas.List.Elements.{All-tail}
use Rattle.std.proofs.lemmas.Result.{err_from_is_err_and}
use Rattle.std.specs.List.{All}
use Rattle.regress_base.specs.declared.charclasses.CharacterClassType.{CharacterClassType}
use Rattle.regress_unicode.specs.TableOf.{table_of}
use Rattle.regress_lexer.specs.Reads.{ParsesAs}
use Rattle.regress_lexer.specs.Source.{IsCodePoint, found_map}
use Rattle.regress_lexer.specs.Views.{source}
use Rattle.regress_classes.specs.ClassProductions.{class_members}
use Rattle.regress_classes.specs.ClassSets.{only, character, class, property_operand_at, escaped_operand_at}
use Rattle.regress_classes.specs.ClassViews.{IsOperand}
use Rattle.regress_lexer.proofs.lemmas.Sources.{on_rejected}
use Rattle.regress_classes.proofs.EscapeProductions.{class_escape_read, quoted_read, property_operand_read, character_escape_read}
use Rattle.regress_classes.proofs.class_sets.operand.read_escaped_operand.Goals as goal

pub invariant_of-cursor : goal.invariant_of-cursor
invariant_of-cursor c = record {
  in_range = All-tail IsCodePoint c.in-Some.c.now c.in-Some.rest.now (subst (All IsCodePoint) c.in-Some.ensures.cases.0 c.args.cursor.now.in_range);
}

pub invariant_of-cursor-then-c-from : goal.invariant_of-cursor-then-c-from
invariant_of-cursor-then-c-from c = record {
  in_range = All-tail IsCodePoint c.in-Some.c.now c.in-Some.rest.now (subst (All IsCodePoint) c.in-Some.ensures.cases.0 c.args.cursor.now.in_range);
}

pub invariant_of-cursor-then-is_property_letter : goal.invariant_of-cursor-then-is_property_letter
invariant_of-cursor-then-is_property_letter c = record {
  in_range = All-tail IsCodePoint c.in-Some.c.now c.in-Some.rest.now (subst (All IsCodePoint) c.in-Some.ensures.cases.0 c.args.cursor.now.in_range);
}

pub returns-in_default-clause-value : goal.returns-in_default-clause-value
returns-in_default-clause-value c =
    let around = c.args.around.now in
    on_rejected c.rejected.result
    (ap (escaped_operand_at (table_of around.tables.now) around.parameters.now around.negated)
    (nil_from_length (source c.args.cursor.now) c.in_default.ensures.cases))

pub returns-in_ok-class_value-clause-value : goal.returns-in_ok-class_value-clause-value
returns-in_ok-class_value-clause-value c =
    let around = c.args.around.now in
    let letter = c.in-Some.c.now in
    let front = c.in-Some.ensures.cases.0 in
    let named : CharacterClassType × Bool = (c.in-Some-class_letter.kind, c.in-Some-class_letter.negated) in (
      class (only (class_members (table_of around.tables.now) around.parameters.now named)),
      class_escape_read (table_of around.tables.now) around.parameters.now around.negated (source c.args.cursor.now) letter c.in-Some.rest.now front named
          (sym c.class_letter.ensures ∙ c.in-Some-class_letter.is),
      (only (class_members (table_of around.tables.now) around.parameters.now named), refl, c.in_ok-class_value.ensures),
    )

pub returns-then-c-from-clause-value : goal.returns-then-c-from-clause-value
returns-then-c-from-clause-value c =
    let around = c.args.around.now in
    let letter = c.in-Some.c.now in
    let front = c.in-Some.ensures.cases.0 in
    subst (ParsesAs IsOperand (source c.read_quoted.new.cursor) c.read_quoted.result)
    (sym (quoted_read (table_of around.tables.now) around.parameters.now around.negated (source c.args.cursor.now) letter c.in-Some.rest.now front
    (c.if-c-from.true ∙ c.from.ensures)))
    c.read_quoted.ensures.value

pub returns-then-is_property_letter-clause-value : goal.returns-then-is_property_letter-clause-value
returns-then-is_property_letter-clause-value c =
    let around = c.args.around.now in
    let letter = c.in-Some.c.now in
    let front = c.in-Some.ensures.cases.0 in
    let list = property_operand_read (table_of around.tables.now) around.parameters.now around.negated (source c.args.cursor.now) letter c.in-Some.rest.now front
    (sym c.is_property_letter.ensures ∙ c.if-is_property_letter.true) in
    subst (ParsesAs IsOperand (source c.read_property_operand.new.cursor) c.read_property_operand.result)
    (ap (λ d. property_operand_at (table_of around.tables.now) around.parameters.now around.negated (letter == d) c.in-Some.rest.now) c.from-then-is_property_letter.ensures
    ∙ sym list)
    c.read_property_operand.ensures.value

pub returns-in_ok-character-clause-value : goal.returns-in_ok-character-clause-value
returns-in_ok-character-clause-value c =
    let around = c.args.around.now in
    let letter = c.in-Some.c.now in
    let front = c.in-Some.ensures.cases.0 in
    let list = character_escape_read (table_of around.tables.now) around.parameters.now around.negated (source c.args.cursor.now) letter c.in-Some.rest.now front
    (sym c.class_letter.ensures ∙ c.in_default-class_letter.is) (ne_eqb letter 113 (λ e. c.if-c-from.false (e ∙ sym c.from.ensures)))
    (sym c.is_property_letter.ensures ∙ c.if-is_property_letter.false) in (
      character c.in_ok-character.character,
      list ∙ ap (found_map character) c.in_ok-character.ensures.value,
      (refl, c.in_ok-character.ensures.in_range),
    )

pub returns-in_err-character-clause-value : goal.returns-in_err-character-clause-value
returns-in_err-character-clause-value c =
    let p = err_from_is_err_and c.from_residual-in_err-character.result c.from_residual-in_err-character.ensures.1 in
    let around = c.args.around.now in
    let letter = c.in-Some.c.now in
    rw (p.1, p.2) (on_rejected c.in_err-character.field-0.0
    (character_escape_read (table_of around.tables.now) around.parameters.now around.negated (source c.args.cursor.now) letter c.in-Some.rest.now
    c.in-Some.ensures.cases.0 (sym c.class_letter.ensures ∙ c.in_default-class_letter.is)
    (ne_eqb letter 113 (λ e. c.if-c-from.false (e ∙ sym c.from.ensures))) (sym c.is_property_letter.ensures ∙ c.if-is_property_letter.false)
    ∙ ap (found_map character) c.in_err-character.ensures.value))
