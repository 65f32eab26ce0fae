-- Each clause follows from a lemma on what was parsed, at the values of the call.
use Rattle.std.proofs.Common.{◌≡◌, ◌⊎◌, ◌<◌, ◌≤◌, ℕ, Bool, false, ◌&&◌, ◌-◌, Some, None, length, drop, [], ◌∷◌, refl, sym, ap, ap₂, subst, arith, length-drop, ◌∙◌}
use Rattle.std.proofs.lemmas.Bool.{cond-true, cond-false}
use Rattle.std.proofs.lemmas.Result.{err_from_is_err_and}
use Rattle.regress_unicode.specs.TableOf.{table_of}
use Rattle.regress_classes.specs.declared.class_sets.OperandContext.{OperandContext}
use Rattle.regress_classes.specs.ClassProductions.{one_point}
use Rattle.regress_classes.specs.ClassSets.{Value, nothing, is_not_negatable, only, joined, nested, unless_negated_strings, set_character_at, character, class, value_of, closed_value, closed_value_of, are_at}
use Rattle.regress_lexer.specs.declared.dialect.Dialect.{Dialect}
use Rattle.regress_lexer.specs.Dialects.{isolates_ampersand}
use Rattle.regress_lexer.specs.Reads.{ParsesAs}
use Rattle.regress_lexer.specs.Source.{Source, found_map, is_at}
use Rattle.regress_classes.specs.ClassViews.{IsValue, IsUnion, IsChain, IsOperand, inner_of, parts_onto, symbol_of, applied}
use Rattle.regress_lexer.specs.Views.{source}
use Rattle.regress_lexer.proofs.lemmas.Sources.{on_rejected, on_rejected_then, on_kind_then}
use Rattle.regress_lexer.proofs.lemmas.Faults.{fails_then, by_nesting_then}
use Rattle.regress_lexer.specs.Fault.{is_limit}
use Rattle.regress_lexer.specs.declared.fault.FaultKind.{FaultKind}
use Rattle.regress_lexer.specs.declared.fault.FaultKind.TheVariants.{TooDeep}
use Rattle.regress_lexer.proofs.lemmas.After.{Ends, after_shorter}
use Rattle.regress_classes.proofs.lemmas.ClassSets.{part_after-ends, class_set_by-ends}
use Rattle.regress_classes.proofs.lemmas.ClassStrings.{class_set_by-nesting}
use Rattle.regress_lexer.proofs.lemmas.Sources.{length-none}
use Rattle.regress_classes.proofs.ClassOperandLemmas.{nested_read, escape_read, character_read}
use Rattle.regress_classes.proofs.ClassContentsLemmas.{no_operand, operand_shortens, next_shortens, parts_closed, no_contents, intersection_read, subtraction_read, ampersand_read, first_part_read, no_first, no_part, one_part, parts_end, no_last, last_read, more_read, none_read, no_nesting, class_read, read_on}
use Rattle.regress_classes.proofs.ClassSetLemmas.{nothing-joined}
use Rattle.regress_classes.proofs.ClassPlainLemmas.{plain_union}
use Rattle.regress_classes.proofs.class_sets.+class_set.Goals as goal
use Rattle.regress_classes.proofs.class_sets.+class_set.Goals.{parse_class_set-else-negated-via-then-negated+else-is_not_negatable, parse_class_set-else-negated-via-else-negated}

ends : (around : OperandContext) (t : Source) → Ends (inner_of around t) t
ends around = class_set_by-ends (table_of around.tables.now) around.parameters.now around.nesting

-- ---- operands

pub parse_operand-returns-then-is_empty-clause-value : goal.parse_operand-returns-then-is_empty-clause-value
parse_operand-returns-then-is_empty-clause-value t c =
    let around = c.args.around.now in
    on_rejected c.reject.result
    (no_operand (table_of around.tables.now) around.parameters.now (inner_of around) (ends around) around.negated (source c.args.cursor.now)
    (length-none (source c.args.cursor.now) (sym c.if-is_empty.ensures)))

pub parse_operand-returns-in_err-class-clause-value : goal.parse_operand-returns-in_err-class-clause-value
parse_operand-returns-in_err-class-clause-value t c =
    let p = err_from_is_err_and c.from_residual.result c.from_residual.ensures.1 in
    let around = c.args.around.now in
    rw (p.1, p.2) (on_rejected_then c.in_err-class.field-0.0
    (nested_read (table_of around.tables.now) around.parameters.now (inner_of around) around.negated (source c.args.cursor.now)
    (source c.try_consume.new.self) None (sym c.try_consume.ensures.found ∙ c.if-try_consume.true)
    (c.try_consume.ensures.moves ∙ cond-true _ _ _ c.if-try_consume.true))
    c.in_err-class.ensures.value)

pub parse_operand-returns-then-try_consume-clause-value : goal.parse_operand-returns-then-try_consume-clause-value
parse_operand-returns-then-try_consume-clause-value t c =
    let around = c.args.around.now in
    let found = c.in_ok-class.ensures.value in (
      class (nested found.0),
      nested_read (table_of around.tables.now) around.parameters.now (inner_of around) around.negated (source c.args.cursor.now)
          (source c.try_consume.new.self) (Some (found.0, source c.parse_class_set.new.cursor))
          (sym c.try_consume.ensures.found ∙ c.if-try_consume.true)
          (c.try_consume.ensures.moves ∙ cond-true _ _ _ c.if-try_consume.true) found.1,
      (nested found.0, refl, c.in_ok-into_nested.ensures found.0 found.2),
    )

pub parse_operand-returns-then-try_consume-2-clause-value : goal.parse_operand-returns-then-try_consume-2-clause-value
parse_operand-returns-then-try_consume-2-clause-value t c =
    let around = c.args.around.now in
    let same : source c.try_consume.new.self ≡ source c.args.cursor.now = c.try_consume.ensures.moves ∙ cond-false _ _ _ c.if-try_consume.false in
    subst (ParsesAs IsOperand (source c.read_escaped_operand.new.cursor) c.read_escaped_operand.result)
    (sym (escape_read (table_of around.tables.now) around.parameters.now (inner_of around) around.negated (source c.args.cursor.now)
    (source c.try_consume-2.new.self) (sym c.try_consume.ensures.found ∙ c.if-try_consume.false)
    (ap (is_at 92) (sym same) ∙ sym c.try_consume-2.ensures.found ∙ c.if-try_consume-2.true)
    (c.try_consume-2.ensures.moves ∙ cond-true _ _ _ c.if-try_consume-2.true ∙ ap (λ (u : Source). drop 1 u) same)))
    c.read_escaped_operand.ensures.value

pub parse_operand-returns-in_err-character-clause-value : goal.parse_operand-returns-in_err-character-clause-value
parse_operand-returns-in_err-character-clause-value t c =
    let p = err_from_is_err_and c.from_residual-in_err-character.result c.from_residual-in_err-character.ensures.1 in
    let around = c.args.around.now in
    let same : source c.try_consume.new.self ≡ source c.args.cursor.now = c.try_consume.ensures.moves ∙ cond-false _ _ _ c.if-try_consume.false in
    let still : source c.try_consume-2.new.self ≡ source c.args.cursor.now =
    c.try_consume-2.ensures.moves ∙ cond-false _ _ _ c.if-try_consume-2.false ∙ same in
    rw (p.1, p.2) (on_rejected c.in_err-character.field-0.0
    (character_read (table_of around.tables.now) around.parameters.now (inner_of around) around.negated (source c.args.cursor.now) None
    (sym c.try_consume.ensures.found ∙ c.if-try_consume.false)
    (ap (is_at 92) (sym same) ∙ sym c.try_consume-2.ensures.found ∙ c.if-try_consume-2.false)
    (ap (set_character_at around.parameters.now) (sym still) ∙ c.in_err-character.ensures.value)))

pub parse_operand-returns-clause-value : goal.parse_operand-returns-clause-value
parse_operand-returns-clause-value t c =
    let around = c.args.around.now in
    let read = c.in_ok-character.character in
    let same : source c.try_consume.new.self ≡ source c.args.cursor.now = c.try_consume.ensures.moves ∙ cond-false _ _ _ c.if-try_consume.false in
    let still : source c.try_consume-2.new.self ≡ source c.args.cursor.now =
    c.try_consume-2.ensures.moves ∙ cond-false _ _ _ c.if-try_consume-2.false ∙ same in (
      character read,
      character_read (table_of around.tables.now) around.parameters.now (inner_of around) around.negated (source c.args.cursor.now)
          (Some (read, source c.parse_set_character.new.cursor)) (sym c.try_consume.ensures.found ∙ c.if-try_consume.false)
          (ap (is_at 92) (sym same) ∙ sym c.try_consume-2.ensures.found ∙ c.if-try_consume-2.false)
          (ap (set_character_at around.parameters.now) (sym still) ∙ c.in_ok-character.ensures.value),
      (refl, c.in_ok-character.ensures.in_range),
    )

-- ---- contents

pub parse_contents-returns-then-is_empty-clause-value : goal.parse_contents-returns-then-is_empty-clause-value
parse_contents-returns-then-is_empty-clause-value t c =
    let around = c.args.around.now in
    let same : source c.try_consume.new.self ≡ source c.args.cursor.now = c.try_consume.ensures.moves ∙ cond-false _ _ _ c.if-try_consume.false in
    on_rejected c.rejected.result
    (no_contents (table_of around.tables.now) around.parameters.now (inner_of around) (ends around) around.negated (source c.args.cursor.now)
    (sym same ∙ length-none (source c.try_consume.new.self) (sym c.if-is_empty.ensures)))

pub parse_contents-returns-then-begins_plain_union-clause-value : goal.parse_contents-returns-then-begins_plain_union-clause-value
parse_contents-returns-then-begins_plain_union-clause-value t c =
    let around = c.args.around.now in
    let plain = c.begins_plain_union.ensures c.if-begins_plain_union.true in
    subst (ParsesAs IsValue (source c.parse_parts.new.cursor) c.parse_parts.result)
    (sym (plain_union (table_of around.tables.now) around.parameters.now (inner_of around) around.negated (ends around) (source c.args.cursor.now)
    plain.1 plain.0 plain.2 plain.3 plain.4 plain.5))
    (c.parse_parts.ensures.value nothing c.in_ok-union.ensures)

pub parse_after_first_operand-returns-in_ok-value-clause-value : goal.parse_after_first_operand-returns-in_ok-value-clause-value
parse_after_first_operand-returns-in_ok-value-clause-value t c = λ operand is.
    let around = c.args.around.now in
    subst (ParsesAs IsValue (source c.parse_operands.new.cursor) c.parse_operands.result)
    (sym (intersection_read (table_of around.tables.now) around.parameters.now (inner_of around) (ends around) around.negated operand
    (source c.args.cursor.now) (source c.try_consume_twice.new.cursor)
    (sym c.try_consume_twice.ensures.found ∙ c.if-try_consume_twice.true)
    (c.try_consume_twice.ensures.moves ∙ cond-true _ _ _ c.if-try_consume_twice.true)))
    (c.parse_operands.ensures.value (closed_value_of (table_of around.tables.now) around.parameters.now operand) (c.in_ok-value.ensures operand is))

pub parse_after_first_operand-returns-in_ok-value-2-clause-value : goal.parse_after_first_operand-returns-in_ok-value-2-clause-value
parse_after_first_operand-returns-in_ok-value-2-clause-value t c = λ operand is.
    let around = c.args.around.now in
    let here = source c.args.cursor.now in
    let same : source c.try_consume_twice.new.cursor ≡ here = c.try_consume_twice.ensures.moves ∙ cond-false _ _ _ c.if-try_consume_twice.false in
    let second = c.try_consume_twice-else-try_consume_twice in
    subst (ParsesAs IsValue (source c.parse_operands-then-try_consume_twice-2.new.cursor) c.parse_operands-then-try_consume_twice-2.result)
    (sym (subtraction_read (table_of around.tables.now) around.parameters.now (inner_of around) (ends around) around.negated operand here
    (source second.new.cursor) (sym c.try_consume_twice.ensures.found ∙ c.if-try_consume_twice.false)
    (ap (are_at 45) (sym same) ∙ sym second.ensures.found ∙ c.if-try_consume_twice-2.true)
    (second.ensures.moves ∙ cond-true _ _ _ c.if-try_consume_twice-2.true ∙ ap (λ (u : Source). drop 2 u) same)))
    (c.parse_operands-then-try_consume_twice-2.ensures.value (closed_value_of (table_of around.tables.now) around.parameters.now operand) (c.in_ok-value-2.ensures operand is))

pub parse_after_first_operand-returns-in_ok-add_point-clause-value : goal.parse_after_first_operand-returns-in_ok-add_point-clause-value
parse_after_first_operand-returns-in_ok-add_point-clause-value t c = λ operand is.
    let around = c.args.around.now in
    let here = source c.args.cursor.now in
    let same : source c.try_consume_twice.new.cursor ≡ here = c.try_consume_twice.ensures.moves ∙ cond-false _ _ _ c.if-try_consume_twice.false in
    let still : source c.try_consume_twice-else-try_consume_twice.new.cursor ≡ here =
    c.try_consume_twice-else-try_consume_twice.ensures.moves ∙ cond-false _ _ _ c.if-try_consume_twice-2.false ∙ same in
    subst (ParsesAs IsValue (source c.parse_parts.new.cursor) c.parse_parts.result)
    (sym (ampersand_read (table_of around.tables.now) around.parameters.now (inner_of around) (ends around) around.negated operand here
    (source c.try_consume_ampersand.new.cursor)
    (sym c.try_consume_twice.ensures.found ∙ c.if-try_consume_twice.false)
    (ap (are_at 45) (sym same) ∙ sym c.try_consume_twice-else-try_consume_twice.ensures.found ∙ c.if-try_consume_twice-2.false)
    (ap (λ (u : Source). is_at 38 u && isolates_ampersand around.parameters.now.dialect) (sym still) ∙ sym c.try_consume_ampersand.ensures.found ∙ c.if-try_consume_ampersand.true)
    (c.try_consume_ampersand.ensures.moves ∙ cond-true _ _ _ c.if-try_consume_ampersand.true ∙ ap (λ (u : Source). drop 1 u) still)))
    (c.parse_parts.ensures.value (joined (value_of operand) (only (one_point 38)))
    (subst (λ n. IsUnion c.add_point.new.self (joined (value_of operand) (only (one_point n)))) c.from.ensures
    (c.in_ok-add_point.ensures (value_of operand)
    (subst (IsUnion c.add_operand.new.self) (nothing-joined (value_of operand))
    (c.in_ok-add_operand.ensures nothing operand c.new-union.ensures is)))))

pub parse_after_first_operand-returns-in_ok-parse_rest_of_part-clause-value : goal.parse_after_first_operand-returns-in_ok-parse_rest_of_part-clause-value
parse_after_first_operand-returns-in_ok-parse_rest_of_part-clause-value t c = λ operand is.
    let around = c.args.around.now in
    let here = source c.args.cursor.now in
    let same : source c.try_consume_twice.new.cursor ≡ here = c.try_consume_twice.ensures.moves ∙ cond-false _ _ _ c.if-try_consume_twice.false in
    let still : source c.try_consume_twice-else-try_consume_twice.new.cursor ≡ here =
    c.try_consume_twice-else-try_consume_twice.ensures.moves ∙ cond-false _ _ _ c.if-try_consume_twice-2.false ∙ same in
    let stays : source c.try_consume_ampersand.new.cursor ≡ here = c.try_consume_ampersand.ensures.moves ∙ cond-false _ _ _ c.if-try_consume_ampersand.false ∙ still in
    let part = c.in_ok-parse_rest_of_part.ensures.value operand is in
    subst (ParsesAs IsValue (source c.parse_parts-else-try_consume_ampersand.new.cursor) c.parse_parts-else-try_consume_ampersand.result)
    (sym (first_part_read (table_of around.tables.now) around.parameters.now (inner_of around) (ends around) around.negated operand here
    (source c.try_consume_ampersand.new.cursor) (part.0, source c.parse_rest_of_part.new.cursor)
    (sym c.try_consume_twice.ensures.found ∙ c.if-try_consume_twice.false)
    (ap (are_at 45) (sym same) ∙ sym c.try_consume_twice-else-try_consume_twice.ensures.found ∙ c.if-try_consume_twice-2.false)
    (ap (λ (u : Source). is_at 38 u && isolates_ampersand around.parameters.now.dialect) (sym still) ∙ sym c.try_consume_ampersand.ensures.found ∙ c.if-try_consume_ampersand.false) stays part.1))
    (c.parse_parts-else-try_consume_ampersand.ensures.value part.0
    (subst (IsUnion c.parse_rest_of_part.new.union) (nothing-joined part.0) (part.2 nothing c.new-union-else-try_consume_ampersand.ensures)))

pub parse_rest_of_part-returns-then-not-try_consume-clause-value : goal.parse_rest_of_part-returns-then-not-try_consume-clause-value
parse_rest_of_part-returns-then-not-try_consume-clause-value t c = λ operand is. (
  value_of operand,
  cond-false _ _ _ (sym c.try_consume.ensures.found ∙ c.if-not-try_consume.true)
      ∙ ap (λ (u : Source). Some (value_of operand, u)) (sym (c.try_consume.ensures.moves ∙ cond-false _ _ _ c.if-not-try_consume.true)),
  λ a h. c.in_ok-add_operand.ensures a operand h is,
)

-- ---- parts

pub parse_parts-loop-read-smaller-in-Some : goal.parse_parts-loop-read-smaller-in-Some
parse_parts-loop-read-smaller-in-Some t c =
    let around = c.args.around.now in
    let read = c.in-Some.ensures.part (table_of around.tables.now) around.parameters.now (inner_of around) around.negated in
    subst (λ (u : Source). length u < length (source c.loop-read.cursor)) (sym c.add_plain_part.ensures.moves)
    (parts_end (table_of around.tables.now) around.parameters.now (inner_of around) (ends around) around.negated (source c.loop-read.cursor)
    read.0 (only (c.in-Some.read.0 ∷ []), c.in-Some.read.1.now) read.1 read.2)

pub parse_parts-loop-read-preserved-in-Some : goal.parse_parts-loop-read-preserved-in-Some
parse_parts-loop-read-preserved-in-Some t c =
    let around = c.args.around.now in
    let l = c.loop-read in
    let part = only (c.in-Some.read.0 ∷ []) in
    let rest = c.in-Some.read.1.now in
    let read = c.in-Some.ensures.part (table_of around.tables.now) around.parameters.now (inner_of around) around.negated in (
      λ held is.
          let so_far = l.invariant.0 held is in
          read_on IsUnion _ held (joined so_far.value part) (source c.args.cursor.now) (source l.cursor) (source c.add_plain_part.new.cursor)
          l.union c.add_plain_part.new.union so_far
          (one_part (table_of around.tables.now) around.parameters.now (inner_of around) (ends around) around.negated so_far.value (source l.cursor)
          read.0 (part, rest) (sym c.is_at.ensures ∙ c.loop-read-test.true) read.1 read.2
          ∙ ap (parts_onto (table_of around.tables.now) around.parameters.now (inner_of around) around.negated (joined so_far.value part)) (sym c.add_plain_part.ensures.moves))
          (c.in_ok-add_plain_part.ensures.joins so_far.value so_far.is),
      omega (
        arith,
        l.invariant.1,
        ap length c.add_plain_part.ensures.moves,
        parts_end (table_of around.tables.now) around.parameters.now (inner_of around) (ends around) around.negated (source l.cursor)
            read.0 (part, rest) read.1 read.2,
      ),
    )

pub parse_parts-returns-then-is_empty-clause-value : goal.parse_parts-returns-then-is_empty-clause-value
parse_parts-returns-then-is_empty-clause-value t c = λ held is.
    let around = c.args.around.now in
    let l = c.loop-read in
    let so_far = l.invariant.0 held is in
    on_rejected c.rejected.result
    (so_far.whole
    ∙ no_first (table_of around.tables.now) around.parameters.now (inner_of around) (ends around) around.negated so_far.value (source l.cursor)
    (sym c.is_at.ensures ∙ c.loop-read-test.true)
    (no_operand (table_of around.tables.now) around.parameters.now (inner_of around) (ends around) around.negated (source l.cursor)
    (length-none (source l.cursor) (sym c.if-is_empty.ensures))))

pub parse_parts-returns-in_err-first-clause-value : goal.parse_parts-returns-in_err-first-clause-value
parse_parts-returns-in_err-first-clause-value t c = λ held is.
    let p = err_from_is_err_and c.from_residual-in_err-first.result c.from_residual-in_err-first.ensures.1 in
    let around = c.args.around.now in
    let l = c.loop-read in
    let so_far = l.invariant.0 held is in
    rw (p.1, p.2) (on_rejected_then c.in_err-first.field-0.0
    (λ none. so_far.whole
    ∙ no_first (table_of around.tables.now) around.parameters.now (inner_of around) (ends around) around.negated so_far.value (source l.cursor)
    (sym c.is_at.ensures ∙ c.loop-read-test.true) none)
    c.in_err-first.ensures.value)

pub parse_parts-returns-in_err-parse_rest_of_part-clause-value : goal.parse_parts-returns-in_err-parse_rest_of_part-clause-value
parse_parts-returns-in_err-parse_rest_of_part-clause-value t c = λ held is.
    let p = err_from_is_err_and c.from_residual-in_err-parse_rest_of_part.result c.from_residual-in_err-parse_rest_of_part.ensures.1 in
    let around = c.args.around.now in
    let l = c.loop-read in
    let so_far = l.invariant.0 held is in
    let first = c.in_ok-first.ensures.value in
    rw (p.1, p.2) (on_rejected_then c.in_err-parse_rest_of_part.field-0.0
    (λ none. so_far.whole
    ∙ no_part (table_of around.tables.now) around.parameters.now (inner_of around) (ends around) around.negated so_far.value (source l.cursor)
    (first.0, source c.parse_operand.new.cursor) (sym c.is_at.ensures ∙ c.loop-read-test.true) first.1 none)
    (c.in_err-parse_rest_of_part.ensures.value first.0 first.2))

pub parse_parts-loop-read-smaller : goal.parse_parts-loop-read-smaller
parse_parts-loop-read-smaller t c =
    let around = c.args.around.now in
    let l = c.loop-read in
    let first = c.in_ok-first.ensures.value in
    let part = c.in_ok-parse_rest_of_part.ensures.value first.0 first.2 in
    parts_end (table_of around.tables.now) around.parameters.now (inner_of around) (ends around) around.negated (source l.cursor)
    (first.0, source c.parse_operand.new.cursor) (part.0, source c.parse_rest_of_part.new.cursor) first.1 part.1

pub parse_parts-loop-read-preserved : goal.parse_parts-loop-read-preserved
parse_parts-loop-read-preserved t c =
    let around = c.args.around.now in
    let l = c.loop-read in
    let first = c.in_ok-first.ensures.value in
    let part = c.in_ok-parse_rest_of_part.ensures.value first.0 first.2 in (
      λ held is.
          let so_far = l.invariant.0 held is in
          read_on IsUnion _ held (joined so_far.value part.0) (source c.args.cursor.now) (source l.cursor) (source c.parse_rest_of_part.new.cursor)
          l.union c.parse_rest_of_part.new.union so_far
          (one_part (table_of around.tables.now) around.parameters.now (inner_of around) (ends around) around.negated so_far.value (source l.cursor)
          (first.0, source c.parse_operand.new.cursor) (part.0, source c.parse_rest_of_part.new.cursor)
          (sym c.is_at.ensures ∙ c.loop-read-test.true) first.1 part.1)
          (part.2 so_far.value so_far.is),
      omega (
        arith,
        l.invariant.1,
        parts_end (table_of around.tables.now) around.parameters.now (inner_of around) (ends around) around.negated (source l.cursor)
            (first.0, source c.parse_operand.new.cursor) (part.0, source c.parse_rest_of_part.new.cursor) first.1 part.1,
      ),
    )

pub parse_parts-returns-clause-value : goal.parse_parts-returns-clause-value
parse_parts-returns-clause-value t c = λ held is.
    let around = c.args.around.now in
    let l = c.loop-read in
    let so_far = l.invariant.0 held is in
    let closes = sym c.is_at.ensures ∙ c.loop-read-test.false in (
      so_far.value,
      so_far.whole
          ∙ parts_closed (table_of around.tables.now) around.parameters.now (inner_of around) (ends around) around.negated so_far.value (source l.cursor)
          closes
          ∙ ap (λ (u : Source). Some (so_far.value, u))
          (sym (c.try_consume.ensures.moves ∙ cond-true _ _ _ (c.try_consume.ensures.found ∙ closes))),
      c.in_ok-into_value.ensures so_far.value so_far.is,
    )

-- ---- operators

pub parse_operands-loop-chain-init : goal.parse_operands-loop-chain-init
parse_operands-loop-chain-init t c = (
  λ held is. (
    c.new-chain.ensures.operator,
    record { value = held; whole = refl; is = c.new-chain.ensures.value held is },
  ),
  omega arith,
)

pub parse_operands-returns-in_err-parse_next_operand-clause-value : goal.parse_operands-returns-in_err-parse_next_operand-clause-value
parse_operands-returns-in_err-parse_next_operand-clause-value t c = λ held is.
    let p = err_from_is_err_and c.from_residual.result c.from_residual.ensures.1 in
    let around = c.args.around.now in
    let l = c.loop-chain in
    let so_far = (l.invariant.0 held is).1 in
    rw (p.1, p.2) (on_rejected_then c.in_err-parse_next_operand.field-0.0
    (λ none. so_far.whole
    ∙ no_last (table_of around.tables.now) around.parameters.now (inner_of around) (ends around) around.negated (symbol_of c.args.operator)
    (applied c.args.operator) so_far.value (source l.cursor) none)
    c.in_err-parse_next_operand.ensures.value)

pub parse_operands-returns-then-try_consume-clause-value : goal.parse_operands-returns-then-try_consume-clause-value
parse_operands-returns-then-try_consume-clause-value t c = λ held is.
    let around = c.args.around.now in
    let l = c.loop-chain in
    let so_far = (l.invariant.0 held is).1 in
    let operand = c.in_ok-parse_next_operand.ensures.value in (
      applied c.args.operator so_far.value (closed_value_of (table_of around.tables.now) around.parameters.now operand.0),
      so_far.whole
          ∙ last_read (table_of around.tables.now) around.parameters.now (inner_of around) (ends around) around.negated (symbol_of c.args.operator)
          (applied c.args.operator) so_far.value (source l.cursor) (operand.0, source c.parse_next_operand.new.cursor) (source c.try_consume.new.self)
          operand.1 (sym c.try_consume.ensures.found ∙ c.if-try_consume.true)
          (c.try_consume.ensures.moves ∙ cond-true _ _ _ c.if-try_consume.true),
      subst (λ operator. IsValue c.in_ok-finish.field-0 (applied operator so_far.value (closed_value_of (table_of around.tables.now) around.parameters.now operand.0))) (l.invariant.0 held is).0
          (c.in_ok-finish.ensures so_far.value (closed_value_of (table_of around.tables.now) around.parameters.now operand.0) so_far.is (c.in_ok-operand.ensures operand.0 operand.2)),
    )

pub parse_operands-returns-in_err-consume_operator-clause-value : goal.parse_operands-returns-in_err-consume_operator-clause-value
parse_operands-returns-in_err-consume_operator-clause-value t c = λ held is.
    let p = err_from_is_err_and c.from_residual-in_err-consume_operator.result c.from_residual-in_err-consume_operator.ensures.1 in
    let around = c.args.around.now in
    let l = c.loop-chain in
    let so_far = (l.invariant.0 held is).1 in
    let operand = c.in_ok-parse_next_operand.ensures.value in
    let same : source c.try_consume.new.self ≡ source c.parse_next_operand.new.cursor = c.try_consume.ensures.moves ∙ cond-false _ _ _ c.if-try_consume.false in
    rw (p.1, p.2) (on_rejected c.in_err-consume_operator.field-0.0
    (so_far.whole
    ∙ none_read (table_of around.tables.now) around.parameters.now (inner_of around) (ends around) around.negated (symbol_of c.args.operator)
    (applied c.args.operator) so_far.value (source l.cursor) (operand.0, source c.parse_next_operand.new.cursor) operand.1
    (sym c.try_consume.ensures.found ∙ c.if-try_consume.false)
    (ap (are_at (symbol_of c.args.operator)) (sym same) ∙ c.in_err-consume_operator.ensures.err)))

pub parse_operands-loop-chain-smaller : goal.parse_operands-loop-chain-smaller
parse_operands-loop-chain-smaller t c =
    let around = c.args.around.now in
    let l = c.loop-chain in
    let operand = c.in_ok-parse_next_operand.ensures.value in
    let same : source c.try_consume.new.self ≡ source c.parse_next_operand.new.cursor = c.try_consume.ensures.moves ∙ cond-false _ _ _ c.if-try_consume.false in
    omega (
      arith,
      next_shortens (table_of around.tables.now) around.parameters.now (inner_of around) (ends around) around.negated (symbol_of c.args.operator)
          (source l.cursor) (operand.0, source c.parse_next_operand.new.cursor) operand.1,
      ap length same,
      ap length c.in_ok-consume_operator.ensures.ok.1,
      length-drop 2 (source c.try_consume.new.self),
    )

pub parse_operands-loop-chain-preserved : goal.parse_operands-loop-chain-preserved
parse_operands-loop-chain-preserved t c = (
  λ held is.
      let around = c.args.around.now in
      let l = c.loop-chain in
      let so_far = (l.invariant.0 held is).1 in
      let operand = c.in_ok-parse_next_operand.ensures.value in
      let same : source c.try_consume.new.self ≡ source c.parse_next_operand.new.cursor = c.try_consume.ensures.moves ∙ cond-false _ _ _ c.if-try_consume.false in
      let operator_is = (l.invariant.0 held is).0 in
      let pushed = c.in_ok-chain.ensures in (
        pushed.0 ∙ operator_is,
        read_on IsChain _ held (applied c.args.operator so_far.value (closed_value_of (table_of around.tables.now) around.parameters.now operand.0)) (source c.args.cursor.now) (source l.cursor)
            (source c.consume_operator.new.cursor) l.chain c.in_ok-chain.chain so_far
            (more_read (table_of around.tables.now) around.parameters.now (inner_of around) (ends around) around.negated (symbol_of c.args.operator)
            (applied c.args.operator) so_far.value (source l.cursor) (operand.0, source c.parse_next_operand.new.cursor)
            (source c.consume_operator.new.cursor) operand.1 (sym c.try_consume.ensures.found ∙ c.if-try_consume.false)
            (ap (are_at (symbol_of c.args.operator)) (sym same) ∙ c.in_ok-consume_operator.ensures.ok.0)
            (c.in_ok-consume_operator.ensures.ok.1 ∙ ap (λ (u : Source). drop 2 u) same))
            (subst (λ operator. IsChain c.in_ok-chain.chain (applied operator so_far.value (closed_value_of (table_of around.tables.now) around.parameters.now operand.0))) operator_is
            (pushed.1 so_far.value (closed_value_of (table_of around.tables.now) around.parameters.now operand.0) so_far.is (c.in_ok-operand.ensures operand.0 operand.2))),
      ),
  omega (arith, c.loop-chain.invariant.1, parse_operands-loop-chain-smaller t c),
)

-- ---- classes

pub parse_closed_contents-returns-in_err-value-clause-value : goal.parse_closed_contents-returns-in_err-value-clause-value
parse_closed_contents-returns-in_err-value-clause-value t c =
    let p = err_from_is_err_and c.from_residual.result c.from_residual.ensures.1 in
    let around = c.args.around.now in
    rw (p.1, p.2) (on_rejected_then c.in_err-value.field-0.0
    (λ none. ap (found_map (closed_value (table_of around.tables.now) around.parameters.now)) none)
    c.in_err-value.ensures.value)

pub parse_closed_contents-returns-clause-value : goal.parse_closed_contents-returns-clause-value
parse_closed_contents-returns-clause-value t c =
    let around = c.args.around.now in
    let found = c.in_ok-value.ensures.value in
    let close : Value → Value = closed_value (table_of around.tables.now) around.parameters.now in
    (close found.0, ap (found_map close) found.1, c.in_ok-into_closed.ensures found.0 found.2)

pub parse_class_set-returns-then-nesting-eq0-clause-value : goal.parse_class_set-returns-then-nesting-eq0-clause-value
parse_class_set-returns-then-nesting-eq0-clause-value t c =
    on_rejected c.rejected.result (no_nesting (table_of c.args.tables.now) c.args.parameters.now c.args.nesting (source c.args.cursor.now) c.if-nesting-eq0.true)

pub parse_class_set-returns-in_err-value-clause-value : goal.parse_class_set-returns-in_err-value-clause-value
parse_class_set-returns-in_err-value-clause-value t c =
    let p = err_from_is_err_and c.from_residual.result c.from_residual.ensures.1 in
    rw (p.1, p.2) (on_rejected_then c.in_err-value.field-0.0
    (class_read (table_of c.args.tables.now) c.args.parameters.now c.args.nesting (c.args.nesting - 1) (source c.args.cursor.now)
    (source c.try_consume-negated.new.self) c.try_consume-negated.result c.is_judged.result None (omega (arith, c.if-nesting-eq0.false))
    c.try_consume-negated.ensures.found c.try_consume-negated.ensures.moves c.is_judged.ensures)
    c.in_err-value.ensures.value)

pub parse_class_set-returns-then-is_not_negatable-clause-value : goal.parse_class_set-returns-then-is_not_negatable-clause-value
parse_class_set-returns-then-is_not_negatable-clause-value t c =
    let found = c.in_ok-value.ensures.value in
    let rest = source c.parse_closed_contents.new.cursor in
    on_rejected c.rejected-then-is_not_negatable.result
    (class_read (table_of c.args.tables.now) c.args.parameters.now c.args.nesting (c.args.nesting - 1) (source c.args.cursor.now)
    (source c.try_consume-negated.new.self) c.try_consume-negated.result c.is_judged.result (Some (found.0, rest)) (omega (arith, c.if-nesting-eq0.false))
    c.try_consume-negated.ensures.found c.try_consume-negated.ensures.moves c.is_judged.ensures found.1
    ∙ cond-true _ _ _ (ap₂ (λ a b. a && b) c.if-negated.true
    (sym (c.is_not_negatable.ensures found.0 found.2) ∙ c.if-is_not_negatable.true)))

-- A class that is not negated, or may be, is its contents.
kept_class : (dialect : Dialect) (negated : Bool) (value : Value) (t : Source) → (negated && is_not_negatable dialect value) ≡ false →
    unless_negated_strings dialect negated (value, t) ≡ Some ((negated, value), t)
kept_class dialect negated value t allowed = cond-false _ _ _ allowed

pub parse_class_set-returns-clause-value : goal.parse_class_set-returns-clause-value
parse_class_set-returns-clause-value t c =
    let found = c.in_ok-value.ensures.value in
    let rest = source c.parse_closed_contents.new.cursor in
    let allowed : (c.try_consume-negated.result && is_not_negatable c.args.parameters.now.dialect found.0) ≡ false =
    elim c.else-negated.branch [
      | parse_class_set-else-negated-via-then-negated+else-is_not_negatable w ↦
          ap₂ (λ a b. a && b) w.if-negated.true (sym (w.is_not_negatable.ensures found.0 found.2) ∙ w.if-is_not_negatable.false)
      | parse_class_set-else-negated-via-else-negated w ↦ ap (λ a. a && is_not_negatable c.args.parameters.now.dialect found.0) w.if-negated.false
    ] in (
      (c.try_consume-negated.result, found.0),
      class_read (table_of c.args.tables.now) c.args.parameters.now c.args.nesting (c.args.nesting - 1) (source c.args.cursor.now)
          (source c.try_consume-negated.new.self) c.try_consume-negated.result c.is_judged.result (Some (found.0, rest)) (omega (arith, c.if-nesting-eq0.false))
          c.try_consume-negated.ensures.found c.try_consume-negated.ensures.moves c.is_judged.ensures found.1
          ∙ kept_class c.args.parameters.now.dialect c.try_consume-negated.result found.0 rest allowed,
      (refl, found.2),
    )

pub parse_class_set-returns-clause-nesting : goal.parse_class_set-returns-clause-nesting
parse_class_set-returns-clause-nesting t c =
    let tables = c.args.tables.now in
    let read = parse_class_set-returns-clause-value t c in
    let fewer = (class_set_by-nesting (table_of tables) tables.sound.lawful c.args.parameters.now c.args.nesting (source c.args.cursor.now)
    c.args.cursor.now.in_range).each (read.0, source c.parse_closed_contents.new.cursor) read.1 in
    omega (arith, fewer, read.2.1.others.nesting)

-- ---- nesting depth

-- After what was parsed fewer code points remain.
remaining_is_shorter : {nesting : ℕ} (t rest : Source) → length rest ≤ length t → (kind : FaultKind) →
    (is_limit kind ≡ false) ⊎ ((kind ≡ TooDeep) × (nesting < length rest)) → (is_limit kind ≡ false) ⊎ ((kind ≡ TooDeep) × (nesting < length t))
remaining_is_shorter t rest fewer = by_nesting_then (λ few. omega (arith, few, fewer))

pub parse_contents-returns-clause-kind : goal.parse_contents-returns-clause-kind
parse_contents-returns-clause-kind t c =
    let around = c.args.around.now in
    let first = c.in_ok-first.ensures.value in
    let here = source c.try_consume.new.self in
    let same : here ≡ source c.args.cursor.now = c.try_consume.ensures.moves ∙ cond-false _ _ _ c.if-try_consume.false in
    fails_then c.parse_after_first_operand.result
    (remaining_is_shorter (source c.args.cursor.now) (source c.parse_operand.new.cursor)
    (omega (
      arith,
      ap length same,
      operand_shortens (table_of around.tables.now) around.parameters.now (inner_of around) (ends around) around.negated here
          (first.0, source c.parse_operand.new.cursor) first.1,
    )))
    c.parse_after_first_operand.ensures.kind

pub parse_after_first_operand-returns-in_ok-parse_rest_of_part-clause-kind : goal.parse_after_first_operand-returns-in_ok-parse_rest_of_part-clause-kind
parse_after_first_operand-returns-in_ok-parse_rest_of_part-clause-kind t c =
    let around = c.args.around.now in
    let here = source c.args.cursor.now in
    let same : source c.try_consume_twice.new.cursor ≡ here = c.try_consume_twice.ensures.moves ∙ cond-false _ _ _ c.if-try_consume_twice.false in
    let still : source c.try_consume_twice-else-try_consume_twice.new.cursor ≡ here =
    c.try_consume_twice-else-try_consume_twice.ensures.moves ∙ cond-false _ _ _ c.if-try_consume_twice-2.false ∙ same in
    let stays : source c.try_consume_ampersand.new.cursor ≡ here = c.try_consume_ampersand.ensures.moves ∙ cond-false _ _ _ c.if-try_consume_ampersand.false ∙ still in
    let part = c.in_ok-parse_rest_of_part.ensures.value c.requires.0 c.requires.1 in
    fails_then c.parse_parts-else-try_consume_ampersand.result
    (remaining_is_shorter here (source c.parse_rest_of_part.new.cursor)
    (omega (
      arith,
      ap length stays,
      after_shorter (source c.try_consume_ampersand.new.cursor) (source c.parse_rest_of_part.new.cursor)
          ((part_after-ends (table_of around.tables.now) around.parameters.now (inner_of around) (ends around) around.negated
          (c.requires.0, source c.try_consume_ampersand.new.cursor)).each (part.0, source c.parse_rest_of_part.new.cursor) part.1),
    )))
    c.parse_parts-else-try_consume_ampersand.ensures.kind

pub parse_parts-returns-in_err-first-clause-kind : goal.parse_parts-returns-in_err-first-clause-kind
parse_parts-returns-in_err-first-clause-kind t c =
    let p = err_from_is_err_and c.from_residual-in_err-first.result c.from_residual-in_err-first.ensures.1 in
    rw (p.1, p.2) (on_kind_then c.in_err-first.field-0.0
    (remaining_is_shorter (source c.args.cursor.now) (source c.loop-read.cursor) c.loop-read.invariant.1) c.in_err-first.ensures.kind)

pub parse_parts-returns-in_err-parse_rest_of_part-clause-kind : goal.parse_parts-returns-in_err-parse_rest_of_part-clause-kind
parse_parts-returns-in_err-parse_rest_of_part-clause-kind t c =
    let p = err_from_is_err_and c.from_residual-in_err-parse_rest_of_part.result c.from_residual-in_err-parse_rest_of_part.ensures.1 in
    let around = c.args.around.now in
    let l = c.loop-read in
    let first = c.in_ok-first.ensures.value in
    rw (p.1, p.2) (on_kind_then c.in_err-parse_rest_of_part.field-0.0
    (remaining_is_shorter (source c.args.cursor.now) (source c.parse_operand.new.cursor)
    (omega (
      arith,
      l.invariant.1,
      operand_shortens (table_of around.tables.now) around.parameters.now (inner_of around) (ends around) around.negated (source l.cursor)
          (first.0, source c.parse_operand.new.cursor) first.1,
    )))
    c.in_err-parse_rest_of_part.ensures.kind)

pub parse_operands-returns-in_err-parse_next_operand-clause-kind : goal.parse_operands-returns-in_err-parse_next_operand-clause-kind
parse_operands-returns-in_err-parse_next_operand-clause-kind t c =
    let p = err_from_is_err_and c.from_residual.result c.from_residual.ensures.1 in
    rw (p.1, p.2) (on_kind_then c.in_err-parse_next_operand.field-0.0
    (remaining_is_shorter (source c.args.cursor.now) (source c.loop-chain.cursor) c.loop-chain.invariant.1) c.in_err-parse_next_operand.ensures.kind)

-- ---- failed allocations

pub parse_after_first_operand-returns-in_err-value-clause-value : goal.parse_after_first_operand-returns-in_err-value-clause-value
parse_after_first_operand-returns-in_err-value-clause-value t c = let p = err_from_is_err_and c.from_residual.result c.from_residual.ensures.1 in λ _ _. rw (p.1, p.2) tt

pub parse_after_first_operand-returns-in_err-value-2-clause-value : goal.parse_after_first_operand-returns-in_err-value-2-clause-value
parse_after_first_operand-returns-in_err-value-2-clause-value t c = let p = err_from_is_err_and c.from_residual-in_err-value-2.result c.from_residual-in_err-value-2.ensures.1 in λ _ _. rw (p.1, p.2) tt

pub parse_after_first_operand-returns-in_err-add_operand-clause-value : goal.parse_after_first_operand-returns-in_err-add_operand-clause-value
parse_after_first_operand-returns-in_err-add_operand-clause-value t c = let p = err_from_is_err_and c.from_residual-in_err-add_operand.result c.from_residual-in_err-add_operand.ensures.1 in λ _ _. rw (p.1, p.2) tt

pub parse_after_first_operand-returns-in_err-add_point-clause-value : goal.parse_after_first_operand-returns-in_err-add_point-clause-value
parse_after_first_operand-returns-in_err-add_point-clause-value t c = let p = err_from_is_err_and c.from_residual-in_err-add_point.result c.from_residual-in_err-add_point.ensures.1 in λ _ _. rw (p.1, p.2) tt

pub parse_closed_contents-returns-in_err-into_closed-clause-value : goal.parse_closed_contents-returns-in_err-into_closed-clause-value
parse_closed_contents-returns-in_err-into_closed-clause-value t c = let p = err_from_is_err_and c.from_residual-in_err-into_closed.result c.from_residual-in_err-into_closed.ensures.1 in rw (p.1, p.2) tt

pub parse_operand-returns-in_err-into_nested-clause-value : goal.parse_operand-returns-in_err-into_nested-clause-value
parse_operand-returns-in_err-into_nested-clause-value t c = let p = err_from_is_err_and c.from_residual-in_err-into_nested.result c.from_residual-in_err-into_nested.ensures.1 in rw (p.1, p.2) tt

pub parse_operands-returns-in_err-operand-clause-value : goal.parse_operands-returns-in_err-operand-clause-value
parse_operands-returns-in_err-operand-clause-value t c = let p = err_from_is_err_and c.from_residual-in_err-operand.result c.from_residual-in_err-operand.ensures.1 in λ _ _. rw (p.1, p.2) tt

pub parse_operands-returns-in_err-finish-clause-value : goal.parse_operands-returns-in_err-finish-clause-value
parse_operands-returns-in_err-finish-clause-value t c = let p = err_from_is_err_and c.from_residual-in_err-finish.result c.from_residual-in_err-finish.ensures.1 in λ _ _. rw (p.1, p.2) tt

pub parse_operands-returns-in_err-chain-clause-value : goal.parse_operands-returns-in_err-chain-clause-value
parse_operands-returns-in_err-chain-clause-value t c = let p = err_from_is_err_and c.from_residual-in_err-chain.result c.from_residual-in_err-chain.ensures.1 in λ _ _. rw (p.1, p.2) tt

pub parse_parts-returns-in_err-into_value-clause-value : goal.parse_parts-returns-in_err-into_value-clause-value
parse_parts-returns-in_err-into_value-clause-value t c = let p = err_from_is_err_and c.from_residual-in_err-into_value.result c.from_residual-in_err-into_value.ensures.1 in λ _ _. rw (p.1, p.2) tt

pub parse_rest_of_part-returns-in_err-add_operand-clause-value : goal.parse_rest_of_part-returns-in_err-add_operand-clause-value
parse_rest_of_part-returns-in_err-add_operand-clause-value t c = let p = err_from_is_err_and c.from_residual.result c.from_residual.ensures.1 in λ _ _. rw (p.1, p.2) tt

pub parse_rest_of_part-returns-in_err-add-in-Character-2-clause-value : goal.parse_rest_of_part-returns-in_err-add-in-Character-2-clause-value
parse_rest_of_part-returns-in_err-add-in-Character-2-clause-value t c = let p = err_from_is_err_and c.from_residual-in_err-add-in-Character-2.result c.from_residual-in_err-add-in-Character-2.ensures.1 in λ _ _. rw (p.1, p.2) tt
