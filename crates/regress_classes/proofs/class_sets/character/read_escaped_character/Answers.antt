-- What remains of a list of code points is one too.
use Rattle.std.proofs.Common.{◌∷◌, sym, ap, subst, ◌∙◌}
use Rattle.std.specs.List.{All}
use Rattle.std.proofs.lemmas.Bool.{cond-true, cond-false, ne_eqb}
use Rattle.std.proofs.lemmas.List.Elements.{All-tail}
use Rattle.regress_lexer.specs.Source.{IsCodePoint}
use Rattle.regress_lexer.specs.Escapes.{escape_at}
use Rattle.regress_classes.specs.ClassSets.{escaped_character_at}
use Rattle.regress_lexer.proofs.lemmas.After.{after_all, escape_at-ends}
use Rattle.regress_classes.proofs.class_sets.character.read_escaped_character.Goals as goal

pub invariant_of-cursor : goal.invariant_of-cursor
invariant_of-cursor c = record {
  in_range = All-tail IsCodePoint c.in-Some.c.now c.in-Some.rest.now (subst (All IsCodePoint) c.in-Some.ensures.cases.0 c.args.cursor.now.in_range);
}

pub invariant_of-cursor-then-is_reserved : goal.invariant_of-cursor-then-is_reserved
invariant_of-cursor-then-is_reserved c = record {
  in_range = All-tail IsCodePoint c.in-Some.c.now c.in-Some.rest.now (subst (All IsCodePoint) c.in-Some.ensures.cases.0 c.args.cursor.now.in_range);
}

pub invariant_of-cursor-2 : goal.invariant_of-cursor-2
invariant_of-cursor-2 c = record {
  in_range =
      let text = c.args.cursor.now.rest.now in
      after_all text c.in-Some-parse_escape.after.now
      ((escape_at-ends c.args.unicode text).each (c.in-Some-parse_escape.point, c.in-Some-parse_escape.after.now)
      (sym c.in-Some-parse_escape.ensures.value)) c.args.cursor.now.in_range;
}

pub returns-then-c-from-clause-value : goal.returns-then-c-from-clause-value
returns-then-c-from-clause-value c =
    ap (escaped_character_at c.args.unicode) (c.in-Some.ensures.cases.0 ∙ ap (λ d. d ∷ c.in-Some.rest.now) (c.if-c-from.true ∙ c.from.ensures))

pub returns-then-is_reserved-clause-value : goal.returns-then-is_reserved-clause-value
returns-then-is_reserved-clause-value c =
    let letter = c.in-Some.c.now in
    let front = c.in-Some.ensures.cases.0 in
    let other = ap (escaped_character_at c.args.unicode) front ∙ cond-false _ _ _ (ne_eqb letter 98 (λ e. c.if-c-from.false (e ∙ sym c.from.ensures))) in
    other ∙ cond-true _ _ _ (sym c.is_reserved.ensures ∙ c.if-is_reserved.true)

pub returns-clause-value : goal.returns-clause-value
returns-clause-value c =
    let letter = c.in-Some.c.now in
    let front = c.in-Some.ensures.cases.0 in
    let other = ap (escaped_character_at c.args.unicode) front ∙ cond-false _ _ _ (ne_eqb letter 98 (λ e. c.if-c-from.false (e ∙ sym c.from.ensures))) in
    other ∙ cond-false _ _ _ (sym c.is_reserved.ensures ∙ c.if-is_reserved.false)
    ∙ ap (escape_at c.args.unicode) (sym front) ∙ sym c.in-Some-parse_escape.ensures.value

pub returns-in_default-parse_escape-clause-value : goal.returns-in_default-parse_escape-clause-value
returns-in_default-parse_escape-clause-value c =
    let letter = c.in-Some.c.now in
    let front = c.in-Some.ensures.cases.0 in
    let other = ap (escaped_character_at c.args.unicode) front ∙ cond-false _ _ _ (ne_eqb letter 98 (λ e. c.if-c-from.false (e ∙ sym c.from.ensures))) in
    other ∙ cond-false _ _ _ (sym c.is_reserved.ensures ∙ c.if-is_reserved.false)
    ∙ ap (escape_at c.args.unicode) (sym front) ∙ sym c.in_default-parse_escape.ensures.value
