-- Each iteration parses one more character, which is ASCII.
use Rattle.std.proofs.Common.{◌≡◌, ◌==◌, ◌∙◌, true, false, Some, length, sym, ap, subst, arith}
use Rattle.std.specs.Prelude.{IsOk}
use Rattle.std.specs.List.{All}
use Rattle.std.proofs.lemmas.Bool.{cond-true, cond-false}
use Rattle.std.proofs.lemmas.List.Elements.{All-tail}
use Rattle.std.proofs.lemmas.Str.{IsUtf8-from_ascii}
use Rattle.regress_lexer.specs.Source.{IsCodePoint}
use Rattle.regress_lexer.specs.Views.{source}
use Rattle.regress_classes.proofs.PropertyLemmas.{ascii, more_ascii, more_of_word, all_of_word}
use Rattle.regress_classes.proofs.property.read_word.Goals as goal

pub invariant_of-cursor : goal.invariant_of-cursor
invariant_of-cursor c = record {
  in_range = All-tail IsCodePoint c.in-Some.c c.in-Some.rest.now (subst (All IsCodePoint) c.in-Some.ensures.some.0 c.loop-c.cursor.in_range);
}

pub loop-c-preserved : goal.loop-c-preserved
loop-c-preserved c =
    let next = c.in-Some.ensures.some in
    let pushed = c.in_ok-push.ensures.items in (
      more_of_word _ _ c.in-Some.rest.now c.in-Some.c _ _ c.loop-c.invariant.0 next.0 next.1 pushed,
      more_ascii _ _ c.in-Some.c c.loop-c.invariant.1 (ascii c.in-Some.c next.1) pushed,
    )

pub loop-c-smaller : goal.loop-c-smaller
loop-c-smaller c = omega (arith, ap length c.in-Some.ensures.some.0)

pub unreachable-requires : goal.unreachable-requires
unreachable-requires c =
    let no : false ≡ true = subst IsOk c.in-Err.is (c.from_utf8.ensures.succeeds (IsUtf8-from_ascii _ c.loop-c.invariant.1)) in
    let bad : ⊥ = cc no in bad

pub returns-then-is_empty : goal.returns-then-is_empty
returns-then-is_empty c =
    sym (cond-true _ _ _ (ap (λ n. n == 0) (sym c.loop-c.word.ok.0) ∙ sym c.is_empty.ensures ∙ c.if-is_empty.true))
    ∙ all_of_word _ _ _ c.loop-c.invariant.0 c.in_default.ensures.none

pub returns : goal.returns
returns c =
    ap (λ v. Some (v.items, source c.loop-c.cursor)) c.in-Ok.ensures.ok
    ∙ sym (cond-false _ _ _ (ap (λ n. n == 0) (sym c.loop-c.word.ok.0) ∙ sym c.if-is_empty.ensures))
    ∙ all_of_word _ _ _ c.loop-c.invariant.0 c.in_default.ensures.none
