-- Each iteration adds one string.
use Rattle.std.proofs.Common.{sym, subst, ◌∙◌}
use Rattle.std.specs.List.{All}
use Rattle.regress_lexer.specs.Source.{IsCodePoint}
use Rattle.regress_classes.proofs.ClassStringLemmas.{string_at, one_more_held}
use Rattle.regress_classes.proofs.class_sets.operand.string_value.Goals as goal

pub add_string-requires : goal.add_string-requires
add_string-requires c =
    subst (All IsCodePoint) (sym (c.in_ok-from_slice.ensures.items ∙ c.as_slice.ensures.value))
    (string_at c.args.strings.now c.loop-string.string-index c.string-item.result c.requires c.loop-string-test.true c.string-item.is)

pub loop-string-preserved : goal.loop-string-preserved
loop-string-preserved c =
    one_more_held c.args.strings.now c.loop-string.string-index c.string-item.result c.in_ok-from_slice.field-0.items c.add_string.new.self
    c.loop-string-test.true c.string-item.is (c.in_ok-from_slice.ensures.items ∙ c.as_slice.ensures.value)
    (c.in_ok-add_string.ensures _ c.loop-string.invariant)
