use Rattle.std.proofs.Common.{◌≡◌, ◌≤◌, ◌+◌, ◌*◌, length}
use Rattle.regress_unicode.specs.TableOf.{table_of}
use Rattle.regress_classes.specs.ClassSets.{Value}
use Rattle.regress_classes.specs.ClassViews.{IsValue, IsUnion, IsChain, inner_of, parts_onto, operands_onto, symbol_of, applied}
use Rattle.regress_lexer.specs.Views.{source}
use Rattle.regress_classes.proofs.ClassContentsLemmas.{ReadFrom}
use Rattle.regress_classes.proofs.class_sets.+class_set.Given as goal

-- A class inside another class has one nesting depth less. Between two of them the calls go from a class to an operand.
abbrev pub decreases-parse_class_set : goal.decreases-parse_class_set
decreases-parse_class_set l = 8 * l.nesting

abbrev pub decreases-parse_operand : goal.decreases-parse_operand
decreases-parse_operand l = 8 * l.around.now.nesting + 1

abbrev pub decreases-parse_next_operand : goal.decreases-parse_next_operand
decreases-parse_next_operand l = 8 * l.around.now.nesting + 2

abbrev pub decreases-parse_rest_of_part : goal.decreases-parse_rest_of_part
decreases-parse_rest_of_part l = 8 * l.around.now.nesting + 2

abbrev pub decreases-parse_parts : goal.decreases-parse_parts
decreases-parse_parts l = 8 * l.around.now.nesting + 3

abbrev pub decreases-parse_operands : goal.decreases-parse_operands
decreases-parse_operands l = 8 * l.around.now.nesting + 3

abbrev pub decreases-parse_after_first_operand : goal.decreases-parse_after_first_operand
decreases-parse_after_first_operand l = 8 * l.around.now.nesting + 4

abbrev pub decreases-parse_contents : goal.decreases-parse_contents
decreases-parse_contents l = 8 * l.around.now.nesting + 5

abbrev pub decreases-parse_closed_contents : goal.decreases-parse_closed_contents
decreases-parse_closed_contents l = 8 * l.around.now.nesting + 6

abbrev pub invariant-parse_parts-loop-read : goal.invariant-parse_parts-loop-read
invariant-parse_parts-loop-read l =
    ((held : Value) → IsUnion l.fn.union held →
    ReadFrom IsUnion (parts_onto (table_of l.around.tables.now) l.around.parameters.now (inner_of l.around) l.around.negated) held (source l.fn.cursor)
    (source l.cursor) l.union)
    × (length (source l.cursor) ≤ length (source l.fn.cursor))

abbrev pub decreases-parse_parts-loop-read : goal.decreases-parse_parts-loop-read
decreases-parse_parts-loop-read l = length (source l.cursor)

abbrev pub invariant-parse_operands-loop-chain : goal.invariant-parse_operands-loop-chain
invariant-parse_operands-loop-chain l =
    ((held : Value) → IsValue l.fn.value held →
    (l.chain.operator ≡ l.operator)
    × ReadFrom IsChain
    (operands_onto (table_of l.around.tables.now) l.around.parameters.now (inner_of l.around) l.around.negated (symbol_of l.operator) (applied l.operator))
    held (source l.fn.cursor) (source l.cursor) l.chain)
    × (length (source l.cursor) ≤ length (source l.fn.cursor))

abbrev pub decreases-parse_operands-loop-chain : goal.decreases-parse_operands-loop-chain
decreases-parse_operands-loop-chain l = length (source l.cursor)
