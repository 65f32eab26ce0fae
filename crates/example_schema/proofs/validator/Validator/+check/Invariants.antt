-- The violations before the loop are violations, and so are those since.
use Rattle.example_schema.specs.Violated.{Keeps}
use Rattle.example_schema.proofs.validator.Validator.+check.Given as goal

abbrev pub invariant-check-loop-keyword : goal.invariant-check-loop-keyword
invariant-check-loop-keyword l = Keeps l.self l.initial.found.items l.found.items

abbrev pub invariant-check_members-loop-name : goal.invariant-check_members-loop-name
invariant-check_members-loop-name l = Keeps l.self l.initial.found.items l.found.items

abbrev pub invariant-check_matching_members-loop-pattern : goal.invariant-check_matching_members-loop-pattern
invariant-check_matching_members-loop-pattern l = Keeps l.self l.initial.found.items l.found.items

abbrev pub invariant-check_matching_members-loop-name : goal.invariant-check_matching_members-loop-name
invariant-check_matching_members-loop-name l = Keeps l.self l.initial.found.items l.found.items
