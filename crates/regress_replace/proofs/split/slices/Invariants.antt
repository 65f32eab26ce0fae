-- The parts so far and those of the remaining spans are together the parts of all spans.
use Rattle.std.proofs.Common.{◌≡◌, ◌++◌, drop}
use Rattle.regress_replace.specs.Split.{part_texts, span_texts}
use Rattle.regress_replace.proofs.split.slices.Given as goal

abbrev pub invariant-loop-span : goal.invariant-loop-span
invariant-loop-span l = part_texts l.parts.items ++ span_texts l.text (drop l.span-index l.spans) ≡ span_texts l.text l.spans
