-- The characters ahead, from the current position.
use Rattle.std.proofs.Common.{ℕ, ◌≡◌, ◌≤◌, true, chars, length}
use Rattle.regress_base.specs.Table.{denotes}
use Rattle.regress_tree.specs.Reading.{byte_position, of_bytes, direction_if}
use Rattle.regress_tree.specs.References.{all_of, in_order}
use Rattle.regress_tree.specs.Steps.{MatchState}
use Rattle.regress_unicode.specs.TableOf.{table_of}
use Rattle.regress_leaves.proofs.ReferenceLemmas.{ahead, distance}
use Rattle.regress_leaves.proofs.references.folded_copy.Given as goal

abbrev pub invariant-loop-c : goal.invariant-loop-c
invariant-loop-c l =
    let d = direction_if l.rules.backwards in
    let same = denotes (table_of l.rules.known.tables.now) true l.rules.flags.unicode in
    let cs = chars l.part in
    (k : ℕ) × ((k ≤ length cs) × ((l.from ≡ byte_position cs k) × ((s : MatchState) → s.position ≡ l.position →
    all_of d (of_bytes l.text) same (ahead d cs k) (record s { position = l.here }) ≡ all_of d (of_bytes l.text) same (in_order d cs) s)))

abbrev pub decreases-loop-c : goal.decreases-loop-c
decreases-loop-c l = distance (direction_if l.rules.backwards) (length l.part) l.from
