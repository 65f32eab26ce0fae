-- The remaining characters, from the current position.
use Rattle.std.proofs.Common.{◌≡◌, drop}
use Rattle.regress_base.specs.Table.{denotes}
use Rattle.regress_tree.specs.Reading.{of_bytes, direction_if}
use Rattle.regress_tree.specs.References.{all_of, in_order}
use Rattle.regress_tree.specs.Steps.{MatchState}
use Rattle.regress_unicode.specs.TableOf.{table_of}
use Rattle.regress_leaves.proofs.leaves.all_of.Given as goal

abbrev pub invariant-loop-i : goal.invariant-loop-i
invariant-loop-i l =
    let d = direction_if l.rules.backwards in
    let same = denotes (table_of l.rules.known.tables.now) l.icase l.rules.flags.unicode in
    let cs = in_order d l.characters in
    (s : MatchState) → s.position ≡ l.position →
    all_of d (of_bytes l.text) same (drop l.i cs) (record s { position = l.here }) ≡ all_of d (of_bytes l.text) same cs s
