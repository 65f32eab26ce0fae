-- The test of a leaf is correct, whatever the number of groups.
use Rattle.std.proofs.lemmas.Bool.{leb-true, le-leb}
use Rattle.regress_tree.proofs.lemmas.Nodes.{tree-Char, tree-ByteSequence, tree-ByteSet, tree-CharSet, tree-Bracket, tree-BackRef, tree-StringSet}
use Rattle.regress_tree.proofs.OccurringLemmas.{occurs-where, bracket-occurs-where, reference-occurs-where, strings-occur-where}
use Rattle.regress_tree.proofs.ir.well_formed.leaf_is_allowed.Goals as goal

pub returns-in-Char : goal.returns-in-Char
returns-in-Char c = rw (c.in-Char.is, tree-Char) (occurs-where _ (leb-true _ _, le-leb _ _))

pub returns-in-ByteSequence : goal.returns-in-ByteSequence
returns-in-ByteSequence c = rw (c.in-ByteSequence.is, tree-ByteSequence) (occurs-where _ (rw c.deref.ensures.value at c.is_encoded.ensures))

pub returns-in-ByteSet : goal.returns-in-ByteSet
returns-in-ByteSet c = rw (c.in-ByteSet.is, tree-ByteSet) (occurs-where _ (rw c.deref-in-ByteSet.ensures.value at c.is_byte_set.ensures))

pub returns-in-CharSet : goal.returns-in-CharSet
returns-in-CharSet c = rw (c.in-CharSet.is, tree-CharSet) (occurs-where _ (rw c.deref-in-CharSet.ensures.value at c.is_char_set.ensures))

pub returns-in-Bracket : goal.returns-in-Bracket
returns-in-Bracket c =
    rw (c.in-Bracket.is, tree-Bracket) (bracket-occurs-where _ _ _ (rw c.intervals.ensures.value at c.is_canonical.ensures))

pub returns-in-BackRef : goal.returns-in-BackRef
returns-in-BackRef c = rw (c.in-BackRef.is, tree-BackRef) (reference-occurs-where c.in-BackRef.group c.in-BackRef.icase)

pub returns-in-StringSet : goal.returns-in-StringSet
returns-in-StringSet c =
    rw (c.in-StringSet.is, tree-StringSet) (strings-occur-where _ c.in-StringSet.icase _ (rw c.deref-in-StringSet.ensures.value at c.are_strings.ensures))
