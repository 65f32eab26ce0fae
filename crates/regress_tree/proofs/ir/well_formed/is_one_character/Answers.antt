use Rattle.std.proofs.Common.{◌∙◌, ap}
use Rattle.regress_tree.specs.Tree.{tree}
use Rattle.std.proofs.lemmas.Bool.{leb-true, le-leb}
use Rattle.regress_tree.proofs.OccurringLemmas.{occurs-where, some-small_set, no-small_set}
use Rattle.regress_tree.proofs.lemmas.Nodes.{tree-Char, tree-ByteSequence, tree-ByteSet, tree-CharSet, tree-Bracket}
use Rattle.regress_tree.proofs.BracketLemmas.{reports-bracket}
use Rattle.regress_tree.proofs.ir.well_formed.is_one_character.Goals as goal

pub returns-in-Bracket : goal.returns-in-Bracket
returns-in-Bracket c =
    let contents = c.in-Bracket.contents in
    let is = ap tree c.in-Bracket.is ∙ tree-Bracket contents in
    rw is (reports-bracket c.accepts_none.result contents.invert contents.cps c.accepts_none.ensures.canonical c.accepts_none.ensures.value)

pub returns-in-Char : goal.returns-in-Char
returns-in-Char c = rw (c.in-Char.is, tree-Char) (occurs-where _ (leb-true _ _, le-leb _ _))

pub returns-in-ByteSequence : goal.returns-in-ByteSequence
returns-in-ByteSequence c =
    rw (c.in-ByteSequence.is, tree-ByteSequence) (occurs-where _ (rw c.deref.ensures.value at c.is_encoded_character.ensures))

pub returns-then-not-is_empty : goal.returns-then-not-is_empty
returns-then-not-is_empty c =
    rw (c.in-ByteSet.is, tree-ByteSet)
    (occurs-where _ (some-small_set _ _ _ _ _ c.in-ByteSet.bytes.ok.0 c.if-not-is_empty.true c.is_empty.ensures
    (rw c.deref-then-not-is_empty.ensures.value at c.is_byte_set.ensures)))

pub returns-else-not-is_empty : goal.returns-else-not-is_empty
returns-else-not-is_empty c =
    rw (c.in-ByteSet.is, tree-ByteSet) (occurs-where _ (no-small_set _ _ _ _ c.in-ByteSet.bytes.ok.0 c.if-not-is_empty.false c.is_empty.ensures))

pub returns-then-not-is_empty-2 : goal.returns-then-not-is_empty-2
returns-then-not-is_empty-2 c =
    rw (c.in-CharSet.is, tree-CharSet)
    (occurs-where _ (some-small_set _ _ _ _ _ c.in-CharSet.characters.ok.0 c.if-not-is_empty-2.true c.is_empty-in-CharSet.ensures
    (rw c.deref-then-not-is_empty-2.ensures.value at c.is_char_set.ensures)))

pub returns-else-not-is_empty-2 : goal.returns-else-not-is_empty-2
returns-else-not-is_empty-2 c =
    rw (c.in-CharSet.is, tree-CharSet) (occurs-where _ (no-small_set _ _ _ _ c.in-CharSet.characters.ok.0 c.if-not-is_empty-2.false
    c.is_empty-in-CharSet.ensures))
