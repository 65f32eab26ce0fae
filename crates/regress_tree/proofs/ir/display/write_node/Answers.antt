-- The text that is written is that of the node's tree.
use Rattle.regress_tree.proofs.lemmas.Nodes.{tree-Empty, tree-Goal, tree-ByteSequence, tree-ByteSet, tree-CharSet, tree-Cat, tree-Alt, tree-CaptureGroup, tree-Anchor, tree-Bracket, tree-Loop, tree-LookaroundAssertion}
use Rattle.regress_tree.proofs.ir.display.write_node.Goals as goal

pub returns-in-Empty : goal.returns-in-Empty
returns-in-Empty g c = rw (c.in-Empty.is, tree-Empty) c.write_str.ensures.writes

pub returns-in-Goal : goal.returns-in-Goal
returns-in-Goal g c = rw (c.in-Goal.is, tree-Goal) c.write_str-in-Goal.ensures.writes

pub returns-in-Cat : goal.returns-in-Cat
returns-in-Cat g c = rw (c.in-Cat.is, tree-Cat) c.write_str-in-Cat.ensures.writes

pub returns-in-Alt : goal.returns-in-Alt
returns-in-Alt g c = rw (c.in-Alt.is, tree-Alt) c.write_str-in-Alt.ensures.writes

pub returns-in-CaptureGroup : goal.returns-in-CaptureGroup
returns-in-CaptureGroup g c = rw (c.in-CaptureGroup.is, tree-CaptureGroup) c.write_group.ensures

pub returns-in-Anchor : goal.returns-in-Anchor
returns-in-Anchor g c = rw (c.in-Anchor.is, tree-Anchor) c.write_anchor.ensures

pub returns-in-Loop : goal.returns-in-Loop
returns-in-Loop g c = rw (c.in-Loop.is, tree-Loop) c.write_loop.ensures

pub returns-in-LookaroundAssertion : goal.returns-in-LookaroundAssertion
returns-in-LookaroundAssertion g c = rw (c.in-LookaroundAssertion.is, tree-LookaroundAssertion) c.write_lookaround.ensures

pub returns-in-ByteSequence : goal.returns-in-ByteSequence
returns-in-ByteSequence g c = rw (c.in-ByteSequence.is, tree-ByteSequence) (rw c.deref.ensures.value at c.write_byte_sequence.ensures)

pub returns-in-ByteSet : goal.returns-in-ByteSet
returns-in-ByteSet g c = rw (c.in-ByteSet.is, tree-ByteSet) (rw c.deref-in-ByteSet.ensures.value at c.write_byte_set.ensures)

pub returns-in-CharSet : goal.returns-in-CharSet
returns-in-CharSet g c = rw (c.in-CharSet.is, tree-CharSet) (rw c.deref-in-CharSet.ensures.value at c.write_char_set.ensures)

pub returns-in-Bracket : goal.returns-in-Bracket
returns-in-Bracket g c = rw (c.in-Bracket.is, tree-Bracket) c.write_bracket.ensures
