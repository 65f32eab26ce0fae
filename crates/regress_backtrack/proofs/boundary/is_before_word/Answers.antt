use Rattle.std.proofs.Common.{ap, ◌∙◌, sym, arith}
use Rattle.regress_base.specs.Classes.{word_characters}
use Rattle.regress_base.specs.Intervals.{is_member}
use Rattle.regress_tree.specs.Assertions.{passes}
use Rattle.regress_backtrack.proofs.BoundaryLemmas.{passes_end}
use Rattle.regress_backtrack.proofs.boundary.is_before_word.Goals as goal

pub returns-then-position-text : goal.returns-then-position-text
returns-then-position-text c =
    passes_end (is_member word_characters) c.args.text.now c.args.position (omega (arith, c.if-position-text.true))

pub returns : goal.returns
returns c = c.is_word.ensures.member ∙ sym (ap (passes (is_member word_characters)) c.in_ok-b.ensures.1)
