use Rattle.std.proofs.Common.{ap, ◌∙◌, sym}
use Rattle.regress_base.specs.Classes.{word_characters}
use Rattle.regress_base.specs.Intervals.{is_member}
use Rattle.regress_tree.specs.Assertions.{passes}
use Rattle.regress_backtrack.proofs.BoundaryLemmas.{passes_start}
use Rattle.regress_backtrack.proofs.boundary.is_after_word.Goals as goal

pub returns-then-position-eq0 : goal.returns-then-position-eq0
returns-then-position-eq0 c = passes_start (is_member word_characters) c.args.text.now c.args.position c.if-position-eq0.true

pub returns : goal.returns
returns c = c.is_word.ensures.member ∙ sym (ap (passes (is_member word_characters)) c.in_ok-b.ensures.1)
