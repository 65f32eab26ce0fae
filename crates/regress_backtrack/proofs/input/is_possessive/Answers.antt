use Rattle.std.proofs.Common.{Some, ap, ◌∙◌}
use Rattle.std.proofs.lemmas.Option.{slice_get-get_or}
use Rattle.regress_backtrack.proofs.input.is_possessive.Goals as goal

pub returns-then-pc-input : goal.returns-then-pc-input
returns-then-pc-input c = λ yes.
    c.requires.possessive c.args.pc (slice_get-get_or c.args.input.now.possessive.now c.args.pc _ c.if-pc-input.true ∙ ap Some yes)
