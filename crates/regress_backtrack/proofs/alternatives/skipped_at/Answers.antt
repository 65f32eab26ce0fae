use Rattle.std.proofs.Common.{get_or, sym, ap, subst, ◌∙◌}
use Rattle.regress_code.specs.Skips.{AreCounts, AreSkipped, counts_in}
use Rattle.regress_code.proofs.lemmas.Counts.{counted}
use Rattle.regress_backtrack.specs.Next.{instructions_in}
use Rattle.regress_backtrack.proofs.SkipLemmas.{skipped_within}
use Rattle.regress_backtrack.proofs.alternatives.skipped_at.Goals as goal
use Rattle.regress_backtrack.proofs.alternatives.skipped_at.Goals.{After-from}

-- the choices that the counts of the instruction skip at the byte
skipped : (c : After-from) → AreSkipped c.args.input.now.next_bytes.now (instructions_in c.args.input.now) c.in_ok-b-in-Counts.b c.args.place.pc c.from.result
skipped c =
    let next_bytes = c.args.input.now.next_bytes.now in
    let instructions = instructions_in c.args.input.now in
    let pc = c.args.place.pc in
    let b = c.in_ok-b-in-Counts.b in
    let are = subst (λ skip. AreCounts next_bytes instructions pc (counts_in skip)) c.in-Counts.is (c.requires.input.skips pc _ c.in_ok-counts.ensures) in
    let same = c.from.ensures ∙ c.count_at.ensures ∙ ap (λ counts. get_or counts b 0) c.deref.ensures.value in
    subst (AreSkipped next_bytes instructions b pc) (sym same) (counted next_bytes instructions pc c.in-Counts.counts.items are b)

pub returns-in_ok-b-in-Counts-clause-skipped : goal.returns-in_ok-b-in-Counts-clause-skipped
returns-in_ok-b-in-Counts-clause-skipped c = λ some. (c.in_ok-b-in-Counts.b, c.in_ok-b-in-Counts.ensures, skipped c)

pub returns-in_ok-b-in-Counts-clause-within : goal.returns-in_ok-b-in-Counts-clause-within
returns-in_ok-b-in-Counts-clause-within c =
    skipped_within c.args.input.now.next_bytes.now (instructions_in c.args.input.now) c.in_ok-b-in-Counts.b c.args.place.pc c.from.result (skipped c)
