use Rattle.std.proofs.Common.{◌-◌, length, sym, ap, ◌∙◌, subst, arith}
use Rattle.std.proofs.lemmas.List.{length_push}
use Rattle.regress_code.specs.Skips.{AreCounts, AreSkips, counts_in}
use Rattle.regress_code.proofs.ListLemmas.{pushed}
use Rattle.regress_code.proofs.skips.skips_of.Goals as goal

pub loop-pc-preserved : goal.loop-pc-preserved
loop-pc-preserved c =
    let next_bytes = c.args.next_bytes.now in
    let instructions = c.args.instructions.now in
    let known = c.loop-pc.skips.items in
    let pc = c.loop-pc.pc in
    let skip = c.in_ok-skip.skip in
    let so_far = c.loop-pc.invariant in
    record {
      count = omega (arith, ap length c.in_ok-push.ensures.items, length_push known skip, so_far.count);
      are = subst (λ ps. AreSkips ps next_bytes instructions) (sym c.in_ok-push.ensures.items)
          (pushed (λ k p. AreCounts next_bytes instructions k (counts_in p)) known skip so_far.are
          (subst (λ k. AreCounts next_bytes instructions k (counts_in skip)) (sym so_far.count)
          (c.in_ok-skip.ensures next_bytes instructions pc c.preferred_next_bytes-preferred.ensures
          (subst (λ k. AreCounts next_bytes instructions (k - 1) c.last_counts.result.now) (ap length c.deref.ensures.value ∙ so_far.count)
          (c.last_counts.ensures next_bytes instructions (subst (λ ps. AreSkips ps next_bytes instructions) (sym c.deref.ensures.value) so_far.are))))));
    }
