use Rattle.std.proofs.Common.{◌≡◌, ◌≤◌, ◌<◌, ◌+◌, ℕ, List, Some, false, get_or, length, slice_get, sym, ap, subst, arith}
use Rattle.std.proofs.lemmas.List.{length_push}
use Rattle.regress_base.specs.ByteBitmap.{contains}
use Rattle.regress_code.proofs.ListLemmas.{pushed}
use Rattle.regress_code.proofs.skips.counts_of.Goals as goal

pub loop-b-preserved : goal.loop-b-preserved
loop-b-preserved c =
    let set = c.args.set.now in
    let before = c.args.before.now in
    let known = c.loop-b.counts.items in
    let n = c.next_count.result in
    let so_far = c.loop-b.invariant in
    record {
      count = omega (arith, ap length c.in_ok-push.ensures.items, length_push known n, so_far.count);
      are = subst (λ (xs : List ℕ). (i k : ℕ) → slice_get xs i ≡ Some k → 0 < k → (contains set i ≡ false) × (k ≤ get_or before i 0 + 1))
          (sym c.in_ok-push.ensures.items)
          (pushed (λ (i k : ℕ). 0 < k → (contains set i ≡ false) × (k ≤ get_or before i 0 + 1)) known n so_far.are
          (subst (λ i. 0 < n → (contains set i ≡ false) × (n ≤ get_or before i 0 + 1)) (sym so_far.count) c.next_count.ensures));
    }
