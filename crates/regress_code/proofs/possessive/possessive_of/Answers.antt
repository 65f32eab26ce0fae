use Rattle.std.proofs.Common.{◌≡◌, Some, true, length, refl, sym, ap, ◌∙◌, subst, arith}
use Rattle.std.proofs.lemmas.List.{length_push}
use Rattle.regress_code.specs.Possessive.{ArePossessive, IsPossessive}
use Rattle.regress_code.proofs.ListLemmas.{pushed}
use Rattle.regress_code.proofs.possessive.possessive_of.Goals as goal

pub loop-pc-preserved : goal.loop-pc-preserved
loop-pc-preserved c =
    let next_bytes = c.args.next_bytes.now in
    let leaves = c.args.leaves.now in
    let instructions = c.args.instructions.now in
    let known = c.loop-pc.possessive.items in
    let one = c.is_possessive.result in
    let so_far = c.loop-pc.invariant in
    record {
      count = omega (arith, ap length c.in_ok-push.ensures.items, length_push known one, so_far.count);
      are = subst (λ ps. ArePossessive ps next_bytes leaves instructions) (sym c.in_ok-push.ensures.items)
          (λ pc here.
          pushed (λ k p. p ≡ true → IsPossessive next_bytes leaves instructions k) known one (λ k p is yes. so_far.are k (is ∙ ap Some yes))
          (subst (λ k. one ≡ true → IsPossessive next_bytes leaves instructions k) (sym so_far.count) c.is_possessive.ensures) pc true here refl);
    }
