use Rattle.std.proofs.Common.{length, sym, ap, subst, arith}
use Rattle.std.proofs.lemmas.List.{length_push}
use Rattle.std.proofs.lemmas.Option.{slice_get-get_or}
use Rattle.regress_tree.specs.Reading.{direction_if}
use Rattle.regress_code.specs.NextBytes.{AreNextBytes, AreNextBytesAt}
use Rattle.regress_code.proofs.NextBytesLemmas.{instruction_bounds}
use Rattle.regress_code.proofs.ListLemmas.{pushed}
use Rattle.regress_code.proofs.next_bytes.next_bytes_of.Goals as goal

pub loop-instruction-preserved : goal.loop-instruction-preserved
loop-instruction-preserved c =
    let d = direction_if c.args.backwards in
    let leaves = c.args.leaves.now in
    let xs = c.args.instructions.now in
    let i = c.loop-instruction.instruction-index in
    let known = c.loop-instruction.next_bytes.items in
    let next_byte = c.instruction_next_bytes-next_byte.result in
    let so_far = c.loop-instruction.invariant in
    record {
      count = omega (arith, ap length c.in_ok-push.ensures.items, length_push known next_byte, so_far.count);
      are = λ setting folds text body_of out bodies solves.
          subst (λ fs. AreNextBytes fs d text out) (sym c.in_ok-push.ensures.items)
          (pushed (λ pc f. AreNextBytesAt f d text out pc) known next_byte (so_far.are setting folds text body_of out bodies solves)
          (subst (AreNextBytesAt next_byte d text out) (sym so_far.count)
          (instruction_bounds leaves xs i _ (slice_get-get_or xs i _ c.loop-instruction-test.true) setting text d body_of out solves next_byte
          (λ a. c.instruction_next_bytes-next_byte.ensures setting folds text body_of out a bodies
          (subst (λ fs. AreNextBytes fs d text out) (sym c.deref.ensures.value) (so_far.are setting folds text body_of out bodies solves))))));
    }
