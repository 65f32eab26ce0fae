-- The string in the middle decides for those on one side of it.
use Rattle.std.proofs.Common.{◌≡◌, ℕ, ◌+◌, ◌-◌, ◌/◌, true, false, sym, ◌∙◌, arith}
use Rattle.regress_strings.specs.Order.{is_after}
use Rattle.regress_strings.specs.Ordered.{string_of}
use Rattle.regress_strings.proofs.OrderLemmas.{none-below, all-above}
use Rattle.regress_strings.proofs.keys.count_at_most.Goals as goal

pub loop-low-preserved-then-is_after : goal.loop-low-preserved-then-is_after
loop-low-preserved-then-is_after c =
    let order = c.args.order.now in
    let text = c.args.text.now in
    let middle : ℕ = c.loop-low.low + (c.loop-low.high - c.loop-low.low) / 2 in
    let after : is_after (string_of order middle) text ≡ true =
    sym c.is_after.ensures ∙ c.if-is_after.true in
    record {
      ordered = omega arith;
      within = omega arith;
      none = c.loop-low.invariant.none;
      all = λ i ge lt. all-above order text middle i ge lt after;
    }

pub loop-low-preserved : goal.loop-low-preserved
loop-low-preserved c =
    let order = c.args.order.now in
    let text = c.args.text.now in
    let middle : ℕ = c.loop-low.low + (c.loop-low.high - c.loop-low.low) / 2 in
    let after : is_after (string_of order middle) text ≡ false =
    sym c.is_after.ensures ∙ c.if-is_after.false in
    record {
      ordered = omega arith;
      within = c.loop-low.invariant.within;
      none = λ i lt. none-below order text i middle (omega arith) (omega arith) after;
      all = c.loop-low.invariant.all;
    }
