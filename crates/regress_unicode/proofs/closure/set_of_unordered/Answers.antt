-- The order of the intervals does not matter.
use Rattle.std.proofs.Common.{◌||◌, ◌∙◌, List, ap}
use Rattle.regress_base.specs.Intervals.{Bounds, is_member}
use Rattle.regress_base.proofs.lemmas.Sets.{is_member-nil}
use Rattle.regress_unicode.proofs.ClosingLemmas.{is_member-IsPermutation}
use Rattle.regress_unicode.proofs.closure.set_of_unordered.Goals as goal

pub returns : goal.returns
returns c x =
    c.in_ok-add_intervals.ensures x
    ∙ ap (λ (l : List Bounds). is_member l x || is_member c.deref.result.now x) c.new-set.ensures
    ∙ ap (λ b. b || is_member c.deref.result.now x) (is_member-nil x)
    ∙ ap (λ (l : List Bounds). is_member l x) c.deref.ensures.value
    ∙ is_member-IsPermutation c.args.intervals.items c.sort_unstable_by_key.new.self.items x c.sort_unstable_by_key.ensures.permutation
