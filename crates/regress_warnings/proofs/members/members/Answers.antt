use Rattle.std.proofs.Common.{◌≡◌, ◌∙◌, ◌++◌, ◌-◌, ap, sym}
use Rattle.regress_warnings.specs.Classes.{members_by}
use Rattle.regress_warnings.proofs.MemberLemmas.{stepped_in}
use Rattle.regress_warnings.proofs.members.members.Goals as goal

pub loop-left-preserved : goal.loop-left-preserved
loop-left-preserved c =
    let others = c.next_member-member.result.1.now in
    ap (λ found. found ++ members_by (c.loop-left.left - 1) others) c.in_ok-push.ensures.items
    ∙ sym (stepped_in c.loop-left.found.items c.loop-left.left c.loop-left.rest.now c.next_member-member.result.0 others c.loop-left-test.true
    c.in-len1-up.len_at_least c.next_member-member.ensures)
    ∙ c.loop-left.invariant
