use Rattle.std.proofs.Common.{rules, ◌≡◌, refl, ap, reverse}
use Rattle.regress_backtrack.proofs.MachineLemmas.{kept-ended, Kept-refl, groups-same}
use Rattle.regress_backtrack.proofs.machine.Machine.close.Goals as goal

pub returns-in_ok-push_within-in-Some-clause-kept : goal.returns-in_ok-push_within-in-Some-clause-kept
returns-in_ok-push_within-in-Some-clause-kept c = kept-ended c.args.self.now _ c.in-Some.from (search rules) (search rules) (search rules)

pub returns-in-None-clause-kept : goal.returns-in-None-clause-kept
returns-in-None-clause-kept c =
    let same : c.pop.new.self.items ≡ c.args.self.now.stack.begins.items = search rules in
    Kept-refl c.args.self.now _ refl (groups-same _ _ _ _ refl (ap reverse same))
