use Rattle.std.proofs.Common.{rules, refl}
use Rattle.regress_backtrack.proofs.MachineLemmas.{set_last, shortened}
use Rattle.regress_backtrack.proofs.machine.Machine.keep_range.Goals as goal

pub returns-clause-shortened : goal.returns-clause-shortened
returns-clause-shortened c = λ all ends.
    shortened c.args.self.now _ ends.before c.args.first all c.args.more ends.entries
    (set_last c.args.self.now.stack.entries.items ends.before _ _ c.len-latest.result ends.entries (search rules)) refl
