use Rattle.std.proofs.Common.{IfSome, sym, subst}
use Rattle.std.proofs.lemmas.List.Elements.{All-pop}
use Rattle.regress_backtrack.specs.Memory.{IsStackWithin}
use Rattle.regress_backtrack.proofs.machine.Machine.enter.Goals as goal
use Rattle.regress_backtrack.proofs.machine.Machine.enter.Goals.{in-Some, in-None}

pub returns-clause-within : goal.returns-clause-within
returns-clause-within c = λ room are.
    let popped = All-pop (IsStackWithin room) c.args.self.now.idle.items c.pop.new.self.items c.pop.result c.pop.ensures.items are.idle in
    record {
      stack = subst (IsStackWithin room) (sym c.replace.ensures.after) (elim c.match-pop.branch [
        | in-Some w ↦ subst (IsStackWithin room) (sym w.inner-is) (subst (λ o. IfSome o (IsStackWithin room)) w.in-Some.is popped.1)
        | in-None w ↦ subst (IsStackWithin room) (sym w.inner-is) (w.new-inner.ensures.within room)
      ]);
      idle = popped.0;
    }
