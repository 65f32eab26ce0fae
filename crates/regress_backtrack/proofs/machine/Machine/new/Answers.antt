use Rattle.std.proofs.Common.{sym, subst, All}
use Rattle.std.proofs.lemmas.List.Elements.{All-nil}
use Rattle.regress_backtrack.specs.Memory.{IsStackWithin}
use Rattle.regress_backtrack.proofs.machine.Machine.new.Goals as goal

pub returns : goal.returns
returns c = record {
  within = λ room. record {
    stack = c.new-2.ensures.within room;
    idle = subst (All (IsStackWithin room)) (sym c.new-3.ensures.items) (All-nil (IsStackWithin room));
  };
}
