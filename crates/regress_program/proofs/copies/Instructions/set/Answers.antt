-- The instruction is stored once.
use Rattle.std.proofs.Common.{length, refl, sym, ap, ◌∙◌}
use Rattle.std.proofs.lemmas.List.{length-set}
use Rattle.regress_program.specs.Listed.{all_of}
use Rattle.regress_program.proofs.SlotLemmas.{all_of-set, Appends-set}
use Rattle.regress_program.proofs.copies.Instructions.set.Goals as goal

pub invariant_of-self : goal.invariant_of-self
unfolding all_of
invariant_of-self c =
    let is = c.args.self.now in
    let there = c.slot-slot.ensures in
    record {
      are = there.are c.args.instruction;
      counted = is.counted ∙ sym (ap length (there.written c.args.instruction) ∙ length-set (all_of is) c.args.at c.args.instruction);
    }

pub returns-clause-set : goal.returns-clause-set
returns-clause-set c = all_of-set c.args.self.now _ c.args.self.now c.args.at c.slot-slot.result c.args.instruction c.slot-slot.ensures refl refl

pub returns-clause-appends : goal.returns-clause-appends
returns-clause-appends c =
    λ base low grown below. Appends-set c.args.self.now _ base c.args.at c.slot-slot.result c.args.instruction c.slot-slot.ensures refl refl low grown below
