use Rattle.std.proofs.Common.{rules, ◌<◌, ◌≤◌, sym, length, Some, arith}
use Rattle.std.proofs.lemmas.List.{set_past}
use Rattle.regress_tables.specs.declared.slots.Slot.TheVariants.{Span}
use Rattle.regress_tables.specs.Slots.{resolved}
use Rattle.regress_tables.proofs.SlotLemmas.{resolved-set, length-resolved, one-span, no-span}
use Rattle.regress_tables.proofs.walker.set_span.Goals as goal

pub returns-then-id-len : goal.returns-then-id-len
returns-then-id-len c =
    let lt : c.args.id < length c.args.slots.now.items = search rules in
    record {
      resolved = λ capture_of. resolved-set capture_of c.args.id (Span c.args.from c.args.to) c.args.slots.now.items;
      slots = one-span c.args.id c.args.from c.args.to c.args.slots.now.items lt;
    }

pub returns-else-id-len : goal.returns-else-id-len
returns-else-id-len c =
    let le : length c.args.slots.now.items ≤ c.args.id = search rules in
    record {
      resolved = λ capture_of.
          sym (set_past (resolved capture_of c.args.slots.now.items) c.args.id (Some (c.args.from, c.args.to)) (omega (arith, length-resolved capture_of c.args.slots.now.items, le)));
      slots = no-span c.args.id c.args.slots.now.items le;
    }
