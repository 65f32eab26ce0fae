use Rattle.std.proofs.Common.{Vec, List, slice_get, ◌≡◌, ◌+◌, ◌*◌, length, Some, refl, sym, ap, subst, arith}
use Rattle.std.specs.Global.{Global}
use Rattle.regress_tables.specs.declared.slots.Slot.{Slot}
use Rattle.regress_tables.specs.Searchable.{AreTaken, program_in, width_at}
use Rattle.regress_tables.specs.declared.slots.Slot.TheVariants.{Inside}
use Rattle.regress_tables.proofs.ResolveLemmas.{IsPartly, partly_none, partly_kept, partly_taken, partly_all, product_more, product_form}
use Rattle.regress_tables.proofs.resolve.resolve_routine.Goals as goal
use Rattle.regress_tables.proofs.resolve.resolve_routine.Goals.{in-Some+in_ok-found, in_default}

pub loop-id-init : goal.loop-id-init
loop-id-init c = record {
  partly = partly_none c.args.filled c.args.routine c.args.slots.now.items c.requires.inside;
  steps = omega arith;
}

pub loop-id-preserved : goal.loop-id-preserved
loop-id-preserved c =
    let so_far = c.loop-id.invariant in
    let f = c.args.filled in
    let routine = c.args.routine in
    let start = c.args.slots.now.items in
    let id = c.loop-id.id in
    let cost = 2 * width_at (program_in f) routine * (length f.input.text.now + 1) in
    let more = product_more id cost in
    elim c.match-set_from.branch [
      | in-Some+in_ok-found w ↦
          let slots = c.loop-id.slots.items in
          let position = w.in-Some.position in
          let set = subst (λ xs. slice_get xs id ≡ Some (Inside routine position)) c.deref.ensures.value (w.in-Some.ensures.some position refl) in
          let found = w.in_ok-found.found.items in
          let taken : AreTaken routine position found slots c.match-set_from.slots.items =
          subst (λ (x : Vec Slot Global). AreTaken routine position found slots x.items) (sym w.slots-is)
          (subst (λ (xs : List Slot). AreTaken routine position xs slots w.take_slots.new.slots.items) w.deref-in-Some.ensures.value w.take_slots.ensures) in
          let count : length found ≡ length slots = omega (arith, w.in_ok-found.ensures.count, w.len.ensures) in
          record {
            partly = partly_taken f routine start id position found slots c.match-set_from.slots.items so_far.partly set count w.in_ok-found.ensures.found taken;
            steps = omega (arith, w.steps-is, w.in_ok-found.ensures.steps, so_far.steps, more);
          }
      | in_default w ↦
          record {
            partly = subst (λ (x : Vec Slot Global). IsPartly f routine (id + 1) start x.items) (sym w.slots-is)
                (partly_kept f routine start id c.loop-id.slots.items so_far.partly
                (λ position at. c.set_from.ensures.none w.in_default.is position (subst (λ xs. slice_get xs id ≡ Some (Inside routine position)) (sym c.deref.ensures.value) at)));
            steps = omega (arith, w.steps-is, so_far.steps, more);
          }
    ]

pub returns : goal.returns
returns c =
    let so_far = c.loop-id.invariant in
    let f = c.args.filled in
    let start = c.args.slots.now.items in
    let ends : c.loop-id.id ≡ f.inner = omega (arith, c.loop-id-test.false, c.loop-id.auto.id-end) in
    record {
      resolved = partly_all f c.args.routine start c.loop-id.slots.items (subst (λ id. IsPartly f c.args.routine id start c.loop-id.slots.items) ends so_far.partly);
      steps = omega (
        arith,
        so_far.steps,
        ap (λ id. id * (2 * width_at (program_in f) c.args.routine * (length f.input.text.now + 1))) ends,
        product_form (width_at (program_in f) c.args.routine) f.inner (length f.input.text.now + 1),
      );
    }
