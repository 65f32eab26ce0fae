use Rattle.std.proofs.Common.{◌≡◌, Some, length, option_map, slice_get, refl, sym, ap, ◌∙◌, subst, arith}
use Rattle.std.proofs.lemmas.List.{length_push}
use Rattle.std.proofs.lemmas.Option.{same_Some, slice_get-map, slice_get_read}
use Rattle.regress_tree.specs.Reading.{direction_if}
use Rattle.regress_tree.specs.Steps.{MatchState}
use Rattle.regress_program.specs.Listed.{listed}
use Rattle.regress_program.specs.Program.{Routine, matcher_of}
use Rattle.regress_program.specs.Search.{routines_of}
use Rattle.regress_program.specs.Views.{ops_in, routine_in}
use Rattle.regress_program.specs.declared.instruction.Routine as declared
use Rattle.regress_code.specs.declared.analysis.Analysis.{Analysis}
use Rattle.regress_code.specs.declared.next_bytes.Body.{Body}
use Rattle.regress_code.specs.NextBytes.{AreNextBytes, AreNextBytesOf, Bounds, HaveNextBytes}
use Rattle.regress_code.specs.Possessive.{ArePossessive, HavePossessive}
use Rattle.regress_code.specs.Rows.{AreRows, HaveRows}
use Rattle.regress_code.specs.Skips.{AreSkips, HaveSkips}
use Rattle.regress_code.proofs.ListLemmas.{pushed}
use Rattle.regress_code.proofs.NextBytesLemmas.{HaveBodies, entry_bounds, routine_bounds}
use Rattle.regress_code.proofs.analysis.analyze.Goals as goal

pub loop-routine-preserved : goal.loop-routine-preserved
loop-routine-preserved c =
    let program = c.args.program.now in
    let leaves = program.leaves.items in
    let routines = program.routines.items in
    let program_routines = routines_of program in
    let known = c.loop-routine.analyses.items in
    let one = c.in_ok-analysis.analysis in
    let so_far = c.loop-routine.invariant in
    let r = c.routine-item.result in
    let here : slice_get routines (length known) ≡ Some r =
    subst (λ xs. slice_get xs (length known) ≡ Some r) c.deref-routine-items.ensures.value
    (ap (slice_get c.deref-routine-items.result.now) so_far.count
    ∙ slice_get_read c.deref-routine-items.result.now _ c.loop-routine.routine-index r refl c.loop-routine-test.true c.routine-item.is) in
    let i = length known in
    let body = c.body_of.result in
    let bodies = c.loop-routine.bodies.items in
    let q : Routine = routine_in leaves r in
    let q_here : slice_get program_routines i ≡ Some q = slice_get-map (routine_in leaves) routines i ∙ ap (option_map (routine_in leaves)) here in
    let are : AreNextBytesOf c.args.folds bodies one.next_bytes.items q.direction q.ops =
    subst (λ bs. AreNextBytesOf c.args.folds bs one.next_bytes.items q.direction q.ops) c.deref-in-loop-routine.ensures.value
    (subst (λ xs. AreNextBytesOf c.args.folds c.deref-in-loop-routine.result.now one.next_bytes.items q.direction (ops_in xs (listed r))) c.deref.ensures.value
    c.in_ok-analysis.ensures.next_bytes) in
    let as_body : i ≡ length bodies = so_far.count ∙ sym so_far.body_count in
    record {
      count = omega (arith, ap length c.in_ok-push-2.ensures.items, length_push known one, so_far.count);
      body_count = omega (arith, ap length c.in_ok-push.ensures.items, length_push bodies body, so_far.body_count);
      bodies = subst (HaveBodies c.args.folds program_routines) (sym c.in_ok-push.ensures.items)
          (λ setting folds text outs solution.
          let matcher = matcher_of setting text program_routines outs in
          pushed (λ k (b : Body). (s : MatchState) → Bounds b.next_byte (direction_if b.backwards) text s.position (matcher k s)) bodies body
          (so_far.bodies setting folds text outs solution)
          (subst (λ k. (s : MatchState) → Bounds body.next_byte (direction_if body.backwards) text s.position (matcher k s)) as_body
          (λ s.
          subst (λ b. Bounds body.next_byte (direction_if b) text s.position (matcher i s)) (sym c.body_of.ensures.direction)
          (entry_bounds c.args.folds program_routines bodies so_far.bodies i q q_here one.next_bytes.items are setting folds text outs solution body.next_byte
          (λ d out. c.body_of.ensures.next_byte d text out) s))));
      next_bytes = subst (HaveNextBytes c.args.folds program_routines) (sym c.in_ok-push-2.ensures.items)
          (λ setting folds text outs solution.
          pushed (λ k (a : Analysis). (x : Routine) → slice_get program_routines k ≡ Some x → AreNextBytes a.next_bytes.items x.direction text (outs k)) known one
          (so_far.next_bytes setting folds text outs solution)
          (λ x is.
          subst (λ (y : Routine). AreNextBytes one.next_bytes.items y.direction text (outs i)) (same_Some q x (sym q_here ∙ is))
          (routine_bounds c.args.folds program_routines bodies so_far.bodies i q q_here one.next_bytes.items are setting folds text outs solution)));
      skips =
          subst (HaveSkips routines) (sym c.in_ok-push-2.ensures.items)
          (pushed (λ i (a : Analysis). (q : declared.Routine) → slice_get routines i ≡ Some q → AreSkips a.skips.items a.next_bytes.items (listed q))
          known one so_far.skips
          (λ q is.
          subst (λ (x : declared.Routine). AreSkips one.skips.items one.next_bytes.items (listed x)) (same_Some r q (sym here ∙ is))
          c.in_ok-analysis.ensures.skips));
      rows =
          subst (HaveRows c.args.folds leaves routines) (sym c.in_ok-push-2.ensures.items)
          (pushed (λ i (a : Analysis). (q : declared.Routine) → slice_get routines i ≡ Some q → AreRows c.args.folds a.rows.items leaves (listed q) q.backwards)
          known one so_far.rows
          (λ q is.
          subst (λ (x : declared.Routine). AreRows c.args.folds one.rows.items leaves (listed x) x.backwards) (same_Some r q (sym here ∙ is))
          (subst (λ xs. AreRows c.args.folds one.rows.items xs (listed r) r.backwards) c.deref.ensures.value c.in_ok-analysis.ensures.rows)));
      possessive =
          subst (HavePossessive leaves routines) (sym c.in_ok-push-2.ensures.items)
          (pushed
          (λ i (a : Analysis). (q : declared.Routine) → slice_get routines i ≡ Some q → ArePossessive a.possessive.items a.next_bytes.items leaves (listed q))
          known one so_far.possessive
          (λ q is.
          subst (λ (x : declared.Routine). ArePossessive one.possessive.items one.next_bytes.items leaves (listed x)) (same_Some r q (sym here ∙ is))
          (subst (λ xs. ArePossessive one.possessive.items one.next_bytes.items xs (listed r)) c.deref.ensures.value c.in_ok-analysis.ensures.possessive)));
    }
