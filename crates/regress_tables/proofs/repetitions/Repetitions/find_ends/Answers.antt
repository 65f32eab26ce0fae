use Rattle.std.proofs.Common.{◌≡◌, ◌<◌, Some, length, slice_get, slice_index_or, refl, sym, ap, ◌∙◌, subst, inl, inr, arith}
use Rattle.std.proofs.lemmas.Bool.{cases_eq}
use Rattle.std.proofs.lemmas.Option.{same_Some, slice_get_read, slice_get_within}
use Rattle.regress_leaves.specs.Subject.{subject}
use Rattle.regress_tables.specs.Repetitions.{EndsIn, repetition_tree}
use Rattle.regress_tables.proofs.KeptLemmas.{repetitions-trans}
use Rattle.regress_tables.proofs.repetitions.Repetitions.find_ends.Goals as goal

pub loop-k-preserved : goal.loop-k-preserved
loop-k-preserved c =
    let so_far = c.loop-k.invariant in
    let set = c.set_end.ensures in
    let u = subject c.args.input.rules c.args.input.text.now in
    let leaves = c.args.input.code.now.program.leaves.items in
    let distinct = c.loop-k.self.distinct.items in
    let ends = c.set_end.new.self.ends.items in
    let k = c.loop-k.k in
    let r = c.index.result.now in
    let within : k < length distinct =
    omega (arith, c.loop-k-test.true, c.loop-k.auto.k-end, c.len-k-end.ensures, ap length so_far.same.distinct) in
    let read : slice_get distinct k ≡ Some r = slice_get_read distinct (length distinct) k r refl within c.index.ensures in
    record {
      same = repetitions-trans c.args.self.now c.loop-k.self c.set_end.new.self so_far.same set.same;
      runs = c.in-Some.ensures.runs;
      digits = λ t is. set.digits t (so_far.digits t is);
      ends = λ j x lt is.
          let old : slice_get distinct j ≡ Some x = ap (λ xs. slice_get xs j) (sym set.same.distinct) ∙ is in
          elim (cases_eq j k) [
            | inl here ↦
                subst (λ x'. EndsIn u c.args.table.now (repetition_tree leaves x') c.args.position (slice_index_or ends j 0))
                (same_Some r x (sym read ∙ ap (slice_get distinct) (sym here) ∙ old))
                (subst (EndsIn u c.args.table.now (repetition_tree leaves r) c.args.position) (sym (ap (λ i. slice_index_or ends i 0) here ∙ set.at)) c.in-Some.ensures.ends)
            | inr apart ↦
                subst (EndsIn u c.args.table.now (repetition_tree leaves x) c.args.position) (sym (set.others j apart))
                (so_far.ends j x (omega (arith, lt, apart)) old)
          ];
    }

pub returns-clause-ends : goal.returns-clause-ends
returns-clause-ends c = λ _ j x is.
    let so_far = c.loop-k.invariant in
    so_far.ends j x
    (omega (arith, slice_get_within c.loop-k.self.distinct.items j x is, c.loop-k-test.false, c.loop-k.auto.k-end, c.len-k-end.ensures, ap length so_far.same.distinct)) is
