use Rattle.std.proofs.Common.{◌≡◌, ◌⊎◌, ℕ, [], ◌∷◌, ◌++◌, Some, IfSome, length, slice_get, slice_index_or, sym, ap, ◌∙◌, subst, arith, length-append}
use Rattle.std.proofs.lemmas.Option.{slice_get-get_or, slice_get_within}
use Rattle.regress_program.specs.Listed.{listed}
use Rattle.regress_program.specs.Views.{ops_in}
use Rattle.regress_tables.specs.Repetitions.{IsRepeated}
use Rattle.regress_tables.specs.declared.repetitions.Repeated.{Repeated}
use Rattle.regress_tables.proofs.OrderLemmas.{IsIn, first-more, in-either, last-part, repeated-kept, repeated-more, second-more}
use Rattle.regress_tables.proofs.repetitions.Repetitions.new.Goals as goal
use Rattle.regress_tables.proofs.repetitions.Repetitions.new.Goals.{in-Some+in_ok-push-in-Some+in_ok-push-in-Some-2, in-None+in_ok-push-in-None}

pub loop-k-preserved : goal.loop-k-preserved
loop-k-preserved c =
    let so_far = c.loop-k.invariant in
    let leaves = c.args.input.code.now.program.leaves.items in
    let ops = ops_in leaves (listed c.args.routine.now) in
    let far = c.args.far.now in
    let k = c.loop-k.k in
    let pc = slice_index_or far k 0 in
    let distinct = c.repeated_at.new.distinct.items in
    let ordered = c.loop-k.ordered.items in
    let last = c.loop-k.last.items in
    let uses = c.loop-k.uses.items in
    let read : slice_get far k ≡ Some pc = slice_get-get_or far k 0 (omega (arith, c.loop-k-test.true)) in
    let before : (j pc' : ℕ) (r : Repeated) → slice_get last j ≡ Some pc' → slice_get uses j ≡ Some r → IsRepeated leaves ops distinct pc' r =
    λ j pc' r at used. repeated-kept leaves ops distinct c.loop-k.distinct.items c.repeated_at.ensures.kept pc' r (so_far.uses j pc' r at used) in
    elim c.match-branch-2.branch [
      | in-Some+in_ok-push-in-Some+in_ok-push-in-Some-2 w ↦
          let uses_is = ap (λ v. v.items) w.uses-is ∙ w.in_ok-push-in-Some.ensures.items in
          let last_is = ap (λ v. v.items) w.last-is ∙ w.in_ok-push-in-Some-2.ensures.items in
          let ordered_is = ap (λ v. v.items) w.ordered-is in
          let is = subst (λ o. IfSome o (IsRepeated leaves ops distinct pc)) w.in-Some.is c.in_ok-repeated.ensures.repeated in
          record {
            count = omega (arith, so_far.count, ap length uses_is, ap length last_is, length-append uses (w.in-Some.repeated ∷ []), length-append last (pc ∷ []));
            one = c.repeated_at.ensures.one so_far.one;
            all = λ j x lt here. subst (λ xs. IsIn xs x ⊎ IsIn c.match-branch-2.last.items x) (sym ordered_is)
                (subst (λ ys. IsIn ordered x ⊎ IsIn ys x) (sym last_is) (second-more far ordered last k pc read so_far.all j x lt here));
            uses = λ j x r at used. repeated-more leaves ops distinct last uses pc w.in-Some.repeated so_far.count before is j x r
                (ap (λ xs. slice_get xs j) (sym last_is) ∙ at) (ap (λ us. slice_get us j) (sym uses_is) ∙ used);
          }
      | in-None+in_ok-push-in-None w ↦
          let uses_is = ap (λ v. v.items) w.uses-is in
          let last_is = ap (λ v. v.items) w.last-is in
          let ordered_is = ap (λ v. v.items) w.ordered-is ∙ w.in_ok-push-in-None.ensures.items in
          record {
            count = omega (arith, so_far.count, ap length uses_is, ap length last_is);
            one = c.repeated_at.ensures.one so_far.one;
            all = λ j x lt here. subst (λ xs. IsIn xs x ⊎ IsIn c.match-branch-2.last.items x) (sym ordered_is)
                (subst (λ ys. IsIn (ordered ++ pc ∷ []) x ⊎ IsIn ys x) (sym last_is) (first-more far ordered last k pc read so_far.all j x lt here));
            uses = λ j x r at used. before j x r
                (ap (λ xs. slice_get xs j) (sym last_is) ∙ at) (ap (λ us. slice_get us j) (sym uses_is) ∙ used);
          }
    ]

pub returns-clause-all : goal.returns-clause-all
returns-clause-all c = λ k pc is.
    subst (λ xs. IsIn xs pc) (sym c.in_ok-append.ensures.items)
    (in-either c.loop-k.ordered.items c.loop-k.last.items pc
    (c.loop-k.invariant.all k pc (omega (arith, slice_get_within c.args.far.now k pc is, c.loop-k-test.false)) is))

pub returns-clause-are : goal.returns-clause-are
returns-clause-are c =
    let so_far = c.loop-k.invariant in
    let ordered = c.loop-k.ordered.items in
    let last = c.loop-k.last.items in
    let is = c.in_ok-append.ensures.items in
    record {
      one = so_far.one;
      count = omega (arith, so_far.count, ap length is, length-append ordered last);
      uses = λ k pc repeated at used.
          so_far.uses k pc repeated
          (ap (λ xs. slice_get xs k) (sym (last-part ordered last c.append.new.self.items (length c.loop-k.uses.items) is so_far.count)) ∙ at) used;
    }
