use Rattle.std.proofs.Common.{◌≡◌, ℕ, ◌⊎◌, List, Some, option_map, slice_get, sym, ap, ◌∙◌, subst, arith}
use Rattle.std.proofs.lemmas.List.{length-map}
use Rattle.std.proofs.lemmas.Option.{same_Some, slice_get-map, slice_get_within}
use Rattle.regress_program.specs.Listed.{listed}
use Rattle.regress_program.specs.Views.{op_in, ops_in}
use Rattle.regress_tables.specs.Memo.{IsNear}
use Rattle.regress_tables.proofs.FarLemmas.{far-next, far-pushed}
use Rattle.regress_tables.proofs.memo.far_of.Goals as goal
use Rattle.regress_tables.proofs.memo.far_of.Goals.{then-is_far+in_ok-push, else-is_far}

pub loop-pc-preserved : goal.loop-pc-preserved
loop-pc-preserved c = λ pc op lt is.
    let leaves = c.args.input.code.now.program.leaves.items in
    let items = listed c.args.routine.now in
    let ops = ops_in leaves items in
    let n = c.loop-pc.pc in
    let far = c.loop-pc.far.items in
    elim c.if-is_far.branch [
      | then-is_far+in_ok-push w ↦
          subst (λ (xs : List ℕ). IsNear op ⊎ ((k : ℕ) × (slice_get xs k ≡ Some pc)))
          (sym (ap (λ v. v.items) w.far-is ∙ w.in_ok-push.ensures.items))
          (far-pushed ops far n c.loop-pc.invariant pc op lt is)
      | else-is_far w ↦
          let here : slice_get ops n ≡ Some (op_in leaves c.at.result) =
          slice_get-map (op_in leaves) items n ∙ ap (option_map (op_in leaves)) c.at.ensures in
          subst (λ (xs : List ℕ). IsNear op ⊎ ((k : ℕ) × (slice_get xs k ≡ Some pc))) (sym (ap (λ v. v.items) w.far-is))
          (far-next ops far n c.loop-pc.invariant
          (λ op' is'. subst IsNear (same_Some (op_in leaves c.at.result) op' (sym here ∙ is')) (c.is_far.ensures w.if-is_far.false)) pc op lt is)
    ]

pub returns : goal.returns
returns c = λ pc op is.
    let leaves = c.args.input.code.now.program.leaves.items in
    let items = listed c.args.routine.now in
    c.loop-pc.invariant pc op (omega (arith, slice_get_within (ops_in leaves items) pc op is, length-map items (op_in leaves), c.loop-pc-test.false)) is
