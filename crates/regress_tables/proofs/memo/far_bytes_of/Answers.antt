use Rattle.std.proofs.Common.{◌≡◌, Some, slice_get, slice_index_or, sym, ap, ◌∙◌, inl, inr, arith}
use Rattle.std.proofs.lemmas.Bool.{cases_eq}
use Rattle.std.proofs.lemmas.Option.{same_Some, slice_get-get_or, slice_get_within}
use Rattle.regress_leaves.specs.Subject.{subject}
use Rattle.regress_program.specs.Listed.{listed}
use Rattle.regress_program.specs.Views.{ops_in}
use Rattle.regress_tables.proofs.FarLemmas.{bytes-or, bytes-or-last}
use Rattle.regress_tables.proofs.memo.far_bytes_of.Goals as goal

pub loop-k-preserved : goal.loop-k-preserved
loop-k-preserved c = λ j pc op lt is is_op.
    let u = subject c.args.input.rules c.args.input.text.now in
    let far = c.args.far.now in
    let k = c.loop-k.k in
    let both = c.or-bytes.result in
    let or = c.or-bytes.ensures in
    elim (cases_eq j k) [
      | inl last ↦
          let read : slice_get far k ≡ Some (slice_index_or far k 0) = slice_get-get_or far k 0 (omega (arith, slice_get_within far j pc is, last)) in
          let here : slice_index_or far k 0 ≡ pc = same_Some _ pc (sym read ∙ ap (slice_get far) (sym last) ∙ is) in
          bytes-or-last u.setting u.bytes u.direction op c.loop-k.bytes c.bytes_at.result both
          (c.bytes_at.ensures op (ap (slice_get (ops_in c.args.input.code.now.program.leaves.items (listed c.args.routine.now))) here ∙ is_op)) or.reversed
      | inr before ↦
          bytes-or u.setting u.bytes u.direction op c.loop-k.bytes c.bytes_at.result both
          (c.loop-k.invariant j pc op (omega (arith, lt, before)) is is_op) or.in_order
    ]

pub returns : goal.returns
returns c = λ j pc op is is_op.
    c.loop-k.invariant j pc op (omega (arith, slice_get_within c.args.far.now j pc is, c.loop-k-test.false)) is is_op
