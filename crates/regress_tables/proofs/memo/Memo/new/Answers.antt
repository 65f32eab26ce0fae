use Rattle.std.proofs.Common.{slice_get, ap, ◌∙◌, subst, inl, inr}
use Rattle.regress_leaves.specs.Subject.{subject}
use Rattle.regress_program.specs.Listed.{listed}
use Rattle.regress_program.specs.Views.{ops_in}
use Rattle.regress_tables.specs.Memo.{AreFarBytes}
use Rattle.regress_tables.proofs.KeptLemmas.{kept-none}
use Rattle.regress_tables.proofs.memo.Memo.new.Goals as goal

pub returns-clause-empty : goal.returns-clause-empty
returns-clause-empty c = λ key n kept. kept-none _ _ _ c.in_ok-empty_slots.ensures (c.in_ok-vec.ensures.items_if_clones_equal (λ y same. same)) key n kept

pub returns-clause-bytes : goal.returns-clause-bytes
returns-clause-bytes c =
    let u = subject c.args.input.rules c.args.input.text.now in
    subst (λ far. AreFarBytes u.setting u.bytes u.direction (ops_in c.args.input.code.now.program.leaves.items (listed c.args.routine.now)) far c.far_bytes_of-far_bytes.result)
    c.deref-2.ensures.value c.far_bytes_of-far_bytes.ensures

pub returns-clause-covers : goal.returns-clause-covers
returns-clause-covers c = λ pc op is. elim (c.in_ok-listed.ensures pc op is) [
  | inl near ↦ inl near
  | inr at ↦ inr (c.in_ok-far.ensures.all at.0 pc (ap (λ xs. slice_get xs at.0) c.deref.ensures.value ∙ at.1))
]
