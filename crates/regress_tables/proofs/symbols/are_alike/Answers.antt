use Rattle.std.proofs.Common.{◌≡◌, ◌<◌, true, length, slice_get, refl, sym, ap, ◌∙◌, subst, inl, inr, arith}
use Rattle.std.proofs.lemmas.Bool.{cases_eq}
use Rattle.std.proofs.lemmas.Option.{same_Some, slice_get_read, slice_get_within}
use Rattle.regress_prefilter.specs.OneCharacter.{takes_one, test_of}
use Rattle.regress_tree.specs.Tree.{tree}
use Rattle.regress_tables.proofs.symbols.are_alike.Goals as goal

pub loop-test-preserved : goal.loop-test-preserved
loop-test-preserved c = λ i t lt is one.
    let tests = c.args.tests.now in
    let index = c.loop-test.test-index in
    let item = c.test-item.result in
    elim (cases_eq i index) [
      | inl here ↦
          let within : index < length tests = omega (arith, ap (λ k. k) here, slice_get_within tests i t is) in
          let same = same_Some item t (sym (slice_get_read tests _ index item refl within c.test-item.is) ∙ ap (slice_get tests) (sym here) ∙ is) in
          subst (λ x. test_of (tree x.node) c.args.a ≡ test_of (tree x.node) c.args.b) same
          (c.tells_apart.ensures c.if-tells_apart.false (subst (λ x. takes_one (tree x.node) ≡ true) (sym same) one))
      | inr apart ↦ c.loop-test.invariant i t (omega (arith, lt, apart)) is one
    ]

pub returns : goal.returns
returns c = λ _ i t is one.
    c.loop-test.invariant i t (omega (arith, slice_get_within c.args.tests.now i t is, c.loop-test-test.false, c.loop-test.auto.test-index-end)) is one
