-- A byte is the next digit.
use Rattle.std.proofs.Common.{◌≡◌, ◌+◌, ◌-◌, ◌*◌, drop, refl, sym, ap, subst, ◌∙◌, arith}
use Rattle.regress_strings.specs.Keys.{key_from, key_of}
use Rattle.regress_strings.proofs.KeyLemmas.{key-step, key-fits}
use Rattle.regress_strings.proofs.keys.key_of.Goals as goal

pub loop-place-init : goal.loop-place-init
unfolding key_of
loop-place-init c = record { within = omega arith; digits = refl }

pub overflow_mul-key : goal.overflow_mul-key
overflow_mul-key c =
    let fits = (key-fits c.loop-place.key c.loop-place.place 0 c.loop-place-test.true c.loop-place.invariant.within (omega arith)).1 in
    omega arith

pub overflow_add-key : goal.overflow_add-key
overflow_add-key c =
    let fits = (key-fits c.loop-place.key c.loop-place.place c.from.result c.loop-place-test.true c.loop-place.invariant.within (omega arith)).1 in
    omega arith

pub loop-place-preserved : goal.loop-place-preserved
loop-place-preserved c =
    let key = c.loop-place.key in
    let place = c.loop-place.place in
    let string = c.args.string.now in
    let is = c.from.ensures ∙ c.byte_at.ensures in
    record {
      within = (key-fits key place c.from.result c.loop-place-test.true c.loop-place.invariant.within (omega arith)).0;
      digits = subst (λ b. key_from (key * 256 + b) (8 - (place + 1)) (drop (place + 1) string) ≡ key_of string) (sym is)
          (sym (key-step key place string c.loop-place-test.true) ∙ c.loop-place.invariant.digits);
    }

pub returns-clause-key : goal.returns-clause-key
unfolding key_from
returns-clause-key c =
    let string = c.args.string.now in
    let end : 8 - c.loop-place.place ≡ 0 = omega arith in
    sym (ap (λ n. key_from c.loop-place.key n (drop c.loop-place.place string)) end) ∙ c.loop-place.invariant.digits
