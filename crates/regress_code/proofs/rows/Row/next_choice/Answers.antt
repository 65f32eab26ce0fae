use Rattle.std.proofs.Common.{◌≡◌, ◌≤◌, ◌-◌, ◌+◌, Some, slice_get, subst, arith}
use Rattle.std.proofs.lemmas.Option.{slice_get_within}
use Rattle.regress_strings.specs.Strings.{strings_of}
use Rattle.regress_code.specs.Rows.{IsChoiceOf}
use Rattle.regress_code.proofs.RowLemmas.{passed}
use Rattle.regress_code.proofs.rows.Row.next_choice.Goals as goal

pub returns-in-Some-clause-passed : goal.returns-in-Some-clause-passed
returns-in-Some-clause-passed c = λ j low high.
    let row = c.args.self.now in
    let inside : IsChoiceOf row c.args.pc = c.contains.ensures.0 c.if-not-contains.false in
    passed row c.args.text.now c.args.position (c.args.pc - row.lowest + 1) (c.in-Some.k + 1) c.in-Some.ensures.last c.args.pc inside j
    (omega (arith, low)) (omega (arith, low)) high (omega (arith, high, inside.0))

pub returns-in-None-clause-passed : goal.returns-in-None-clause-passed
returns-in-None-clause-passed c = λ j low high.
    let row = c.args.self.now in
    let inside : IsChoiceOf row c.args.pc = c.contains.ensures.0 c.if-not-contains.false in
    passed row c.args.text.now c.args.position (c.args.pc - row.lowest + 1) 0 c.in-None.ensures c.args.pc inside j
    (omega (arith, low, c.saturating_sub.ensures)) (omega arith) high (omega (arith, high, inside.0))

pub returns-then-not-contains-clause-next : goal.returns-then-not-contains-clause-next
returns-then-not-contains-clause-next c = λ above passed.
    let row = c.args.self.now in
    let from : row.lowest ≤ c.args.pc = passed.from in
    let within = slice_get_within (strings_of row.strings) (c.args.pc - row.lowest) passed.string passed.is in
    let inside = c.contains.ensures.1 (from, omega (arith, from, within)) in
    let outside = c.if-not-contains.true in
    let bad : ⊥ = cc in
    bad

pub returns-in-Some-clause-next : goal.returns-in-Some-clause-next
returns-in-Some-clause-next c = λ above passed.
    let row = c.args.self.now in
    let number : (row.lowest + c.in-Some.k) - row.lowest ≡ c.in-Some.k = omega arith in
    let occurs = c.in-Some.ensures.occurs passed.string (subst (λ k. slice_get (strings_of row.strings) k ≡ Some passed.string) number passed.is) in
    let fails = passed.fails in
    let bad : ⊥ = cc in
    bad

pub returns-in-None-clause-next : goal.returns-in-None-clause-next
returns-in-None-clause-next c = λ above passed.
    let from = passed.from in
    omega (arith, from, above, c.saturating_sub.ensures)
