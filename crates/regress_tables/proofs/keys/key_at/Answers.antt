use Rattle.std.proofs.Common.{◌≡◌, ◌+◌, ◌-◌, length, option_map, refl, sym, ap, ◌∙◌, subst, arith}
use Rattle.regress_leaves.specs.Leaves.{read_of}
use Rattle.regress_program.specs.Listed.{listed}
use Rattle.regress_program.specs.Views.{routine_in}
use Rattle.regress_tables.specs.Symbols.{AreAlike, AreAlikeIn}
use Rattle.regress_tables.proofs.MemoLemmas.{key-none, key-some, represented-at}
use Rattle.regress_tables.proofs.SymbolLemmas.{alike-in}
use Rattle.regress_tables.proofs.keys.key_at.Goals as goal

pub returns-in-None-clause-key : goal.returns-in-None-clause-key
returns-in-None-clause-key c = λ outs tables right.
    let input = c.args.input.now in
    let ops = (routine_in input.code.now.program.leaves.items c.args.routine.now).ops in
    let probes = c.in_ok-probes.probes in
    let coded = c.in_ok-probes.ensures.coded outs tables right in
    key-none input outs ops c.args.table.now c.args.memo.now.far.items c.args.position (record { symbol = 0; from = 0; probes = probes })
    (omega (arith, c.requires.position, c.requires.can.of.text)) coded
    (sym c.next_read.ensures ∙ ap (option_map read_of) c.in-None.is) refl

pub returns-in_ok-from-in-Some-clause-key : goal.returns-in_ok-from-in-Some-clause-key
returns-in_ok-from-in-Some-clause-key c = λ outs tables right.
    let input = c.args.input.now in
    let t = c.args.table.now in
    let ops = (routine_in input.code.now.program.leaves.items c.args.routine.now).ops in
    let probes = c.in_ok-probes.probes in
    let coded = c.in_ok-probes.ensures.coded outs tables right in
    let to = c.in-Some.to in
    let leaves = input.code.now.program.leaves.items in
    let alike : AreAlikeIn ops c.in-Some.c (c.from.result + 1 - 1) =
    alike-in leaves (listed c.args.routine.now) c.in-Some.c (c.from.result + 1 - 1)
    (let e : c.symbol_of.result ≡ c.from.result + 1 - 1 = omega (arith, c.from.ensures) in
    subst (AreAlike leaves c.in-Some.c) e (subst (λ ts. AreAlike ts c.in-Some.c c.symbol_of.result) (ap (λ s. s.now) c.in_ok-probes.ensures.same.tests ∙ c.requires.tests) c.symbol_of.ensures.alike)) in
    key-some input outs ops t c.args.memo.now.far.items c.args.position
    (record { symbol = c.from.result + 1; from = c.in_ok-from-in-Some.from; probes = probes })
    (omega (arith, c.requires.position, c.requires.can.of.text)) coded (read_of (c.in-Some.c, to))
    (sym c.next_read.ensures ∙ ap (option_map read_of) c.in-Some.is) (omega arith) alike (λ e. omega (arith, e, c.if-to-position.false))
    (represented-at (outs (length input.tables.now)) t to c.in_ok-from-in-Some.from right c.in_ok-from-in-Some.ensures.number)
