use Rattle.std.proofs.Common.{refl, subst, sym}
use Rattle.regress_code.specs.NextBytes.{Bounds}
use Rattle.regress_backtrack.specs.Machine.{at}
use Rattle.regress_backtrack.proofs.alternatives.fails.Goals as goal

pub returns-in-Some : goal.returns-in-Some
returns-in-Some c = λ known outs g solve.
    let input = c.args.input.now in
    let is = c.requires.input in
    let p = c.args.place in
    let next_byte = c.in-Some.next_byte.now in
    c.excludes.ensures known (outs input.index (at p g))
    (subst (λ d. Bounds next_byte d input.text.now p.position (outs input.index (at p g))) (sym is.direction)
    (is.next_bytes outs solve p.pc next_byte c.in-Some.ensures (at p g) refl))
