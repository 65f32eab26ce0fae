-- The first interval that does not end below what the range is mapped to contains what both ends are mapped to.
use Rattle.std.proofs.Common.{◌≤◌, IsTrue, subst, arith}
use Rattle.std.proofs.lemmas.Bool.Decides.{nat_tests}
use Rattle.regress_unicode.specs.FoldEntries.{moved}
use Rattle.regress_unicode.proofs.ClosingLemmas.{mapped_within, first_member}
use Rattle.regress_unicode.proofs.closure.maps_into_one.Goals as goal

pub returns-then-first : goal.returns-then-first
returns-then-first c reaches p x mapped =
    let shift = c.args.shift.now in
    let first : c.in-Some.interval.now.first ≤ moved shift.delta shift.first =
    omega (arith, c.if-first.true, c.first-in-Some.ensures.value, c.apply-first.ensures.value) in
    let ends : c.apply.result ≤ c.last.result = grind (arith, nat_tests, reaches) in
    let last : moved shift.delta shift.last ≤ c.in-Some.interval.now.last =
    omega (arith, ends, c.last.ensures.value, c.apply.ensures.value) in
    let within = mapped_within shift p x c.in-Some.interval.now c.requires.shift first last mapped in
    subst IsTrue (c.search.ensures.members x (omega (arith, within.0, c.apply-first.ensures.value)))
    (first_member c.search.result.now c.in-Some.interval.now x c.in-Some.ensures.value within.1)
