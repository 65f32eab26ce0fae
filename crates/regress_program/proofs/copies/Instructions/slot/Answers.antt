-- The instruction comes after the last copies that start before it.
use Rattle.std.proofs.Common.{◌≡◌, ℕ, ◌-◌, ◌+◌, length, sym, subst, arith}
use Rattle.regress_program.specs.Listed.{IsBegun, IsStoredAt}
use Rattle.regress_program.proofs.SlotLemmas.{slot-after, slot-first}
use Rattle.regress_program.proofs.copies.Instructions.slot.Goals as goal

pub returns-then-begun-eq0 : goal.returns-then-begun-eq0
returns-then-begun-eq0 c =
    let is = c.args.self.now in
    let all : c.len.result ≡ length is.copies.items = omega (arith, c.len.ensures) in
    let begins : IsBegun is.copies.items (length is.copies.items) c.args.at c.begun-begun.result =
    subst (λ (n : ℕ). IsBegun is.copies.items n c.args.at c.begun-begun.result) all c.begun-begun.ensures in
    slot-first is c.args.at c.begun-begun.result begins c.requires.within c.requires.alone c.if-begun-eq0.true

pub end-requires : goal.end-requires
end-requires c =
    let is = c.args.self.now in
    let found = slot-after is c.args.at c.begun-begun.result c.len.result c.index-last.result.now (omega (arith, c.len.ensures)) c.begun-begun.ensures
    c.requires.within c.requires.alone c.if-begun-eq0.false c.index-last.ensures in
    omega (arith, found.0, c.requires.within, is.counted)

pub overflow_sub-result : goal.overflow_sub-result
overflow_sub-result c =
    let is = c.args.self.now in
    let found = slot-after is c.args.at c.begun-begun.result c.len.result c.index-last.result.now (omega (arith, c.len.ensures)) c.begun-begun.ensures
    c.requires.within c.requires.alone c.if-begun-eq0.false c.index-last.ensures in
    omega (arith, found.0, c.end.ensures)

pub overflow_add-result : goal.overflow_add-result
overflow_add-result c =
    let is = c.args.self.now in
    let found = slot-after is c.args.at c.begun-begun.result c.len.result c.index-last.result.now (omega (arith, c.len.ensures)) c.begun-begun.ensures
    c.requires.within c.requires.alone c.if-begun-eq0.false c.index-last.ensures in
    omega (arith, found.1.within, c.end.ensures)

pub returns : goal.returns
returns c =
    let is = c.args.self.now in
    let r = c.index-last.result.now in
    let found = slot-after is c.args.at c.begun-begun.result c.len.result r (omega (arith, c.len.ensures)) c.begun-begun.ensures
    c.requires.within c.requires.alone c.if-begun-eq0.false c.index-last.ensures in
    subst (λ (e : ℕ). IsStoredAt is c.args.at (r.stored + (c.args.at - e))) (sym c.end.ensures) found.1
