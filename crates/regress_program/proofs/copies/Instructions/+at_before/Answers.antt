-- The instruction is stored, or a copy of an earlier one, which fewer copies give.
use Rattle.std.proofs.Common.{◌≡◌, ℕ, ◌+◌, ◌-◌, ◌*◌, ◌/◌, ◌<◌, ◌≤◌, length, slice_get, Some, sym, ap, refl, ◌∙◌, arith}
use Rattle.std.proofs.lemmas.List.Elements.{All-weaker}
use Rattle.std.proofs.lemmas.Option.{slice_get_read}
use Rattle.regress_program.specs.Copies.{names, end_of}
use Rattle.regress_program.proofs.FindLemmas.{found-first, found-last}
use Rattle.regress_program.proofs.copies.Instructions.+at_before.Goals as goal

pub index-requires : goal.index-requires
index-requires t c =
    let is = c.args.self.now in
    let first = found-first is.stored.items is.copies.items is.are c.args.count c.args.pc c.begun-begun.result
    c.requires.within c.begun-begun.ensures c.requires.inside c.if-begun-eq0.true in
    omega (arith, first.0)

pub returns-then-begun-eq0 : goal.returns-then-begun-eq0
returns-then-begun-eq0 t c =
    let is = c.args.self.now in
    let first = found-first is.stored.items is.copies.items is.are c.args.count c.args.pc c.begun-begun.result
    c.requires.within c.begun-begun.ensures c.requires.inside c.if-begun-eq0.true in
    first.1 ∙ slice_get_read is.stored.items (length is.stored.items) c.args.pc c.index.result.now refl first.0 c.index.ensures

pub overflow_sub-back : goal.overflow_sub-back
overflow_sub-back t c =
    let is = c.args.self.now in
    let r = c.index-last.result.now in
    let last = found-last is c.args.count c.args.pc c.begun-begun.result r
    c.requires.within c.begun-begun.ensures c.requires.inside c.if-begun-eq0.false c.index-last.ensures in
    last.low

pub end-end-requires : goal.end-end-requires
end-end-requires t c =
    let is = c.args.self.now in
    let r = c.index-last.result.now in
    let last = found-last is c.args.count c.args.pc c.begun-begun.result r
    c.requires.within c.begun-begun.ensures c.requires.inside c.if-begun-eq0.false c.index-last.ensures in
    omega (arith, last.all, is.counted)

pub overflow_add-last : goal.overflow_add-last
overflow_add-last t c =
    let is = c.args.self.now in
    let r = c.index-last.result.now in
    let last = found-last is c.args.count c.args.pc c.begun-begun.result r
    c.requires.within c.begun-begun.ensures c.requires.inside c.if-begun-eq0.false c.index-last.ensures in
    let past : end_of r ≤ c.args.pc = omega (arith, c.if-pc-end.true, c.end-end.ensures) in
    let found = last.after past in
    omega (arith, found.0, past)

pub index-requires-then-pc-end : goal.index-requires-then-pc-end
index-requires-then-pc-end t c =
    let is = c.args.self.now in
    let r = c.index-last.result.now in
    let last = found-last is c.args.count c.args.pc c.begun-begun.result r
    c.requires.within c.begun-begun.ensures c.requires.inside c.if-begun-eq0.false c.index-last.ensures in
    let past : end_of r ≤ c.args.pc = omega (arith, c.if-pc-end.true, c.end-end.ensures) in
    let found = last.after past in
    omega (arith, found.0, past)

pub returns-then-pc-end : goal.returns-then-pc-end
returns-then-pc-end t c =
    let is = c.args.self.now in
    let r = c.index-last.result.now in
    let last = found-last is c.args.count c.args.pc c.begun-begun.result r
    c.requires.within c.begun-begun.ensures c.requires.inside c.if-begun-eq0.false c.index-last.ensures in
    let past : end_of r ≤ c.args.pc = omega (arith, c.if-pc-end.true, c.end-end.ensures) in
    let found = last.after past in
    let slot : ℕ = r.stored + (c.args.pc - c.end-end.result) in
    let same : r.stored + (c.args.pc - end_of r) ≡ slot = omega (arith, c.end-end.ensures) in
    found.1 ∙ ap (slice_get is.stored.items) same
    ∙ slice_get_read is.stored.items (length is.stored.items) slot c.index-then-pc-end.result.now refl (omega (arith, found.0, same))
    c.index-then-pc-end.ensures

pub nonzero_div-back : goal.nonzero_div-back
nonzero_div-back t c =
    let is = c.args.self.now in
    let r = c.index-last.result.now in
    let last = found-last is c.args.count c.args.pc c.begun-begun.result r
    c.requires.within c.begun-begun.ensures c.requires.inside c.if-begun-eq0.false c.index-last.ensures in
    omega (arith, last.some)

pub overflow_mul-back : goal.overflow_mul-back
overflow_mul-back t c =
    let is = c.args.self.now in
    let r = c.index-last.result.now in
    let last = found-last is c.args.count c.args.pc c.begun-begun.result r
    c.requires.within c.begun-begun.ensures c.requires.inside c.if-begun-eq0.false c.index-last.ensures in
    let among : c.args.pc < end_of r = omega (arith, c.if-pc-end.false, c.end-end.ensures) in
    let original = last.original among in
    omega (arith, last.all, is.counted, original.1)

pub overflow_sub-pc-2 : goal.overflow_sub-pc-2
overflow_sub-pc-2 t c =
    let is = c.args.self.now in
    let r = c.index-last.result.now in
    let last = found-last is c.args.count c.args.pc c.begun-begun.result r
    c.requires.within c.begun-begun.ensures c.requires.inside c.if-begun-eq0.false c.index-last.ensures in
    let among : c.args.pc < end_of r = omega (arith, c.if-pc-end.false, c.end-end.ensures) in
    let original = last.original among in
    original.0

pub at_before-requires : goal.at_before-requires
at_before-requires t c =
    let is = c.args.self.now in
    let r = c.index-last.result.now in
    let last = found-last is c.args.count c.args.pc c.begun-begun.result r
    c.requires.within c.begun-begun.ensures c.requires.inside c.if-begun-eq0.false c.index-last.ensures in
    let among : c.args.pc < end_of r = omega (arith, c.if-pc-end.false, c.end-end.ensures) in
    let original = last.original among in
    (omega (arith, c.begun-begun.ensures.within, c.decreases), (omega (arith, c.begun-begun.ensures.within, c.requires.within), original.2))

pub moved-requires : goal.moved-requires
moved-requires t c =
    let is = c.args.self.now in
    let r = c.index-last.result.now in
    let last = found-last is c.args.count c.args.pc c.begun-begun.result r
    c.requires.within c.begun-begun.ensures c.requires.inside c.if-begun-eq0.false c.index-last.ensures in
    let among : c.args.pc < end_of r = omega (arith, c.if-pc-end.false, c.end-end.ensures) in
    let original = last.original among in
    let below = (last.among among c.at_before.result c.at_before.ensures).0 in
    All-weaker (λ k. k < r.start) (λ k. k + ((c.args.pc - r.start) / r.width + 1) * r.width ≤ 18446744073709551615)
    (λ k lt. omega (arith, lt, last.all, is.counted, original.1)) (names c.at_before.result) below

pub returns : goal.returns
returns t c =
    let is = c.args.self.now in
    let r = c.index-last.result.now in
    let last = found-last is c.args.count c.args.pc c.begun-begun.result r
    c.requires.within c.begun-begun.ensures c.requires.inside c.if-begun-eq0.false c.index-last.ensures in
    let among : c.args.pc < end_of r = omega (arith, c.if-pc-end.false, c.end-end.ensures) in
    (last.among among c.at_before.result c.at_before.ensures).1 ∙ ap Some (sym c.moved.ensures)
