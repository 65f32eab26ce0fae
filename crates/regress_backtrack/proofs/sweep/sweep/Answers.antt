use Rattle.std.proofs.Common.{◌≡◌, ◌+◌, ◌-◌, ◌≤◌, ◌++◌, suc, true, false, flat_map, length, sum_by, sym, ap, ◌∙◌, arith}
use Rattle.regress_backtrack.specs.declared.machine.Place.{Place}
use Rattle.regress_backtrack.specs.Machine.{at, groups_of, range_points}
use Rattle.regress_leaves.specs.Starts.{AreIn}
use Rattle.regress_backtrack.proofs.CostLemmas.{fewer_cost, iterations_cost, swept_ahead}
use Rattle.regress_backtrack.proofs.PossessiveLemmas.{kept_leads, no_outcomes}
use Rattle.regress_backtrack.proofs.SweepLemmas.{fewer_outcomes, iterations, swept_inside, swept_leads}
use Rattle.regress_backtrack.proofs.sweep.sweep.Goals as goal

pub returns-clause-leads : goal.returns-clause-leads
returns-clause-leads c = λ outs solve.
    let input = c.args.input.now in
    let here = c.args.here in
    let m = c.args.machine.now in
    let g = groups_of m in
    let set = c.in-Some.swept.set.now in
    let repeat_pc = c.in-Some.swept.repeat_pc in
    let count = c.count_of-count.result in
    let more = count - 1 in
    let same : count ≡ suc more = omega (arith, c.if-count-eq0.false) in
    let are : AreIn set input.text.now here.position (suc more) = λ k lt. c.count_of-count.ensures.are_in k (omega (arith, lt, same)) in
    let first : Place = record { pc = c.args.looping.next; moved = here.moved; position = here.position } in
    let to = c.leave-to.result in
    let out = outs input.index in
    let kept = c.points_kept-more.result in
    let all : more ≡ kept + (more - kept) = omega (arith, c.points_kept-more.ensures.within) in
    swept_leads out m c.choose_range.new.self first to kept
    (out (at (record { pc = c.args.looping.body; moved = false; position = here.position }) g) ++ out (at first g))
    c.in_ok-choose_range.ensures.ranged
    (iterations input c.requires.input c.args.looping set repeat_pc c.in-Some.ensures c.requires.body outs solve g here more are
    ∙ ap (λ n. out (at (record { pc = repeat_pc; moved = true; position = here.position + n }) g) ++ flat_map out (range_points first more g)) (sym same)
    ∙ ap (λ xs. xs ++ flat_map out (range_points first more g)) (sym (c.leave-to.ensures.same outs g solve))
    ∙ ap (λ n. out (at to g) ++ flat_map out (range_points first n g)) all
    ∙ ap (λ xs. out (at to g) ++ xs) (fewer_outcomes out g first kept (more - kept)
    (λ k lt le. c.points_kept-more.ensures.fails k lt (omega (arith, le, all)) outs g solve)))

pub returns-clause-inside : goal.returns-clause-inside
returns-clause-inside c =
    let here = c.args.here in
    let count = c.count_of-count.result in
    let first : Place = record { pc = c.args.looping.next; moved = here.moved; position = here.position } in
    let to = c.leave-to.result in
    let within : here.position + count ≤ length c.args.input.now.text.now = c.count_of-count.ensures.within in
    swept_inside c.args.input.now c.args.machine.now c.choose_range.new.self first to c.points_kept-more.result c.in_ok-choose_range.ensures.ranged c.requires.next
    (omega (arith, within, c.points_kept-more.ensures.within, c.if-count-eq0.false)) c.leave-to.ensures.pc (omega (arith, within, c.leave-to.ensures.position))

pub returns-clause-costs : goal.returns-clause-costs
returns-clause-costs c = λ outs costs has.
    let input = c.args.input.now in
    let here = c.args.here in
    let m = c.args.machine.now in
    let g = groups_of m in
    let set = c.in-Some.swept.set.now in
    let repeat_pc = c.in-Some.swept.repeat_pc in
    let count = c.count_of-count.result in
    let more = count - 1 in
    let same : count ≡ suc more = omega (arith, c.if-count-eq0.false) in
    let are : AreIn set input.text.now here.position (suc more) = λ k lt. c.count_of-count.ensures.are_in k (omega (arith, lt, same)) in
    let first : Place = record { pc = c.args.looping.next; moved = here.moved; position = here.position } in
    let to = c.leave-to.result in
    let cost = costs input.index in
    let before = cost (at (record { pc = c.args.looping.body; moved = false; position = here.position }) g) + cost (at first g) in
    let all = iterations_cost input c.requires.input c.args.looping set repeat_pc c.in-Some.ensures c.requires.body outs costs has g here more are in
    let end = ap (λ n. cost (at (record { pc = repeat_pc; moved = true; position = here.position + n }) g)) same in
    let less = c.leave-to.ensures.costs outs costs g has in
    let kept = c.points_kept-more.result in
    let split : more ≡ kept + (more - kept) = omega (arith, c.points_kept-more.ensures.within) in
    let fewer = fewer_cost cost g first kept (more - kept) in
    let grown = ap (λ n. sum_by cost (range_points first n g)) split in
    let ahead = swept_ahead cost m c.choose_range.new.self first to kept count before c.in_ok-choose_range.ensures.ranged (omega (arith, all, end, less, same, fewer, grown)) in
    omega (arith, ahead, same, c.saturating_sub.ensures)

pub returns-then-is_possessive-clause-leads : goal.returns-then-is_possessive-clause-leads
returns-then-is_possessive-clause-leads c = λ outs solve.
    let input = c.args.input.now in
    let looping = c.args.looping in
    let here = c.args.here in
    let m = c.args.machine.now in
    let g = groups_of m in
    let set = c.in-Some.swept.set.now in
    let repeat_pc = c.in-Some.swept.repeat_pc in
    let count = c.count_of-count.result in
    let more = count - 1 in
    let same : count ≡ suc more = omega (arith, c.if-count-eq0.false) in
    let are : AreIn set input.text.now here.position (suc more) = λ k lt. c.count_of-count.ensures.are_in k (omega (arith, lt, same)) in
    let first : Place = record { pc = looping.next; moved = here.moved; position = here.position } in
    let to = c.leave-to.result in
    let out = outs input.index in
    kept_leads out m first to more (out (at (record { pc = looping.body; moved = false; position = here.position }) g) ++ out (at first g))
    (iterations input c.requires.input looping set repeat_pc c.in-Some.ensures c.requires.body outs solve g here more are
    ∙ ap (λ n. out (at (record { pc = repeat_pc; moved = true; position = here.position + n }) g) ++ flat_map out (range_points first more g)) (sym same)
    ∙ ap (λ xs. xs ++ flat_map out (range_points first more g)) (sym (c.leave-to.ensures.same outs g solve)))
    (no_outcomes input c.requires.input looping set repeat_pc c.in-Some.ensures (c.is_possessive.ensures c.if-is_possessive.true) here more c.if-here-gt0.true are outs g
    solve)

pub returns-then-is_possessive-clause-costs : goal.returns-then-is_possessive-clause-costs
returns-then-is_possessive-clause-costs c = λ outs costs has.
    let input = c.args.input.now in
    let here = c.args.here in
    let g = groups_of c.args.machine.now in
    let set = c.in-Some.swept.set.now in
    let repeat_pc = c.in-Some.swept.repeat_pc in
    let count = c.count_of-count.result in
    let more = count - 1 in
    let same : count ≡ suc more = omega (arith, c.if-count-eq0.false) in
    let are : AreIn set input.text.now here.position (suc more) = λ k lt. c.count_of-count.ensures.are_in k (omega (arith, lt, same)) in
    let cost = costs input.index in
    let all = iterations_cost input c.requires.input c.args.looping set repeat_pc c.in-Some.ensures c.requires.body outs costs has g here more are in
    let end = ap (λ n. cost (at (record { pc = repeat_pc; moved = true; position = here.position + n }) g)) same in
    let less = c.leave-to.ensures.costs outs costs g has in
    omega (arith, all, end, less, same, c.saturating_sub.ensures)
