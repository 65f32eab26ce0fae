-- The parts moved so far are the first ones, so the capacity suffices for the next.
use Rattle.std.proofs.Common.{rules, arith, le_trans}
use Rattle.std.proofs.lemmas.Bool.{false≢true}
use Rattle.std.proofs.lemmas.Iterator.Adapters.{YieldsList-from_vec}
use Rattle.std.proofs.lemmas.Iterator.Consumers.{YieldsList-turn}
use Rattle.regress_rewrite.proofs.SpliceLemmas.{moved_before, moved_fits, moved_len, moved_items}
use Rattle.regress_rewrite.proofs.flatten.splice.Goals as goal

pub returns-in_err-append_parts : goal.returns-in_err-append_parts
returns-in_err-append_parts c =
    let l = c.loop-part in
    let all = c.args.parts.now.items in
    let part = c.in-Some.part in
    let yields = YieldsList-from_vec {s = c.into_iter-part-iterator.result} all (search rules) (search rules) in
    let iteration = YieldsList-turn yields l.yielded l.part-iterator l.yielded_by c.next.result c.next.new.self part c.in-Some.is
    c.next.ensures.steps in
    let fits = moved_fits all l.yielded part l.invariant.before iteration.0 iteration.1 in
    let len = moved_len l.flat.items l.yielded l.invariant.items in
    absurd (false≢true (c.in_err-append_parts.ensures.room (omega (arith, fits, len, l.flat.ok.0, l.invariant.room))))

pub loop-part-preserved : goal.loop-part-preserved
loop-part-preserved c =
    let l = c.loop-part in
    let all = c.args.parts.now.items in
    let yields = YieldsList-from_vec {s = c.into_iter-part-iterator.result} all (search rules) (search rules) in
    let part = c.in-Some.part in
    let iteration = YieldsList-turn yields l.yielded l.part-iterator l.yielded_by c.next.result c.next.new.self part c.in-Some.is
    c.next.ensures.steps in
    record {
      items = moved_items l.flat.items l.yielded l.invariant.items _ part c.in_ok-append_parts.ensures.ok;
      before = moved_before all l.yielded part l.invariant.before iteration.0 iteration.1;
      room = le_trans l.invariant.room c.in_ok-append_parts.ensures.capacity;
    }
