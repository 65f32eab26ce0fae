use Rattle.std.proofs.Common.{◌*◌, length, arith}
use Rattle.regress_base.proofs.FindLemmas.{NoneBefore, none_past, none_in_part, found_in_part, chunk-IsStretch, rest-IsStretch}
use Rattle.regress_base.proofs.bytesearch.find.find_byte.Goals as goal

pub overflow_add-result : goal.overflow_add-result
overflow_add-result g c =
    let chunk = chunk-IsStretch c.args.text.now c.as_chunks.result.0.now c.loop-i.i c.as_chunks.ensures.front (omega arith) in
    let four = chunk.1 in
    let within = chunk.0.within in
    let lane = c.in-Some.ensures.inside in
    omega arith

pub returns-in-Some : goal.returns-in-Some
returns-in-Some g c = λ set reports.
    let chunk = chunk-IsStretch c.args.text.now c.as_chunks.result.0.now c.loop-i.i c.as_chunks.ensures.front (omega arith) in
    found_in_part set c.args.text.now _ _ c.in-Some.lane chunk.0 (c.loop-i.invariant set reports) (c.in-Some.ensures.least set reports)

pub loop-i-preserved : goal.loop-i-preserved
loop-i-preserved g c = λ set reports.
    let chunk = chunk-IsStretch c.args.text.now c.as_chunks.result.0.now c.loop-i.i c.as_chunks.ensures.front (omega arith) in
    let four = chunk.1 in
    let none = none_in_part set c.args.text.now _ _ chunk.0 (c.loop-i.invariant set reports) (c.in_default.ensures.least set reports) in
    λ k h. none k (omega arith)

pub returns-in_err-after : goal.returns-in_err-after
returns-in_err-after g c = λ set reports.
    let text = c.args.text.now in
    let chunks = c.as_chunks.result.0.now in
    let rest = rest-IsStretch text c.as_chunks.result.1.now (length chunks) c.as_chunks.ensures.front_len c.as_chunks.ensures.back in
    let all = rest.1 in
    let none : NoneBefore set text (length chunks * 4) = λ k h. c.loop-i.invariant set reports k (omega arith) in
    let nowhere = none_in_part set text _ _ rest.0 none (c.in_err-after.ensures.least set reports) in
    rw c.from_residual.ensures (none_past set text (λ k h. nowhere k (omega arith)))

pub overflow_add-result-2 : goal.overflow_add-result-2
overflow_add-result-2 g c =
    let chunks = c.as_chunks.result.0.now in
    let rest =
    rest-IsStretch c.args.text.now c.as_chunks.result.1.now (length chunks) c.as_chunks.ensures.front_len c.as_chunks.ensures.back in
    let all = rest.1 in
    let after = c.in_ok-after.ensures.inside in
    omega arith

pub returns : goal.returns
returns g c = λ set reports.
    let text = c.args.text.now in
    let chunks = c.as_chunks.result.0.now in
    let rest = rest-IsStretch text c.as_chunks.result.1.now (length chunks) c.as_chunks.ensures.front_len c.as_chunks.ensures.back in
    let none : NoneBefore set text (length chunks * 4) = λ k h. c.loop-i.invariant set reports k (omega arith) in
    found_in_part set text _ _ c.in_ok-after.after rest.0 none (c.in_ok-after.ensures.least set reports)
