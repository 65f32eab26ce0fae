-- The run goes through an empty buffer, which is written to the output at the end.
use Rattle.std.proofs.Common.{◌≡◌, [], ap, inl, inr, ⊎_elim}
use Rattle.std.specs.Io.KnownBytes.{Keeps, append_known}
use Rattle.std.specs.Prelude.{IfSome, ◌⊎◌}
use Rattle.std.specs.Io.Buffered.{writer_contents}
use Rattle.std.proofs.lemmas.Option.{IfSome_then}
use Rattle.regress_arguments.proofs.lemmas.Output.{ended, keeps_through, took_through}
use Rattle.regress_arguments.specs.Output.{Took}
use Rattle.regress_arguments.specs.Request.{request_of}
use Rattle.regex_front.specs.Printed.{IsParsedText, IsOutput}
use Rattle.regex_front.proofs.run_buffered.Goals as goal

pub returns-in-Ok-clause-printed : goal.returns-in-Ok-clause-printed
returns-in-Ok-clause-printed g c is =
    let contents = g.W.Write.contents in
    let old = contents c.args.out in
    let start = writer_contents contents c.in-Ok.buffered in
    let between = writer_contents contents c.run_front-status.new.out in
    let empty : start ≡ append_known old [] = λ i. append_known (contents (c.in-Ok.ensures.inner i)) (c.in-Ok.ensures.empty i) in
    IfSome_then (request_of c.args.args.now) (c.run_front-status.ensures.printed is)
    (λ request took. ended contents between c.into_inner.result c.ok.result (λ new. Took old new (IsOutput request)) c.into_inner.ensures.ok
    c.ok.ensures.value (λ new kept. took_through old start between new empty kept _ took))

pub returns-in-Ok-clause-out_of_memory : goal.returns-in-Ok-clause-out_of_memory
returns-in-Ok-clause-out_of_memory g c is =
    let contents = g.W.Write.contents in
    let old = contents c.args.out in
    let start = writer_contents contents c.in-Ok.buffered in
    let between = writer_contents contents c.run_front-status.new.out in
    let empty : start ≡ append_known old [] = λ i. append_known (contents (c.in-Ok.ensures.inner i)) (c.in-Ok.ensures.empty i) in
    let asked = request_of c.args.args.now in
    ended contents between c.into_inner.result c.ok.result
    (λ new. Keeps old new ⊎ IfSome asked (λ request. Took old new (IsParsedText request))) c.into_inner.ensures.ok c.ok.ensures.value
    (λ new kept. ⊎_elim
    (λ same. inl (keeps_through old start between new empty kept (ap (writer_contents contents) same)))
    (λ first. inr (IfSome_then asked first (λ request took. took_through old start between new empty kept _ took)))
    (c.run_front-status.ensures.out_of_memory is))
