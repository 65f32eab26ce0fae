-- The run goes through an empty buffer, which is written to the output at the end.
use Rattle.std.proofs.Common.{◌≡◌, []}
use Rattle.std.specs.Io.KnownBytes.{append_known}
use Rattle.std.specs.Io.Buffered.{writer_contents}
use Rattle.regress_arguments.proofs.lemmas.Output.{ended}
use Rattle.regex_options.specs.Request.{asked_by}
use Rattle.regex_command.specs.Printed.{Prints}
use Rattle.regex_command.proofs.BufferedLemmas.{IfOk_then, through}
use Rattle.regex_command.proofs.run_buffered.Goals as goal

pub returns-in-Ok-clause-found : goal.returns-in-Ok-clause-found
returns-in-Ok-clause-found g c is =
    let contents = g.W.Write.contents in
    let old = contents c.args.out in
    let start = writer_contents contents c.in-Ok.buffered in
    let between = writer_contents contents c.run_arguments-status.new.out in
    let input = g.I.Read.remaining c.args.input in
    let empty : start ≡ append_known old [] = λ i. append_known (contents (c.in-Ok.ensures.inner i)) (c.in-Ok.ensures.empty i) in
    IfOk_then (asked_by c.args.arguments) (c.run_arguments-status.ensures.found is)
    (λ ask written. ended contents between c.into_inner.result c.ok.result (λ new. Prints input old new _ ask) c.into_inner.ensures.ok
    c.ok.ensures.value (λ new kept. through input old start between new empty kept _ ask written))

pub returns-in-Ok-clause-none : goal.returns-in-Ok-clause-none
returns-in-Ok-clause-none g c is =
    let contents = g.W.Write.contents in
    let old = contents c.args.out in
    let start = writer_contents contents c.in-Ok.buffered in
    let between = writer_contents contents c.run_arguments-status.new.out in
    let input = g.I.Read.remaining c.args.input in
    let empty : start ≡ append_known old [] = λ i. append_known (contents (c.in-Ok.ensures.inner i)) (c.in-Ok.ensures.empty i) in
    IfOk_then (asked_by c.args.arguments) (c.run_arguments-status.ensures.none is)
    (λ ask written. ended contents between c.into_inner.result c.ok.result (λ new. Prints input old new _ ask) c.into_inner.ensures.ok
    c.ok.ensures.value (λ new kept. through input old start between new empty kept _ ask written))
