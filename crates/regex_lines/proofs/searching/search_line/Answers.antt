use Rattle.std.proofs.Common.{◌∙◌, ◌+◌, [], inr, subst, sym}
use Rattle.std.specs.Io.KnownBytes.{Appends}
use Rattle.regress_arguments.specs.Output.{Took}
use Rattle.regex_options.specs.Plain.{job}
use Rattle.regex_lines.specs.Ending.{AfterFailure}
use Rattle.regex_lines.specs.Searched.{IsAccepted, IsBegunLine, Line, is_enough, named}
use Rattle.regex_lines.specs.Window.{window_of}
use Rattle.regex_lines.proofs.NextLineLemmas.{appends_nothing, begun_if, if_next, nothing_begun}
use Rattle.regex_lines.proofs.lemmas.Failures.{passed_on}
use Rattle.regex_lines.proofs.searching.search_line.Goals as goal

pub returns-in_err-accept-clause-part : goal.returns-in_err-accept-clause-part
returns-in_err-accept-clause-part g c =
    let r = c.args.search.searcher.now.regex.now in
    let task = job c.args.search.task in
    let place = named c.args.search.place in
    let w = window_of c.args.window.now in
    let line : Line = record { bytes = c.args.line.now.items; ended = c.args.ended } in
    let out = g.W.Write.contents c.args.out.now in
    let failure = c.in_err-accept.field-0.0 in
    passed_on (AfterFailure (Appends out out []) (Took out out (IsBegunLine r task place (is_enough task w.selected) (w.number + 1) line)))
    c.from_residual.result failure c.from_residual.ensures.1 (nothing_begun r task place w line out out failure (inr (appends_nothing out)))

pub returns-then-not-is_enough-clause-next : goal.returns-then-not-is_enough-clause-next
returns-then-not-is_enough-clause-next g c =
    let task = job c.args.search.task in
    let place = named c.args.search.place in
    let w = window_of c.args.window.now in
    let line : Line = record { bytes = c.args.line.now.items; ended = c.args.ended } in
    if_next c.args.search.searcher.now.regex.now task place w line
    (subst (λ bytes. IsAccepted c.args.search.place.form.encoding bytes) c.deref.ensures.value c.in_ok-accept.ensures.accepted)
    (g.W.Write.contents c.args.out.now) (g.W.Write.contents c.search_matches.new.out) c.search_matches.result (sym c.writes_matches.ensures ∙ c.if-writes_matches.true)
    (sym c.is_enough.ensures ∙ c.if-not-is_enough.true) (window_of c.search_matches.new.window) c.search_matches.ensures.shown

pub returns-clause-part : goal.returns-clause-part
returns-clause-part g c =
    let w = window_of c.args.window.now in
    let line : Line = record { bytes = c.args.line.now.items; ended = c.args.ended } in
    begun_if c.args.search.searcher.now.regex.now (job c.args.search.task) (named c.args.search.place) w line g.W.Write.contents c.args.out.now c.search_whole.new.out
    c.search_whole.result c.search_whole.ensures.untouched
