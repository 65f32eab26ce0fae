use Rattle.std.proofs.Common.{◌≡◌, ◌∙◌, ◌+◌, [], ap, sym, subst}
use Rattle.std.specs.Io.KnownBytes.{Appends}
use Rattle.regress_arguments.specs.Output.{Took}
use Rattle.regex_lines.specs.Ending.{AfterFailure, IsCostly, IsInputFailure}
use Rattle.regex_lines.specs.Reading.{IsRead, is_ended}
use Rattle.regex_lines.specs.Searched.{IsBegunLine, SearchesFirst, SearchesPart, is_enough, named}
use Rattle.regex_lines.specs.Window.{window_of}
use Rattle.regex_lines.specs.declared.reading.Next.TheVariants.{Line, LastLine}
use Rattle.regex_options.specs.Plain.{job}
use Rattle.regex_lines.proofs.SearchLemmas.{all, another, enough, first_if, first_then, is_end, last, last_of, line_of, none_yet, of_next}
use Rattle.regex_lines.proofs.WindowLemmas.{counted, short, short_items}
use Rattle.regex_lines.proofs.lemmas.Failures.{costly_input, passed_on}
use Rattle.regex_lines.proofs.searching.search_lines.Goals as goal

pub loop-window-init : goal.loop-window-init
loop-window-init g c =
    none_yet c.args.search.searcher.now.regex.now (job c.args.search.task) (named c.args.search.place) (g.B.Read.remaining c.args.reader.now) (g.W.Write.contents c.args.out.now)
    (window_of c.new-window.result) c.new-window.ensures

pub returns-then-is_over-clause-all : goal.returns-then-is_over-clause-all
returns-then-is_over-clause-all g c =
    enough c.args.search.searcher.now.regex.now (job c.args.search.task) (named c.args.search.place) (g.B.Read.remaining c.args.reader.now) (g.W.Write.contents c.args.out.now)
    (g.B.Read.remaining c.loop-window.reader) (g.W.Write.contents c.loop-window.out) (window_of c.loop-window.window) c.loop-window.invariant
    (sym c.is_over.ensures ∙ c.if-is_over.true)

pub returns-in_err-next-clause-first : goal.returns-in_err-next-clause-first
returns-in_err-next-clause-first g c =
    first_if c.args.search.searcher.now.regex.now (job c.args.search.task) (named c.args.search.place) (g.B.Read.remaining c.args.reader.now) (g.W.Write.contents c.args.out.now)
    (g.B.Read.remaining c.loop-window.reader) (g.W.Write.contents c.loop-window.out) (window_of c.loop-window.window) c.loop-window.invariant _

pub returns-in_err-next-clause-failed : goal.returns-in_err-next-clause-failed
returns-in_err-next-clause-failed g c =
    passed_on (IsInputFailure (IsCostly c.args.search.searcher.now.regex.now)) c.from_residual.result c.in_err-next.field-0.0
    c.from_residual.ensures.1
    (costly_input ⊥ _ (λ none. absurd none) c.in_err-next.field-0.0 c.in_err-next.ensures.failed)

pub returns-in-End-clause-all : goal.returns-in-End-clause-all
returns-in-End-clause-all g c =
    all c.args.search.searcher.now.regex.now (job c.args.search.task) (named c.args.search.place) (g.B.Read.remaining c.args.reader.now) (g.W.Write.contents c.args.out.now)
    (g.B.Read.remaining c.loop-window.reader) (g.W.Write.contents c.loop-window.out) (window_of c.loop-window.window) c.loop-window.invariant
    (is_end c.args.search.place.form.multiline (g.B.Read.remaining c.loop-window.reader) (g.B.Read.remaining c.next_line.new.reader) c.next_line.new.line.items
    (rw c.in-End.is at c.in_ok-next.ensures.read))

pub returns-in_err-search_line-clause-first : goal.returns-in_err-search_line-clause-first
returns-in_err-search_line-clause-first g c =
    let r = c.args.search.searcher.now.regex.now in
    let task = job c.args.search.task in
    let place = named c.args.search.place in
    let multiline = c.args.search.place.form.multiline in
    let input = g.B.Read.remaining c.args.reader.now in
    let before = g.W.Write.contents c.args.out.now in
    let now = g.B.Read.remaining c.loop-window.reader in
    let left = g.B.Read.remaining c.next_line.new.reader in
    let between = g.W.Write.contents c.loop-window.out in
    let after = g.W.Write.contents c.search_line.new.out in
    let w = window_of c.loop-window.window in
    let line = c.next_line.new.line.items in
    let next = c.in_ok-next.next in
    let failure = c.in_err-search_line.field-0.0 in
    passed_on (AfterFailure (SearchesFirst r task place input before after) (SearchesPart r task place input before after))
    c.from_residual-in_err-search_line.result failure c.from_residual-in_err-search_line.ensures.1
    (of_next r task place input before now between w c.loop-window.invariant left line next c.in_default.not-End c.in_ok-next.ensures.read after failure
    (subst (λ ended. AfterFailure (Appends between after []) (Took between after (IsBegunLine r task place (is_enough task w.selected) (w.number + 1) (record { bytes = line; ended = ended }))) failure)
    c.is_ended.ensures c.in_err-search_line.ensures.part))

pub search_line-requires-clause-counted : goal.search_line-requires-clause-counted
search_line-requires-clause-counted g c =
    counted c.args.search.searcher.now.regex.now (job c.args.search.task) (named c.args.search.place) (window_of c.loop-window.window) c.loop-window.invariant.progress c.loop-window.invariant.at

pub search_line-requires-clause-kept : goal.search_line-requires-clause-kept
search_line-requires-clause-kept g c =
    short_items c.loop-window.window.hidden.items _
    (short c.args.search.searcher.now.regex.now (job c.args.search.task) (named c.args.search.place) (window_of c.loop-window.window) c.loop-window.invariant.progress c.loop-window.invariant.at)

pub returns-then-is_last-clause-all : goal.returns-then-is_last-clause-all
returns-then-is_last-clause-all g c =
    let multiline = c.args.search.place.form.multiline in
    let old = g.B.Read.remaining c.loop-window.reader in
    let new = g.B.Read.remaining c.next_line.new.reader in
    let ended = c.is_ended.result in
    let is : c.in_ok-next.next ≡ LastLine ended = last_of c.in_ok-next.next (sym c.is_last.ensures ∙ c.if-is_last.true) ∙ ap LastLine (sym c.is_ended.ensures) in
    last c.args.search.searcher.now.regex.now (job c.args.search.task) (named c.args.search.place) (g.B.Read.remaining c.args.reader.now) (g.W.Write.contents c.args.out.now)
    old (g.W.Write.contents c.loop-window.out) (g.W.Write.contents c.search_line.new.out) (window_of c.loop-window.window) c.loop-window.invariant
    (record { bytes = c.next_line.new.line.items; ended = ended }) (window_of c.search_line.new.window)
    (sym c.is_over.ensures ∙ c.if-is_over.false) c.in_ok-search_line.ensures.next new
    (subst (IsRead multiline old new c.next_line.new.line.items) is c.in_ok-next.ensures.read)

pub loop-window-preserved : goal.loop-window-preserved
loop-window-preserved g c =
    let multiline = c.args.search.place.form.multiline in
    let old = g.B.Read.remaining c.loop-window.reader in
    let new = g.B.Read.remaining c.next_line.new.reader in
    let is : c.in_ok-next.next ≡ Line = line_of c.in_ok-next.next c.in_default.not-End (sym c.is_last.ensures ∙ c.if-is_last.false) in
    another c.args.search.searcher.now.regex.now (job c.args.search.task) (named c.args.search.place) (g.B.Read.remaining c.args.reader.now) (g.W.Write.contents c.args.out.now)
    old (g.W.Write.contents c.loop-window.out) (g.W.Write.contents c.search_line.new.out) (window_of c.loop-window.window) c.loop-window.invariant
    (record { bytes = c.next_line.new.line.items; ended = c.is_ended.result }) (window_of c.search_line.new.window)
    (sym c.is_over.ensures ∙ c.if-is_over.false) c.in_ok-search_line.ensures.next new (c.is_ended.ensures ∙ ap is_ended is)
    (subst (IsRead multiline old new c.next_line.new.line.items) is c.in_ok-next.ensures.read)

pub returns-clause-first : goal.returns-clause-first
returns-clause-first g c =
    first_then c.args.search.searcher.now.regex.now (job c.args.search.task) (named c.args.search.place) (g.B.Read.remaining c.args.reader.now) (g.W.Write.contents c.args.out.now)
    (g.B.Read.remaining c.loop-window.reader) (g.W.Write.contents c.loop-window.out) (window_of c.loop-window.window) c.loop-window.invariant c.too_long.result
