use Rattle.std.proofs.Common.{◌∙◌, ◌+◌, inr}
use Rattle.regex_options.specs.Plain.{job}
use Rattle.regex_lines.specs.Searched.{context_of, lines_before, named}
use Rattle.regex_lines.specs.Window.{window_of, with_selected}
use Rattle.regex_lines.proofs.NextLineLemmas.{appends_nothing, if_none_shown, none_after, short_window, some_shown, taken}
use Rattle.regex_lines.proofs.searching.search_matches.Goals as goal

pub returns-in_default-clause-part : goal.returns-in_default-clause-part
returns-in_default-clause-part g c =
    let out = g.W.Write.contents c.args.out.now in
    none_after c.args.search.searcher.now.regex.now (job c.args.search.task) (named c.args.search.place) (c.args.window.now.number + 1) c.args.line.now.items out out
    c.too_long.result (inr (appends_nothing out))

pub returns-in_ok-flush_if-clause-shown : goal.returns-in_ok-flush_if-clause-shown
returns-in_ok-flush_if-clause-shown g c =
    let r = c.args.search.searcher.now.regex.now in
    let task = job c.args.search.task in
    let place = named c.args.search.place in
    let w = window_of c.args.window.now in
    let line = c.args.line.now.items in
    let old = g.W.Write.contents c.args.out.now in
    let between = g.W.Write.contents c.write_found.new.out in
    some_shown r task place w c.requires.writes (short_window c.args.window.now.hidden.items (lines_before (context_of task)) c.requires.kept) line old between
    c.in_ok-write_found.field-0
    (taken r task place w.number c.deref.result.now line c.deref.ensures.value old between c.in_ok-write_found.field-0 c.in_ok-write_found.ensures.reply)
    c.if-branch.true (g.W.Write.contents c.flush_if.new.out) c.flush_if.ensures.kept (window_of c.select.new.self)
    (c.select.ensures ∙ (λ i. with_selected (c.in-Some.ensures.1 i) (c.lines_after.ensures i) w))

pub returns-else-branch-clause-shown : goal.returns-else-branch-clause-shown
returns-else-branch-clause-shown g c =
    let r = c.args.search.searcher.now.regex.now in
    let task = job c.args.search.task in
    let place = named c.args.search.place in
    let w = window_of c.args.window.now in
    let line = c.args.line.now.items in
    let old = g.W.Write.contents c.args.out.now in
    let between = g.W.Write.contents c.write_found.new.out in
    if_none_shown r task place w c.requires.writes (short_window c.args.window.now.hidden.items (lines_before (context_of task)) c.requires.kept) line old between
    c.in_ok-write_found.field-0
    (taken r task place w.number c.deref.result.now line c.deref.ensures.value old between c.in_ok-write_found.field-0 c.in_ok-write_found.ensures.reply)
    c.if-branch.false (g.W.Write.contents c.show_other.new.out) (window_of c.show_other.new.window) c.show_other.result c.show_other.ensures.shown
