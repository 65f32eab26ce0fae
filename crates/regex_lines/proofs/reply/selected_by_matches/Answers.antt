use Rattle.std.proofs.Common.{◌≡◌, ◌∙◌, List, ap, length, map, subst, sym}
use Rattle.regex_lines.specs.InLine.{AreInLine, shown_by}
use Rattle.regex_lines.specs.Paint.{line_paint_of}
use Rattle.regex_lines.specs.Prefix.{text_of}
use Rattle.regex_lines.specs.Reply.{ShowsIf, TextMatches, matches_of, run_of}
use Rattle.regex_lines.specs.declared.runs.TextMatches as code
use Rattle.regex_lines.proofs.FoundLemmas.{by_matches, is_matched}
use Rattle.regex_lines.proofs.reply.selected_by_matches.Goals as goal

pub shown-requires-clause-order : goal.shown-requires-clause-order
shown-requires-clause-order c =
    subst (AreInLine (length c.args.line.bytes.now) 0)
    (sym (ap (λ (fs : List code.TextMatches). map (λ (f : TextMatches). f.run) (map matches_of fs)) c.deref-then-selected.ensures.value
    ∙ c.in_ok-found.ensures.searched.texts_are)) c.requires.order

pub returns-then-selected-clause-selected : goal.returns-then-selected-clause-selected
returns-then-selected-clause-selected c = (
  c.has_match.result,
  is_matched c.args.searcher.now.regex.now (map run_of c.args.line.texts.now) (map matches_of c.in_ok-found.found.items) c.has_match.result
      c.in_ok-found.ensures.searched (rw c.deref.ensures.value at c.has_match.ensures),
  c.is_selected-selected.ensures,
)

pub returns-clause-selected : goal.returns-clause-selected
returns-clause-selected c = (
  c.has_match.result,
  is_matched c.args.searcher.now.regex.now (map run_of c.args.line.texts.now) (map matches_of c.in_ok-found.found.items) c.has_match.result
      c.in_ok-found.ensures.searched (rw c.deref.ensures.value at c.has_match.ensures),
  c.is_selected-selected.ensures,
)

pub returns-then-selected-clause-shows : goal.returns-then-selected-clause-shows
returns-then-selected-clause-shows c =
    let r = c.args.searcher.now.regex.now in
    let shown = c.args.show.shown in
    let p = line_paint_of c.args.show.paint in
    let line = c.args.line.bytes.now in
    let texts = map run_of c.args.line.texts.now in
    let prefix = text_of c.args.prefix in
    let bytes = c.in_ok-bytes.bytes.items in
    subst (λ selected. ShowsIf r line texts selected shown p prefix bytes) (sym c.if-selected.true)
    (by_matches r line texts (map matches_of c.in_ok-found.found.items) shown p prefix bytes c.requires.shows c.in_ok-found.ensures.searched
    (subst (λ (fs : List code.TextMatches). bytes ≡ shown_by r line shown p prefix (map matches_of fs)) c.deref-then-selected.ensures.value c.in_ok-bytes.ensures))
