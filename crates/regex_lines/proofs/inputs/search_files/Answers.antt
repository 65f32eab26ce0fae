use Rattle.std.proofs.Common.{◌≡◌, ◌∙◌, ap, map, sym, subst}
use Rattle.std.specs.Prelude.{IfErr, string_bytes}
use Rattle.regex_lines.specs.Ending.{OrOutput}
use Rattle.regex_lines.specs.Left.{left_of}
use Rattle.regex_lines.specs.Searched.{AddsInput, Input, PrintsPart, WritesSomeOf, bytes_of, following, left_after, named, named_inputs, place_of}
use Rattle.regex_lines.specs.Unread.{all_unread, unread_of}
use Rattle.regex_options.specs.Plain.{job}
use Rattle.regex_lines.proofs.InputLemmas.{at_first, ended, finished, input_at, input_within, none_left, one_less, one_more, some_of}
use Rattle.regex_lines.proofs.lemmas.Failures.{or_output, passed_on}
use Rattle.regex_lines.proofs.inputs.search_files.Goals as goal

pub loop-file-init : goal.loop-file-init
loop-file-init g c =
    at_first c.args.searcher.now.regex.now (job c.args.search.task) (place_of (job c.args.search.task) c.args.search.form c.args.search.several) c.args.search.files.now
    (g.I.Read.remaining c.args.input) (g.W.Write.contents c.args.out.now) (all_unread c.args.unread.now) (ap (map unread_of) c.requires.none)

pub returns-then-has_ended-clause-all : goal.returns-then-has_ended-clause-all
returns-then-has_ended-clause-all g c =
    let files = c.args.search.files.now in
    let inputs = named_inputs (place_of (job c.args.search.task) c.args.search.form c.args.search.several) (map string_bytes files) (g.I.Read.remaining c.args.input) in
    ended c.args.searcher.now.regex.now (job c.args.search.task) inputs (g.W.Write.contents c.args.out.now)
    c.loop-file.file-index c.loop-file.any (all_unread c.loop-file.unread) (g.W.Write.contents c.loop-file.out) c.loop-file.invariant.first
    (sym c.has_ended.ensures ∙ c.if-has_ended.true)

pub returns-in_err-any-clause-first : goal.returns-in_err-any-clause-first
returns-in_err-any-clause-first g c =
    let files = c.args.search.files.now in
    let place = place_of (job c.args.search.task) c.args.search.form c.args.search.several in
    let inputs = named_inputs place (map string_bytes files) (g.I.Read.remaining c.args.input) in
    let i = c.loop-file.file-index in
    let file = c.file-item.result in
    let left = left_of g.I.Read.remaining c.loop-file.left in
    let name = string_bytes file in
    let is : c.as_str.result.now ≡ name = c.as_str.ensures.value in
    let input : Input = (place name, bytes_of name left) in
    let before = g.W.Write.contents c.args.out.now in
    let between = g.W.Write.contents c.loop-file.out in
    let after = g.W.Write.contents c.search_next.new.out in
    let unread = all_unread c.loop-file.unread in
    let r = c.args.searcher.now.regex.now in
    let task = job c.args.search.task in
    let sofar = c.loop-file.invariant in
    let here = sym c.file-item.is in
    subst (λ unread. IfErr c.from_residual.result (OrOutput (WritesSomeOf r task inputs before after unread))) (sym c.in_err-any.ensures.kept)
    (passed_on (OrOutput (WritesSomeOf r task inputs before after unread)) c.from_residual.result c.in_err-any.field-0.0 c.from_residual.ensures.1
    (or_output (PrintsPart r task (following c.loop-file.any input.0) input.1 between after) _ c.in_err-any.field-0.0
    (subst (λ shown. OrOutput (PrintsPart r task shown input.1 between after) c.in_err-any.field-0.0) (c.place_of.ensures.shown ∙ ap (λ n. following c.loop-file.any (place n)) is)
    (subst (λ n. OrOutput (PrintsPart r task (named c.place_of.result) (bytes_of n left) between after) c.in_err-any.field-0.0) (c.place_of.ensures.file ∙ is)
    c.in_err-any.ensures.first))
    (some_of r task inputs before i c.loop-file.any unread between sofar.first input
    (input_within place files inputs i left sofar.rest file c.loop-file-test.true here)
    (input_at place files inputs i left sofar.rest file c.loop-file-test.true here) after)))

pub loop-file-preserved : goal.loop-file-preserved
loop-file-preserved g c =
    let files = c.args.search.files.now in
    let place = place_of (job c.args.search.task) c.args.search.form c.args.search.several in
    let inputs = named_inputs place (map string_bytes files) (g.I.Read.remaining c.args.input) in
    let i = c.loop-file.file-index in
    let file = c.file-item.result in
    let left = left_of g.I.Read.remaining c.loop-file.left in
    let name = string_bytes file in
    let is : c.as_str.result.now ≡ name = c.as_str.ensures.value in
    let input : Input = (place name, bytes_of name left) in
    let between = g.W.Write.contents c.loop-file.out in
    let after = g.W.Write.contents c.search_next.new.out in
    let unread = all_unread c.loop-file.unread in
    let more = all_unread c.search_next.new.unread in
    let r = c.args.searcher.now.regex.now in
    let task = job c.args.search.task in
    let sofar = c.loop-file.invariant in
    let here = sym c.file-item.is in
    record {
      first = one_more r task inputs (g.W.Write.contents c.args.out.now) i c.loop-file.any unread between sofar.first input
          (input_within place files inputs i left sofar.rest file c.loop-file-test.true here)
          (input_at place files inputs i left sofar.rest file c.loop-file-test.true here) after
          (sym c.has_ended.ensures ∙ c.if-has_ended.false) c.in_ok-any.field-0 more
          (subst (λ shown. AddsInput r task shown input.1 between after unread more c.in_ok-any.field-0) (c.place_of.ensures.shown ∙ ap (λ n. following c.loop-file.any (place n)) is)
          (subst (λ n. AddsInput r task (named c.place_of.result) (bytes_of n left) between after unread more c.in_ok-any.field-0) (c.place_of.ensures.file ∙ is)
          c.in_ok-any.ensures.all));
      rest = rw (c.search_next.ensures.after ∙ ap (λ n. left_after n left) (c.place_of.ensures.file ∙ is))
          (one_less place files inputs i left sofar.rest file c.loop-file-test.true here);
    }

pub returns-clause-all : goal.returns-clause-all
returns-clause-all g c =
    let files = c.args.search.files.now in
    let place = place_of (job c.args.search.task) c.args.search.form c.args.search.several in
    let inputs = named_inputs place (map string_bytes files) (g.I.Read.remaining c.args.input) in
    let i = c.loop-file.file-index in
    let left = left_of g.I.Read.remaining c.loop-file.left in
    let sofar = c.loop-file.invariant in
    finished c.args.searcher.now.regex.now (job c.args.search.task) inputs (g.W.Write.contents c.args.out.now) i c.loop-file.any (all_unread c.loop-file.unread)
    (g.W.Write.contents c.loop-file.out) sofar.first (none_left place files inputs i left sofar.rest c.loop-file-test.false)
