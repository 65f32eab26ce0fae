use Rattle.std.proofs.Common.{◌≡◌, ◌∙◌, ◌⊎◌, ◌||◌, false, true, inl, inr, ap, List, map, subst, sym}
use Rattle.std.specs.Prelude.{IfErr, IfOk, ⊤, is_ok, string_bytes}
use Rattle.regress_arguments.proofs.lemmas.Output.{appends_kept}
use Rattle.regex_lines.specs.Ending.{IsCostly, IsCostlyPatternIn, IsSearchFailure, OrOutput, setting_in}
use Rattle.regex_lines.specs.Searched.{Input, WritesInputs, WritesSomeOf, inputs_of}
use Rattle.regex_lines.specs.Unread.{all_unread, unread_of, unread_path}
use Rattle.regex_lines.specs.Walk.{found_of}
use Rattle.regex_lines.proofs.lemmas.Failures.{costly_failure, or_output}
use Rattle.regex_options.specs.Plain.{Job, file_list, job}
use Rattle.regex_command.specs.Printed.{IsDue, PrintsFirst, are_read, changes, is_complete}
use Rattle.regex_command.proofs.UnreadLemmas.{all_if_none, all_loud, none_lost, none_of, prints_all, prints_first, prints_incomplete}
use Rattle.regex_command.proofs.print_search.Goals as goal

-- The files that are found are searched, at the end of a search that ends without a failure.
pub returns-in-Ok-clause-all : goal.returns-in-Ok-clause-all
returns-in-Ok-clause-all g c =
    let wanted = c.args.wanted.search in
    let dialect = c.args.wanted.pattern.dialect in
    let setting = setting_in dialect c.args.wanted.pattern.flags in
    let search = c.search_in-search in
    let walked = c.in_ok-walked.walked in
    let task = job wanted.task in
    let input = g.I.Read.remaining c.args.input in
    let inputs = inputs_of task wanted.form walked.several (found_of walked).files input in
    let old = g.W.Write.contents c.args.out.now in
    let between = g.W.Write.contents c.search_all-result.new.out in
    let new = g.W.Write.contents c.flush-flushed.new.out in
    let unread = all_unread c.search_all-result.result.unread in
    let r = c.in_ok-regex.regex in
    let any = c.in-Ok.any in
    let all : WritesInputs r task inputs old between unread any =
    subst (λ (x : Job × List Input). WritesInputs r x.0 x.1 old between unread any)
    (λ j. (
      job (search.ensures.task j),
      inputs_of (job (search.ensures.task j)) (search.ensures.form j) (search.ensures.several j) (search.ensures.files j) input,
    ))
    (subst (λ result. IfOk result (WritesInputs r (job search.result.task)
    (inputs_of (job search.result.task) search.result.form search.result.several (map string_bytes search.result.files.now) input) old between unread))
    c.in-Ok.is c.search_all-result.ensures.all) in
    let read : c.are_read.result ≡ are_read (found_of walked).unread unread =
    c.are_read.ensures ∙ ap (λ items. are_read (map unread_path items) (map unread_of c.deref-in-Ok-2.result.now)) c.deref-in-Ok.ensures.value
    ∙ ap (λ items. are_read (found_of walked).unread (map unread_of items)) c.deref-in-Ok-2.ensures.value in
    prints_all dialect setting c.args.wanted.pattern.text.now task wanted.form (file_list wanted.files) input old new r c.in_ok-regex.ensures.own.compiled
    (found_of walked) c.in_ok-walked.ensures any unread c.found.result (sym (ap (is_complete task any) read) ∙ c.found.ensures.complete) c.found.ensures.found
    (all.0, all.1, appends_kept old between new all.0 all.2 c.flush-flushed.ensures.kept)

pub returns-in-Ok-clause-first : goal.returns-in-Ok-clause-first
returns-in-Ok-clause-first g c =
    let wanted = c.args.wanted.search in
    let dialect = c.args.wanted.pattern.dialect in
    let setting = setting_in dialect c.args.wanted.pattern.flags in
    let search = c.search_in-search in
    let walked = c.in_ok-walked.walked in
    let task = job wanted.task in
    let input = g.I.Read.remaining c.args.input in
    let inputs = inputs_of task wanted.form walked.several (found_of walked).files input in
    let old = g.W.Write.contents c.args.out.now in
    let between = g.W.Write.contents c.search_all-result.new.out in
    let new = g.W.Write.contents c.flush-flushed.new.out in
    let unread = all_unread c.search_all-result.result.unread in
    let r = c.in_ok-regex.regex in
    let any = c.in-Ok.any in
    let all : WritesInputs r task inputs old between unread any =
    subst (λ (x : Job × List Input). WritesInputs r x.0 x.1 old between unread any)
    (λ j. (
      job (search.ensures.task j),
      inputs_of (job (search.ensures.task j)) (search.ensures.form j) (search.ensures.several j) (search.ensures.files j) input,
    ))
    (subst (λ result. IfOk result (WritesInputs r (job search.result.task)
    (inputs_of (job search.result.task) search.result.form search.result.several (map string_bytes search.result.files.now) input) old between unread))
    c.in-Ok.is c.search_all-result.ensures.all) in
    let read : c.are_read.result ≡ are_read (found_of walked).unread unread =
    c.are_read.ensures ∙ ap (λ items. are_read (map unread_path items) (map unread_of c.deref-in-Ok-2.result.now)) c.deref-in-Ok.ensures.value
    ∙ ap (λ items. are_read (found_of walked).unread (map unread_of items)) c.deref-in-Ok-2.ensures.value in
    prints_incomplete dialect setting c.args.wanted.pattern.text.now task wanted.form (file_list wanted.files) input old new r
    c.in_ok-regex.ensures.own.compiled (found_of walked) c.in_ok-walked.ensures any unread (c.flush-flushed.new.out ≡ c.args.out.now) c.found.result
    (sym (ap (is_complete task any) read) ∙ c.found.ensures.complete) c.found.ensures.failed
    (all.0, all.1, appends_kept old between new all.0 all.2 c.flush-flushed.ensures.kept)

-- Nothing is lost or left unread, so no message is written.
pub returns-in-Ok-clause-quiet : goal.returns-in-Ok-clause-quiet
returns-in-Ok-clause-quiet g c is loud =
    let all : c.are_read.result ≡ true =
    all_loud (job c.args.wanted.search.task) c.in-Ok.any c.are_read.result (c.found.ensures.complete ∙ ap is_ok is) loud in
    let none = none_lost c.deref-in-Ok.result.now c.deref-in-Ok-2.result.now (sym c.are_read.ensures ∙ all) in
    c.report_unread.ensures.quiet (c.deref-2.ensures.value ∙ sym c.deref-in-Ok-2.ensures.value ∙ none.1)
    ∙ c.report_paths.ensures.quiet (c.deref.ensures.value ∙ sym c.deref-in-Ok.ensures.value ∙ none.0)

pub returns-in-Ok-clause-quiet_none : goal.returns-in-Ok-clause-quiet_none
returns-in-Ok-clause-quiet_none g c is =
    let task = job c.args.wanted.search.task in
    let any = c.in-Ok.any in
    let unselected : any ≡ false =
    none_of any (changes task) (subst (λ result. IfOk result (λ found. found ≡ any || changes task)) is c.found.ensures.found) in
    let all : c.are_read.result ≡ true = all_if_none task any c.are_read.result (c.found.ensures.complete ∙ ap is_ok is) unselected in
    let none = none_lost c.deref-in-Ok.result.now c.deref-in-Ok-2.result.now (sym c.are_read.ensures ∙ all) in
    c.report_unread.ensures.quiet (c.deref-2.ensures.value ∙ sym c.deref-in-Ok-2.ensures.value ∙ none.1)
    ∙ c.report_paths.ensures.quiet (c.deref.ensures.value ∙ sym c.deref-in-Ok.ensures.value ∙ none.0)

-- A failure ends the search of all inputs.
pub detached-requires : goal.detached-requires
detached-requires g c =
    let r = c.in_ok-regex.regex in
    costly_failure (IsCostly r) ⊤ (λ _. tt) c.in-Err.failure
    (subst (λ result. IfErr result (IsSearchFailure (IsCostly r))) c.in-Err.is c.search_all-result.ensures.failed)

pub returns-clause-first : goal.returns-clause-first
returns-clause-first g c =
    let wanted = c.args.wanted.search in
    let dialect = c.args.wanted.pattern.dialect in
    let setting = setting_in dialect c.args.wanted.pattern.flags in
    let text = c.args.wanted.pattern.text.now in
    let search = c.search_in-search in
    let walked = c.in_ok-walked.walked in
    let task = job wanted.task in
    let input = g.I.Read.remaining c.args.input in
    let inputs = inputs_of task wanted.form walked.several (found_of walked).files input in
    let old = g.W.Write.contents c.args.out.now in
    let between = g.W.Write.contents c.search_all-result.new.out in
    let new = g.W.Write.contents c.flush-flushed.new.out in
    let unread = all_unread c.search_all-result.result.unread in
    let r = c.in_ok-regex.regex in
    let failure = c.in-Err.failure in
    let same = c.flush-flushed.new.out ≡ c.args.out.now in
    let first : OrOutput (WritesSomeOf r task inputs old between unread) failure =
    subst (λ (x : Job × List Input). OrOutput (WritesSomeOf r x.0 x.1 old between unread) failure)
    (λ j. (
      job (search.ensures.task j),
      inputs_of (job (search.ensures.task j)) (search.ensures.form j) (search.ensures.several j) (search.ensures.files j) input,
    ))
    (subst (λ result. IfErr result (OrOutput (WritesSomeOf r (job search.result.task)
    (inputs_of (job search.result.task) search.result.form search.result.several (map string_bytes search.result.files.now) input) old between unread)))
    c.in-Err.is c.search_all-result.ensures.first) in
    subst (λ failure. OrOutput (same ⊎ PrintsFirst dialect setting text task wanted.form (file_list wanted.files) input old new failure) failure)
    (sym c.detached.ensures)
    (prints_first dialect setting text task wanted.form (file_list wanted.files) input old new r c.in_ok-regex.ensures.own.compiled (found_of walked)
    c.in_ok-walked.ensures (IsCostly r) same unread failure
    (subst (λ result. IfErr result (IsSearchFailure (IsCostly r))) c.in-Err.is c.search_all-result.ensures.failed)
    (or_output (WritesSomeOf r task inputs old between unread) (WritesSomeOf r task inputs old new unread) failure first
    (λ some. (some.0, some.1, appends_kept old between new some.0 some.2 c.flush-flushed.ensures.kept))))

pub returns-clause-due : goal.returns-clause-due
returns-clause-due g c =
    let dialect = c.args.wanted.pattern.dialect in
    let setting = setting_in dialect c.args.wanted.pattern.flags in
    let text = c.args.wanted.pattern.text.now in
    let r = c.in_ok-regex.regex in
    let own = c.in_ok-regex.ensures.own in
    subst (IsDue dialect setting text) (sym c.detached.ensures)
    (inr (inl (costly_failure (IsCostly r) (IsCostlyPatternIn dialect setting text) (λ costly. (r, own, costly)) c.in-Err.failure
    (subst (λ result. IfErr result (IsSearchFailure (IsCostly r))) c.in-Err.is c.search_all-result.ensures.failed))))
