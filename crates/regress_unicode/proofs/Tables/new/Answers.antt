-- Each test is made only after those before it pass.
use Rattle.std.proofs.Common.{◌≡◌, List, String, Global, true, sym, subst, ap, ◌∙◌}
use Rattle.std.proofs.lemmas.Result.{err_from_is_err_and}
use Rattle.std.specs.List.{list_all}
use Rattle.regress_unicode.specs.Parts.{parts_from, sets_of}
use Rattle.regress_unicode.specs.ValidEntries.{AreValidEntries}
use Rattle.regress_base.specs.Table.{is_string, HasCanonicalSets}
use Rattle.regress_base.specs.Intervals.{Bounds}
use Rattle.regress_unicode.proofs.CaseMapLemmas.{case_map}
use Rattle.regress_unicode.proofs.ConstructionErrorLemmas.{first_by_mappings, identifiers_rejected, strings_rejected, all_met, strings_test}
use Rattle.regress_unicode.proofs.Tables.new.Goals as goal

canonical : (xs ys : List (String Global × List Bounds)) → xs ≡ ys → HasCanonicalSets (sets_of xs) → HasCanonicalSets (sets_of ys)
canonical xs ys same h = subst (λ (entries : List (String Global × List Bounds)). HasCanonicalSets (sets_of entries)) same h

pub returns-in_err-check_entries-clause-rejected : goal.returns-in_err-check_entries-clause-rejected
returns-in_err-check_entries-clause-rejected c =
    let p = err_from_is_err_and c.from_residual.result c.from_residual.ensures.1 in
    rw (p.1, p.2) (λ known.
    (let reported = c.in_err-check_entries.ensures.err known in
    first_by_mappings _ _ _ c.deref.ensures.value c.deref-2.ensures.value reported.0 reported.1))

pub returns-then-not-have_word_ascii-clause-rejected : goal.returns-then-not-have_word_ascii-clause-rejected
returns-then-not-have_word_ascii-clause-rejected c known =
    let folds = subst AreValidEntries c.deref.ensures.value c.in_ok-check_entries.ensures.ok.0 in
    let uppers = subst AreValidEntries c.deref-2.ensures.value c.in_ok-check_entries.ensures.ok.1 in
    identifiers_rejected _ folds uppers (λ h.
    (let yes : c.have_word_ascii.result ≡ true = c.have_word_ascii.ensures.1 h in
    cc (yes, c.if-not-have_word_ascii.true)))

pub returns-then-not-have_strings-clause-rejected : goal.returns-then-not-have_strings-clause-rejected
returns-then-not-have_strings-clause-rejected c known =
    let folds = subst AreValidEntries c.deref.ensures.value c.in_ok-check_entries.ensures.ok.0 in
    let uppers = subst AreValidEntries c.deref-2.ensures.value c.in_ok-check_entries.ensures.ok.1 in
    let identifiers = c.have_word_ascii.ensures.0 c.if-not-have_word_ascii.false in
    strings_rejected _ folds uppers identifiers (λ h.
    (let test = strings_test c.args.strings.items in
    let value = c.have_strings.ensures in
    let same = c.deref-3.ensures.value in
    cc (test, value, same, h, c.if-not-have_strings.true)))

pub from_sound_parts-requires : goal.from_sound_parts-requires
from_sound_parts-requires c =
    let folds = subst AreValidEntries c.deref.ensures.value c.in_ok-check_entries.ensures.ok.0 in
    let uppers = subst AreValidEntries c.deref-2.ensures.value c.in_ok-check_entries.ensures.ok.1 in
    let identifiers = c.have_word_ascii.ensures.0 c.if-not-have_word_ascii.false in
    let strings = strings_test c.args.strings.items ∙ ap (list_all (λ entry. list_all (λ string. is_string string.items) entry.1.items))
    (sym c.deref-3.ensures.value) ∙ sym c.have_strings.ensures ∙ c.if-not-have_strings.false in
    record {
      folds = folds;
      uppers = uppers;
      lawful = record {
        fold = case_map c.args.folds.items folds;
        uppercase = case_map c.args.uppers.items uppers;
        id_start = c.set_is_canonical.ensures;
        id_continue = c.set_is_canonical-2.ensures;
        id_start_ascii = identifiers.0;
        id_continue_ascii = identifiers.1;
        general_category = canonical _ _ c.deref-4.ensures.value c.sets_are_canonical.ensures;
        script = canonical _ _ c.deref-5.ensures.value c.sets_are_canonical-2.ensures;
        script_extensions = canonical _ _ c.deref-6.ensures.value c.sets_are_canonical-3.ensures;
        binary = canonical _ _ c.deref-7.ensures.value c.sets_are_canonical-4.ensures;
        strings = strings;
      };
    }

pub returns-clause-accepted : goal.returns-clause-accepted
returns-clause-accepted c rejection =
    let folds = subst AreValidEntries c.deref.ensures.value c.in_ok-check_entries.ensures.ok.0 in
    let uppers = subst AreValidEntries c.deref-2.ensures.value c.in_ok-check_entries.ensures.ok.1 in
    let identifiers = c.have_word_ascii.ensures.0 c.if-not-have_word_ascii.false in
    let strings = strings_test c.args.strings.items ∙ ap (list_all (λ entry. list_all (λ string. is_string string.items) entry.1.items))
    (sym c.deref-3.ensures.value) ∙ sym c.have_strings.ensures ∙ c.if-not-have_strings.false in
    all_met (parts_from c.args.folds.items c.args.uppers.items c.args.id_start c.args.id_continue c.args.general_category.items
    c.args.script.items
    c.args.script_extensions.items c.args.binary.items c.args.strings.items) folds uppers identifiers strings rejection
