-- The parts are those of Unicode with the case mappings, and are valid.
use Rattle.std.proofs.Common.{subst, sym}
use Rattle.regress_unicode.specs.SourceIndex.{IsIndexOf}
use Rattle.regress_unicode.specs.ValidEntries.{IsSound}
use Rattle.regress_unicode.proofs.UnicodePartsLemmas.{unicode_from}
use Rattle.regress_unicode.proofs.lemmas.Soundness.{unicode_sound}
use Rattle.regress_unicode.proofs.Tables.with_unicode_properties.Goals as goal

pub invariant_of-result-clause-sound : goal.invariant_of-result-clause-sound
invariant_of-result-clause-sound c =
    let folds = c.args.folds.items in
    let uppers = c.args.uppers.items in
    subst IsSound (sym (unicode_from folds uppers _ _ c.in_ok-id_start.ensures c.in_ok-id_continue.ensures))
    (unicode_sound folds uppers c.requires.folds c.requires.uppers)

pub invariant_of-result-clause-indexed : goal.invariant_of-result-clause-indexed
invariant_of-result-clause-indexed c = (
  subst (IsIndexOf c.new-fold_index.result) c.deref.ensures.value c.new-fold_index.ensures,
  subst (IsIndexOf c.new-upper_index.result) c.deref-2.ensures.value c.new-upper_index.ensures,
)
