-- Properties of the constants, by computation.
use Rattle.std.proofs.Common.{◌≡◌, true, map, All, refl}
use Rattle.std.proofs.lemmas.List.Sums.{AllPass-from_list_all}
use Rattle.std.proofs.lemmas.List.Elements.{All-weaker}
use Rattle.regress_unicode.specs.FoldEntries.{mapped}
use Rattle.regress_unicode.specs.ValidEntries.{IsPackableEntry, AreValidEntries}
use Rattle.regress_unicode.proofs.lemmas.Soundness.{sound_mappings}
use Rattle.regress_ucd.specs.declared.data.cases.TheConstants.{FOLDS, UPPERS}
use Rattle.regress_ucd.specs.Data.{mapping}
use Rattle.regress_ucd.proofs.DataLemmas.{packable, is_packable}

pub folds : All (λ r. IsPackableEntry (mapping r)) FOLDS.now
folds = All-weaker (λ r. is_packable (mapping r) ≡ true) (λ r. IsPackableEntry (mapping r)) (λ r h. packable (mapping r) h) FOLDS.now
    (AllPass-from_list_all (λ r. is_packable (mapping r)) FOLDS.now refl)

pub uppers : All (λ r. IsPackableEntry (mapping r)) UPPERS.now
uppers = All-weaker (λ r. is_packable (mapping r) ≡ true) (λ r. IsPackableEntry (mapping r)) (λ r h. packable (mapping r) h) UPPERS.now
    (AllPass-from_list_all (λ r. is_packable (mapping r)) UPPERS.now refl)

pub valid_folds : AreValidEntries (map mapping FOLDS.now)
unfolding mapped
valid_folds = sound_mappings (map mapping FOLDS.now) refl refl refl

pub valid_uppers : AreValidEntries (map mapping UPPERS.now)
unfolding mapped
valid_uppers = sound_mappings (map mapping UPPERS.now) refl refl refl
