-- Each test is made only after those before it pass.
use Rattle.std.proofs.Common.{◌≡◌, ◌≢◌, ℕ, ◌≤◌, ◌<◌, ◌⊎◌, inl, inr, lit<, alloc_error}
use Rattle.std.proofs.lemmas.Result.{IfOk-weaker, IfErr-weaker, err_from_is_err_and}
use Rattle.regress_unicode.specs.declared.tables_error.Which.TheVariants.{Fold, Upper}
use Rattle.regress_unicode.specs.declared.tables_error.TablesError.TheVariants.{NotIdempotent, ClassTooLarge, Memory}
use Rattle.regress_unicode.specs.Moves.{count_of}
use Rattle.regress_unicode.specs.Parts.{Parts, mappings_alone}
use Rattle.regress_unicode.specs.ValidEntries.{AreValidEntries}
use Rattle.regress_unicode.specs.ConstructionErrors.{position, IsFirstError}
use Rattle.regress_unicode.proofs.CaseMapLemmas.{small_classes_from, large_classes_from}
use Rattle.regress_unicode.proofs.ConstructionErrorLemmas.{meets_five, meets_six, meets_seven, reported}
use Rattle.regress_unicode.proofs.new.check_entries.Goals as goal

pub returns-in_err-check_idempotent-2-clause-err : goal.returns-in_err-check_idempotent-2-clause-err
returns-in_err-check_idempotent-2-clause-err c =
    let p = err_from_is_err_and c.from_residual-in_err-check_idempotent-2.result c.from_residual-in_err-check_idempotent-2.ensures.1 in
    let mappings : Parts = mappings_alone c.args.folds.now c.args.uppers.now in
    rw (p.1, p.2) (λ known. reported mappings _ (NotIdempotent Upper) c.in_err-check_idempotent-2.ensures.0
    (lit< tt) c.in_err-check_idempotent-2.ensures.1
    (meets_five mappings c.in_ok-check_order.ensures c.in_ok-check_order-2.ensures c.in_ok-check_targets.ensures
    c.in_ok-check_targets-2.ensures c.in_ok-check_idempotent.ensures))

pub returns-in_err-check_classes-clause-err : goal.returns-in_err-check_classes-clause-err
returns-in_err-check_classes-clause-err c =
    let p = err_from_is_err_and c.from_residual-in_err-check_classes.result c.from_residual-in_err-check_classes.ensures.1 in
    let mappings : Parts = mappings_alone c.args.folds.now c.args.uppers.now in
    rw (p.1, p.2) (λ known. elim c.in_err-check_classes.ensures.err [
      | inl memory ↦ absurd (known memory)
      | inr large ↦ reported mappings _ (ClassTooLarge Fold) large.0 (lit< tt)
          (large_classes_from c.args.folds.now c.in_ok-fold_targets.fold_targets.items large.1 c.in_ok-fold_targets.ensures
          c.in_ok-check_order.ensures c.in_ok-check_idempotent.ensures large.2)
          (meets_six mappings (meets_five mappings c.in_ok-check_order.ensures c.in_ok-check_order-2.ensures c.in_ok-check_targets.ensures
          c.in_ok-check_targets-2.ensures c.in_ok-check_idempotent.ensures) c.in_ok-check_idempotent-2.ensures)
    ])

pub returns-clause-ok : goal.returns-clause-ok
returns-clause-ok c =
    IfOk-weaker c.check_classes-2.result (λ _. (d : ℕ) → count_of d c.in_ok-upper_targets.upper_targets.items ≤ 3)
    (λ _. AreValidEntries c.args.folds.now × AreValidEntries c.args.uppers.now)
    (λ _ few. (
      record {
        in_order = c.in_ok-check_order.ensures;
        in_range = c.in_ok-check_targets.ensures;
        idempotent = c.in_ok-check_idempotent.ensures;
        small_classes = small_classes_from c.args.folds.now c.in_ok-fold_targets.fold_targets.items c.in_ok-fold_targets.ensures
            c.in_ok-check_order.ensures c.in_ok-check_classes.ensures.ok;
      },
      record {
        in_order = c.in_ok-check_order-2.ensures;
        in_range = c.in_ok-check_targets-2.ensures;
        idempotent = c.in_ok-check_idempotent-2.ensures;
        small_classes = small_classes_from c.args.uppers.now c.in_ok-upper_targets.upper_targets.items c.in_ok-upper_targets.ensures
            c.in_ok-check_order-2.ensures few;
      },
    ))
    c.check_classes-2.ensures.ok

pub returns-clause-err : goal.returns-clause-err
returns-clause-err c =
    let mappings : Parts = mappings_alone c.args.folds.now c.args.uppers.now in
    let small = small_classes_from c.args.folds.now c.in_ok-fold_targets.fold_targets.items c.in_ok-fold_targets.ensures
    c.in_ok-check_order.ensures c.in_ok-check_classes.ensures.ok in
    IfErr-weaker c.check_classes-2.result
    (λ e. (e ≡ Memory alloc_error) ⊎ ((e ≡ ClassTooLarge Upper) × (d : ℕ) × (4 ≤ count_of d c.in_ok-upper_targets.upper_targets.items)))
    (λ e. e ≢ Memory alloc_error → (position e < 8) × IsFirstError mappings e)
    (λ e why known. elim why [
      | inl memory ↦ absurd (known memory)
      | inr large ↦ reported mappings e (ClassTooLarge Upper) large.0 (lit< tt)
          (large_classes_from c.args.uppers.now c.in_ok-upper_targets.upper_targets.items large.1 c.in_ok-upper_targets.ensures
          c.in_ok-check_order-2.ensures c.in_ok-check_idempotent-2.ensures large.2)
          (meets_seven mappings (meets_six mappings (meets_five mappings c.in_ok-check_order.ensures c.in_ok-check_order-2.ensures
          c.in_ok-check_targets.ensures c.in_ok-check_targets-2.ensures c.in_ok-check_idempotent.ensures)
          c.in_ok-check_idempotent-2.ensures) small)
    ])
    c.check_classes-2.ensures.err
