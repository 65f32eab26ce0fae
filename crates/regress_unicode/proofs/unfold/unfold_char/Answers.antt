-- At most four code points have the same canonical form.
use Rattle.std.proofs.Common.{ℕ, ◌≤◌, ◌==◌, length, List, Vec, Global, sym, subst}
use Rattle.std.proofs.lemmas.Result.{IfOk-weaker}
use Rattle.regress_unicode.specs.FoldEntries.{FoldEntry, mapped}
use Rattle.regress_base.specs.Listing.{IsListing}
use Rattle.regress_base.specs.Table.{HasSmallClasses}
use Rattle.regress_base.proofs.lemmas.Listings.{few_of_canonical_form}
use Rattle.regress_unicode.proofs.TableLemmas.{table_of-lawful}
use Rattle.regress_unicode.proofs.unfold.unfold_char.Goals as goal

pub returns-clause-few : goal.returns-clause-few
returns-clause-few c =
    let small = subst (λ (mappings : List FoldEntry). HasSmallClasses (mapped mappings)) (sym c.deref.ensures.value)
    (table_of-lawful c.args.tables.now).fold.small_classes in
    IfOk-weaker c.unfold_to.result (λ (list : Vec ℕ Global). IsListing (λ x. mapped c.deref.result.now x == c.fold.result) list.items)
    (λ (list : Vec ℕ Global). length list.items ≤ 4)
    (λ list. few_of_canonical_form (mapped c.deref.result.now) c.fold.result list.items small)
    c.unfold_to.ensures
