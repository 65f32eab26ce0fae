use Rattle.std.proofs.Common.{◌≡◌, List, subst}
use Rattle.std.specs.Result.{IfOk}
use Rattle.regress_base.specs.Intervals.{Bounds}
use Rattle.regress_base.specs.Table.{Named, named}
use Rattle.regress_properties.specs.declared.data.intervals.TheConstants.{INTERVALS}
use Rattle.regress_properties.specs.declared.data.names.TheConstants.{GENERAL_CATEGORY}
use Rattle.regress_properties.proofs.ConstantsLemmas.{general_category}
use Rattle.regress_properties.proofs.FoundLemmas.{are_sets_in, general_category_in}
use Rattle.regress_properties.proofs.properties.general_category.Goals as goal

pub find_in-requires : goal.find_in-requires
find_in-requires c = are_sets_in (λ name. name.now) (λ name. name.now) c.intervals.result.now c.general_categories.result.now INTERVALS.now GENERAL_CATEGORY.now
    c.intervals.ensures c.general_categories.ensures general_category

pub returns : goal.returns
returns c =
    subst (λ (sets : List (Named (List Bounds))). IfOk c.find_in.result (λ set. set ≡ named c.args.name.now sets))
    (general_category_in (λ name. name.now) c.intervals.result.now c.general_categories.result.now
    c.intervals.ensures c.general_categories.ensures) c.find_in.ensures
