use Rattle.std.proofs.Common.{◌≡◌, List, subst}
use Rattle.std.specs.Result.{IfOk}
use Rattle.regress_base.specs.Intervals.{Bounds}
use Rattle.regress_base.specs.Table.{Named, named}
use Rattle.regress_properties.specs.declared.data.intervals.TheConstants.{INTERVALS}
use Rattle.regress_properties.specs.declared.data.names.TheConstants.{BINARY}
use Rattle.regress_properties.proofs.ConstantsLemmas.{binary}
use Rattle.regress_properties.proofs.FoundLemmas.{are_sets_in, binary_in}
use Rattle.regress_properties.proofs.properties.binary.Goals as goal

pub find_in-requires : goal.find_in-requires
find_in-requires c = are_sets_in (λ name. name.now) (λ name. name.now) c.intervals.result.now c.binary_properties.result.now INTERVALS.now BINARY.now
    c.intervals.ensures c.binary_properties.ensures binary

pub returns : goal.returns
returns c =
    subst (λ (sets : List (Named (List Bounds))). IfOk c.find_in.result (λ set. set ≡ named c.args.name.now sets))
    (binary_in (λ name. name.now) c.intervals.result.now c.binary_properties.result.now
    c.intervals.ensures c.binary_properties.ensures) c.find_in.ensures
