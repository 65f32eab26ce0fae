use Rattle.std.proofs.Common.{◌≡◌, List, subst}
use Rattle.std.specs.Result.{IfOk}
use Rattle.regress_base.specs.Intervals.{Bounds}
use Rattle.regress_base.specs.Table.{Named, named}
use Rattle.regress_properties.specs.declared.data.intervals.TheConstants.{INTERVALS}
use Rattle.regress_properties.specs.declared.data.names.TheConstants.{SCRIPT_EXTENSIONS, SCRIPT_EXTENSIONS_REST}
use Rattle.regress_properties.proofs.ConstantsLemmas.{script_extensions, script_extensions_rest}
use Rattle.regress_properties.proofs.FoundLemmas.{are_sets_in, script_extensions_in}
use Rattle.regress_properties.proofs.properties.script_extensions.Goals as goal

pub find_set-requires : goal.find_set-requires
find_set-requires c = record {
  names = are_sets_in (λ name. name.now) (λ name. name.now) c.intervals.result.now c.extended_scripts.result.now INTERVALS.now SCRIPT_EXTENSIONS.now
      c.intervals.ensures c.extended_scripts.ensures script_extensions;
  rest = are_sets_in (λ name. name.now) (λ name. name.now) c.intervals.result.now c.other_extended_scripts.result.now INTERVALS.now SCRIPT_EXTENSIONS_REST.now
      c.intervals.ensures c.other_extended_scripts.ensures script_extensions_rest;
}

pub returns : goal.returns
returns c =
    subst (λ (sets : List (Named (List Bounds))). IfOk c.find_set.result (λ set. set ≡ named c.args.name.now sets))
    (script_extensions_in (λ name. name.now) c.intervals.result.now c.extended_scripts.result.now c.other_extended_scripts.result.now
    c.intervals.ensures c.extended_scripts.ensures c.other_extended_scripts.ensures) c.find_set.ensures
