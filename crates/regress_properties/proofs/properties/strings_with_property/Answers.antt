use Rattle.std.proofs.Common.{◌≡◌, ℕ, List, Option, map, option_map, subst}
use Rattle.std.specs.Result.{IfOk}
use Rattle.regress_properties.specs.declared.data.strings.TheConstants.{STRING_NAMES}
use Rattle.regress_properties.specs.Listed.{values_of}
use Rattle.regress_properties.proofs.ConstantsLemmas.{strings}
use Rattle.regress_properties.proofs.FoundLemmas.{strings_in}
use Rattle.regress_properties.proofs.StringsLemmas.{strings_named}
use Rattle.regress_properties.proofs.properties.strings_with_property.Goals as goal

pub find_strings-requires : goal.find_strings-requires
find_strings-requires c = strings_in _ _ c.strings.ensures c.points.ensures (map (λ n. (n.1, n.2)) STRING_NAMES.now) strings

pub returns : goal.returns
returns c =
    subst (λ (value : Option (List (List ℕ))). IfOk c.find_strings.result (λ found. option_map values_of found ≡ value))
    (strings_named c.args.name.now c.strings.result.now c.points.result.now c.strings.ensures c.points.ensures) c.find_strings.ensures
