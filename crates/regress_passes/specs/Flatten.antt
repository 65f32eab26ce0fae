-- Flattened `Cat`s.
use Rattle.std.specs.Prelude.{◌≡◌, true, false}
use Rattle.regress_tree.specs.Tree.{Trees, cat, tree}
use Rattle.regress_tree.specs.Shapes.{has_cat, is_flattened_away}
use Rattle.regress_rewrite.specs.Splice.{spliced}
use Rattle.regress_rewrite.specs.Taken.{IsOnlyPart}
use Rattle.regress_rewrite.specs.declared.action.PassAction.{PassAction}
use Rattle.regress_rewrite.specs.declared.action.PassAction.TheVariants.{Keep, Modified, Remove, Replace}

-- The action flattens a `Cat`, where `old` are its parts before the call, and `new` after it.
abbrev pub Flattens : PassAction → Trees → Trees → Type 0
Flattens Keep old new = (is_flattened_away (cat old) ≡ false) × (new ≡ old)
Flattens Modified old new = (has_cat old ≡ true) × (new ≡ spliced old)
Flattens Remove old new = ⊥
Flattens (Replace node) old new = IsOnlyPart (tree node) old
