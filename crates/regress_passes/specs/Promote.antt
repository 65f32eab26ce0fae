-- Loops over one character.
use Rattle.std.specs.Prelude.{◌≡◌, true, false}
use Rattle.regress_base.specs.declared.types.Quantifier.{Quantifier}
use Rattle.regress_tree.specs.NodeTests.{matches_exactly_one_char}
use Rattle.regress_tree.specs.Tree.{Tree, wrapped, loop_one, tree}
use Rattle.regress_rewrite.specs.declared.action.PassAction.{PassAction}
use Rattle.regress_rewrite.specs.declared.action.PassAction.TheVariants.{Keep, Modified, Remove, Replace}

-- The action promotes a loop with this quantifier, where `old` is the body before the call, and `new` after it.
abbrev pub Promotes : PassAction → Quantifier → Tree → Tree → Type 0
Promotes Keep q old new = (matches_exactly_one_char old ≡ false) × (new ≡ old)
Promotes Modified q old new = ⊥
Promotes Remove q old new = ⊥
Promotes (Replace node) q old new = (matches_exactly_one_char old ≡ true) × (tree node ≡ wrapped (loop_one q) old)
