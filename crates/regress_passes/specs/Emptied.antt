-- A `Cat` that loses parts.
use Rattle.std.specs.Prelude.{◌≡◌}
use Rattle.regress_tree.specs.Tree.{Trees, tree}
use Rattle.regress_rewrite.specs.Taken.{IsOnlyPart}
use Rattle.regress_rewrite.specs.declared.action.PassAction.{PassAction}
use Rattle.regress_rewrite.specs.declared.action.PassAction.TheVariants.{Modified, Replace}

-- The effect of the action on a `Cat` that keeps just these parts: they remain its parts, or a node replaces it.
abbrev pub ReplacesCat : PassAction → (parts left : Trees) → Type 0
ReplacesCat Modified parts left = left ≡ parts
ReplacesCat (Replace node) parts left = IsOnlyPart (tree node) parts
ReplacesCat action parts left = ⊥
