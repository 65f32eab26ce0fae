-- Flattening obeys the law, and makes the tree less.
use Rattle.std.proofs.Common.{◌≡◌, ℕ, ◌<◌, ◌≤◌, Bool, true, false, ◌||◌, ◌++◌, inl, inr, refl, sym, ap, ap₂, subst, ◌∙◌, append-nil, arith, le_refl, List, Result, Ok, Err}
use Rattle.std.specs.Prelude.{encode_utf8_all, IfOk}
use Rattle.std.specs.declared.alloc.AllocError.{AllocError}
use Rattle.std.specs.List.{flat_map}
use Rattle.std.proofs.Math.Bool.{or-false}
use Rattle.std.proofs.lemmas.Bool.{false≢true, or_right}
use mathlib.Core.Path.{fun_ext}
use Rattle.regress_tree.specs.Reading.{Direction}
use Rattle.regress_tree.specs.Steps.{MatchState, Setting}
use Rattle.regress_tree.specs.Tree.{Tree, Trees, leaf, cat, alt, wrapped, no_trees, more_trees, tree}
use Rattle.regress_tree.specs.Matching.{steps, steps_of_parts}
use Rattle.regress_tree.specs.WellFormed.{Position, inside, last_of, IsAllowed, PartsAllowed, captures, captures_of_trees}
use Rattle.regress_tree.specs.Measures.{Measure, total, total_in_list}
use Rattle.regress_tree.specs.Units.{sizes, unrollables, weights}
use Rattle.regress_tree.specs.Shapes.{is_simplified_away, some_node, some_node_in_list, has_cat, is_short, is_flattened_away}
use Rattle.regress_tree.proofs.lemmas.Alike.{Alike-from_same}
use Rattle.regress_tree.proofs.lemmas.Outcomes.{flat_map-stay}
use Rattle.regress_tree.proofs.lemmas.Measures.{some_node-append, total-append, IsLess-lighter}
use Rattle.regress_tree.proofs.lemmas.Lists.{append_trees-none, steps-append, captures-append, PartsAllowed-last_of, PartsAllowed-append}
use Rattle.regress_rewrite.specs.declared.action.PassAction.{PassAction}
use Rattle.regress_rewrite.specs.declared.action.PassAction.TheVariants.{Keep, Modified, Remove, Replace}
use Rattle.regress_rewrite.specs.Law.{Keeps, ObeysLaw}
use Rattle.regress_rewrite.specs.Splice.{parts_of, spliced}
use Rattle.regress_passes.specs.Flatten.{Flattens}
use Rattle.regress_rewrite.specs.Taken.{IsOnlyPart}
use Rattle.regress_rewrite.proofs.lemmas.Lawful.{alone_keeps, keep_lawful, modified_lawful, replace_lawful}
use Rattle.regress_rewrite.proofs.lemmas.Flattening.{total-spliced, spliced_keeps}

-- splicing a list with a `Cat` reduces its weight
weight-less : (ts : Trees) → has_cat ts ≡ true → total_in_list weights (spliced ts) < total_in_list weights ts
weight-less no_trees some = absurd (false≢true some)
weight-less (more_trees (cat parts) ts) some = omega (arith, total-append weights parts (spliced ts), total-spliced weights ts)
weight-less (more_trees (leaf l) ts) some = omega (arith, weight-less ts some)
weight-less (more_trees (alt left right) ts) some = omega (arith, weight-less ts some)
weight-less (more_trees (wrapped w body) ts) some = omega (arith, weight-less ts some)

alone_short : (t : Tree) (ts : Trees) → IsOnlyPart t ts → is_flattened_away (cat ts) ≡ true
alone_short t ts (inl none) = ap (λ us. is_flattened_away (cat us)) none.0
alone_short t ts (inr one) = ap (λ us. is_flattened_away (cat us)) one

flattens_lawful : (d : Direction) (action : PassAction) (old new : Trees) → Flattens action old new →
    ObeysLaw is_flattened_away true d (cat old) (cat new) action
flattens_lawful d Keep old new flattens =
    subst (λ (ts : Trees). ObeysLaw is_flattened_away true d (cat old) (cat ts) Keep) (sym flattens.1)
    (keep_lawful is_flattened_away true d (cat old) flattens.0)
flattens_lawful d Modified old new flattens =
    subst (λ (ts : Trees). ObeysLaw is_flattened_away true d (cat old) (cat ts) Modified) (sym flattens.1)
    (modified_lawful is_flattened_away true d (cat old) (or_right (is_short old) (has_cat old) flattens.0) (cat (spliced old))
    (spliced_keeps d old)
    (IsLess-lighter (cat (spliced old)) (cat old) (omega (arith, total-spliced unrollables old)) (omega (arith, weight-less old flattens.0))))
flattens_lawful d Remove old new flattens = absurd flattens
flattens_lawful d (Replace node) old new flattens =
    let alone = alone_keeps is_flattened_away true d (tree node) old flattens in
    replace_lawful is_flattened_away true d (cat old) (alone_short (tree node) old flattens) (cat new) node alone.0 alone.1

pub flatten_lawful : (d : Direction) (r : Result PassAction AllocError) (was is : Trees) → IfOk r (λ action. Flattens action was is) →
    IfOk r (ObeysLaw is_flattened_away true d (cat was) (cat is))
flatten_lawful d (Ok action) was is flattens = flattens_lawful d action was is flattens
flatten_lawful d (Err e) was is flattens = tt
