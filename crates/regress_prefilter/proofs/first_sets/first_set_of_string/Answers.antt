use Rattle.std.proofs.Common.{rules, arith, ◌≡◌, ◌∷◌, [], List, ℕ, false, drop, sym, subst}
use Rattle.regress_base.specs.ByteBitmap.{contains}
use Rattle.regress_tree.specs.Tree.{leaf, string_set}
use Rattle.regress_tree.specs.Matching.{steps}
use Rattle.regress_tree.specs.Reading.{forwards}
use Rattle.regress_prefilter.specs.FirstSets.{Begins, IsFirstSet}
use Rattle.regress_prefilter.proofs.FirstSetLemmas.{none_first, some_first, string-empty, string-some}
use Rattle.regress_prefilter.proofs.first_sets.first_set_of_string.Goals as goal

pub returns-in_default : goal.returns-in_default
returns-in_default c =
    let none : c.args.string.now ≡ [] = none_first c.args.string.now (first_of (search rules, grind arith)) in
    subst (λ (string : List ℕ). IsFirstSet c.empty.result (leaf (string_set (string ∷ []) false))) (sym none)
    (string-empty c.empty.result c.empty.ensures.through)

pub returns : goal.returns
returns c = λ setting bytes.
    let first = c.in-Some.first.now in
    let split : c.args.string.now ≡ first ∷ drop 1 c.args.string.now = some_first c.args.string.now first (first_of (search rules, grind arith)) in
    subst (λ (string : List ℕ). Begins (contains c.add_character.new.set) false bytes (steps setting bytes forwards (leaf (string_set (string ∷ []) false)))) (sym split)
    (string-some (contains c.add_character.new.set) first (drop 1 c.args.string.now) c.add_character.ensures.covered setting bytes)
