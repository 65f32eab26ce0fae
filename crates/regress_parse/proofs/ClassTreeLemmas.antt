-- The parts of a class with the flag v, joined, are the tree of the class.
use Rattle.std.proofs.Common.{◌≡◌, ℕ, Bool, true, false, not, ◌||◌, ◌==◌, cond, List, [], ◌∷◌, ◌++◌, length, refl, ap, ◌∙◌, arith}
use Rattle.std.proofs.lemmas.Bool.Decides.{nat_tests}
use Rattle.regress_base.specs.Intervals.{Bounds}
use Rattle.regress_tree.specs.Tree.{Leaf, Tree, leaf, empty, bracket, string_set}
use Rattle.regress_classes.specs.ClassSets.{Value, has_strings}
use Rattle.regress_syntax.specs.Meaning.{longest_first}
use Rattle.regress_parse.specs.TreeOf.{alternation, strings_or_points, tree_of_class}
use Rattle.regress_parse.specs.ClassParts.{strings_part, bracket_part, empty_part, class_parts}
use Rattle.regress_parse.proofs.StringLemmas.{some_longest}

four_cases : (s p e : Bool) (strings points : Leaf) →
    strings_or_points s p e strings points
    ≡ alternation (cond s (leaf strings ∷ []) [] ++ cond (not (s || e) || p) (leaf points ∷ []) [] ++ cond e (leaf empty ∷ []) [])
four_cases false false false strings points = refl
four_cases false false true strings points = refl
four_cases false true false strings points = refl
four_cases false true true strings points = refl
four_cases true false false strings points = refl
four_cases true false true strings points = refl
four_cases true true false strings points = refl
four_cases true true true strings points = refl

strings_part-if : (icase : Bool) (ss : List (List ℕ)) →
    cond (not (length ss == 0)) (leaf (string_set (longest_first ss) icase) ∷ []) [] ≡ strings_part icase (longest_first ss)
strings_part-if icase [] = refl
strings_part-if icase (s ∷ ss) =
    let some : (length (s ∷ ss) == 0) ≡ false = grind (arith, nat_tests) in
    rw some (by (longest_first (s ∷ ss)) (some_longest s ss))
  where
    by : (sorted : List (List ℕ)) → (sorted ≡ [] → ⊥) → leaf (string_set sorted icase) ∷ [] ≡ strings_part icase sorted
    by [] some = absurd (some refl)
    by (u ∷ us) some = refl

pub tree_of_class-parts : (icase negated : Bool) (value : Value) (closed : List Bounds) →
    tree_of_class icase negated value closed ≡ alternation (class_parts icase negated value closed)
tree_of_class-parts icase negated value closed =
    four_cases (not (length value.strings == 0)) (negated || not (length closed == 0)) value.has_empty
    (string_set (longest_first value.strings) icase) (bracket negated closed)
    ∙ ap (λ (ts : List Tree). alternation (ts ++ bracket_part (not (has_strings value)) negated closed ++ empty_part value.has_empty))
    (strings_part-if icase value.strings)
