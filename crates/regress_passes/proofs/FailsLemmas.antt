-- Propagation of early failure obeys the law, and makes the node less.
use Rattle.std.proofs.Common.{◌≡◌, ℕ, zero, suc, ◌+◌, ◌≤◌, Bool, true, false, not, ◌||◌, inl, inr, List, [], ◌∷◌, ◌++◌, length, nat_le, Option, Some, None, refl, sym, ap, ap₂, subst, ◌∙◌, append-nil, arith}
use Rattle.std.specs.Char.{IsScalar}
use Rattle.std.specs.Prelude.{encode_utf8_all}
use Rattle.std.specs.List.{flat_map}
use Rattle.std.proofs.lemmas.Bool.{cases_Bool, true≢false, false≢true, and_parts, and_from, or_parts, leb-true}
use Rattle.std.proofs.lemmas.List.Elements.{All-nil}
use Rattle.regress_base.specs.Brackets.{is_accepted}
use Rattle.regress_base.specs.Intervals.{code_point_max}
use Rattle.regress_tree.specs.declared.ir.node.Node.{Node}
use Rattle.regress_base.specs.declared.types.Quantifier.{Quantifier}
use Rattle.regress_tree.specs.Reading.{Direction, Read, next_character, of_bytes}
use Rattle.regress_tree.specs.Steps.{MatchState, Matcher, moved, one_character, Setting}
use Rattle.regress_tree.specs.Repetition.{unset, iteration, iterations, up_to, extra_iterations, repeat_matcher}
use Rattle.regress_tree.specs.Matching.{steps, steps_of_parts}
use Rattle.regress_tree.specs.Tree.{Leaf, byte_set, char_set, bracket, Wrapper, capture_group, loop, loop_one, lookaround, Tree, Trees, leaf, cat, alt, wrapped, no_trees, more_trees, tree}
use Rattle.regress_tree.specs.WellFormed.{captures, Position, inside, last_of, NotAsOneCharacter, IsSmallSet, LeafIsAllowed, IsAllowed, PartsAllowed}
use Rattle.regress_tree.specs.Units.{units_of_leaf, weight, IsLess}
use Rattle.regress_tree.specs.NodeTests.{leaf_always_fails, match_always_fails}
use Rattle.regress_tree.specs.Shapes.{some_part, has_group, fails_by_part, is_failed_away, is_simplified_away}
use Rattle.regress_tree.specs.Spine.{is_alt}
use Rattle.regress_tree.proofs.lemmas.Accepting.{accepts_nothing}
use Rattle.regress_tree.proofs.lemmas.Alike.{Alike-from_same}
use Rattle.regress_tree.proofs.lemmas.ByteSequences.{one_character-agree}
use Rattle.regress_tree.proofs.lemmas.Groups.{captures-free}
use Rattle.regress_base.proofs.lemmas.Literals.{scalar_in_range}
use Rattle.regress_tree.proofs.lemmas.Measures.{units-positive, IsLess-lighter}
use Rattle.regress_tree.proofs.lemmas.TreeContexts.{left_of, right_of, PartsAllowed-part, IsLess-part}
use Rattle.regress_tree.proofs.lemmas.Positions.{AsOneCharacter-free}
use Rattle.regress_tree.proofs.lemmas.Lists.{PartsAllowed-more, IsAllowed-from_last}
use Rattle.regress_rewrite.specs.Law.{IsPart, Keeps, ObeysLaw}
use Rattle.regress_rewrite.specs.declared.action.PassAction.TheVariants.{Replace}
use Rattle.regress_rewrite.proofs.lemmas.Keeps.{Keeps-part}
use Rattle.regress_rewrite.proofs.lemmas.Lawful.{replace_lawful}
use Rattle.regress_rewrite.proofs.lemmas.Failing.{MatchesNothing, IsNothing, no_member, one_character-none, node_fails, tree_fails, nothing_keeps, left_keeps, right_keeps}

no_character_nothing : IsNothing (char_set [])
no_character_nothing = record {
  none = λ setting bytes d s. one_character-none d bytes (λ c. false) (λ c scalar. refl) s;
  occurs = λ n p free. no_member code_point_max p free;
  small = omega arith;
  other = refl;
}

removed : (t : Tree) → fails_by_part t ≡ true → has_group t ≡ false → is_failed_away t ≡ true
removed t is free = and_from (fails_by_part t) (not (has_group t)) is (ap not free)

module _ (d : Direction) (t left : Tree) (is : fails_by_part t ≡ true) (free : has_group t ≡ false) where
  replaced : (new : Tree) (node : Node) → tree node ≡ new → Keeps d t new → IsLess new t →
      ObeysLaw is_failed_away true d t left (Replace node)
  replaced new node node_is keeps is_less =
      replace_lawful is_failed_away true d t (removed t is free) left node (subst (λ (u : Tree). Keeps d t u) (sym node_is) keeps)
      (subst (λ (u : Tree). IsLess u t) (sym node_is) is_less)

  -- an empty set
  fail_lawful : (node : Node) → tree node ≡ leaf (char_set []) → MatchesNothing 4 t → ObeysLaw is_failed_away true d t left (Replace node)
  fail_lawful node node_is fails =
      replaced (leaf (char_set [])) node node_is (nothing_keeps d t (char_set []) no_character_nothing is free fails)
      (IsLess-lighter (leaf (char_set [])) t (omega arith) (omega (arith, fails.heavy)))

  pub whole_lawful : (node : Node) → is_alt t ≡ false → tree node ≡ leaf (char_set []) → IsPart t →
      ObeysLaw is_failed_away true d t left (Replace node)
  whole_lawful node other node_is part = fail_lawful node node_is (tree_fails t other is part)

module _ (d : Direction) (first second : Tree) where
  both_fail : MatchesNothing 2 first → MatchesNothing 2 second → MatchesNothing 4 (alt first second)
  both_fail a b = record {
    none = λ setting bytes d s. ap₂ ◌++◌ (a.none setting bytes d s) (b.none setting bytes d s);
    heavy = omega (arith, a.heavy, b.heavy);
  }

  sides_lawful : (left : Tree) (node : Node) → fails_by_part (alt first second) ≡ true → has_group (alt first second) ≡ false →
      IsPart (alt first second) →
      (match_always_fails first ≡ false → tree node ≡ first) →
      (match_always_fails first ≡ true → match_always_fails second ≡ false → tree node ≡ second) →
      (match_always_fails first ≡ true → match_always_fails second ≡ true → tree node ≡ leaf (char_set [])) →
      ObeysLaw is_failed_away true d (alt first second) left (Replace node)
  sides_lawful left node is free part at_first at_second at_none =
      let frees = or_parts (has_group first) (has_group second) free in
      let fails_first : match_always_fails first ≡ true → MatchesNothing 2 first = λ e. node_fails first e part.0 inside part.2.1 in
      let fails_second : match_always_fails second ≡ true → MatchesNothing 2 second = λ e. node_fails second e part.0 inside part.2.2 in
      elim (cases_Bool (match_always_fails first)) [
        | inl first_is ↦ elim (cases_Bool (match_always_fails second)) [
          | inl second_is ↦
              fail_lawful d (alt first second) left is free node (at_none first_is second_is)
              (both_fail (fails_first first_is) (fails_second second_is))
          | inr second_not ↦
              replaced d (alt first second) left is free second node (at_second first_is second_not)
              (right_keeps d first second (fails_first first_is) (captures-free first frees.0)) (IsLess-part (right_of first) second)
        ]
        | inr first_not ↦
            let second_is = sym (ap (λ b. b || match_always_fails second) first_not) ∙ is in
            replaced d (alt first second) left is free first node (at_first first_not)
            (left_keeps d first second (fails_second second_is) (captures-free second frees.1)) (IsLess-part (left_of second) first)
      ]

-- the same for a tree that is an `Alt`
pub alt_lawful : (d : Direction) (t left first second : Tree) (node : Node) → t ≡ alt first second → fails_by_part t ≡ true →
    has_group t ≡ false → IsPart t → (match_always_fails first ≡ false → tree node ≡ first) →
    (match_always_fails first ≡ true → match_always_fails second ≡ false → tree node ≡ second) →
    (match_always_fails first ≡ true → match_always_fails second ≡ true → tree node ≡ leaf (char_set [])) →
    ObeysLaw is_failed_away true d t left (Replace node)
alt_lawful d t left first second node t_is is free part at_first at_second at_none =
    subst (λ (u : Tree). ObeysLaw is_failed_away true d u left (Replace node)) (sym t_is)
    (sides_lawful d first second left node (sym (ap fails_by_part t_is) ∙ is) (sym (ap has_group t_is) ∙ free)
    (subst (λ (u : Tree). IsPart u) t_is part) at_first at_second at_none)
