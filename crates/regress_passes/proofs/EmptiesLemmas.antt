-- Removal of nodes that match only the empty text obeys the law, and makes the tree less.
use Rattle.std.proofs.Common.{◌≡◌, ℕ, ◌+◌, ◌≤◌, Bool, true, false, not, ◌&&◌, ◌||◌, cond, inl, inr, List, [], ◌∷◌, length, Option, Some, None, refl, sym, ap, ap₂, subst, ◌∙◌, eqb-true, arith, ◌≢◌, Result, IfOk}
use Rattle.std.specs.Prelude.{encode_utf8_all, nat_le}
use Rattle.std.proofs.lemmas.Bool.{cases_Bool, true≢false, false≢true, and_parts, leb-true}
use Rattle.std.proofs.lemmas.Str.{length-le-encodes}
use Rattle.regress_base.specs.declared.types.Quantifier.{Quantifier}
use Rattle.regress_tree.specs.Reading.{Direction}
use Rattle.regress_tree.specs.Steps.{MatchState, stay, Setting}
use Rattle.regress_tree.specs.Lookaround.{lookaround_matcher}
use Rattle.regress_tree.specs.Matching.{steps}
use Rattle.regress_tree.specs.Tree.{Leaf, empty, byte_sequence, Wrapper, capture_group, loop, loop_one, lookaround, Tree, Trees, leaf, cat, alt, wrapped, no_trees, tree}
use Rattle.regress_tree.specs.WellFormed.{captures, Position, one_character, inside, last, root, NotAsOneCharacter, AreUtf8, IsQuantifier, IsAllowed}
use Rattle.regress_tree.specs.Units.{IsLess}
use Rattle.regress_tree.specs.NodeTests.{is_none, is_empty}
use Rattle.regress_tree.specs.Shapes.{is_cat, is_zero, some_part, is_byte_sequence_with, is_empty_wrapper, is_emptied_away}
use Rattle.regress_tree.proofs.lemmas.Alike.{Alike-from_same}
use Rattle.regress_tree.proofs.lemmas.Distinct.{same_state-refl}
use Rattle.regress_tree.proofs.lemmas.ByteSequences.{these_bytes-none}
use Rattle.regress_tree.proofs.lemmas.Groups.{HasGroups-none, captures-none}
use Rattle.regress_tree.proofs.lemmas.Measures.{units-positive, IsLess-lighter}
use Rattle.regress_tree.proofs.lemmas.Iterations.{repeat-stay, repeat-none}
use Rattle.regress_rewrite.specs.Law.{IsPart, MeansTheSame, Keeps, ObeysLaw, after}
use Rattle.regress_rewrite.specs.Taken.{list_without, IsOnlyPart}
use Rattle.regress_passes.specs.Emptied.{ReplacesCat}
use Rattle.regress_rewrite.specs.declared.action.PassAction.{PassAction}
use Rattle.regress_rewrite.specs.declared.action.PassAction.TheVariants.{Remove, Keep, Modified, Replace}
use Rattle.regress_rewrite.proofs.lemmas.Lawful.{alone_keeps, modified_lawful, remove_lawful, replace_lawful}
use Rattle.regress_passes.proofs.TakenLemmas.{without_keeps, without-less}
use Rattle.regress_rewrite.proofs.lemmas.Segments.{is_empty-leaf}
use Rattle.std.specs.declared.alloc.AllocError.{AllocError}
use Rattle.regress_tree.specs.declared.ir.node.Node.{Node}
use Rattle.regress_tree.proofs.lemmas.TreeContexts.{among, IsLess-part}
use Rattle.regress_rewrite.proofs.lemmas.Keeps.{Keeps-refl, Keeps-trans, Keeps-no_part, Keeps-one_part}
use Rattle.regress_tree.proofs.lemmas.Falling.{IsLess-trans}
use Rattle.regress_rewrite.proofs.lemmas.Emptying.{tree_vanishes}

module _ (removes : Tree → Bool) (exact : Bool) (d : Direction) (old : Tree) (some : removes old ≡ true) where
  -- the remaining parts of a `Cat` may be its parts, or replace it if there are fewer than two
  pub cat_lawful : (action : PassAction) (parts left : Trees) → Keeps d old (cat parts) → IsLess (cat parts) old →
      ReplacesCat action parts left → ObeysLaw removes exact d old (cat left) action
  cat_lawful Keep parts left keeps is_less occurs = absurd occurs
  cat_lawful Remove parts left keeps is_less occurs = absurd occurs
  cat_lawful Modified parts left keeps is_less occurs =
      subst (λ (ts : Trees). ObeysLaw removes exact d old (cat ts) Modified) (sym occurs) (modified_lawful removes exact d old some (cat parts) keeps is_less)
  cat_lawful (Replace node) parts left keeps is_less occurs =
      let alone = alone_keeps removes exact d (tree node) parts occurs in
      replace_lawful removes exact d old some (cat left) node (Keeps-trans d keeps alone.0) (IsLess-trans old (cat parts) (tree node) is_less alone.1)

module _ (d : Direction) where
  pub whole_lawful : (t left : Tree) → is_cat t ≡ false → is_emptied_away t ≡ true → IsPart t →
      ObeysLaw is_emptied_away true d t left Remove
  whole_lawful t left other is part =
      let gone = tree_vanishes d t other is part in
      remove_lawful is_emptied_away true d t is left gone.keeps gone.less

  empty_stays : (setting : Setting) (bytes : List ℕ) (t : Tree) → is_empty t ≡ true → (s : MatchState) → steps setting bytes d t s ≡ stay s
  empty_stays setting bytes t is s = ap (λ (u : Tree). steps setting bytes d u s) (is_empty-leaf t is)

  pub parts_lawful : (action : PassAction) (old left : Trees) → some_part is_empty old ≡ true →
      ReplacesCat action (list_without is_empty old) left → ObeysLaw is_emptied_away true d (cat old) (cat left) action
  parts_lawful action old left some occurs =
      cat_lawful is_emptied_away true d (cat old) some action (list_without is_empty old) left
      (without_keeps is_empty (λ t is. ap captures (is_empty-leaf t is)) d empty_stays old) (without-less is_empty old some) occurs
