-- A node that matches only the empty text may become `Empty`.
use Rattle.std.proofs.Common.{◌≡◌, ℕ, ◌+◌, ◌≤◌, Bool, true, false, not, ◌&&◌, ◌||◌, cond, inl, inr, List, [], ◌∷◌, length, Option, Some, None, refl, sym, ap, ap₂, subst, ◌∙◌, eqb-true, arith}
use Rattle.std.specs.Prelude.{encode_utf8_all, nat_le}
use Rattle.std.proofs.lemmas.Bool.{cases_Bool, true≢false, false≢true, and_parts, leb-true}
use Rattle.std.proofs.lemmas.Str.{length-le-encodes}
use Rattle.regress_base.specs.declared.types.Quantifier.{Quantifier}
use Rattle.regress_tree.specs.Reading.{Direction}
use Rattle.regress_tree.specs.Steps.{MatchState, stay, Setting}
use Rattle.regress_tree.specs.Lookaround.{lookaround_matcher}
use Rattle.regress_tree.specs.Matching.{steps}
use Rattle.regress_tree.specs.Tree.{Leaf, empty, byte_sequence, Wrapper, capture_group, loop, loop_one, lookaround, Tree, Trees, leaf, cat, alt, wrapped}
use Rattle.regress_tree.specs.WellFormed.{captures, Position, one_character, inside, last, root, NotAsOneCharacter, AreUtf8, IsQuantifier, IsAllowed}
use Rattle.regress_tree.specs.Units.{IsLess}
use Rattle.regress_tree.specs.NodeTests.{is_none, is_empty}
use Rattle.regress_tree.specs.Shapes.{is_cat, is_zero, some_part, is_byte_sequence_with, is_empty_wrapper, is_emptied_away}
use Rattle.regress_tree.proofs.lemmas.Alike.{Alike-from_same}
use Rattle.regress_tree.proofs.lemmas.Distinct.{same_state-refl}
use Rattle.regress_tree.proofs.lemmas.ByteSequences.{these_bytes-none}
use Rattle.regress_tree.proofs.lemmas.Groups.{HasGroups-none, captures-none}
use Rattle.regress_tree.proofs.lemmas.Measures.{units-positive, IsLess-lighter}
use Rattle.regress_tree.proofs.lemmas.Iterations.{repeat-stay, repeat-none}
use Rattle.regress_rewrite.specs.Law.{IsPart, MeansTheSame, Keeps, ObeysLaw}
use Rattle.regress_rewrite.specs.Taken.{list_without}
use Rattle.regress_rewrite.specs.declared.action.PassAction.{PassAction}
use Rattle.regress_rewrite.specs.declared.action.PassAction.TheVariants.{Remove}
use Rattle.regress_rewrite.proofs.lemmas.Lawful.{remove_lawful}
use Rattle.regress_rewrite.proofs.lemmas.Segments.{is_empty-leaf}

-- What the tests on nodes imply.

is_zero-Some : (max : Option ℕ) → is_zero max ≡ true → max ≡ Some 0
is_zero-Some None is = absurd (false≢true is)
is_zero-Some (Some n) is = ap (λ (m : ℕ). Some m) (eqb-true n 0 is)

-- an empty `ByteSequence` is no single character
no_byte-free : (p : Position) → AreUtf8 [] p → NotAsOneCharacter p
no_byte-free one_character m = absurd (omega (arith, m.one, ap length m.encoded, length-le-encodes m.characters))
no_byte-free inside m = tt
no_byte-free last m = tt
no_byte-free root m = tt

-- Nodes that become `Empty`.

module _ (d : Direction) where
  -- the tree may become `Empty`, which is less
  pub record Vanishes (t : Tree) : Type 0 where
    pub keeps : Keeps d t (leaf empty)
    pub less : IsLess (leaf empty) t

  vanishes : (t : Tree) → MeansTheSame d t (leaf empty) → ((n : ℕ) (p : Position) → IsAllowed n t p → NotAsOneCharacter p) →
      captures t ≡ [] → IsLess (leaf empty) t → Vanishes t
  vanishes t same free none is_less = record {
    keeps = record {
      meaning = same;
      occurs = free;
      captures = sym none;
      account = omega (arith, units-positive t);
      brackets = λ lacks. refl;
    };
    less = is_less;
  }

  leaf_vanishes : (l : Leaf) → is_byte_sequence_with is_none l ≡ true → Vanishes (leaf l)
  leaf_vanishes (byte_sequence []) is =
      vanishes (leaf (byte_sequence [])) (λ setting text is_text. Alike-from_same (these_bytes-none d (encode_utf8_all text)))
      (λ n p m. no_byte-free p m) refl (IsLess-lighter (leaf empty) (leaf (byte_sequence [])) (omega arith) (omega arith))
  leaf_vanishes l is = absurd (false≢true is)

  -- the right side of an alternation of two `Empty`s has the outcome of the left one
  sides_vanish : Vanishes (alt (leaf empty) (leaf empty))
  sides_vanish =
      vanishes (alt (leaf empty) (leaf empty))
      (λ setting text is_text. record { same = λ s. ap (λ b. s ∷ cond (not b) (s ∷ []) []) (same_state-refl s) })
      (λ n p m. m.0) refl (IsLess-lighter (leaf empty) (alt (leaf empty) (leaf empty)) (omega arith) (omega arith))

  loop_vanishes : (q : Quantifier) (start end : ℕ) (body : Tree) →
      ((setting : Setting) (bytes : List ℕ) (s : MatchState) → steps setting bytes d (wrapped (loop q start end) body) s ≡ stay s) →
      captures body ≡ [] → Vanishes (wrapped (loop q start end) body)
  loop_vanishes q start end body stays none =
      vanishes (wrapped (loop q start end) body) (λ setting text is_text. Alike-from_same (stays setting (encode_utf8_all text)))
      (λ n p m. m.0) none
      (IsLess-lighter (leaf empty) (wrapped (loop q start end) body) (omega arith) (omega arith))

  loop_of_empty : (q : Quantifier) (start end : ℕ) → end ≤ start → Vanishes (wrapped (loop q start end) (leaf empty))
  loop_of_empty q start end ends =
      loop_vanishes q start end (leaf empty) (λ setting bytes s. repeat-stay (length bytes + 1) q start end ends s) refl

  loop_of_none : (q : Quantifier) (start end : ℕ) (body : Tree) → q.max ≡ Some 0 → IsQuantifier q → captures body ≡ [] →
      Vanishes (wrapped (loop q start end) body)
  loop_of_none q start end body is quantifier none =
      loop_vanishes q start end body
      (λ setting bytes s. repeat-none (length bytes + 1) q start end is quantifier (steps setting bytes d body) s) none

  look_of_empty : (backwards : Bool) (start end : ℕ) → Vanishes (wrapped (lookaround false backwards start end) (leaf empty))
  unfolding lookaround_matcher
  look_of_empty backwards start end =
      vanishes (wrapped (lookaround false backwards start end) (leaf empty)) (λ setting text is_text. Alike-from_same (λ s. refl))
      (λ n p m. m.0) refl
      (IsLess-lighter (leaf empty) (wrapped (lookaround false backwards start end) (leaf empty)) (omega arith) (omega arith))

  wrapper_vanishes : (w : Wrapper) (body : Tree) → is_empty_wrapper w body ≡ true → IsPart (wrapped w body) → Vanishes (wrapped w body)
  wrapper_vanishes (capture_group id name) body is part = absurd (false≢true is)
  wrapper_vanishes (loop q start end) body is part =
      let asked = part.2.1 in
      elim (cases_Bool (is_empty body)) [
        | inl is_empty_body ↦
            let body_is = is_empty-leaf body is_empty_body in
            subst (λ (t : Tree). Vanishes (wrapped (loop q start end) t)) (sym body_is)
            (loop_of_empty q start end (HasGroups-none start end body asked.1 (ap captures body_is)))
        | inr other ↦
            let both = and_parts (is_zero q.max) (nat_le end start)
            (sym (ap (λ b. b || (is_zero q.max && nat_le end start)) other) ∙ is) in
            loop_of_none q start end body (is_zero-Some q.max both.0) asked.0
            (captures-none start end body asked.1 (leb-true end start both.1))
      ]
  wrapper_vanishes (loop_one q) body is part = absurd (false≢true is)
  wrapper_vanishes (lookaround true backwards start end) body is part = absurd (false≢true is)
  wrapper_vanishes (lookaround false backwards start end) body is part =
      subst (λ (t : Tree). Vanishes (wrapped (lookaround false backwards start end) t)) (sym (is_empty-leaf body is))
      (look_of_empty backwards start end)

  pub tree_vanishes : (t : Tree) → is_cat t ≡ false → is_emptied_away t ≡ true → IsPart t → Vanishes t
  tree_vanishes (leaf l) other is part = leaf_vanishes l is
  tree_vanishes (cat parts) other is part = absurd (true≢false other)
  tree_vanishes (alt left right) other is part =
      let both = and_parts (is_empty left) (is_empty right) is in
      subst (λ (t : Tree). Vanishes t)
      (sym (ap₂ (λ (l r : Tree). alt l r) (is_empty-leaf left both.0) (is_empty-leaf right both.1))) sides_vanish
  tree_vanishes (wrapped w body) other is part = wrapper_vanishes w body is part

  pub emptied_keeps : (t : Tree) → is_cat t ≡ false → is_emptied_away t ≡ true → IsPart t → Keeps d t (leaf empty)
  emptied_keeps t other is part = (tree_vanishes t other is part).keeps
