-- A node that fails because a part of it does becomes an empty set, or the side that may match.
use Rattle.std.proofs.Common.{◌≡◌, ℕ, zero, suc, ◌+◌, ◌≤◌, Bool, true, false, not, ◌||◌, inl, inr, List, [], ◌∷◌, ◌++◌, length, nat_le, Option, Some, None, refl, sym, ap, ap₂, subst, ◌∙◌, append-nil, arith}
use Rattle.std.specs.Char.{IsScalar}
use Rattle.std.specs.Prelude.{encode_utf8_all}
use Rattle.std.specs.List.{flat_map}
use Rattle.std.proofs.lemmas.Bool.{cases_Bool, true≢false, false≢true, and_parts, and_from, or_parts, leb-true}
use Rattle.std.proofs.lemmas.List.Elements.{All-nil}
use Rattle.regress_base.specs.Brackets.{is_accepted}
use Rattle.regress_base.specs.Intervals.{code_point_max}
use Rattle.regress_tree.specs.declared.ir.node.Node.{Node}
use Rattle.regress_base.specs.declared.types.Quantifier.{Quantifier}
use Rattle.regress_tree.specs.Reading.{Direction, Read, next_character, of_bytes}
use Rattle.regress_tree.specs.Steps.{MatchState, Matcher, moved, one_character, Setting}
use Rattle.regress_tree.specs.Repetition.{unset, iteration, iterations, up_to, extra_iterations, repeat_matcher}
use Rattle.regress_tree.specs.Matching.{steps, steps_of_parts}
use Rattle.regress_tree.specs.Tree.{Leaf, byte_set, char_set, bracket, Wrapper, capture_group, loop, loop_one, lookaround, Tree, Trees, leaf, cat, alt, wrapped, no_trees, more_trees, tree}
use Rattle.regress_tree.specs.WellFormed.{captures, Position, inside, last_of, NotAsOneCharacter, IsSmallSet, LeafIsAllowed, IsAllowed, PartsAllowed}
use Rattle.regress_tree.specs.Units.{units_of_leaf, weight, IsLess}
use Rattle.regress_tree.specs.NodeTests.{leaf_always_fails, match_always_fails}
use Rattle.regress_tree.specs.Shapes.{some_part, has_group, fails_by_part, is_failed_away, is_simplified_away}
use Rattle.regress_tree.specs.Spine.{is_alt}
use Rattle.regress_tree.proofs.lemmas.Accepting.{accepts_nothing}
use Rattle.regress_tree.proofs.lemmas.Alike.{Alike-from_same}
use Rattle.regress_tree.proofs.lemmas.ByteSequences.{one_character-agree}
use Rattle.regress_tree.proofs.lemmas.Groups.{captures-free}
use Rattle.regress_base.proofs.lemmas.Literals.{scalar_in_range}
use Rattle.regress_tree.proofs.lemmas.Measures.{units-positive, IsLess-lighter}
use Rattle.regress_tree.proofs.lemmas.TreeContexts.{left_of, right_of, PartsAllowed-part, IsLess-part}
use Rattle.regress_tree.proofs.lemmas.Positions.{AsOneCharacter-free}
use Rattle.regress_tree.proofs.lemmas.Lists.{PartsAllowed-more, IsAllowed-from_last}
use Rattle.regress_rewrite.specs.Law.{IsPart, Keeps, ObeysLaw}
use Rattle.regress_rewrite.specs.declared.action.PassAction.TheVariants.{Replace}
use Rattle.regress_rewrite.proofs.lemmas.Keeps.{Keeps-part}
use Rattle.regress_rewrite.proofs.lemmas.Lawful.{replace_lawful}

-- ---- nodes that fail

-- The tree has no outcome from any state, and its weight is at least `least`.
pub record MatchesNothing (least : ℕ) (t : Tree) : Type 0 where
  pub none : (setting : Setting) (bytes : List ℕ) (d : Direction) (s : MatchState) → steps setting bytes d t s ≡ []
  pub heavy : least ≤ weight t

moved-none : (s : MatchState) (read : Option Read) → moved (λ c. false) s read ≡ []
moved-none s None = refl
moved-none s (Some read) = refl

pub one_character-none : (d : Direction) (bytes : List ℕ) (test : ℕ → Bool) → ((c : ℕ) → IsScalar c → test c ≡ false) → (s : MatchState) →
    one_character d (of_bytes bytes) test s ≡ []
unfolding one_character
one_character-none d bytes test none s =
    one_character-agree d bytes test (λ c. false) none s ∙ moved-none s (next_character d (of_bytes bytes) s.position)

leaf_fails : (l : Leaf) → leaf_always_fails l ≡ true → (n : ℕ) (p : Position) → LeafIsAllowed n l p → MatchesNothing 2 (leaf l)
leaf_fails (byte_set []) is n p m = record {
  none = λ setting bytes d s. one_character-none d bytes (λ c. false) (λ c scalar. refl) s;
  heavy = omega arith;
}
leaf_fails (char_set []) is n p m = record {
  none = λ setting bytes d s. one_character-none d bytes (λ c. false) (λ c scalar. refl) s;
  heavy = omega arith;
}
leaf_fails (bracket invert intervals) is n p m = record {
  none = λ setting bytes d s. one_character-none d bytes (is_accepted invert intervals)
      (λ c scalar. accepts_nothing invert intervals m.canonical is c (scalar_in_range c scalar)) s;
  heavy = omega arith;
}
leaf_fails l is n p m = absurd (false≢true is)

pub node_fails : (t : Tree) → match_always_fails t ≡ true → (n : ℕ) (p : Position) → IsAllowed n t p → MatchesNothing 2 t
node_fails (leaf l) is n p m = leaf_fails l is n p m
node_fails (cat parts) is n p m = absurd (false≢true is)
node_fails (alt left right) is n p m = absurd (false≢true is)
node_fails (wrapped w body) is n p m = absurd (false≢true is)

-- a `Cat` with a part that fails

flat_map-none : (f : Matcher) (states : List MatchState) → ((s : MatchState) → f s ≡ []) → flat_map f states ≡ []
flat_map-none f [] none = refl
flat_map-none f (s ∷ states) none = ap₂ ◌++◌ (none s) (flat_map-none f states none)

list_fails-first : (t : Tree) (ts : Trees) → MatchesNothing 2 t → MatchesNothing 4 (cat (more_trees t ts))
list_fails-first t ts first = record {
  none = λ setting bytes d s. ap (flat_map (steps_of_parts setting bytes d ts)) (first.none setting bytes d s);
  heavy = omega (arith, first.heavy);
}

list_fails-later : (t : Tree) (ts : Trees) → MatchesNothing 4 (cat ts) → MatchesNothing 4 (cat (more_trees t ts))
list_fails-later t ts later = record {
  none = λ setting bytes d s. flat_map-none (steps_of_parts setting bytes d ts) (steps setting bytes d t s) (later.none setting bytes d);
  heavy = omega (arith, later.heavy);
}

list_tail : (n : ℕ) (t : Tree) (ts : Trees) (p : Position) → PartsAllowed n (more_trees t ts) p → PartsAllowed n ts p
list_tail n t no_trees p m = tt
list_tail n t (more_trees u us) p m = m.1

pub list_fails : (ts : Trees) → some_part match_always_fails ts ≡ true → (n : ℕ) (p : Position) → PartsAllowed n ts p → MatchesNothing 4 (cat ts)
list_fails no_trees some n p m = absurd (false≢true some)
list_fails (more_trees t ts) some n p m = elim (cases_Bool (match_always_fails t)) [
  | inl is ↦
      let here = PartsAllowed-part n p no_trees ts t m in
      list_fails-first t ts (node_fails t is n here.0 here.1)
  | inr is_not ↦
      let others = sym (ap (λ b. b || some_part match_always_fails ts) is_not) ∙ some in
      list_fails-later t ts (list_fails ts others n p (list_tail n t ts p m))
]

-- a loop with at least one iteration whose body fails

iterations-none : (n : ℕ) → 1 ≤ n → (f : Matcher) → ((s : MatchState) → f s ≡ []) → (s : MatchState) → iterations n f s ≡ []
iterations-none zero least f none s = absurd (omega (arith, least))
iterations-none (suc n) least f none s = ap (flat_map (iterations n f)) (none s)

repeat-none : (bound : ℕ) (q : Quantifier) (start end : ℕ) (f : Matcher) → 1 ≤ q.min → ((s : MatchState) → f s ≡ []) → (s : MatchState) →
    repeat_matcher bound q start end f s ≡ []
unfolding repeat_matcher
repeat-none bound q start end f least none s =
    ap (flat_map (up_to q.greedy (extra_iterations bound q) (iteration start end f)))
    (iterations-none q.min least (iteration start end f) (λ t. none (unset start end t)) s)

pub wrapper_fails : (w : Wrapper) (body : Tree) → fails_by_part (wrapped w body) ≡ true → IsPart (wrapped w body) → MatchesNothing 4 (wrapped w body)
wrapper_fails (capture_group id name) body is part = absurd (false≢true is)
wrapper_fails (loop q start end) body is part =
    let both = and_parts (nat_le 1 q.min) (match_always_fails body) is in
    let inner = node_fails body both.1 part.0 inside part.2.2 in
    record {
      none = λ setting bytes d s. repeat-none (length bytes + 1) q start end (steps setting bytes d body) (leb-true 1 q.min both.0)
          (inner.none setting bytes d) s;
      heavy = omega (arith, inner.heavy);
    }
wrapper_fails (loop_one q) body is part = absurd (false≢true is)
wrapper_fails (lookaround negate backwards start end) body is part = absurd (false≢true is)

pub tree_fails : (t : Tree) → is_alt t ≡ false → fails_by_part t ≡ true → IsPart t → MatchesNothing 4 t
tree_fails (leaf l) other is part = absurd (false≢true is)
tree_fails (cat parts) other is part = list_fails parts is part.0 (last_of part.1) part.2.1
tree_fails (alt left right) other is part = absurd (true≢false other)
tree_fails (wrapped w body) other is part = wrapper_fails w body is part

-- ---- what replaces it

pub parts_free : (t : Tree) → fails_by_part t ≡ true → (n : ℕ) (p : Position) → IsAllowed n t p → NotAsOneCharacter p
parts_free (leaf l) is n p m = absurd (false≢true is)
parts_free (cat parts) is n p m = m.0
parts_free (alt left right) is n p m = m.0
parts_free (wrapped w body) is n p m = m.0

pub no_member : (greatest : ℕ) (p : Position) → NotAsOneCharacter p → IsSmallSet [] greatest p
no_member greatest p free = record { bounded = All-nil _; small = omega arith; some = AsOneCharacter-free p _ free }

-- the leaf matches nothing, may appear wherever the body of a `Loop1CharBody` may not, and is no bracket
pub record IsNothing (l : Leaf) : Type 0 where
  pub none : (setting : Setting) (bytes : List ℕ) (d : Direction) (s : MatchState) → steps setting bytes d (leaf l) s ≡ []
  pub occurs : (n : ℕ) (p : Position) → NotAsOneCharacter p → LeafIsAllowed n l p
  pub small : units_of_leaf l ≤ 1
  pub other : is_simplified_away (leaf l) ≡ false

no_byte_nothing : IsNothing (byte_set [])
no_byte_nothing = record {
  none = λ setting bytes d s. one_character-none d bytes (λ c. false) (λ c scalar. refl) s;
  occurs = λ n p free. no_member 127 p free;
  small = omega arith;
  other = refl;
}

pub nothing_keeps : (d : Direction) (t : Tree) (l : Leaf) → IsNothing l → fails_by_part t ≡ true → has_group t ≡ false → MatchesNothing 4 t →
    Keeps d t (leaf l)
nothing_keeps d t l nothing is free fails = record {
  meaning = λ setting text is_text. Alike-from_same (λ s.
      fails.none setting (encode_utf8_all text) d s ∙ sym (nothing.none setting (encode_utf8_all text) d s));
  occurs = λ n p m. nothing.occurs n p (parts_free t is n p m);
  captures = sym (captures-free t free);
  account = omega (arith, units-positive t, nothing.small);
  brackets = λ lacks. nothing.other;
}

-- an empty set of bytes may replace a node that fails by a part, has no capture group and is no `Alt`
pub fails_keeps : (d : Direction) (t : Tree) → is_alt t ≡ false → fails_by_part t ≡ true → has_group t ≡ false → IsPart t →
    Keeps d t (leaf (byte_set []))
fails_keeps d t other is free part = nothing_keeps d t (byte_set []) no_byte_nothing is free (tree_fails t other is part)

-- An `Alt`, by its sides.

inside_occurs : (n : ℕ) (t : Tree) (p : Position) → NotAsOneCharacter p → IsAllowed n t inside → IsAllowed n t p
inside_occurs n t p free m = IsAllowed-from_last n t p free (PartsAllowed-more n t no_trees p m tt)

module _ (d : Direction) (first second : Tree) where
  pub right_keeps : MatchesNothing 2 first → captures first ≡ [] → Keeps d (alt first second) second
  right_keeps fails none =
      Keeps-part (right_of first) d second
      (λ setting text is_text. Alike-from_same (λ s.
      ap (λ states. states ++ steps setting (encode_utf8_all text) d second s) (fails.none setting (encode_utf8_all text) d s)))
      (λ n p m. inside_occurs n second p m.0 m.2) (sym (ap (λ cs. cs ++ captures second) none))

  pub left_keeps : MatchesNothing 2 second → captures second ≡ [] → Keeps d (alt first second) first
  left_keeps fails none =
      Keeps-part (left_of second) d first
      (λ setting text is_text. Alike-from_same (λ s.
      ap (λ states. steps setting (encode_utf8_all text) d first s ++ states) (fails.none setting (encode_utf8_all text) d s)
      ∙ append-nil _))
      (λ n p m. inside_occurs n first p m.0 m.1) (sym (ap (λ cs. captures first ++ cs) none ∙ append-nil _))
