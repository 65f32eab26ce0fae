-- A list of parts keeps what the law requires when parts are removed that match only the empty text and have no group.
use Rattle.std.proofs.Common.{◌≡◌, ℕ, ◌<◌, ◌≤◌, Bool, true, false, ◌||◌, ◌++◌, List, [], inl, inr, refl, sym, ap, ap₂, ◌∙◌, append-nil, le_refl, arith}
use Rattle.std.specs.Prelude.{encode_utf8_all}
use Rattle.std.specs.List.{flat_map}
use Rattle.std.proofs.lemmas.Bool.{cases_Bool, or_parts, false≢true}
use mathlib.Core.Path.{fun_ext}
use Rattle.regress_tree.specs.Measures.{Measure, total_in_list}
use Rattle.regress_tree.specs.Matching.{steps, steps_of_parts}
use Rattle.regress_tree.specs.Reading.{Direction}
use Rattle.regress_tree.specs.Shapes.{some_node, some_node_in_list, some_part, is_simplified_away, ListLacksShape}
use Rattle.regress_tree.specs.Steps.{MatchState, stay, Setting}
use Rattle.regress_tree.specs.Tree.{Tree, Trees, cat, no_trees, more_trees}
use Rattle.regress_tree.specs.Units.{sizes, unrollables, weights, IsLess}
use Rattle.regress_tree.specs.WellFormed.{Position, last_of, captures, captures_of_trees, PartsAllowed}
use Rattle.regress_tree.proofs.lemmas.Alike.{Alike-from_same}
use Rattle.regress_tree.proofs.lemmas.Measures.{IsLess-lighter, weight-positive}
use Rattle.regress_tree.proofs.lemmas.Lists.{PartsAllowed-more}
use Rattle.regress_rewrite.specs.Law.{Keeps}
use Rattle.regress_rewrite.specs.Taken.{list_without}

module _ (test : Tree → Bool) where
  -- what holds of a list with one more tree, removed or not
  with_first : (P : Trees → Type 0) (t : Tree) (ts : Trees) → (test t ≡ true → P (list_without test ts)) →
      (test t ≡ false → P (more_trees t (list_without test ts))) → P (list_without test (more_trees t ts))
  with_first P t ts out stays = elim (cases_Bool (test t)) [
    | inl is ↦ rw is (out is)
    | inr is_not ↦ rw is_not (stays is_not)
  ]

  without-occur : (n : ℕ) (ts : Trees) (p : Position) → PartsAllowed n ts (last_of p) → PartsAllowed n (list_without test ts) (last_of p)
  without-occur n no_trees p m = tt
  without-occur n (more_trees t no_trees) p m =
      with_first (λ us. PartsAllowed n us (last_of p)) t no_trees (λ is. tt) (λ is_not. m)
  without-occur n (more_trees t (more_trees u us)) p m =
      let later = without-occur n (more_trees u us) p m.1 in
      with_first (λ vs. PartsAllowed n vs (last_of p)) t (more_trees u us) (λ is. later)
      (λ is_not. PartsAllowed-more n t (list_without test (more_trees u us)) p m.0 later)

  without-total : (m : Measure) (ts : Trees) → total_in_list m (list_without test ts) ≤ total_in_list m ts
  without-total m no_trees = le_refl _
  without-total m (more_trees t ts) =
      let later = without-total m ts in
      with_first (λ us. total_in_list m us ≤ total_in_list m (more_trees t ts)) t ts (λ is. omega arith) (λ is_not. omega arith)

  -- a list that lost a tree has less weight
  without-lighter : (ts : Trees) → some_part test ts ≡ true → total_in_list weights (list_without test ts) < total_in_list weights ts
  without-lighter no_trees some = absurd (false≢true some)
  without-lighter (more_trees t ts) some =
      let later = without-total weights ts in
      with_first (λ us. total_in_list weights us < total_in_list weights (more_trees t ts)) t ts
      (λ is. omega (arith, later, weight-positive t))
      (λ is_not. omega (arith, without-lighter ts (sym (ap (λ b. b || some_part test ts) is_not) ∙ some)))

  pub without-less : (ts : Trees) → some_part test ts ≡ true → IsLess (cat (list_without test ts)) (cat ts)
  without-less ts some = IsLess-lighter (cat (list_without test ts)) (cat ts) (omega (arith, without-total unrollables ts))
      (omega (arith, without-lighter ts some))

  without-lacks : (shape : Tree → Bool) (ts : Trees) → ListLacksShape shape ts → ListLacksShape shape (list_without test ts)
  without-lacks shape no_trees lacks = refl
  without-lacks shape (more_trees t ts) lacks =
      let parts = or_parts (some_node shape t) (some_node_in_list shape ts) lacks in
      let later = without-lacks shape ts parts.1 in
      with_first (λ us. ListLacksShape shape us) t ts (λ is. later) (λ is_not. ap₂ ◌||◌ parts.0 later)

  module _ (none : (t : Tree) → test t ≡ true → captures t ≡ []) where
    without-captures : (ts : Trees) → captures_of_trees (list_without test ts) ≡ captures_of_trees ts
    without-captures no_trees = refl
    without-captures (more_trees t ts) =
        let later = without-captures ts in
        with_first (λ us. captures_of_trees us ≡ captures_of_trees (more_trees t ts)) t ts
        (λ is. later ∙ ap (λ cs. cs ++ captures_of_trees ts) (sym (none t is))) (λ is_not. ap (λ cs. captures t ++ cs) later)

    module _ (d : Direction)
        (stays : (setting : Setting) (bytes : List ℕ) (t : Tree) → test t ≡ true → (s : MatchState) → steps setting bytes d t s ≡ stay s) where
      without-steps : (setting : Setting) (bytes : List ℕ) (ts : Trees) (s : MatchState) →
          steps_of_parts setting bytes d (list_without test ts) s ≡ steps_of_parts setting bytes d ts s
      without-steps setting bytes no_trees s = refl
      without-steps setting bytes (more_trees t ts) s =
          with_first (λ us. steps_of_parts setting bytes d us s ≡ steps_of_parts setting bytes d (more_trees t ts) s) t ts
          (λ is. without-steps setting bytes ts s
          ∙ sym (ap (flat_map (steps_of_parts setting bytes d ts)) (stays setting bytes t is s) ∙ append-nil _))
          (λ is_not. ap (λ f. flat_map f (steps setting bytes d t s)) (fun_ext (without-steps setting bytes ts)))

      pub without_keeps : (ts : Trees) → Keeps d (cat ts) (cat (list_without test ts))
      without_keeps ts = record {
        meaning = λ setting text is_text. Alike-from_same (λ s. sym (without-steps setting (encode_utf8_all text) ts s));
        occurs = λ n p m. (m.0, without-occur n ts p m.1);
        captures = without-captures ts;
        account = omega (arith, without-total sizes ts, without-total unrollables ts);
        brackets = without-lacks is_simplified_away ts;
      }
