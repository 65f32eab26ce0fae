-- Splicing keeps what the law requires.
use Rattle.std.proofs.Common.{◌≡◌, ℕ, ◌<◌, ◌≤◌, Bool, true, false, ◌||◌, ◌++◌, inl, inr, refl, sym, ap, ap₂, subst, ◌∙◌, append-nil, arith, le_refl, List, Result, Ok, Err}
use Rattle.std.specs.Prelude.{encode_utf8_all, IfOk}
use Rattle.std.specs.declared.alloc.AllocError.{AllocError}
use Rattle.std.specs.List.{flat_map}
use Rattle.std.proofs.Math.Bool.{or-false}
use Rattle.std.proofs.lemmas.Bool.{false≢true, or_right}
use mathlib.Core.Path.{fun_ext}
use Rattle.regress_tree.specs.Reading.{Direction}
use Rattle.regress_tree.specs.Steps.{MatchState, Setting}
use Rattle.regress_tree.specs.Tree.{Tree, Trees, leaf, cat, alt, wrapped, no_trees, more_trees, tree}
use Rattle.regress_tree.specs.Matching.{steps, steps_of_parts}
use Rattle.regress_tree.specs.WellFormed.{Position, inside, last_of, IsAllowed, PartsAllowed, captures, captures_of_trees}
use Rattle.regress_tree.specs.Measures.{Measure, total, total_in_list}
use Rattle.regress_tree.specs.Units.{sizes, unrollables, weights}
use Rattle.regress_tree.specs.Shapes.{is_simplified_away, some_node, some_node_in_list, has_cat, is_short, is_flattened_away}
use Rattle.regress_tree.proofs.lemmas.Alike.{Alike-from_same}
use Rattle.regress_tree.proofs.lemmas.Outcomes.{flat_map-stay}
use Rattle.regress_tree.proofs.lemmas.Measures.{some_node-append, total-append, IsLess-lighter}
use Rattle.regress_tree.proofs.lemmas.Lists.{append_trees-none, steps-append, captures-append, PartsAllowed-last_of, PartsAllowed-append}
use Rattle.regress_rewrite.specs.declared.action.PassAction.{PassAction}
use Rattle.regress_rewrite.specs.declared.action.PassAction.TheVariants.{Keep, Modified, Remove, Replace}
use Rattle.regress_rewrite.specs.Law.{Keeps, ObeysLaw}
use Rattle.regress_rewrite.specs.Splice.{parts_of, spliced}
use Rattle.regress_rewrite.specs.Taken.{IsOnlyPart}
use Rattle.regress_rewrite.proofs.lemmas.Lawful.{alone_keeps, keep_lawful, modified_lawful, replace_lawful}

-- Where the parts may appear.

pub parts_of-occur : (n : ℕ) (t : Tree) (p : Position) → IsAllowed n t (last_of p) → PartsAllowed n (parts_of t) (last_of p)
parts_of-occur n (leaf l) p m = m
parts_of-occur n (cat parts) p m = PartsAllowed-last_of n parts p m.1
parts_of-occur n (alt left right) p m = m
parts_of-occur n (wrapped w body) p m = m

pub spliced-occur : (n : ℕ) (ts : Trees) (p : Position) → PartsAllowed n ts (last_of p) → PartsAllowed n (spliced ts) (last_of p)
spliced-occur n no_trees p m = tt
spliced-occur n (more_trees t no_trees) p m =
    subst (λ (us : Trees). PartsAllowed n us (last_of p)) (sym (append_trees-none (parts_of t))) (parts_of-occur n t p m)
spliced-occur n (more_trees t (more_trees u ts)) p m =
    let later = spliced-occur n (more_trees u ts) p m.1 in
    PartsAllowed-append n (parts_of t) (spliced (more_trees u ts)) p (parts_of-occur n t inside m.0) later

-- Outcomes.

module _ (setting : Setting) (bytes : List ℕ) (d : Direction) where
  pub steps-parts_of : (t : Tree) (s : MatchState) → steps_of_parts setting bytes d (parts_of t) s ≡ steps setting bytes d t s
  steps-parts_of (leaf l) s = flat_map-stay _
  steps-parts_of (cat parts) s = refl
  steps-parts_of (alt left right) s = flat_map-stay _
  steps-parts_of (wrapped w body) s = flat_map-stay _

  pub steps-spliced : (ts : Trees) (s : MatchState) → steps_of_parts setting bytes d (spliced ts) s ≡ steps_of_parts setting bytes d ts s
  steps-spliced no_trees s = refl
  steps-spliced (more_trees t ts) s =
      steps-append setting bytes d (parts_of t) (spliced ts) s
      ∙ ap₂ flat_map (fun_ext (steps-spliced ts)) (steps-parts_of t s)

-- Captures and sizes.

pub captures-parts_of : (t : Tree) → captures_of_trees (parts_of t) ≡ captures t
captures-parts_of (leaf l) = refl
captures-parts_of (cat parts) = refl
captures-parts_of (alt left right) = append-nil _
captures-parts_of (wrapped w body) = append-nil _

pub captures-spliced : (ts : Trees) → captures_of_trees (spliced ts) ≡ captures_of_trees ts
captures-spliced no_trees = refl
captures-spliced (more_trees t ts) = captures-append (parts_of t) (spliced ts) ∙ ap₂ ◌++◌ (captures-parts_of t) (captures-spliced ts)

module _ (m : Measure) where
  pub total-parts_of : (t : Tree) → total_in_list m (parts_of t) ≤ total m t
  total-parts_of (leaf l) = omega arith
  total-parts_of (cat parts) = omega arith
  total-parts_of (alt left right) = omega arith
  total-parts_of (wrapped w body) = omega arith

  pub total-spliced : (ts : Trees) → total_in_list m (spliced ts) ≤ total_in_list m ts
  total-spliced no_trees = le_refl _
  total-spliced (more_trees t ts) = omega (arith, total-append m (parts_of t) (spliced ts), total-parts_of t, total-spliced ts)

-- splicing keeps the result of a test that every `Cat` fails
module _ (test : Tree → Bool) (no_cat : (ts : Trees) → test (cat ts) ≡ false) where
  some_node-parts_of : (t : Tree) → some_node_in_list test (parts_of t) ≡ some_node test t
  some_node-parts_of (leaf l) = or-false _
  some_node-parts_of (cat parts) = sym (ap (λ b. b || some_node_in_list test parts) (no_cat parts))
  some_node-parts_of (alt left right) = or-false _
  some_node-parts_of (wrapped w body) = or-false _

  pub some_node-spliced : (ts : Trees) → some_node_in_list test (spliced ts) ≡ some_node_in_list test ts
  some_node-spliced no_trees = refl
  some_node-spliced (more_trees t ts) =
      some_node-append test (parts_of t) (spliced ts) ∙ ap₂ ◌||◌ (some_node-parts_of t) (some_node-spliced ts)

pub spliced_keeps : (d : Direction) (ts : Trees) → Keeps d (cat ts) (cat (spliced ts))
spliced_keeps d ts = record {
  meaning = λ setting text is_text. Alike-from_same (λ s. sym (steps-spliced setting (encode_utf8_all text) d ts s));
  occurs = λ n p m. (m.0, spliced-occur n ts p m.1);
  captures = captures-spliced ts;
  account = omega (arith, total-spliced sizes ts, total-spliced unrollables ts);
  brackets = λ lacks. some_node-spliced is_simplified_away (λ us. refl) ts ∙ lacks;
}
