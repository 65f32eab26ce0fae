-- The loops around a node, and nested loops.
use Rattle.std.proofs.Common.{◌≡◌, ℕ, ◌≤◌, Bool, true, false, ◌&&◌, ◌||◌, List, [], ◌∷◌, ◌++◌, ◌+◌, Option, subst, refl, sym, ap, ap₂, ◌∙◌, arith}
use Rattle.std.specs.List.{list_any}
use Rattle.std.proofs.Math.Bool.{or-false, or_assoc}
use Rattle.std.proofs.lemmas.List.Folds.{list_any-append}
use Rattle.regress_front.specs.Shapes.{some_node, some_node_in_list, some_node_inside}
use Rattle.regress_front.specs.Tree.{Tree, Trees, leaf, cat, alt, wrapped, no_trees, more_trees}
use Rattle.regress_tree.specs.Inherited.{inherited, inherited_in_list}
use Rattle.example_callers.specs.Nested.{is_unbounded, is_unbounded_loop, has_nested, is_around, Watches}

-- -- all calls

-- what a node inherits: whether it is inside an unbounded loop
abbrev pub handed : Bool → Tree → Bool
handed around t = around || is_unbounded t

abbrev pub is_met : Bool × Tree → Bool
is_met p = p.0 && is_unbounded p.1

at_wrapper : (x u s n : Bool) → ((x && u) || (((x || u) && s) || n)) ≡ ((x && (u || s)) || ((u && s) || n))
at_wrapper true true s n = refl
at_wrapper true false s n = refl
at_wrapper false true s n = refl
at_wrapper false false s n = refl

at_two : (x s n s' n' : Bool) → (((x && s) || n) || ((x && s') || n')) ≡ ((x && (s || s')) || (n || n'))
at_two true true n s' n' = refl
at_two true false true s' n' = grind arith
at_two true false false s' n' = refl
at_two false s n s' n' = refl

at_part : (x : Bool) (p q : Bool → Bool) → p (x || false) ≡ q (x || false) → ((x && false) || p (x || false)) ≡ q x
at_part true p q same = same
at_part false p q same = same

at_none : (x : Bool) → ((x && false) || false) ≡ ((x && false) || (false && false))
at_none true = refl
at_none false = refl

at_nothing : (x : Bool) → false ≡ ((x && false) || false)
at_nothing true = refl
at_nothing false = refl

abbrev nested_in_list : Trees → Bool
nested_in_list = some_node_in_list (λ t. is_unbounded t && some_node_inside is_unbounded t)

mutual
  -- nested loops are found in a tree if it contains an unbounded loop and is inside one, or if it contains nested ones
  -- itself
  pub met_in : (around : Bool) (t : Tree) → list_any is_met (inherited handed around t) ≡ ((around && some_node is_unbounded t) || has_nested t)
  met_in around (leaf l) = at_none around
  met_in around (cat parts) =
      at_part around (λ x. list_any is_met (inherited_in_list handed x parts))
      (λ x. (x && some_node_in_list is_unbounded parts) || nested_in_list parts) (met_in_list (around || false) parts)
  met_in around (alt left right) =
      at_part around (λ x. list_any is_met (inherited handed x left ++ inherited handed x right))
      (λ x. (x && (some_node is_unbounded left || some_node is_unbounded right)) || (has_nested left || has_nested right))
      (list_any-append is_met (inherited handed (around || false) left) (inherited handed (around || false) right)
      ∙ ap₂ ◌||◌ (met_in (around || false) left) (met_in (around || false) right) ∙ at_two (around || false) _ _ _ _)
  met_in around (wrapped w body) =
      ap (λ b. (around && is_unbounded_loop w) || b) (met_in (around || is_unbounded_loop w) body)
      ∙ at_wrapper around (is_unbounded_loop w) (some_node is_unbounded body) (has_nested body)

  met_in_list : (around : Bool) (ts : Trees) → list_any is_met (inherited_in_list handed around ts)
      ≡ ((around && some_node_in_list is_unbounded ts) || nested_in_list ts)
  met_in_list around no_trees = at_nothing around
  met_in_list around (more_trees t ts) =
      list_any-append is_met (inherited handed around t) (inherited_in_list handed around ts)
      ∙ ap₂ ◌||◌ (met_in around t) (met_in_list around ts) ∙ at_two around _ _ _ _

-- -- calls in order

pub met_none : (b : Bool) → b ≡ (b || false)
met_none b = sym (or-false b)

pub met_more : (a b c : Bool) (ps qs : List (Bool × Tree)) → b ≡ (a || list_any is_met ps) → c ≡ (b || list_any is_met qs) →
    c ≡ (a || list_any is_met (ps ++ qs))
met_more a b c ps qs first second =
    second ∙ ap (λ x. x || list_any is_met qs) first ∙ or_assoc a (list_any is_met ps) (list_any is_met qs)
    ∙ ap (λ x. a || x) (sym (list_any-append is_met ps qs))

pub met_here : (depth : ℕ) (t : Tree) (old new : Option ℕ) (before after x : Bool) → Watches depth (is_unbounded t) old new before after →
    is_around depth old ≡ x → after ≡ (before || list_any is_met ((x, t) ∷ []))
met_here depth t old new before after x watches is =
    watches.met ∙ ap (λ b. before || b) (ap (λ b. b && is_unbounded t) is ∙ sym (or-false (x && is_unbounded t)))

pub around_inside : (depth : ℕ) (t : Tree) (old new : Option ℕ) (before after x : Bool) → Watches depth (is_unbounded t) old new before after →
    is_around depth old ≡ x → is_around (depth + 1) new ≡ handed x t
around_inside depth t old new before after x watches is = watches.inside (depth + 1) (omega arith) ∙ ap (λ b. b || is_unbounded t) is

pub around_outside : (depth : ℕ) (t : Tree) (old new : Option ℕ) (before after : Bool) (d : ℕ) (x : Bool) → d ≤ depth →
    Watches depth (is_unbounded t) old new before after → is_around d old ≡ x → is_around d new ≡ x
around_outside depth t old new before after d x up watches is = watches.outside d up ∙ is

-- a call on the tree at that depth
pub at_call : (d here : ℕ) (t shown : Tree) (old new : Option ℕ) (before after : Bool) → here ≡ d → shown ≡ t →
    Watches here (is_unbounded shown) old new before after → Watches d (is_unbounded t) old new before after
at_call d here t shown old new before after deep on watches =
    subst (λ (k : ℕ). Watches k (is_unbounded t) old new before after) deep
    (subst (λ (u : Tree). Watches here (is_unbounded u) old new before after) on watches)

-- starting with none found
pub from_none : (first : Bool) (t : Tree) → first ≡ false → (first || list_any is_met (inherited handed false t)) ≡ has_nested t
from_none first t none = ap (λ b. b || list_any is_met (inherited handed false t)) none ∙ met_in false t

pub reported_same : (reported last wanted : Bool) → reported ≡ last → last ≡ wanted → reported ≡ wanted
reported_same reported last wanted same is = same ∙ is
