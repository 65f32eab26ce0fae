-- A statement about a call at a walk, transferred to an equal walk.
use Rattle.std.proofs.Common.{◌≡◌, ℕ, Bool}
use Rattle.regress_tree.specs.Tree.{Tree, Trees}
use Rattle.regress_tree.specs.Visits.{Visited, Inside, ListVisited}

module _ {State : Type 0} (Call : Bool → State → Tree → ℕ → Bool → State → Tree → Bool → Type 0) {unicode unicode' : Bool} {d d' : ℕ}
    {lookbehind lookbehind' : Bool} {a b : State} (same_unicode : unicode ≡ unicode') (same_depth : d ≡ d') (same_direction : lookbehind ≡ lookbehind') where
  pub called_there : {t u : Tree} {skip : Bool} → Call unicode a t d lookbehind b u skip → Call unicode' a t d' lookbehind' b u skip
  called_there call = rw (same_unicode, same_depth, same_direction) at call

  pub visited_there : {p : Bool} {t u : Tree} → Visited (Call unicode) p d lookbehind t u a b → Visited (Call unicode') p d' lookbehind' t u a b
  visited_there visited = rw (same_unicode, same_depth, same_direction) at visited

  pub inside_there : {p : Bool} {t u : Tree} → Inside (Call unicode) p d lookbehind t u a b → Inside (Call unicode') p d' lookbehind' t u a b
  inside_there inside = rw (same_unicode, same_depth, same_direction) at inside

  pub list_visited_there : {p : Bool} {ts us : Trees} → ListVisited (Call unicode) p d lookbehind ts us a b → ListVisited (Call unicode') p d' lookbehind' ts us a b
  list_visited_there visited = rw (same_unicode, same_depth, same_direction) at visited
