-- The parts of a list, one by one.
use Rattle.std.proofs.Common.{◌≡◌, ℕ, ◌+◌, ◌<◌, ◌≤◌, Bool, List, [], ◌∷◌, ◌++◌, length, take, drop, get_or, set, Result, Ok, suc, sym, ap, subst, ◌∙◌, arith}
use Rattle.std.specs.declared.alloc.AllocError.{AllocError}
use Rattle.std.proofs.Math.Bool.{or-false}
use Rattle.std.proofs.Math.Seq.{split_at, drop-cons}
use Rattle.std.proofs.lemmas.List.{set_split, take_more_set, take-append-drop, drop-drop, drop-set-lt}
use Rattle.regress_tree.specs.declared.ir.node.Node.{Node}
use Rattle.regress_tree.specs.Reading.{Direction}
use Rattle.regress_tree.specs.Tree.{Tree, cat, append_trees, tree, trees}
use Rattle.regress_tree.specs.Units.{sizes, units, units_in_list}
use Rattle.regress_tree.specs.Shapes.{LacksShape, ListLacksShape, LacksInside}
use Rattle.regress_tree.proofs.lemmas.Lists.{trees-append}
use Rattle.regress_tree.proofs.lemmas.Measures.{total-append, ListLacksShape-append}
use Rattle.regress_tree.proofs.lemmas.TreeContexts.{TreeContext, among, put, LacksShape-part}
use Rattle.regress_rewrite.specs.Law.{IsPart, Keeps}
use Rattle.regress_rewrite.proofs.lemmas.Keeps.{IsPart-kept, IsPart-part}

module _ (now : List Node) (i : ℕ) (in_list : i < length now) where
  -- where part `i` is
  abbrev pub context : TreeContext
  context = among (trees (take i now)) (trees (drop (suc i) now))

  abbrev in_place : Node → List Node
  in_place node = take i now ++ node ∷ drop (suc i) now

  put_there : (node : Node) → cat (trees (in_place node)) ≡ put context (tree node)
  put_there node = ap cat (trees-append (take i now) (node ∷ drop (suc i) now))

  -- the list with another node at `i`
  pub list_set : (new : Node) → cat (trees (set now i new)) ≡ put context (tree new)
  list_set new = ap (λ nodes. cat (trees nodes)) (set_split now i new in_list) ∙ put_there new

  module _ (old : Node) (at : old ≡ get_or now i old) where
    pub list_at : cat (trees now) ≡ put context (tree old)
    list_at = ap (λ nodes. cat (trees nodes)) (split_at now i old in_list ∙ ap in_place (sym at)) ∙ put_there old

    pub IsPart-at : (d : Direction) (initial : Tree) → Keeps d initial (cat (trees now)) → IsPart initial → IsPart (tree old)
    IsPart-at d initial keeps part = IsPart-part context (tree old) (subst (λ (t : Tree). IsPart t) list_at (IsPart-kept d keeps part))

    pub units_at : (initial : List Node) → drop i now ≡ drop i initial → units (tree old) ≤ units_in_list (trees initial)
    units_at initial unvisited =
        let after = old ∷ drop (suc i) now in
        let rest : drop i initial ≡ after =
        sym unvisited ∙ drop-cons now i old in_list ∙ ap (λ n. n ∷ drop (suc i) now) (sym at) in
        let cut : initial ≡ take i initial ++ after = sym (take-append-drop i initial) ∙ ap (λ nodes. take i initial ++ nodes) rest in
        let whole : trees initial ≡ append_trees (trees (take i initial)) (trees after) =
        ap trees cut ∙ trees-append (take i initial) after in
        omega (arith, ap units_in_list whole, total-append sizes (trees (take i initial)) (trees after))

-- the parts after `i` are unchanged
pub unvisited-next : (now initial : List Node) (i : ℕ) (new : Node) → drop i now ≡ drop i initial →
    drop (i + 1) (set now i new) ≡ drop (i + 1) initial
unvisited-next now initial i new same =
    drop-set-lt (i + 1) now i new (omega arith) ∙ sym (drop-drop 1 i now) ∙ ap (drop 1) same ∙ drop-drop 1 i initial
