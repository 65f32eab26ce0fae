-- What the calls of a walk collect together, for a caller of `walk` whose calls collect something.
use Rattle.std.proofs.Common.{◌≡◌, ℕ, Bool, false, List, [], ◌++◌, refl, sym, ap, ap₂, subst}
use Rattle.std.proofs.lemmas.Bool.{false≢true}
use Rattle.regress_tree.specs.Tree.{Tree, Trees, leaf, cat, alt, wrapped, no_trees, more_trees}
use Rattle.regress_tree.specs.WellFormed.{captures, captures_of_trees, captures_of_wrapper}
use Rattle.regress_tree.specs.Visits.{Visited, before_children, without_children, Inside, in_leaf, in_cat, in_alt, in_wrapped, ListVisited, no_more, one_more}
use Rattle.regress_tree.specs.Gathered.{gathered, gathered_in_list, own_group}

-- Each call adds the items of its node, leaves the node unchanged and skips nothing. `Added a b xs` means that the
-- closure has collected xs between the states a and b.
pub record AddsOwn {State X : Type 0} (Call : State → Tree → ℕ → Bool → State → Tree → Bool → Type 0) (own : Tree → List X)
    (Added : State → State → List X → Type 0) : Type 0 where
  pub none : (a : State) → Added a a []
  pub joined : (a b c : State) (xs ys : List X) → Added a b xs → Added b c ys → Added a c (xs ++ ys)
  pub adds : (a b : State) (t u : Tree) (d : ℕ) (lookbehind skip : Bool) → Call a t d lookbehind b u skip → Added a b (own t)
  pub leaves : (a b : State) (t u : Tree) (d : ℕ) (lookbehind skip : Bool) → Call a t d lookbehind b u skip → u ≡ t
  pub goes_on : (a b : State) (t u : Tree) (d : ℕ) (lookbehind skip : Bool) → Call a t d lookbehind b u skip → skip ≡ false

module _ {State X : Type 0} (Call : State → Tree → ℕ → Bool → State → Tree → Bool → Type 0) (own : Tree → List X)
    (Added : State → State → List X → Type 0) (r : AddsOwn Call own Added) where
  mutual
    -- A walk in preorder adds the items of all nodes of the tree.
    pub visited_adds : (t u : Tree) (a b : State) (d : ℕ) (lookbehind : Bool) → Visited Call false d lookbehind t u a b → Added a b (gathered own t)
    visited_adds t u a c d lookbehind (before_children {left = left} {b = b} call inside) =
        let same = r.leaves a b t left d lookbehind false call in
        let here = subst (λ (x : Tree). Added a b (own x)) (sym same) (r.adds a b t left d lookbehind false call) in
        subst (λ (x : Tree). Added a c (gathered own x)) same (inside_adds left u a b c d lookbehind here inside)
    visited_adds t u a b d lookbehind (without_children call) = absurd (false≢true (sym (r.goes_on a b t u d lookbehind _ call)))

    inside_adds : (t u : Tree) (a b c : State) (d : ℕ) (lookbehind : Bool) → Added a b (own t) → Inside Call false d lookbehind t u b c →
        Added a c (gathered own t)
    inside_adds t u a b c d lookbehind here in_leaf = here
    inside_adds t u a b c d lookbehind here (in_cat {ts = ts} {us = us} list) =
        r.joined a b c (own t) (gathered_in_list own ts) here (list_adds ts us b c _ lookbehind list)
    inside_adds t u a b c d lookbehind here (in_alt {left = left} {left' = left'} {right = right} {right' = right'} {b = m} first second) =
        r.joined a b c (own t) _ here
        (r.joined b m c (gathered own left) (gathered own right) (visited_adds left left' b m _ lookbehind first)
        (visited_adds right right' m c _ lookbehind second))
    inside_adds t u a b c d lookbehind here (in_wrapped {t = body} {u = body'} inner) =
        r.joined a b c (own t) _ here (visited_adds body body' b c _ _ inner)

    list_adds : (ts us : Trees) (a b : State) (d : ℕ) (lookbehind : Bool) → ListVisited Call false d lookbehind ts us a b →
        Added a b (gathered_in_list own ts)
    list_adds ts us a b d lookbehind no_more = r.none a
    list_adds ts us a c d lookbehind (one_more {t = t} {u = u} {ts = ts'} {us = us'} {b = b} first rest) =
        r.joined a b c (gathered own t) (gathered_in_list own ts') (visited_adds t u a b d lookbehind first) (list_adds ts' us' b c d lookbehind rest)

-- ---- capture groups

mutual
  -- The groups of all nodes are those of the tree.
  pub gathered-groups : (t : Tree) → gathered own_group t ≡ captures t
  gathered-groups (leaf l) = refl
  gathered-groups (cat parts) = gathered_in_list-groups parts
  gathered-groups (alt left right) = ap₂ ◌++◌ (gathered-groups left) (gathered-groups right)
  gathered-groups (wrapped w body) = ap (λ cs. captures_of_wrapper w ++ cs) (gathered-groups body)

  gathered_in_list-groups : (ts : Trees) → gathered_in_list own_group ts ≡ captures_of_trees ts
  gathered_in_list-groups no_trees = refl
  gathered_in_list-groups (more_trees t ts) = ap₂ ◌++◌ (gathered-groups t) (gathered_in_list-groups ts)
