-- What the calls of a walk find around each node, for a caller of `walk` that keeps track of it.
use Rattle.std.proofs.Common.{◌≡◌, ℕ, ◌+◌, ◌≤◌, Bool, false, List, [], ◌∷◌, ◌++◌, sym, subst, arith}
use Rattle.std.proofs.lemmas.Bool.{false≢true}
use Rattle.regress_tree.specs.Tree.{Tree, Trees, leaf, cat, alt, wrapped}
use Rattle.regress_tree.specs.Measures.{nesting, nesting_of_deepest}
use Rattle.regress_tree.specs.Visits.{Visited, before_children, without_children, Inside, in_leaf, in_cat, in_alt, in_wrapped, ListVisited, no_more, one_more, deeper}
use Rattle.regress_tree.specs.Inherited.{inherited, inherited_in_list}

-- Each call leaves the node unchanged and skips nothing. `PartContext a d x` means that in state a the closure has recorded
-- x as what a node at depth d inherits. The call on that node t adds the node with x, and records `handed x t` for its
-- children; what was recorded for depths up to d stays. `Added a b ps` means that the closure has added these pairs
-- between the states a and b.
pub record HandsDown {State X : Type 0} (Call : State → Tree → ℕ → Bool → State → Tree → Bool → Type 0) (handed : X → Tree → X)
    (PartContext : State → ℕ → X → Type 0) (Added : State → State → List (X × Tree) → Type 0) : Type 0 where
  pub none : (a : State) → Added a a []
  pub joined : (a b c : State) (ps qs : List (X × Tree)) → Added a b ps → Added b c qs → Added a c (ps ++ qs)
  pub adds : (a b : State) (t u : Tree) (d : ℕ) (lookbehind skip : Bool) (x : X) → PartContext a d x → Call a t d lookbehind b u skip →
      Added a b ((x, t) ∷ [])
  pub hands_down : (a b : State) (t u : Tree) (d : ℕ) (lookbehind skip : Bool) (x : X) → PartContext a d x → Call a t d lookbehind b u skip →
      PartContext b (d + 1) (handed x t)
  pub keeps : (a b : State) (t u : Tree) (d : ℕ) (lookbehind skip : Bool) (e : ℕ) (x : X) → e ≤ d → PartContext a e x →
      Call a t d lookbehind b u skip → PartContext b e x
  pub leaves : (a b : State) (t u : Tree) (d : ℕ) (lookbehind skip : Bool) → Call a t d lookbehind b u skip → u ≡ t
  pub goes_on : (a b : State) (t u : Tree) (d : ℕ) (lookbehind skip : Bool) → Call a t d lookbehind b u skip → skip ≡ false

some_level : (t : Tree) → 1 ≤ nesting t
some_level (leaf l) = omega arith
some_level (cat parts) = omega arith
some_level (alt left right) = omega arith
some_level (wrapped w body) = omega arith

-- the greatest depth that is counted
abbrev deepest : ℕ
deepest = 18446744073709551615

module _ {State X : Type 0} (Call : State → Tree → ℕ → Bool → State → Tree → Bool → Type 0) (handed : X → Tree → X)
    (PartContext : State → ℕ → X → Type 0) (Added : State → State → List (X × Tree) → Type 0) (r : HandsDown Call handed PartContext Added) where
  mutual
    -- What is recorded for depths up to that of a tree stays recorded after the visits to the tree.
    visited_keeps : (t u : Tree) (a b : State) (d : ℕ) (lookbehind : Bool) (e : ℕ) (x : X) → e ≤ d → e ≤ deepest → PartContext a e x →
        Visited Call false d lookbehind t u a b → PartContext b e x
    visited_keeps t u a c d lookbehind e x up fits around (before_children {left = left} {b = b} call inside) =
        inside_keeps left u b c d lookbehind e x up fits (r.keeps a b t left d lookbehind false e x up around call) inside
    visited_keeps t u a b d lookbehind e x up fits around (without_children call) = r.keeps a b t u d lookbehind _ e x up around call

    inside_keeps : (t u : Tree) (a b : State) (d : ℕ) (lookbehind : Bool) (e : ℕ) (x : X) → e ≤ d → e ≤ deepest → PartContext a e x →
        Inside Call false d lookbehind t u a b → PartContext b e x
    inside_keeps t u a b d lookbehind e x up fits around in_leaf = around
    inside_keeps t u a b d lookbehind e x up fits around (in_cat {ts = ts} {us = us} list) =
        list_keeps ts us a b _ lookbehind e x (omega arith) fits around list
    inside_keeps t u a c d lookbehind e x up fits around
        (in_alt {left = left} {left' = left'} {right = right} {right' = right'} {b = b} first second) =
        visited_keeps right right' b c _ lookbehind e x (omega arith) fits
        (visited_keeps left left' a b _ lookbehind e x (omega arith) fits around first) second
    inside_keeps t u a b d lookbehind e x up fits around (in_wrapped {t = body} {u = body'} inner) =
        visited_keeps body body' a b _ _ e x (omega arith) fits around inner

    list_keeps : (ts us : Trees) (a b : State) (d : ℕ) (lookbehind : Bool) (e : ℕ) (x : X) → e ≤ d → e ≤ deepest → PartContext a e x →
        ListVisited Call false d lookbehind ts us a b → PartContext b e x
    list_keeps ts us a b d lookbehind e x up fits around no_more = around
    list_keeps ts us a c d lookbehind e x up fits around (one_more {t = t} {u = u} {ts = ts'} {us = us'} {b = b} first rest) =
        list_keeps ts' us' b c d lookbehind e x up fits (visited_keeps t u a b d lookbehind e x up fits around first) rest

  mutual
    -- A walk in preorder adds what the nodes of the tree inherit, if no depth exceeds the greatest one.
    pub visited_inherits : (t u : Tree) (a b : State) (d : ℕ) (lookbehind : Bool) (x : X) → d + nesting t ≤ deepest + 1 → PartContext a d x →
        Visited Call false d lookbehind t u a b → Added a b (inherited handed x t)
    visited_inherits t u a c d lookbehind x fits around (before_children {left = left} {b = b} call inside) =
        let same : left ≡ t = r.leaves a b t left d lookbehind false call in
        let on : Call a left d lookbehind b left false = subst (λ (v : Tree). Call a v d lookbehind b left false) (sym same) call in
        subst (λ (v : Tree). Added a c (inherited handed x v)) same
        (inside_inherits left u a b c d lookbehind x (subst (λ (v : Tree). d + nesting v ≤ deepest + 1) (sym same) fits) around on inside)
    visited_inherits t u a b d lookbehind x fits around (without_children call) =
        absurd (false≢true (sym (r.goes_on a b t u d lookbehind _ call)))

    inside_inherits : (t u : Tree) (a b c : State) (d : ℕ) (lookbehind : Bool) (x : X) → d + nesting t ≤ deepest + 1 → PartContext a d x →
        Call a t d lookbehind b t false → Inside Call false d lookbehind t u b c → Added a c (inherited handed x t)
    inside_inherits t u a b c d lookbehind x fits around call in_leaf = r.adds a b t t d lookbehind false x around call
    inside_inherits t u a b c d lookbehind x fits around call (in_cat {ts = ts} {us = us} list) =
        let y = handed x (cat ts) in
        let below : 1 ≤ nesting_of_deepest ts → PartContext b (deeper d) y =
        λ some.
        let down : deeper d ≡ d + 1 = omega arith in
        rw down (r.hands_down a b (cat ts) _ d lookbehind false x around call) in
        r.joined a b c ((x, cat ts) ∷ []) (inherited_in_list handed y ts) (r.adds a b (cat ts) _ d lookbehind false x around call)
        (list_inherits ts us b c (deeper d) lookbehind y (omega arith) below list)
    inside_inherits t u a b c d lookbehind x fits around call
        (in_alt {left = left} {left' = left'} {right = right} {right' = right'} {b = m} first second) =
        let y = handed x (alt left right) in
        let some : 1 ≤ nesting left = some_level left in
        let down : deeper d ≡ d + 1 = omega arith in
        let below : PartContext b (deeper d) y = rw down (r.hands_down a b (alt left right) _ d lookbehind false x around call) in
        let below' : PartContext m (deeper d) y = visited_keeps left left' b m (deeper d) lookbehind (deeper d) y (omega arith) (omega arith) below first in
        r.joined a b c ((x, alt left right) ∷ []) (inherited handed y left ++ inherited handed y right)
        (r.adds a b (alt left right) _ d lookbehind false x around call)
        (r.joined b m c (inherited handed y left) (inherited handed y right)
        (visited_inherits left left' b m (deeper d) lookbehind y (omega arith) below first)
        (visited_inherits right right' m c (deeper d) lookbehind y (omega arith) below' second))
    inside_inherits t u a b c d lookbehind x fits around call (in_wrapped {w = w} {t = body} {u = body'} inner) =
        let y = handed x (wrapped w body) in
        let some : 1 ≤ nesting body = some_level body in
        let down : deeper d ≡ d + 1 = omega arith in
        let below : PartContext b (deeper d) y = rw down (r.hands_down a b (wrapped w body) _ d lookbehind false x around call) in
        r.joined a b c ((x, wrapped w body) ∷ []) (inherited handed y body)
        (r.adds a b (wrapped w body) _ d lookbehind false x around call)
        (visited_inherits body body' b c (deeper d) _ y (omega arith) below inner)

    -- An empty list needs no record.
    list_inherits : (ts us : Trees) (a b : State) (d : ℕ) (lookbehind : Bool) (x : X) → d + nesting_of_deepest ts ≤ deepest + 1 →
        (1 ≤ nesting_of_deepest ts → PartContext a d x) → ListVisited Call false d lookbehind ts us a b → Added a b (inherited_in_list handed x ts)
    list_inherits ts us a b d lookbehind x fits around no_more = r.none a
    list_inherits ts us a c d lookbehind x fits around (one_more {t = t} {u = u} {ts = ts'} {us = us'} {b = b} first rest) =
        let some : 1 ≤ nesting t = some_level t in
        let here : PartContext a d x = around (omega arith) in
        let lookbehind' : PartContext b d x = visited_keeps t u a b d lookbehind d x (omega arith) (omega arith) here first in
        r.joined a b c (inherited handed x t) (inherited_in_list handed x ts')
        (visited_inherits t u a b d lookbehind x (omega arith) here first) (list_inherits ts' us' b c d lookbehind x (omega arith) (λ _. lookbehind') rest)
