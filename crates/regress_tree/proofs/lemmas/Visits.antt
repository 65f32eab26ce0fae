-- Composition of visits.
use Rattle.std.proofs.Common.{◌≡◌, ℕ, zero, suc, ◌+◌, ◌-◌, ◌/◌, ◌<◌, ◌≤◌, min, Bool, true, false, refl, sym, ap, ◌∙◌, arith, rules, Box, Global, List, [], ◌∷◌, length, get_or, set, take, drop, le_refl}
use Rattle.std.proofs.lemmas.List.{drop_more, drop-drop, drop-set-lt, take_more_set}
use Rattle.regress_tree.proofs.lemmas.Lists.{append_trees-assoc, trees-append}
use Rattle.std.proofs.Math.Nat.{add-zero, add-suc}
use Rattle.std.proofs.Math.Numerals.{add-one}
use Rattle.regress_tree.specs.declared.ir.node.Node.{Node, size-Node, the_lemmas}
use Rattle.regress_tree.specs.declared.ir.node.Node.TheVariants.{Alt}
use Rattle.regress_tree.proofs.lemmas.Nodes.{tree-Alt}
use Rattle.regress_tree.specs.Tree.{Tree, Trees, more_trees, append_trees, leaf, cat, alt, wrapped, tree, trees}
use Rattle.std.proofs.lemmas.Bool.{false≢true}
use Rattle.regress_tree.specs.Copies.{is_leaf}
use Rattle.regress_tree.specs.Visits.{Visited, before_children, after_children, Inside, in_leaf, in_alt, deeper, nodes, nodes_in_list, CallsMut, AddsNoNodes}
use Rattle.regress_tree.specs.Climbs.{Climbed, ClimbedMut, further, right_side, down}
use Rattle.regress_tree.specs.declared.ir.walker.Walk.{Walk}
use Rattle.std.specs.Borrow.{MutBor}
use Rattle.regress_tree.specs.Spine.{Shifted, reattach, spine_length}

-- the depth as one sum
pub further-sum : (k depth : ℕ) → 0 < k → min (depth + k) 18446744073709551615 ≡ further k depth
further-sum zero depth some = elim some [ ]
further-sum (suc zero) depth some = refl
further-sum (suc (suc k)) depth some = omega (arith, further-sum (suc k) depth (omega arith))

pub further-inside : (k j depth here : ℕ) → k ≡ j → here ≡ min (depth + k) 18446744073709551615 → (k ≡ 0 → here ≡ depth) →
    here ≡ further j depth
further-inside k zero depth here same sum none = none same
further-inside k (suc j) depth here same sum none = sum ∙ rw same (further-sum (suc j) depth (omega arith))

further-twice : (j k depth : ℕ) → further k (further j depth) ≡ further (j + k) depth
further-twice j zero depth = rw add-zero refl
further-twice j (suc k) depth = ap deeper (further-twice j k depth) ∙ ap (λ n. further n depth) (sym (add-suc j k))

-- The right side of an `Alt` is smaller.
pub right_smaller : (node : Node) (left right : Box Node Global) → node ≡ Alt left right → size-Node right.value ≤ size-Node node
right_smaller node left right is = search (rules, the_lemmas)

down-twice : (j k : ℕ) (t : Tree) → down k (down j t) ≡ down (j + k) t
down-twice j zero t = rw add-zero refl
down-twice j (suc k) t = rw add-suc (ap right_side (down-twice j k t))

pub further_next : (k here depth : ℕ) → here ≡ further k depth → deeper here ≡ further (k + 1) depth
further_next k here depth is = ap deeper is ∙ ap (λ n. further n depth) (sym (add-one k))

pub down_next : (node : Node) (left right : Box Node Global) (k : ℕ) (t : Tree) → node ≡ Alt left right → tree node ≡ down k t →
    tree right.value ≡ down (k + 1) t
down_next node left right k t is below = rw add-one (sym (ap right_side (ap tree is ∙ tree-Alt left right)) ∙ ap right_side below)

-- ---- a list of nodes, of which one is visited

nodes_drop : (i : ℕ) (nodes' : List Node) → nodes_in_list (trees (drop i nodes')) ≤ nodes_in_list (trees nodes')
nodes_drop zero nodes' = le_refl _
nodes_drop (suc i) [] = le_refl _
nodes_drop (suc i) (node ∷ rest) = omega (arith, nodes_drop i rest)

module _ (now old : List Node) (i : ℕ) (in_list : i < length now) (node : Node) (at : node ≡ get_or now i node)
    (unvisited : drop i now ≡ drop i old) where
  -- The list of unvisited nodes begins with the node.
  pub next_is : drop i old ≡ node ∷ drop (i + 1) old
  next_is =
      let here : drop i now ≡ node ∷ drop (i + 1) now = drop_more now i node in_list ∙ ap (λ n. n ∷ drop (i + 1) now) (sym at) in
      let rest : drop (i + 1) now ≡ drop (i + 1) old =
      sym (drop-drop 1 i now) ∙ ap (drop 1) unvisited ∙ drop-drop 1 i old in
      sym unvisited ∙ here ∙ ap (λ ns. node ∷ ns) rest

  pub nodes_next : nodes (tree node) ≤ nodes_in_list (trees old)
  nodes_next = omega (arith, ap (λ ns. nodes_in_list (trees ns)) next_is, nodes_drop i old)

  module _ (new : Node) where
    pub unvisited_next : drop (i + 1) (set now i new) ≡ drop (i + 1) old
    unvisited_next =
        drop-set-lt (i + 1) now i new (omega arith) ∙ sym (drop-drop 1 i now) ∙ ap (drop 1) unvisited ∙ drop-drop 1 i old

    pub visited_next : (ts : Trees) →
        append_trees (trees (take (i + 1) (set now i new))) ts ≡ append_trees (trees (take i now)) (more_trees (tree new) ts)
    visited_next ts =
        ap (λ ns. append_trees (trees ns) ts) (take_more_set now i new in_list)
        ∙ ap (λ us. append_trees us ts) (trees-append (take i now) (new ∷ []))
        ∙ append_trees-assoc (trees (take i now)) (trees (new ∷ [])) ts

module _ {State : Type 0} (Call : State → Tree → ℕ → Bool → State → Tree → Bool → Type 0) where
  Climbed-both : (j k depth : ℕ) (lookbehind : Bool) (t : Tree) (a b c : State) →
      Climbed Call k (further j depth) lookbehind (down j t) a b → Climbed Call j depth lookbehind t b c → Climbed Call (j + k) depth lookbehind t a c
  Climbed-both j zero depth lookbehind t a b c lower upper = rw (add-zero, lower) upper
  Climbed-both j (suc k) depth lookbehind t a b c lower upper =
      let call = rw (further-twice j k depth, down-twice j k t) at lower.2 in
      rw add-suc (lower.0, lower.1, call, Climbed-both j k depth lookbehind t lower.0 b c lower.3 upper)

  -- the calls on the lower half of the nodes, and then on the upper half
  pub Climbed-two : (n depth : ℕ) (lookbehind : Bool) (t : Tree) (a b c : State) → 1 < n →
      Climbed Call (n - n / 2) (min (depth + n / 2) 18446744073709551615) lookbehind (down (n / 2) t) a b →
      Climbed Call (n / 2) depth lookbehind t b c → Climbed Call n depth lookbehind t a c
  Climbed-two n depth lookbehind t a b c some lower upper =
      let parts : n / 2 + (n - n / 2) ≡ n = omega arith in
      let lower' = rw (further-sum (n / 2) depth (omega (arith, some))) at lower in
      rw parts at (Climbed-both (n / 2) (n - n / 2) depth lookbehind t a b c lower' upper)

  -- one call
  pub Climbed-one : (n depth : ℕ) (lookbehind skip : Bool) (t : Tree) (a b : State) → n ≡ 1 → Call a t depth lookbehind b t skip →
      Climbed Call n depth lookbehind t a b
  Climbed-one n depth lookbehind skip t a b one call = rw one (b, skip, call, refl)

  -- the children of an `Alt`
  pub in_Alt : {p : Bool} {d : ℕ} {lookbehind : Bool} {a b c : State} (node : Node) (left right : Box Node Global) → node ≡ Alt left right →
      Visited Call p (deeper d) lookbehind (tree left.value) (tree left.value) a b →
      Visited Call p (deeper d) lookbehind (tree right.value) (tree right.value) b c → Inside Call p d lookbehind (tree node) (tree node) a c
  in_Alt node left right is first second = rw (is, tree-Alt) (in_alt first second)

  -- One more alternative on the way down: its children are visited, and its call is the first on the way up.
  pub after_next : (k here depth : ℕ) (lookbehind : Bool) (node t : Tree) (a b e : State) (Whole : Type 0) →
      node ≡ down k t → here ≡ further k depth →
      ((c : State) → Visited Call true here lookbehind node node a c → Climbed Call k depth lookbehind t c e → Whole) →
      Inside Call true here lookbehind node node a b → Climbed Call (k + 1) depth lookbehind t b e → Whole
  after_next k here depth lookbehind node t a b e Whole below is whole inside climbed =
      let up : Climbed Call (suc k) depth lookbehind t b e = rw add-one at climbed in
      whole up.0 (after_children inside (rw (← below, ← is) at up.2)) up.3

  -- A left side on the way down, with reversed links: with the remaining visits, the whole is visited.
  module _ (d depth : ℕ) (lookbehind : Bool) (node above rest top left left' right : Tree) (shifted : Shifted node above rest top)
      (is : top ≡ alt left right) where
    side : shifted.left ≡ left
    side =
        let tops : alt shifted.left above ≡ alt left right = sym shifted.is ∙ is in
        cc

    way : above ≡ right
    way =
        let tops : alt shifted.left above ≡ alt left right = sym shifted.is ∙ is in
        cc

    sides : node ≡ alt left rest
    sides = shifted.was ∙ ap (λ t. alt t rest) side

    pub nodes_down : nodes left + nodes rest < nodes node
    nodes_down = omega (arith, ap nodes sides)

    pub nesting_down : (nesting : ℕ) → nesting ≡ spine_length above → nesting + 1 ≡ spine_length (alt left' right)
    nesting_down nesting same = ap (λ n. n + 1) (same ∙ ap spine_length way)

    pub before_down : (was : Tree) (a b c e : State) (t : Tree) (Whole : Tree → Type 0) →
        ((u : Tree) → Visited Call false d lookbehind was u a e → Whole (reattach above u)) →
        Call a was d lookbehind b node false → Visited Call false (deeper d) lookbehind left left' b c →
        Visited Call false (deeper d) lookbehind rest t c e → Whole (reattach (alt left' right) t)
    before_down was a b c e t Whole whole call first second =
        rw (← way) (whole (alt left' t) (before_children (rw sides at call) (in_alt first second)))

    pub after_down : (a b c e : State) (t u : Tree) (Whole : Type 0) → d ≡ further (spine_length above) depth →
        ((v : Tree) (m : State) → Visited Call true d lookbehind node v a m → ClimbedMut Call above depth lookbehind v u m e → Whole) →
        Visited Call true (deeper d) lookbehind left left' a b → Visited Call true (deeper d) lookbehind rest t b c →
        ClimbedMut Call (alt left' right) depth lookbehind t u c e → Whole
    after_down a b c e t u Whole here whole first second climbed =
        let back : right ≡ above = sym way in
        let rest_climbed = rw back at climbed in
        let called = rw (← here) at rest_climbed.3 in
        whole rest_climbed.1 rest_climbed.0 (rw sides (after_children (in_alt first second) called)) rest_climbed.4

  -- a tree that contains no node
  pub at_leaf : {p : Bool} {d : ℕ} {lookbehind : Bool} {a : State} (t : Tree) → is_leaf t ≡ true → Inside Call p d lookbehind t t a a
  at_leaf (leaf l) is = in_leaf
  at_leaf (cat parts) is = absurd (false≢true is)
  at_leaf (alt left right) is = absurd (false≢true is)
  at_leaf (wrapped w body) is = absurd (false≢true is)

pub call_adds : {F : Type 0} (step : F → MutBor Node → MutBor Walk → Unit {0} → MutBor Node → MutBor Walk → F → Type 0)
    (unicode : Bool) (a b : F) (t u : Tree) (d : ℕ) (lookbehind skip : Bool) → AddsNoNodes step →
    CallsMut step unicode a t d lookbehind b u skip → nodes u ≤ nodes t
call_adds step unicode a b t u d lookbehind skip adds call =
    let fewer = adds _ _ _ _ _ _ call.called in
    rw (call.leaves, call.on) at fewer
