-- Descending the right sides of alternatives, and ascending again.
use Rattle.std.proofs.Common.{◌≡◌, ℕ, ◌+◌, ◌-◌, ◌<◌, Bool, false, ◌||◌, Result, Ok, sym, ap, ap₂, subst, ◌∙◌, arith}
use Rattle.std.proofs.lemmas.Bool.{or_parts}
use Rattle.std.specs.declared.alloc.AllocError.{AllocError}
use Rattle.regress_tree.specs.Reading.{Direction}
use Rattle.regress_tree.specs.Tree.{Tree, leaf, cat, alt, wrapped}
use Rattle.regress_tree.specs.Units.{units}
use Rattle.regress_tree.specs.Shapes.{LacksShape}
use Rattle.regress_tree.proofs.lemmas.TreeContexts.{left_of, right_of}
use Rattle.regress_rewrite.specs.Law.{IsPart, Keeps}
use Rattle.regress_passes.specs.Sweep.{Traversed, TraversedOf}
use Rattle.regress_tree.specs.Spine.{Shifted, reattach, spine_length, LeftsLackShape}
use Rattle.regress_rewrite.proofs.lemmas.Keeps.{IsPart-kept, IsPart-part}
use Rattle.regress_passes.proofs.ChangesLemmas.{joined}
use Rattle.regress_passes.proofs.SweepLemmas.{Traversed-put, Traversed-then, Traversed-same}
use Rattle.regress_tree.proofs.lemmas.Measures.{LacksShape-here, LacksShape-inside, LacksShape-from}
use Rattle.regress_rewrite.proofs.lemmas.Spine.{IsPart-reattach, sides_lack, LacksShape-reattach}

module _ (exact : Bool) (d : Direction) where
  Traversed-reattach : {before clean : Type 0} (above t u : Tree) {response : Result Bool AllocError} →
      Traversed before clean exact d t u response → Traversed before clean exact d (reattach above t) (reattach above u) response
  Traversed-reattach (leaf l) t u swept = swept
  Traversed-reattach (cat parts) t u swept = swept
  Traversed-reattach (alt left above) t u swept = Traversed-reattach above (alt left t) (alt left u) (Traversed-put exact (right_of left) d swept)
  Traversed-reattach (wrapped w body) t u swept = swept

  module _ (shape : Tree → Bool) (old : Tree) where
    -- if the whole is unchanged and lacks a shape, so does the last alternative
    end_lacks : (above t : Tree) → LacksShape shape old → reattach above t ≡ old → LacksShape shape t
    end_lacks above t lacks same = LacksShape-reattach shape above t (subst (λ (x : Tree). LacksShape shape x) (sym same) lacks)

    -- the tree after a descent that has traversed the left sides above
    abbrev pub DownSwept : Tree → Tree → Result Bool AllocError → Type 0
    DownSwept above node = Traversed (LacksShape shape old) (LeftsLackShape shape above) exact d old (reattach above node)

    -- descending: a left side is traversed
    pub down_next : (changed : Bool) (response : Result Bool AllocError) (node above rest top left left' right : Tree) →
        Shifted node above rest top → top ≡ alt left right → DownSwept above node (Ok changed) →
        TraversedOf (LacksShape shape) exact d left left' response → DownSwept (alt left' right) rest (joined changed response)
    down_next changed response node above rest top left left' right shifted is so_far here =
        let sides : alt shifted.left above ≡ alt left right = sym shifted.is ∙ is in
        let first : shifted.left ≡ left = cc in
        let second : above ≡ right = cc in
        let so_far' = rw (shifted.was, first, second) at so_far in
        Traversed-then exact d so_far' (Traversed-reattach right (alt left rest) (alt left' rest) (Traversed-put exact (left_of rest) d here))
        (λ lacks same. (sides_lack shape left rest (end_lacks right (alt left rest) lacks same)).0)
        (λ lefts this. (this, lefts))

    -- descending: the last alternative is traversed
    pub down_last : (changed : Bool) (response : Result Bool AllocError) (above node node' : Tree) → DownSwept above node (Ok changed) →
        TraversedOf (LacksShape shape) exact d node node' response →
        Traversed (LacksShape shape old) (LacksShape shape node' × LeftsLackShape shape above) exact d old (reattach above node')
        (joined changed response)
    down_last changed response above node node' so_far here =
        Traversed-then exact d so_far (Traversed-reattach above node node' here) (end_lacks above node) (λ lefts this. (this, lefts))

    -- the tree after an ascent: if it lacked the shape at the start, so do the rewritten alternatives and the left
    -- sides above
    abbrev pub UpSwept : Type 0 → Tree → Tree → Result Bool AllocError → Type 0
    UpSwept start above node =
        Traversed (LacksShape shape old) (start → LacksShape shape node × LeftsLackShape shape above) exact d old (reattach above node)

    -- ascending: the next alternative is rewritten
    pub up_next : (start : Type 0) (changed : Bool) (response : Result Bool AllocError) (above node rest here made : Tree) →
        Shifted above node rest here → UpSwept start above node (Ok changed) →
        TraversedOf (λ t. shape t ≡ false) exact d here made response → UpSwept start rest made (joined changed response)
    up_next start changed response above node rest here made shifted so_far rewritten =
        let next = alt shifted.left node in
        let so_far' = rw shifted.was at so_far in
        let rewritten' = rw shifted.is at rewritten in
        Traversed-then exact d so_far' (Traversed-reattach rest next made (Traversed-same exact d rewritten'))
        (λ lacks same. LacksShape-here shape next (end_lacks rest next lacks same))
        (λ clean this begun.
        let parts = clean begun in
        let lacks = LacksShape-from shape next (ap₂ ◌||◌ parts.1.0 parts.0) (sym (ap shape this.1) ∙ this.0) in
        (subst (λ (x : Tree). LacksShape shape x) (sym this.1) lacks, parts.1.1))

-- a left side on the descent, which is smaller than the whole
module _ (node above rest top left right : Tree) (shifted : Shifted node above rest top) (is : top ≡ alt left right) where
  pub sides : node ≡ alt left rest
  sides =
      let same : alt shifted.left above ≡ alt left right = sym shifted.is ∙ is in
      let first : shifted.left ≡ left = cc in
      shifted.was ∙ ap (λ t. alt t rest) first

  pub units_down : units left + units rest < units node
  units_down = omega (arith, ap units sides)

  pub IsPart-down : (d : Direction) (old : Tree) → Keeps d old (reattach above node) → IsPart old → IsPart left
  IsPart-down d old keeps part =
      let here = subst (λ (t : Tree). IsPart t) sides (IsPart-reattach above node (IsPart-kept d keeps part)) in
      IsPart-part (left_of rest) left here

-- the number of alternatives above
pub nesting_down : (n : ℕ) (node above rest top : Tree) → Shifted node above rest top → n ≡ spine_length above → n + 1 ≡ spine_length top
nesting_down n node above rest top shifted nesting = ap (λ k. k + 1) nesting ∙ ap spine_length (sym shifted.is)

pub nesting_up : (n : ℕ) (above node rest here : Tree) → Shifted above node rest here → n ≡ spine_length above → n - 1 ≡ spine_length rest
nesting_up n above node rest here shifted nesting = omega (arith, nesting, ap spine_length shifted.was)

-- the node that is rewritten next is part of a well-formed tree
pub IsPart-up : (d : Direction) (old above node rest here : Tree) → Shifted above node rest here → Keeps d old (reattach above node) →
    IsPart old → IsPart here
IsPart-up d old above node rest here shifted keeps part =
    let whole = rw shifted.was at (IsPart-kept d keeps part) in
    subst (λ (t : Tree). IsPart t) (sym shifted.is) (IsPart-reattach rest (alt shifted.left node) whole)
