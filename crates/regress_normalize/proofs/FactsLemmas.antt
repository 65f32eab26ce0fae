-- The facts of a list of parts, with one more part.
use Rattle.std.proofs.Common.{◌≡◌, ℕ, ◌+◌, ◌≤◌, Bool, true, false, ◌||◌, max, inl, inr, Ordering, Less, Equal, Greater, refl, sym, ap, ◌∙◌, arith}
use Rattle.std.specs.Prelude.{if◌then◌else◌}
use Rattle.std.specs.Ordering.{ord_max, nat_cmp}
use Rattle.std.specs.Cmp.{nat_cmp_is}
use Rattle.std.proofs.lemmas.Bool.{cases_lt}
use mir.Val.{bool_byte}
use Rattle.std.proofs.Math.Bool.{or-false}
use Rattle.regress_tree.specs.Measures.{total_in_list, nesting, nesting_of_deepest}
use Rattle.regress_tree.specs.Shapes.{some_node, some_node_in_list, some_part, is_cat}
use Rattle.regress_tree.specs.Tree.{Tree, Trees, leaf, cat, alt, wrapped, no_trees, more_trees, append_trees}
use Rattle.regress_tree.specs.Units.{charges, charge}
use Rattle.regress_tree.proofs.lemmas.Measures.{some_node-append, some_part-append, total-append, nesting-append}
use Rattle.regress_tree.proofs.lemmas.Lists.{append_trees-none}
use Rattle.regress_rewrite.specs.Splice.{parts_of, spliced}
use Rattle.regress_rewrite.proofs.lemmas.Splicing.{spliced-append}

-- a `Cat` counts one more than its parts
abbrev pub around : Tree → ℕ
around t = if is_cat t then 1 else 0

pub counted : (b : Bool) → bool_byte b ≡ (if b then 1 else 0)
counted true = refl
counted false = refl

charge-parts_of : (t : Tree) → total_in_list charges (parts_of t) + around t ≡ charge t
charge-parts_of (leaf l) = omega arith
charge-parts_of (cat parts) = omega arith
charge-parts_of (alt left right) = omega arith
charge-parts_of (wrapped w body) = omega arith

nesting-parts_of : (t : Tree) → nesting_of_deepest (parts_of t) + around t ≡ nesting t
nesting-parts_of (leaf l) = omega arith
nesting-parts_of (cat parts) = omega arith
nesting-parts_of (alt left right) = omega arith
nesting-parts_of (wrapped w body) = omega arith

module _ (ts : Trees) (t : Tree) where
  abbrev more : Trees
  more = append_trees ts (more_trees t no_trees)

  spliced-more : spliced more ≡ append_trees (spliced ts) (parts_of t)
  spliced-more = spliced-append ts (more_trees t no_trees) ∙ ap (append_trees (spliced ts)) (append_trees-none (parts_of t))

  pub charge-more : total_in_list charges (spliced more) + around t ≡ total_in_list charges (spliced ts) + charge t
  charge-more = omega (
    arith,
    ap (total_in_list charges) spliced-more,
    total-append charges (spliced ts) (parts_of t),
    charge-parts_of t,
  )

  pub deepest-more : (n : ℕ) → n + around t ≡ nesting t →
      max 1 (nesting_of_deepest (spliced more)) ≡ max (max 1 (nesting_of_deepest (spliced ts))) n
  deepest-more n is =
      let deepest = ap nesting_of_deepest spliced-more ∙ nesting-append (spliced ts) (parts_of t) in
      omega (arith, deepest, nesting-parts_of t)

  pub some_node-more : (test : Tree → Bool) → some_node_in_list test more ≡ (some_node_in_list test ts || some_node test t)
  some_node-more test = some_node-append test ts (more_trees t no_trees) ∙ ap (λ b. some_node_in_list test ts || b) (or-false _)

  pub some_part-more : (test : Tree → Bool) → some_part test more ≡ (some_part test ts || test t)
  some_part-more test = some_part-append test ts (more_trees t no_trees) ∙ ap (λ b. some_part test ts || b) (or-false _)

pub around-charge : (t : Tree) → around t ≤ charge t
around-charge t = omega (arith, charge-parts_of t)

pub around-nesting : (t : Tree) → around t ≤ nesting t
around-nesting t = omega (arith, nesting-parts_of t)

-- the greater of two numbers
pub greater : (a b : ℕ) → ord_max nat_cmp a b ≡ max a b
greater a b = elim (cases_lt b a) [
  | inl less ↦
      let most : a ≡ max a b = omega (arith, less) in
      ap (λ (o : Ordering). ord_max (λ x y. o) a b) (sym (nat_cmp_is b a Less less)) ∙ most
  | inr no_less ↦
      let most : b ≡ max a b = omega (arith, no_less) in
      elim (cases_lt a b) [
        | inl more ↦ ap (λ (o : Ordering). ord_max (λ x y. o) a b) (sym (nat_cmp_is b a Greater more)) ∙ most
        | inr no_more ↦
            let same : b ≡ a = omega (arith, no_less, no_more) in
            ap (λ (o : Ordering). ord_max (λ x y. o) a b) (sym (nat_cmp_is b a Equal same)) ∙ most
      ]
]
