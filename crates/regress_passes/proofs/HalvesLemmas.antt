-- Two nodes of a list that is split between them, each changed in its half.
use Rattle.std.proofs.Common.{◌≡◌, ℕ, ◌-◌, ◌<◌, true, List, [], ◌++◌, map, length, get_or, set, length-append, Result, Ok, Err, sym, ap, ap₂, ◌∙◌, arith}
use Rattle.std.specs.Prelude.{OnOk, OnErr}
use Rattle.std.proofs.Math.Seq.{map-set_same}
use Rattle.std.proofs.lemmas.List.{map-set, map-append, length-map, length-set, set-append_left, set-append_right, get_or-map, get_or_append_left, get_or-append_right}
use Rattle.regress_tree.specs.declared.ir.node.Node.{Node}
use Rattle.regress_tree.specs.Reading.{Direction}
use Rattle.regress_tree.specs.Shapes.{has_bytes}
use Rattle.regress_tree.specs.Tree.{Tree, leaf, empty, tree}
use Rattle.regress_rewrite.specs.Formed.{joined, bytes_of}
use Rattle.regress_passes.specs.Joined.{part_at, HaveBytes, joined_at}
use Rattle.regress_rewrite.proofs.lemmas.Joining.{written}

module _ (all front back : List Node) (i k : ℕ) (have : HaveBytes i k (map tree all)) (cut : all ≡ front ++ back) (here : length front ≡ k)
    (x y : Node) where
  inside : i < length front
  inside = omega (arith, have.ordered, here)

  some : 0 < length back
  some = omega (arith, have.within, here, ap length cut, length-append front back, length-map all tree)

  abbrev first : Node
  first = get_or front i x

  abbrev second : Node
  second = get_or back 0 y

  part_at-first : part_at i (map tree all) ≡ tree first
  part_at-first =
      get_or-map tree all i x (leaf empty) (omega (arith, inside, ap length cut, length-append front back))
      ∙ ap tree (ap (λ nodes. get_or nodes i x) cut ∙ get_or_append_left front back x i inside)

  part_at-second : part_at k (map tree all) ≡ tree second
  part_at-second =
      let none : k - k ≡ 0 = omega arith in
      get_or-map tree all k y (leaf empty) (omega (arith, some, here, ap length cut, length-append front back))
      ∙ ap tree (ap (λ nodes. get_or nodes k y) cut ∙ get_or-append_right front back k k y here (omega arith) ∙ ap (λ n. get_or back n y) none)

  pub first_has : has_bytes (tree first) ≡ true
  first_has = ap has_bytes (sym part_at-first) ∙ have.first

  pub second_has : has_bytes (tree second) ≡ true
  second_has = ap has_bytes (sym part_at-second) ∙ have.second

  module _ (x' y' : Node) where
    abbrev now : List Node
    now = set front i x' ++ set back 0 y'

    both_set : now ≡ set (set all i x') k y'
    both_set =
        let none : k - k ≡ 0 = omega arith in
        sym (ap (λ nodes. set nodes k y') (ap (λ nodes. set nodes i x') cut ∙ set-append_left front back i x' inside)
        ∙ set-append_right (set front i x') back k k y' (length-set front i x' ∙ here) (omega arith)
        ∙ ap (λ n. set front i x' ++ set back n y') none)

    pub halves_kept : tree x' ≡ tree first → tree y' ≡ tree second → map tree now ≡ map tree all
    halves_kept same same' =
        map-append tree (set front i x') (set back 0 y')
        ∙ ap₂ (λ (ts us : List Tree). ts ++ us) (map-set_same tree front i x' x same) (map-set_same tree back 0 y' y same')
        ∙ sym (ap (map tree) cut ∙ map-append tree front back)

    pub halves_joined : (d : Direction) → tree x' ≡ written [] → tree y' ≡ written (joined d (bytes_of (tree first)) (bytes_of (tree second))) →
        map tree now ≡ joined_at d i k (map tree all)
    halves_joined d none both =
        ap (map tree) both_set
        ∙ map-set tree (set all i x') k y'
        ∙ ap (λ (ts : List Tree). set ts k (tree y')) (map-set tree all i x')
        ∙ ap₂ (λ (t u : Tree). set (set (map tree all) i t) k u) none
        (both ∙ ap₂ (λ (t u : Tree). written (joined d (bytes_of t) (bytes_of u))) (sym part_at-first) (sym part_at-second))

-- two facts about success, or about failure, give a third
pub on_ok_both : {T E P Q R : Type 0} (r : Result T E) → (P → Q → R) → OnOk r P → OnOk r Q → OnOk r R
on_ok_both (Ok x) both p q = both p q
on_ok_both (Err e) both p q = tt

pub on_err_both : {T E P Q R : Type 0} (r : Result T E) → (P → Q → R) → OnErr r P → OnErr r Q → OnErr r R
on_err_both (Ok x) both p q = tt
on_err_both (Err e) both p q = both p q

pub on_err_from : {T E P : Type 0} (r : Result T E) → P → OnErr r P
on_err_from (Ok x) p = tt
on_err_from (Err e) p = p
