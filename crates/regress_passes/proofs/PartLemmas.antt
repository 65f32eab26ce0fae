-- Joining two parts of a list of trees, and all neighbours of one.
use Rattle.std.proofs.Common.{◌≡◌, ℕ, zero, suc, ◌+◌, ◌-◌, true, List, [], ◌∷◌, ◌++◌, length, set, take, drop, replicate, refl, sym, ap, ap₂, ◌∙◌, subst, arith, length-append, append_assoc}
use Rattle.std.proofs.lemmas.List.{set_at, length-replicate, length-take-le, drop_at}
use Rattle.std.proofs.Math.Seq.{split_at, drop-cons, set-append_seam, get_or-append_seam, drop-append_seam}
use Rattle.regress_tree.specs.Reading.{Direction}
use Rattle.regress_tree.specs.Shapes.{has_bytes, is_formed_away}
use Rattle.regress_tree.specs.Tree.{empty, Tree, Trees, leaf, cat, more_trees, list, append_trees, copies}
use Rattle.regress_tree.specs.Units.{IsLess}
use Rattle.regress_tree.proofs.lemmas.Lists.{list-append}
use Rattle.regress_rewrite.specs.Law.{Keeps}
use Rattle.regress_rewrite.specs.Formed.{joined, bytes_of}
use Rattle.regress_passes.specs.Joined.{part_at, HaveBytes, joined_at, JoinsSome}
use Rattle.regress_rewrite.proofs.lemmas.Keeps.{Keeps-trans}
use Rattle.regress_tree.proofs.lemmas.Falling.{IsLess-trans}
use Rattle.regress_rewrite.proofs.lemmas.Joining.{written, is_written, with_run, joined_keeps, joined_less}

-- A list as the parts of a `Cat`.

list-replicate : (n : ℕ) (t : Tree) → list (replicate n t) ≡ copies n t
list-replicate zero t = refl
list-replicate (suc n) t = ap (more_trees t) (list-replicate n t)

-- From the earlier index up to the later one no part has bytes.

abbrev pub HasGap : (earlier later : ℕ) → List Tree → Type 0
HasGap i k ts = drop i ts ≡ replicate (k - i) (written []) ++ drop k ts

pub HasGap-none : (i : ℕ) (ts : List Tree) → HasGap i i ts
HasGap-none i ts =
    let none : i - i ≡ 0 = omega arith in
    sym (ap (λ m. replicate m (written []) ++ drop i ts) none)

-- Two parts, with parts without bytes between them.

module _ (front : List Tree) (n : ℕ) (after : List Tree) where
  abbrev in_list : (x y : Tree) → List Tree
  in_list x y = front ++ x ∷ (replicate n (written []) ++ y ∷ after)

  list-in_list : (a b : List ℕ) → list (in_list (written a) (written b)) ≡ with_run (list front) (list after) n a b
  list-in_list a b =
      list-append front (written a ∷ (replicate n (written []) ++ written b ∷ after))
      ∙ ap (λ ts. append_trees (list front) (more_trees (written a) ts))
      (list-append (replicate n (written [])) (written b ∷ after)
      ∙ ap (λ us. append_trees us (more_trees (written b) (list after))) (list-replicate n (written [])))

  abbrev later : ℕ
  later = length front + 1 + n

  position_before : (x : Tree) → length (front ++ x ∷ replicate n (written [])) ≡ later
  position_before x = omega (arith, length-append front (x ∷ replicate n (written [])), length-replicate n (written []))

  regroup : (x y : Tree) → in_list x y ≡ (front ++ x ∷ replicate n (written [])) ++ y ∷ after
  regroup x y = sym (append_assoc front (x ∷ replicate n (written [])) (y ∷ after))

  part_at-first : (x y : Tree) → part_at (length front) (in_list x y) ≡ x
  part_at-first x y = get_or-append_seam front x (replicate n (written []) ++ y ∷ after) (leaf empty)

  part_at-later : (x y : Tree) → part_at later (in_list x y) ≡ y
  part_at-later x y =
      ap (part_at later) (regroup x y)
      ∙ ap (λ k. part_at k ((front ++ x ∷ replicate n (written [])) ++ y ∷ after)) (sym (position_before x))
      ∙ get_or-append_seam (front ++ x ∷ replicate n (written [])) y after (leaf empty)

  joined-in_list : (d : Direction) (x y : Tree) →
      joined_at d (length front) later (in_list x y) ≡ in_list (written []) (written (joined d (bytes_of x) (bytes_of y)))
  joined-in_list d x y =
      ap₂ (λ a b. set (set (in_list x y) (length front) (written [])) later (written (joined d (bytes_of a) (bytes_of b))))
      (part_at-first x y) (part_at-later x y)
      ∙ ap (λ ts. set ts later (written (joined d (bytes_of x) (bytes_of y))))
      (set-append_seam front x (replicate n (written []) ++ y ∷ after) (written []) ∙ regroup (written []) y)
      ∙ set_at (front ++ written [] ∷ replicate n (written [])) y after (written (joined d (bytes_of x) (bytes_of y))) later
      (position_before (written []))
      ∙ sym (regroup (written []) (written (joined d (bytes_of x) (bytes_of y))))

  joined-gap : (d : Direction) (x y : Tree) → HasGap (length front) later (joined_at d (length front) later (in_list x y))
  joined-gap d x y =
      let z = written (joined d (bytes_of x) (bytes_of y)) in
      let nones : later - length front ≡ suc n = omega arith in
      let rest = drop_at (front ++ written [] ∷ replicate n (written [])) (z ∷ after) later (position_before (written [])) in
      subst (HasGap (length front) later) (sym (joined-in_list d x y))
      (drop-append_seam front (replicate (suc n) (written []) ++ z ∷ after)
      ∙ ap₂ (λ (m : ℕ) (us : List Tree). replicate m (written []) ++ us) (sym nones) (sym (ap (drop later) (regroup (written []) z) ∙ rest)))

  -- if both parts have bytes, joining them obeys the law and makes the list less
  module _ (d : Direction) (x y : Tree) (first : has_bytes x ≡ true) (second : has_bytes y ≡ true) where
    abbrev a : List ℕ
    a = bytes_of x

    abbrev b : List ℕ
    b = bytes_of y

    was : list (in_list x y) ≡ with_run (list front) (list after) n a b
    was = ap₂ (λ s t. list (in_list s t)) (is_written x first).is (is_written y second).is ∙ list-in_list a b

    is : list (joined_at d (length front) later (in_list x y)) ≡ with_run (list front) (list after) n [] (joined d a b)
    is = ap list (joined-in_list d x y) ∙ list-in_list [] (joined d a b)

    split_keeps : Keeps d (cat (list (in_list x y))) (cat (list (joined_at d (length front) later (in_list x y))))
    split_keeps =
        subst (λ (ts : Trees). Keeps d (cat ts) (cat (list (joined_at d (length front) later (in_list x y))))) (sym was)
        (subst (λ (ts : Trees). Keeps d (cat (with_run (list front) (list after) n a b)) (cat ts)) (sym is)
        (joined_keeps (list front) (list after) n d a b))

    split_less : IsLess (cat (list (joined_at d (length front) later (in_list x y)))) (cat (list (in_list x y)))
    split_less =
        subst (λ (ts : Trees). IsLess (cat (list (joined_at d (length front) later (in_list x y)))) (cat ts)) (sym was)
        (subst (λ (ts : Trees). IsLess (cat ts) (cat (with_run (list front) (list after) n a b))) (sym is)
        (joined_less (list front) (list after) n d a b (is_written x first).some (is_written y second).some))

module _ (ts : List Tree) (j k : ℕ) (have : HaveBytes j k ts) (gap : HasGap (suc j) k ts) where
  abbrev front : List Tree
  front = take j ts

  abbrev after : List Tree
  after = drop (suc k) ts

  abbrev between : ℕ
  between = k - suc j

  abbrev split : List Tree
  split = in_list front between after (part_at j ts) (part_at k ts)

  cut : ts ≡ split
  cut =
      split_at ts j (leaf empty) (omega (arith, have.ordered, have.within))
      ∙ ap (λ us. front ++ part_at j ts ∷ us)
      (gap ∙ ap (λ us. replicate between (written []) ++ us) (drop-cons ts k (leaf empty) have.within))

  front_len : length front ≡ j
  front_len = length-take-le j ts (omega (arith, have.ordered, have.within))

  later_is : later front between after ≡ k
  later_is = omega (arith, front_len, have.ordered)

  at_split : (P : ℕ → ℕ → List Tree → List Tree → Type 0) (d : Direction) →
      P (length front) (later front between after) split (joined_at d (length front) (later front between after) split) →
      P j k ts (joined_at d j k ts)
  at_split P d h =
      subst (λ us. P j k us (joined_at d j k us)) (sym cut)
      (subst (λ i. P i k split (joined_at d i k split)) front_len
      (subst (λ i. P (length front) i split (joined_at d (length front) i split)) later_is h))

  join_keeps : (d : Direction) → Keeps d (cat (list ts)) (cat (list (joined_at d j k ts)))
  join_keeps d =
      at_split (λ i l us vs. Keeps d (cat (list us)) (cat (list vs))) d
      (split_keeps front between after d (part_at j ts) (part_at k ts) have.first have.second)

  join_less : (d : Direction) → IsLess (cat (list (joined_at d j k ts))) (cat (list ts))
  join_less d =
      at_split (λ i l us vs. IsLess (cat (list vs)) (cat (list us))) d
      (split_less front between after d (part_at j ts) (part_at k ts) have.first have.second)

  pub join_gap : (d : Direction) → HasGap j k (joined_at d j k ts)
  join_gap d = at_split (λ i l us vs. HasGap i l vs) d (joined-gap front between after d (part_at j ts) (part_at k ts))

  -- a list with joined parts may be joined further
  pub join_more : (d : Direction) (old : Trees) → JoinsSome d old (list ts) → JoinsSome d old (list (joined_at d j k ts))
  join_more d old so_far = record {
    keeps = Keeps-trans d so_far.keeps (join_keeps d);
    less = IsLess-trans _ _ _ so_far.less (join_less d);
    found = so_far.found;
  }

  pub join_first : (d : Direction) → is_formed_away (cat (list ts)) ≡ true → JoinsSome d (list ts) (list (joined_at d j k ts))
  join_first d found = record { keeps = join_keeps d; less = join_less d; found = found }
