-- Packing a list: parts are replaced among others that don't change.
use Rattle.std.proofs.Common.{◌≡◌, ℕ, ◌+◌, Bool, true, false, ◌&&◌, ◌||◌, max, List, [], ◌∷◌, ◌++◌, refl, sym, ap, ap₂, ◌∙◌, subst, arith, le_refl, le_trans, length-append}
use Rattle.std.proofs.Math.Bool.{and-false, or_assoc, or-false}
use Rattle.std.proofs.lemmas.Bool.{or_parts, true≢false}
use Rattle.regress_tree.specs.Matching.{in_direction}
use Rattle.regress_tree.specs.Measures.{total_in_list, nesting_of_deepest}
use Rattle.regress_tree.specs.NodeTests.{is_empty, is_goal, match_always_fails}
use Rattle.regress_tree.specs.NormalForm.{IsNormal}
use Rattle.regress_tree.specs.Reading.{Direction, forwards, backwards}
use Rattle.regress_tree.specs.Shapes.{on_leaf, on_wrapper, some_node_in_list, some_part, first_in_list, last_in_list, has_neighbours, has_bytes, is_cat, is_string_set}
use Rattle.regress_tree.specs.Tree.{Tree, Trees, byte_sequence, leaf, empty, cat, no_trees, more_trees, append_trees, reverse_trees}
use Rattle.regress_tree.specs.Units.{charges}
use Rattle.regress_tree.proofs.lemmas.Measures.{some_node-append, some_part-append, total-append, nesting-append}
use Rattle.regress_tree.proofs.lemmas.Lists.{append_trees-assoc}
use Rattle.regress_tree.proofs.lemmas.ReversedParts.{reverse_trees-append}
use Rattle.regress_rewrite.specs.Formed.{bytes_of}
use Rattle.regress_rewrite.specs.Splice.{list_length}
use Rattle.regress_rewrite.proofs.lemmas.Joining.{written, is_written}
use Rattle.regress_rewrite.proofs.lemmas.Keeps.{Keeps-refl, Keeps-trans}
use Rattle.regress_rewrite.proofs.lemmas.Segments.{Keeps-segment, empty_keeps, pair_keeps}
use Rattle.regress_rewrite.proofs.lemmas.Splicing.{list_length-append}
use Rattle.regress_normalize.specs.Normalized.{ListIsNormal}
use Rattle.regress_normalize.specs.Packed.{Packs, IsPacked, TakesBytes}
use Rattle.regress_normalize.proofs.NormalLemmas.{IsNormal-leaf}

-- ---- appended lists

pub ListIsNormal-append : (ts us : Trees) → ListIsNormal ts → ListIsNormal us → ListIsNormal (append_trees ts us)
ListIsNormal-append no_trees us first second = second
ListIsNormal-append (more_trees t ts) us first second = (first.0, ListIsNormal-append ts us first.1 second)

pub ListIsNormal-split : (ts us : Trees) → ListIsNormal (append_trees ts us) → ListIsNormal ts × ListIsNormal us
ListIsNormal-split no_trees us both = (tt, both)
ListIsNormal-split (more_trees t ts) us both =
    let rest = ListIsNormal-split ts us both.1 in
    ((both.0, rest.0), rest.1)

-- ---- packing, composed

pub Packs-refl : (d : Direction) (ts : Trees) → Packs d ts ts
Packs-refl d ts = record {
  keeps = Keeps-refl d (cat ts);
  normal = λ each. each;
  cats = refl;
  fewer = le_refl _;
  charge = refl;
  nesting = refl;
  wrappers = λ test. refl;
  string_sets = refl;
  fails = refl;
  goals = refl;
}

pub Packs-trans : (d : Direction) (ts us vs : Trees) → Packs d ts us → Packs d us vs → Packs d ts vs
Packs-trans d ts us vs a b = record {
  keeps = Keeps-trans d a.keeps b.keeps;
  normal = λ each. b.normal (a.normal each);
  cats = b.cats ∙ a.cats;
  fewer = le_trans b.fewer a.fewer;
  charge = omega (arith, a.charge, b.charge);
  nesting = b.nesting ∙ a.nesting;
  wrappers = λ test. b.wrappers test ∙ a.wrappers test;
  string_sets = b.string_sets ∙ a.string_sets;
  fails = b.fails ∙ a.fails;
  goals = b.goals ∙ a.goals;
}

module _ (d : Direction) (u : Tree) (us vs : Trees) (packs : Packs d (more_trees u us) vs) (xs zs : Trees) where
  abbrev around : Trees → Trees
  around ts = append_trees xs (append_trees ts zs)

  some_node-around : (test : Tree → Bool) → some_node_in_list test vs ≡ some_node_in_list test (more_trees u us) →
      some_node_in_list test (around vs) ≡ some_node_in_list test (around (more_trees u us))
  some_node-around test same =
      some_node-append test xs (append_trees vs zs)
      ∙ ap (λ b. some_node_in_list test xs || b)
      (some_node-append test vs zs ∙ ap (λ b. b || some_node_in_list test zs) same ∙ sym (some_node-append test (more_trees u us) zs))
      ∙ sym (some_node-append test xs (append_trees (more_trees u us) zs))

  some_part-around : (test : Tree → Bool) → some_part test vs ≡ some_part test (more_trees u us) →
      some_part test (around vs) ≡ some_part test (around (more_trees u us))
  some_part-around test same =
      some_part-append test xs (append_trees vs zs)
      ∙ ap (λ b. some_part test xs || b)
      (some_part-append test vs zs ∙ ap (λ b. b || some_part test zs) same ∙ sym (some_part-append test (more_trees u us) zs))
      ∙ sym (some_part-append test xs (append_trees (more_trees u us) zs))

  length-around : (ts : Trees) → list_length (around ts) ≡ list_length xs + (list_length ts + list_length zs)
  length-around ts = omega (arith, list_length-append xs (append_trees ts zs), list_length-append ts zs)

  charge-around : (ts : Trees) →
      total_in_list charges (around ts) ≡ total_in_list charges xs + (total_in_list charges ts + total_in_list charges zs)
  charge-around ts = omega (arith, total-append charges xs (append_trees ts zs), total-append charges ts zs)

  nesting-around : (ts : Trees) →
      nesting_of_deepest (around ts) ≡ max (nesting_of_deepest xs) (max (nesting_of_deepest ts) (nesting_of_deepest zs))
  nesting-around ts =
      nesting-append xs (append_trees ts zs) ∙ ap (λ (n : ℕ). max (nesting_of_deepest xs) n) (nesting-append ts zs)

  deepest : (x a b z : ℕ) → max 1 a ≡ max 1 b → max 1 (max x (max a z)) ≡ max 1 (max x (max b z))
  deepest x a b z same = omega arith

  pub Packs-segment : Packs d (around (more_trees u us)) (around vs)
  Packs-segment = record {
    keeps = Keeps-segment d u us vs packs.keeps xs zs;
    normal = λ each.
        let first = ListIsNormal-split xs (append_trees (more_trees u us) zs) each in
        let rest = ListIsNormal-split (more_trees u us) zs first.1 in
        ListIsNormal-append xs (append_trees vs zs) first.0 (ListIsNormal-append vs zs (packs.normal rest.0) rest.1);
    cats = some_part-around is_cat packs.cats;
    fewer = omega (arith, packs.fewer, length-around vs, length-around (more_trees u us));
    charge = omega (
      arith,
      packs.charge,
      length-around vs,
      length-around (more_trees u us),
      charge-around vs,
      charge-around (more_trees u us),
    );
    nesting = ap (λ (n : ℕ). max 1 n) (nesting-around vs)
        ∙ deepest (nesting_of_deepest xs) (nesting_of_deepest vs) (nesting_of_deepest (more_trees u us)) (nesting_of_deepest zs) packs.nesting
        ∙ sym (ap (λ (n : ℕ). max 1 n) (nesting-around (more_trees u us)));
    wrappers = λ test. some_node-around (on_wrapper test) (packs.wrappers test);
    string_sets = some_node-around (on_leaf is_string_set) packs.string_sets;
    fails = some_part-around match_always_fails packs.fails;
    goals = some_part-around is_goal packs.goals;
  }

-- ---- the changes that pack

empty_packs : (d : Direction) → Packs d (more_trees (leaf empty) no_trees) no_trees
empty_packs d = record {
  keeps = empty_keeps d;
  normal = λ each. tt;
  cats = refl;
  fewer = omega arith;
  charge = omega arith;
  nesting = omega arith;
  wrappers = λ test. refl;
  string_sets = refl;
  fails = refl;
  goals = refl;
}

longer_normal : (a b : List ℕ) → IsNormal (written a) → IsNormal (written (a ++ b))
longer_normal [] b normal = absurd (true≢false normal.emptied)
longer_normal (x ∷ a) b normal = IsNormal-leaf (byte_sequence (x ∷ (a ++ b))) refl refl refl

-- two neighbours with bytes, in the order of the text, become one
pair_packs : (d : Direction) (a b : List ℕ) →
    Packs d (in_direction d (more_trees (written a) (more_trees (written b) no_trees)))
    (in_direction d (more_trees (written (a ++ b)) no_trees))
pair_packs forwards a b = record {
  keeps = pair_keeps forwards a b;
  normal = λ each. (longer_normal a b each.0, tt);
  cats = refl;
  fewer = omega arith;
  charge = omega (arith, length-append a b);
  nesting = refl;
  wrappers = λ test. refl;
  string_sets = refl;
  fails = refl;
  goals = refl;
}
pair_packs backwards a b = record {
  keeps = pair_keeps backwards b a;
  normal = λ each. (longer_normal a b each.1.0, tt);
  cats = refl;
  fewer = omega arith;
  charge = omega (arith, length-append a b);
  nesting = refl;
  wrappers = λ test. refl;
  string_sets = refl;
  fails = refl;
  goals = refl;
}

-- ---- reversed

turned-around : (xs ts zs : Trees) →
    reverse_trees (append_trees xs (append_trees ts zs)) ≡ append_trees (reverse_trees zs) (append_trees (reverse_trees ts) (reverse_trees xs))
turned-around xs ts zs =
    reverse_trees-append xs (append_trees ts zs)
    ∙ ap (λ us. append_trees us (reverse_trees xs)) (reverse_trees-append ts zs)
    ∙ append_trees-assoc (reverse_trees zs) (reverse_trees ts) (reverse_trees xs)

-- an `Empty` among other parts is left out
pub leaves_out : (d : Direction) (before after : Trees) →
    Packs d (in_direction d (append_trees before (more_trees (leaf empty) after))) (in_direction d (append_trees before after))
leaves_out forwards before after = Packs-segment forwards (leaf empty) no_trees no_trees (empty_packs forwards) before after
leaves_out backwards before after =
    subst (λ (ts : Trees). Packs backwards ts (reverse_trees (append_trees before after)))
    (sym (turned-around before (more_trees (leaf empty) no_trees) after))
    (subst (λ (ts : Trees). Packs backwards (append_trees (reverse_trees after) (more_trees (leaf empty) (reverse_trees before))) ts)
    (sym (reverse_trees-append before after))
    (Packs-segment backwards (leaf empty) no_trees no_trees (empty_packs backwards) (reverse_trees after) (reverse_trees before)))

joins : (d : Direction) (before after : Trees) (a b : List ℕ) →
    Packs d (in_direction d (append_trees before (more_trees (written a) (more_trees (written b) after))))
    (in_direction d (append_trees before (more_trees (written (a ++ b)) after)))
joins forwards before after a b =
    Packs-segment forwards (written a) (more_trees (written b) no_trees) (more_trees (written (a ++ b)) no_trees)
    (pair_packs forwards a b) before after
joins backwards before after a b =
    subst (λ (ts : Trees). Packs backwards ts (reverse_trees (append_trees before (more_trees (written (a ++ b)) after))))
    (sym (turned-around before (more_trees (written a) (more_trees (written b) no_trees)) after))
    (subst
    (λ (ts : Trees). Packs backwards
    (append_trees (reverse_trees after) (more_trees (written b) (more_trees (written a) (reverse_trees before)))) ts)
    (sym (turned-around before (more_trees (written (a ++ b)) no_trees) after))
    (Packs-segment backwards (written b) (more_trees (written a) no_trees) (more_trees (written (a ++ b)) no_trees)
    (pair_packs backwards a b) (reverse_trees after) (reverse_trees before)))

-- a part takes the bytes of the next one
pub takes_packs : (d : Direction) (before after : Trees) (old part new : Tree) → TakesBytes old part new →
    Packs d (in_direction d (append_trees before (more_trees old (more_trees part after)))) (in_direction d (append_trees before (more_trees new after)))
takes_packs d before after old part new takes =
    subst (λ (t : Tree). Packs d (in_direction d (append_trees before (more_trees t (more_trees part after))))
    (in_direction d (append_trees before (more_trees new after))))
    (sym (is_written old takes.own).is)
    (subst (λ (t : Tree). Packs d (in_direction d (append_trees before (more_trees (written (bytes_of old)) (more_trees t after))))
    (in_direction d (append_trees before (more_trees new after))))
    (sym (is_written part takes.more).is)
    (subst (λ (t : Tree). Packs d (in_direction d (append_trees before (more_trees (written (bytes_of old)) (more_trees (written (bytes_of part)) after))))
    (in_direction d (append_trees before (more_trees t after))))
    (sym takes.is) (joins d before after (bytes_of old) (bytes_of part))))

-- ---- nothing to pack

has_neighbours-push : (test : Tree → Bool) (ts : Trees) (t : Tree) →
    has_neighbours test (append_trees ts (more_trees t no_trees)) ≡ (has_neighbours test ts || (last_in_list test ts && test t))
has_neighbours-push test no_trees t = or-false _ ∙ and-false (test t)
has_neighbours-push test (more_trees x no_trees) t =
    or-false-inner (test x) (test t)
  where
    or-false-inner : (a b : Bool) → ((a && b) || ((b && false) || false)) ≡ (((a && false) || false) || (a && b))
    or-false-inner true true = refl
    or-false-inner true false = refl
    or-false-inner false true = refl
    or-false-inner false false = refl
has_neighbours-push test (more_trees x (more_trees y ts)) t =
    ap (λ b. (test x && test y) || b) (has_neighbours-push test (more_trees y ts) t)
    ∙ sym (or_assoc (test x && test y) (has_neighbours test (more_trees y ts)) (last_in_list test (more_trees y ts) && test t))

IsPacked-push : (ts : Trees) (t : Tree) → is_empty t ≡ false → (last_in_list has_bytes ts && has_bytes t) ≡ false → IsPacked ts →
    IsPacked (append_trees ts (more_trees t no_trees))
IsPacked-push ts t some apart packed = record {
  no_empty = some_part-append is_empty ts (more_trees t no_trees) ∙ ap₂ ◌||◌ packed.no_empty (ap (λ b. b || false) some);
  no_neighbours = has_neighbours-push has_bytes ts t ∙ ap₂ ◌||◌ packed.no_neighbours apart;
}

last-push : (test : Tree → Bool) (ts : Trees) (t : Tree) → last_in_list test (append_trees ts (more_trees t no_trees)) ≡ test t
last-push test no_trees t = refl
last-push test (more_trees x no_trees) t = refl
last-push test (more_trees x (more_trees y ts)) t = last-push test (more_trees y ts) t

last-turned : (test : Tree → Bool) (ts : Trees) → last_in_list test (reverse_trees ts) ≡ first_in_list test ts
last-turned test no_trees = refl
last-turned test (more_trees t ts) = last-push test (reverse_trees ts) t

pub IsPacked-turned : (ts : Trees) → IsPacked ts → IsPacked (reverse_trees ts)
IsPacked-turned no_trees packed = packed
IsPacked-turned (more_trees t ts) packed =
    let empties = or_parts _ _ packed.no_empty in
    let pairs = or_parts (has_bytes t && first_in_list has_bytes ts) (has_neighbours has_bytes ts) packed.no_neighbours in
    let rest = IsPacked-turned ts (record { no_empty = empties.1; no_neighbours = pairs.1 }) in
    IsPacked-push (reverse_trees ts) t empties.0
    (ap (λ b. b && has_bytes t) (last-turned has_bytes ts) ∙ swapped (first_in_list has_bytes ts) (has_bytes t) ∙ pairs.0) rest
  where
    swapped : (a b : Bool) → (a && b) ≡ (b && a)
    swapped true true = refl
    swapped true false = refl
    swapped false true = refl
    swapped false false = refl
