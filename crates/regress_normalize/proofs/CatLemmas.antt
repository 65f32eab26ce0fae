-- Lists of nodes, as `retain` and `dedup_by` handle them.
use Rattle.std.proofs.Common.{◌≡◌, Bool, true, false, if◌then◌else◌, ◌&&◌, ◌||◌, List, [], ◌∷◌, refl, sym, ap, ap₂, ◌∙◌, subst}
use Rattle.std.specs.Prelude.{OnOk, MatchBool, Result, Ok, Err}
use Rattle.std.specs.List.Retain.{DedupsFrom, IsDeduped}
use Rattle.regress_tree.specs.declared.ir.node.Node.{Node}
use Rattle.regress_tree.specs.Matching.{in_direction}
use Rattle.regress_tree.specs.NodeTests.{is_empty}
use Rattle.regress_tree.specs.Reading.{Direction}
use Rattle.regress_tree.specs.Shapes.{first_in_list, some_part, has_bytes, has_neighbours}
use Rattle.regress_tree.specs.Tree.{Tree, Trees, no_trees, more_trees, append_trees, tree, trees}
use Rattle.regress_tree.proofs.lemmas.Lists.{append_trees-assoc}
use Rattle.regress_rewrite.specs.Taken.{list_without}
use Rattle.regress_rewrite.proofs.lemmas.Joining.{is_written}
use Rattle.regress_rewrite.proofs.lemmas.Segments.{is_empty-leaf}
use Rattle.regress_normalize.specs.Packed.{Packs, TakesBytes}
use Rattle.regress_normalize.proofs.PackedLemmas.{Packs-refl, Packs-trans, leaves_out, takes_packs}

-- ---- parts left out

-- packing after parts that don't change, whatever they are
abbrev PacksAfter : (d : Direction) (before old new : Trees) → Type 0
PacksAfter d before old new = Packs d (in_direction d (append_trees before old)) (in_direction d (append_trees before new))

-- packing after one more part
after_one : (d : Direction) (before : Trees) (t : Tree) (old new : Trees) →
    PacksAfter d (append_trees before (more_trees t no_trees)) old new → PacksAfter d before (more_trees t old) (more_trees t new)
after_one d before t old new packs =
    subst (λ (ts : Trees). Packs d (in_direction d ts) (in_direction d (append_trees before (more_trees t new))))
    (append_trees-assoc before (more_trees t no_trees) old)
    (subst (λ (ts : Trees). Packs d (in_direction d (append_trees (append_trees before (more_trees t no_trees)) old)) (in_direction d ts))
    (append_trees-assoc before (more_trees t no_trees) new) packs)

without_packs : (d : Direction) (before ts : Trees) → PacksAfter d before ts (list_without is_empty ts)
without_packs d before no_trees = Packs-refl d _
without_packs d before (more_trees t ts) = one_more (is_empty t) refl (λ front. without_packs d front ts)
  where
    one_more : (b : Bool) → is_empty t ≡ b → ((front : Trees) → PacksAfter d front ts (list_without is_empty ts)) →
        PacksAfter d before (more_trees t ts) (if is_empty t then list_without is_empty ts else more_trees t (list_without is_empty ts))
    one_more true is rest = rw (is, is_empty-leaf t is) (Packs-trans d _ _ _ (leaves_out d before ts) (rest before))
    one_more false is rest =
        rw is (after_one d before t ts (list_without is_empty ts) (rest (append_trees before (more_trees t no_trees))))

pub left_out_packs : (d : Direction) (ts us : Trees) → us ≡ list_without is_empty ts → Packs d (in_direction d ts) (in_direction d us)
left_out_packs d ts us is =
    subst (λ (vs : Trees). Packs d (in_direction d ts) (in_direction d vs)) (sym is) (without_packs d no_trees ts)

pub without_none : (ts : Trees) → some_part is_empty (list_without is_empty ts) ≡ false
without_none no_trees = refl
without_none (more_trees t ts) = one_more (is_empty t) refl (without_none ts)
  where
    one_more : (b : Bool) → is_empty t ≡ b → some_part is_empty (list_without is_empty ts) ≡ false →
        some_part is_empty (if is_empty t then list_without is_empty ts else more_trees t (list_without is_empty ts)) ≡ false
    one_more true is rest = rw is rest
    one_more false is rest = rw is (ap₂ ◌||◌ is rest)

-- ---- neighbours joined

module _ {S : Type 0} (R : S → Node → Node → Bool → S → Node → Node → Type 0)
    (takes : (s : S) (x k : Node) (b : Bool) (t : S) (x' k' : Node) → R s x k b t x' k' →
    MatchBool b (TakesBytes (tree k) (tree x) (tree k')) ((tree k' ≡ tree k) × (tree x' ≡ tree x))) where
  after_packs : (s : S) (k : Node) (xs ys : List Node) → DedupsFrom R s k xs ys → (d : Direction) (before : Trees) →
      PacksAfter d before (more_trees (tree k) (trees xs)) (trees ys)
  after_packs s k [] ys is d before = subst (λ (ns : List Node). PacksAfter d before (more_trees (tree k) no_trees) (trees ns)) (sym is) (Packs-refl d _)
  after_packs s k (x ∷ xs) ys (true, t, x', k', r, rest) d before =
      Packs-trans d _ _ _ (takes_packs d before (trees xs) (tree k) (tree x) (tree k') (takes s x k true t x' k' r))
      (after_packs t k' xs ys rest d before)
  after_packs s k (x ∷ xs) ys (false, t, x', k', r, (zs, rest, is)) d before =
      let same = takes s x k false t x' k' r in
      subst (λ (ns : List Node). PacksAfter d before (more_trees (tree k) (trees (x ∷ xs))) (trees ns)) (sym is)
      (subst (λ (u : Tree). PacksAfter d before (more_trees (tree k) (trees (x ∷ xs))) (more_trees u (trees zs))) (sym same.0)
      (after_one d before (tree k) (trees (x ∷ xs)) (trees zs)
      (subst (λ (u : Tree). PacksAfter d (append_trees before (more_trees (tree k) no_trees)) (more_trees u (trees xs)) (trees zs)) same.1
      (after_packs t x' xs zs rest d (append_trees before (more_trees (tree k) no_trees))))))

  after_empties : (s : S) (k : Node) (xs ys : List Node) → DedupsFrom R s k xs ys →
      some_part is_empty (trees ys) ≡ some_part is_empty (more_trees (tree k) (trees xs))
  after_empties s k [] ys is = ap (λ ns. some_part is_empty (trees ns)) is
  after_empties s k (x ∷ xs) ys (true, t, x', k', r, rest) =
      let taken = takes s x k true t x' k' r in
      after_empties t k' xs ys rest
      ∙ ap (λ (u : Tree). is_empty u || some_part is_empty (trees xs)) taken.is
      ∙ sym (ap₂ (λ (u v : Tree). is_empty u || (is_empty v || some_part is_empty (trees xs))) (is_written (tree k) taken.own).is
      (is_written (tree x) taken.more).is)
  after_empties s k (x ∷ xs) ys (false, t, x', k', r, (zs, rest, is)) =
      let same = takes s x k false t x' k' r in
      ap (λ ns. some_part is_empty (trees ns)) is
      ∙ ap₂ (λ (u : Tree) (b : Bool). is_empty u || b) same.0
      (after_empties t x' xs zs rest ∙ ap (λ (u : Tree). is_empty u || some_part is_empty (trees xs)) same.1)

  pub deduped_packs : (s : S) (xs ys : List Node) → IsDeduped R s xs ys → (d : Direction) → Packs d (in_direction d (trees xs)) (in_direction d (trees ys))
  deduped_packs s [] ys is d = subst (λ (ns : List Node). Packs d (in_direction d no_trees) (in_direction d (trees ns))) (sym is.told) (Packs-refl d _)
  deduped_packs s (x ∷ xs) ys is d = after_packs s x xs ys is.told d no_trees

  pub deduped_empties : (s : S) (xs ys : List Node) → IsDeduped R s xs ys → some_part is_empty (trees ys) ≡ some_part is_empty (trees xs)
  deduped_empties s [] ys is = ap (λ ns. some_part is_empty (trees ns)) is.told
  deduped_empties s (x ∷ xs) ys is = after_empties s x xs ys is.told

-- ---- neighbours searched from one end to the other

-- whether there are neighbours with bytes from an index on, where `before` states whether the part before it has bytes
abbrev pub neighbours_from : Bool → List Node → Bool
neighbours_from before nodes = (before && first_in_list has_bytes (trees nodes)) || has_neighbours has_bytes (trees nodes)

pub on_ok_map : {X E : Type 0} (P Q : Type 0) (r : Result X E) → (P → Q) → OnOk r P → OnOk r Q
on_ok_map P Q (Ok x) f p = f p
on_ok_map P Q (Err e) f p = tt
