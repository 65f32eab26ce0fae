-- The traversal of a list of parts, part by part.
use Rattle.std.proofs.Common.{◌≡◌, ℕ, ◌+◌, ◌<◌, ◌≤◌, Bool, List, [], ◌∷◌, ◌++◌, length, take, drop, get_or, set, Result, Ok, suc, sym, ap, subst, ◌∙◌, arith}
use Rattle.std.specs.declared.alloc.AllocError.{AllocError}
use Rattle.std.proofs.Math.Bool.{or-false}
use Rattle.std.proofs.Math.Seq.{split_at, drop-cons}
use Rattle.std.proofs.lemmas.List.{set_split, take_more_set, take-append-drop, drop-drop, drop-set-lt}
use Rattle.regress_tree.specs.declared.ir.node.Node.{Node}
use Rattle.regress_tree.specs.Reading.{Direction}
use Rattle.regress_tree.specs.Tree.{Tree, cat, append_trees, tree, trees}
use Rattle.regress_tree.specs.Units.{sizes, units, units_in_list}
use Rattle.regress_tree.specs.Shapes.{LacksShape, ListLacksShape, LacksInside}
use Rattle.regress_tree.proofs.lemmas.Lists.{trees-append}
use Rattle.regress_tree.proofs.lemmas.Measures.{total-append, ListLacksShape-append}
use Rattle.regress_tree.proofs.lemmas.TreeContexts.{TreeContext, among, put, LacksShape-part}
use Rattle.regress_rewrite.specs.Law.{IsPart, Keeps}
use Rattle.regress_passes.specs.Sweep.{Traversed, TraversedOf}
use Rattle.regress_rewrite.proofs.lemmas.Keeps.{IsPart-kept, IsPart-part}
use Rattle.regress_passes.proofs.ChangesLemmas.{joined}
use Rattle.regress_passes.proofs.SweepLemmas.{Traversed-put, Traversed-then}
use Rattle.regress_rewrite.proofs.lemmas.Parts.{context, list_set, list_at}

-- the traversal of the parts `initial`, when it has reached part `i`
abbrev pub PartsSwept : (Tree → Bool) → Bool → Direction → List Node → List Node → ℕ → Result Bool AllocError → Type 0
PartsSwept shape exact d initial now i =
    Traversed (ListLacksShape shape (trees initial)) (ListLacksShape shape (trees (take i now))) exact d (cat (trees initial)) (cat (trees now))

module _ (now : List Node) (i : ℕ) (in_list : i < length now) (old : Node) (at : old ≡ get_or now i old) (shape : Tree → Bool) (exact : Bool) (d : Direction) (initial : List Node) (changed : Bool)
    (new : Node) where
  part_lacks : ListLacksShape shape (trees initial) → cat (trees now) ≡ cat (trees initial) → LacksShape shape (tree old)
  part_lacks lacks same =
      let P : Tree → Type 0 = λ t. LacksInside shape t in
      let lacks_now : LacksInside shape (cat (trees now)) = subst P (sym same) lacks in
      LacksShape-part shape (context now i in_list) (tree old) (subst P (list_at now i in_list old at) lacks_now)

  more_lack : ListLacksShape shape (trees (take i now)) → LacksShape shape (tree new) →
      ListLacksShape shape (trees (take (i + 1) (set now i new)))
  more_lack before here =
      let one : ListLacksShape shape (trees (new ∷ [])) = or-false _ ∙ here in
      rw (take_more_set now i new in_list, trees-append (take i now) (new ∷ []))
      (ListLacksShape-append shape (trees (take i now)) (trees (new ∷ [])) before one)

  pub parts_next : (response : Result Bool AllocError) → PartsSwept shape exact d initial now i (Ok changed) →
      TraversedOf (LacksShape shape) exact d (tree old) (tree new) response →
      PartsSwept shape exact d initial (set now i new) (i + 1) (joined changed response)
  parts_next response so_far here =
      let there = Traversed-put exact (context now i in_list) d here in
      Traversed-then exact d so_far (rw (list_at now i in_list old at, list_set now i in_list new) there) part_lacks more_lack
