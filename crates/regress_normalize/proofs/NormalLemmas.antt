-- A tree is in normal form if its parts are and its root lacks each shape.
use Rattle.std.proofs.Common.{◌≡◌, Bool, false, ◌||◌, [], refl, ap₂}
use Rattle.regress_tree.specs.NormalForm.{IsNormal}
use Rattle.regress_tree.specs.Shapes.{LacksShape, is_simplified_away, is_flattened_away, is_unrolled_away, is_promoted_away, is_formed_away, is_emptied_away, is_failed_away}
use Rattle.regress_tree.specs.Spine.{reattach}
use Rattle.regress_tree.specs.Tree.{Leaf, Tree, leaf, empty, byte_set, alt}
use Rattle.regress_tree.proofs.lemmas.Measures.{LacksShape-from}
use Rattle.regress_tree.proofs.lemmas.TreeContexts.{TreeContext, put, LacksShape-whole}
use Rattle.regress_rewrite.proofs.lemmas.Spine.{LacksShape-reattach}

-- the kinds of shapes, one for each field of the normal form
pub data Kind : Type 0 where
  simplified : Kind
  flattened : Kind
  unrolled : Kind
  promoted : Kind
  formed : Kind
  emptied : Kind
  failed : Kind

abbrev pub shape : Kind → Tree → Bool
shape simplified = is_simplified_away
shape flattened = is_flattened_away
shape unrolled = is_unrolled_away
shape promoted = is_promoted_away
shape formed = is_formed_away
shape emptied = is_emptied_away
shape failed = is_failed_away

-- a tree in normal form lacks each kind
pub lacks : (t : Tree) → IsNormal t → (k : Kind) → LacksShape (shape k) t
lacks t normal simplified = normal.simplified
lacks t normal flattened = normal.flattened
lacks t normal unrolled = normal.unrolled
lacks t normal promoted = normal.promoted
lacks t normal formed = normal.formed
lacks t normal emptied = normal.emptied
lacks t normal failed = normal.failed

pub normal_from : (t : Tree) → ((k : Kind) → LacksShape (shape k) t) → IsNormal t
normal_from t none = record {
  simplified = none simplified;
  flattened = none flattened;
  unrolled = none unrolled;
  promoted = none promoted;
  formed = none formed;
  emptied = none emptied;
  failed = none failed;
}

pub IsNormal-part : (p : TreeContext) (t : Tree) → IsNormal (put p t) → IsNormal t
IsNormal-part p t normal = normal_from t (λ k. LacksShape-whole (shape k) p t (lacks (put p t) normal k))

pub IsNormal-reattach : (above t : Tree) → IsNormal (reattach above t) → IsNormal t
IsNormal-reattach above t normal = normal_from t (λ k. LacksShape-reattach (shape k) above t (lacks (reattach above t) normal k))

-- the three kinds of shapes that a leaf can have
pub IsNormal-leaf : (l : Leaf) → is_simplified_away (leaf l) ≡ false → is_formed_away (leaf l) ≡ false → is_emptied_away (leaf l) ≡ false →
    IsNormal (leaf l)
IsNormal-leaf l no_bracket no_literal no_empty = record {
  simplified = no_bracket;
  flattened = refl;
  unrolled = refl;
  promoted = refl;
  formed = no_literal;
  emptied = no_empty;
  failed = refl;
}

pub empty_normal : IsNormal (leaf empty)
empty_normal = IsNormal-leaf empty refl refl refl

pub nothing_normal : IsNormal (leaf (byte_set []))
nothing_normal = IsNormal-leaf (byte_set []) refl refl refl

module _ (left right : Tree) (left_normal : IsNormal left) (right_normal : IsNormal right) where
  -- an `Alt` has a shape itself only if both sides are `Empty`, or if one side fails and there is no group
  pub IsNormal-alt : is_emptied_away (alt left right) ≡ false → is_failed_away (alt left right) ≡ false → IsNormal (alt left right)
  IsNormal-alt no_empties no_failing = normal_from (alt left right) (λ k.
      LacksShape-from (shape k) (alt left right) (ap₂ ◌||◌ (lacks left left_normal k) (lacks right right_normal k)) (here k))
    where
      here : (k : Kind) → shape k (alt left right) ≡ false
      here simplified = refl
      here flattened = refl
      here unrolled = refl
      here promoted = refl
      here formed = refl
      here emptied = no_empties
      here failed = no_failing
