-- The postorder of lists of trees.
use Rattle.std.proofs.Common.{◌≡◌, ℕ, ◌+◌, ◌<◌, List, [], ◌∷◌, ◌++◌, length, map, reverse, refl, sym, ap, ap₂, ◌∙◌, append-nil, append_assoc, length-append, arith}
use Rattle.std.proofs.lemmas.List.{map-append, reverse-append}
use Rattle.std.proofs.lemmas.Grind.{reverse_onto}
use Rattle.regress_tree.specs.Tree.{Tree, Trees, leaf, cat, alt, wrapped, no_trees, more_trees}
use Rattle.regress_spans.specs.Paired.{postorder, postorder_of_list}
use Rattle.regress_spans.specs.Children.{parts_of, body_of, children}

-- the nodes of these trees, each tree in postorder
abbrev pub all_postorder : List Tree → List Tree
all_postorder [] = []
all_postorder (t ∷ ts) = postorder t ++ all_postorder ts

all-append : (xs ys : List Tree) → all_postorder (xs ++ ys) ≡ all_postorder xs ++ all_postorder ys
all-append [] ys = refl
all-append (x ∷ xs) ys = ap (λ ts. postorder x ++ ts) (all-append xs ys) ∙ sym (append_assoc (postorder x) (all_postorder xs) (all_postorder ys))

of-list : (ts : Trees) → postorder_of_list ts ≡ all_postorder (parts_of ts)
of-list no_trees = refl
of-list (more_trees t ts) = ap (λ us. postorder t ++ us) (of-list ts)

-- A tree is after its children.
last : (t : Tree) → postorder t ≡ all_postorder (children t) ++ t ∷ []
last (leaf l) = refl
last (cat parts) = ap (λ ts. ts ++ cat parts ∷ []) (of-list parts)
last (alt left right) =
    ap (λ ts. postorder left ++ ts ++ alt left right ∷ []) (sym (append-nil (postorder right)))
last (wrapped w body) = ap (λ ts. ts ++ wrapped w body ∷ []) (sym (append-nil (postorder body)))

all-last : (xs : List Tree) (t : Tree) → all_postorder (xs ++ t ∷ []) ≡ all_postorder xs ++ (all_postorder (children t) ++ t ∷ [])
all-last xs t = all-append xs (t ∷ []) ∙ ap (λ ts. all_postorder xs ++ ts) (append-nil (postorder t) ∙ last t)

-- The last tree is taken, and its children are put in its place.
pub one_taken : (xs done : List Tree) (t : Tree) →
    all_postorder (xs ++ children t) ++ reverse (done ++ t ∷ []) ≡ all_postorder (xs ++ t ∷ []) ++ reverse done
one_taken xs done t =
    ap₂ (λ (us vs : List Tree). us ++ vs) (all-append xs (children t)) (reverse-append done (t ∷ []))
    ∙ append_assoc (all_postorder xs) (all_postorder (children t)) (t ∷ reverse done)
    ∙ ap (λ ts. all_postorder xs ++ ts) (sym (append_assoc (all_postorder (children t)) (t ∷ []) (reverse done)))
    ∙ sym (append_assoc (all_postorder xs) (all_postorder (children t) ++ t ∷ []) (reverse done))
    ∙ ap (λ ts. ts ++ reverse done) (sym (all-last xs t))

pub one_less : (xs : List Tree) (t : Tree) → length (all_postorder (xs ++ children t)) < length (all_postorder (xs ++ t ∷ []))
one_less xs t =
    let before : length (all_postorder (xs ++ children t)) ≡ length (all_postorder xs) + length (all_postorder (children t)) =
    ap (λ (ts : List Tree). length ts) (all-append xs (children t)) ∙ length-append (all_postorder xs) (all_postorder (children t)) in
    let after : length (all_postorder (xs ++ t ∷ [])) ≡ length (all_postorder xs) + (length (all_postorder (children t)) + 1) =
    ap (λ (ts : List Tree). length ts) (all-last xs t) ∙ length-append (all_postorder xs) (all_postorder (children t) ++ t ∷ [])
    ∙ ap (λ (n : ℕ). length (all_postorder xs) + n) (length-append (all_postorder (children t)) (t ∷ [])) in
    omega (arith, before, after)

pub map-reverse : {A B : Type 0} (f : A → B) (xs : List A) → map f (reverse xs) ≡ reverse (map f xs)
map-reverse f [] = refl
map-reverse f (x ∷ xs) =
    ap (map f) (reverse_onto xs x []) ∙ map-append f (reverse xs) (x ∷ []) ∙ ap (λ ys. ys ++ f x ∷ []) (map-reverse f xs)
    ∙ sym (reverse_onto (map f xs) (f x) [])

-- ---- one iteration of the walk

module _ (waiting popped pushed found more : List Tree) (t : Tree) (last : waiting ≡ popped ++ t ∷ []) (put : pushed ≡ popped ++ children t) where
  pub taken : (root : List Tree) → more ≡ found ++ t ∷ [] → all_postorder waiting ++ reverse found ≡ root → all_postorder pushed ++ reverse more ≡ root
  taken root add invariant = rw (put, add) (one_taken popped found t ∙ rw last at invariant)

  pub fewer : length (all_postorder pushed) < length (all_postorder waiting)
  fewer = rw (put, last) (one_less popped t)
