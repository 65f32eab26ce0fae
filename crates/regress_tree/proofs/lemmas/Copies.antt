-- Lists of copies of a tree.
use Rattle.std.proofs.Common.{◌≡◌, ℕ, zero, suc, ◌+◌, List, [], ◌∷◌, ◌++◌, refl, sym, ap, ap₂, ◌∙◌}
use Rattle.std.proofs.Math.Nat.{suc-add}
use Rattle.regress_tree.specs.declared.ir.node.Node.{Node}
use Rattle.regress_tree.specs.Tree.{Tree, Trees, no_trees, more_trees, append_trees, copies, tree, trees}
use Rattle.regress_tree.specs.WellFormed.{captures, captures_of_trees, inside, IsAllowed, PartsAllowed}
use Rattle.regress_tree.proofs.lemmas.Lists.{trees-append}

-- one more copy
pub copies-push : (n : ℕ) (t : Tree) → append_trees (copies n t) (more_trees t no_trees) ≡ copies (n + 1) t
copies-push zero t = refl
copies-push (suc n) t = ap (more_trees t) (copies-push n t) ∙ ap (λ (k : ℕ). copies k t) (sym (suc-add n 1))

-- the same for a list of nodes
pub trees-push_copy : (parts : List Node) (n : ℕ) (body : Tree) (copy : Node) → trees parts ≡ copies n body → tree copy ≡ body →
    trees (parts ++ copy ∷ []) ≡ copies (n + 1) body
trees-push_copy parts n body copy copied is =
    trees-append parts (copy ∷ []) ∙ ap₂ (λ (ts : Trees) (t : Tree). append_trees ts (more_trees t no_trees)) copied is
    ∙ copies-push n body

pub copies-occur : (n k : ℕ) (t : Tree) → IsAllowed n t inside → PartsAllowed n (copies k t) inside
copies-occur n zero t m = tt
copies-occur n (suc zero) t m = m
copies-occur n (suc (suc k)) t m = (m, copies-occur n (suc k) t m)

pub captures-copies : (n : ℕ) (t : Tree) → captures t ≡ [] → captures_of_trees (copies n t) ≡ []
captures-copies zero t none = refl
captures-copies (suc n) t none = ap₂ ◌++◌ none (captures-copies n t none)
