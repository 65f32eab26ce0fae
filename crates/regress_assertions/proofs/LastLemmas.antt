-- The last part of a list.
use Rattle.std.proofs.Common.{◌≡◌, ℕ, zero, suc, ◌-◌, ◌<◌, List, [], ◌∷◌, length, get_or, sym, ap, ◌∙◌, arith}
use Rattle.regress_tree.specs.Tree.{tree, trees}
use Rattle.regress_tree.specs.declared.ir.node.Node.{Node}
use Rattle.regress_assertions.specs.Characters.{Characters}
use Rattle.regress_assertions.specs.Edges.{closes, closes_list}

-- A list closes as its last part does.
pub last_part : (set : Characters) (xs : List Node) (x : Node) → 0 < length xs → x ≡ get_or xs (length xs - 1) x →
    closes_list set (trees xs) ≡ closes set (tree x)
last_part set [] x less is =
    let bad : ⊥ = omega (arith, less) in
    absurd bad
last_part set (y ∷ []) x less is = ap (λ (n : Node). closes set (tree n)) (sym is)
last_part set (y ∷ z ∷ ys) x less is =
    let more : 0 < length (z ∷ ys) = omega arith in
    let before : length (y ∷ z ∷ ys) - 1 ≡ suc (length ys) = omega arith in
    let here : length (z ∷ ys) - 1 ≡ length ys = omega arith in
    last_part set (z ∷ ys) x more
    (is ∙ ap (λ (n : ℕ). get_or (y ∷ z ∷ ys) n x) before ∙ sym (ap (λ (n : ℕ). get_or (z ∷ ys) n x) here))
