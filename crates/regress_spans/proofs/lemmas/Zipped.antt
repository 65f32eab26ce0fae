-- A list of nodes beside a list of spans, from some node on.
use Rattle.std.proofs.Common.{◌≡◌, ℕ, suc, ◌+◌, ◌<◌, ◌≤◌, List, [], ◌∷◌, length, drop, get_or, ap, ap₂, ◌∙◌, sym, drop-cons, arith}
use Rattle.std.proofs.lemmas.List.{drop_all}
use Rattle.std.specs.Borrow.{Bor}
use Rattle.std.specs.List.{zip}
use Rattle.regress_tree.specs.Tree.{tree}
use Rattle.regress_tree.specs.declared.ir.node.Node.{Node}
use Rattle.regress_parse.specs.declared.span.Span.{Span}
use Rattle.regress_spans.specs.Children.{trees_at}

-- The first one is beside the first span.
pub next : (nodes : List (Bor Node)) (i : ℕ) (node : Bor Node) (spans others : List Span) (span : Span) → i < length nodes →
    node ≡ get_or nodes i node → spans ≡ span ∷ others →
    zip (trees_at (drop i nodes)) spans ≡ (tree node.now, span) ∷ zip (trees_at (drop (i + 1) nodes)) others
next nodes i node spans others span within is first = ap₂ (λ (xs : List (Bor Node)) (ss : List Span). zip (trees_at xs) ss) here first
  where
    one : suc i ≡ i + 1
    one = omega arith

    here : drop i nodes ≡ node ∷ drop (i + 1) nodes
    here = drop-cons nodes i node within ∙ ap₂ (λ (n : Bor Node) (k : ℕ). n ∷ drop k nodes) (sym is) one

-- No node is left.
pub no_nodes : (nodes : List (Bor Node)) (i : ℕ) (spans : List Span) → length nodes ≤ i → zip (trees_at (drop i nodes)) spans ≡ []
no_nodes nodes i spans all = ap (λ (xs : List (Bor Node)). zip (trees_at xs) spans) (drop_all i nodes all)
