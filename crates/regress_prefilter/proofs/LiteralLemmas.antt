-- The longest of the literals of a tree, from those of its parts.
use Rattle.std.proofs.Common.{◌≡◌, ◌∙◌, ℕ, ◌<◌, List, [], ◌∷◌, ◌++◌, Some, None, Option, String, Box, Global, Vec, length, refl, sym, ap, subst, arith, ◌⊎◌, inl, inr}
use Rattle.std.proofs.lemmas.Bool.{lt-ltb}
use Rattle.std.specs.Borrow.{Bor}
use Rattle.std.specs.Prelude.{nat_lt, if◌then◌else◌, IfSome}
use Rattle.std.specs.declared.ops.Range.{Range}
use Rattle.regress_base.specs.declared.types.Quantifier.{Quantifier}
use Rattle.regress_tree.specs.Tree.{tree, trees}
use Rattle.regress_tree.specs.declared.ir.node.Node.{Node}
use Rattle.regress_tree.specs.declared.ir.node.Node.TheVariants.{Cat, CaptureGroup, Loop, Loop1CharBody}
use Rattle.regress_tree.proofs.lemmas.Nodes.{tree-Cat, tree-CaptureGroup, tree-Loop, tree-Loop1CharBody}
use Rattle.regress_prefilter.specs.Literals.{literals, literals_of_trees, longer, longest}

pub longer-none : (one : Option (List ℕ)) → longer one None ≡ one
longer-none None = refl
longer-none (Some a) = refl

pub longer-assoc : (one two three : Option (List ℕ)) → longer (longer one two) three ≡ longer one (longer two three)
longer-assoc None two three = refl
longer-assoc (Some a) None three = refl
longer-assoc (Some a) (Some b) None = longer-none (longer (Some a) (Some b))
longer-assoc (Some a) (Some b) (Some c) = grind arith

pub longest-append : (xs ys : List (List ℕ)) → longest (xs ++ ys) ≡ longer (longest xs) (longest ys)
longest-append [] ys = refl
longest-append (x ∷ xs) ys = ap (longer (Some x)) (longest-append xs ys) ∙ sym (longer-assoc (Some x) (longest xs) (longest ys))

-- ---- nodes

pub cat_literals : (node : Node) (parts : Vec Node Global) (items : List Node) → node ≡ Cat parts → items ≡ parts.items →
    literals_of_trees (trees items) ≡ literals (tree node)
cat_literals node parts items is same = sym (ap (λ n. literals (tree n)) is ∙ ap literals (tree-Cat parts) ∙ ap (λ ns. literals_of_trees (trees ns)) (sym same))

pub group_literals : (node : Node) (id : ℕ) (contents : Box Node Global) (name : Option (String Global)) → node ≡ CaptureGroup id contents name →
    literals (tree contents.value) ≡ literals (tree node)
group_literals node id contents name is = sym (ap (λ n. literals (tree n)) is ∙ ap literals (tree-CaptureGroup id contents name))

with_minimum : (n : ℕ) (xs : List (List ℕ)) → 0 < n → xs ≡ (if nat_lt 0 n then xs else [])
with_minimum n xs some = ap (λ b. if b then xs else []) (sym (lt-ltb 0 n some))

pub loop_literals : (node : Node) (loopee : Box Node Global) (q : Quantifier) (groups : Range ℕ) → node ≡ Loop groups loopee q → 0 < q.min →
    literals (tree loopee.value) ≡ literals (tree node)
loop_literals node loopee q groups is some =
    with_minimum q.min (literals (tree loopee.value)) some ∙ sym (ap (λ n. literals (tree n)) is ∙ ap literals (tree-Loop loopee q groups))

pub loop_one_literals : (node : Node) (loopee : Box Node Global) (q : Quantifier) → node ≡ Loop1CharBody loopee q → 0 < q.min →
    literals (tree loopee.value) ≡ literals (tree node)
loop_one_literals node loopee q is some =
    with_minimum q.min (literals (tree loopee.value)) some ∙ sym (ap (λ n. literals (tree n)) is ∙ ap literals (tree-Loop1CharBody loopee q))

-- one of two literals that are not empty
pub not_empty_of_two : (one two found : Option (Bor (List ℕ))) → (found ≡ one) ⊎ (found ≡ two) → IfSome one (λ l. 0 < length l.now) →
    IfSome two (λ l. 0 < length l.now) → IfSome found (λ l. 0 < length l.now)
not_empty_of_two one two found (inl is) first second = subst (λ (o : Option (Bor (List ℕ))). IfSome o (λ l. 0 < length l.now)) (sym is) first
not_empty_of_two one two found (inr is) first second = subst (λ (o : Option (Bor (List ℕ))). IfSome o (λ l. 0 < length l.now)) (sym is) second
