use Rattle.std.proofs.Common.{rules, arith, ◌≡◌, ◌+◌, ◌∙◌, ℕ, List, length, min, refl, ap}
use Rattle.std.proofs.lemmas.List.{length-append}
use Rattle.regress_tree.specs.Gathered.{own_group}
use Rattle.regress_tree.specs.Tree.{tree}
use Rattle.regress_tree.specs.WellFormed.{Capture}
use Rattle.regress_tree.proofs.lemmas.Gathered.{visited_adds, gathered-groups}
use Rattle.regress_program.proofs.groups.group_count.Goals as goal

abbrev Counted : ℕ → ℕ → List Capture → Type 0
Counted a b xs = (n : ℕ) → a ≡ min n 18446744073709551615 → b ≡ min (n + length xs) 18446744073709551615

finish : (r b n k : ℕ) → r ≡ b → b ≡ min (0 + n) 18446744073709551615 → n ≡ k → r ≡ min k 18446744073709551615
finish r b n k same counted is = omega (arith, same, counted, is)

pub returns : goal.returns
returns c =
    let counts = visited_adds _ own_group (λ a b xs. (b.0.ghost_name ≡ a.0.ghost_name) × Counted a.0.now.groups b.0.now.groups xs) (record {
      none = λ a. (refl, λ n is. omega (arith, is));
      joined = λ a b d xs ys first second. (second.0 ∙ first.0, λ n is. omega (arith, second.1 (n + length xs) (first.1 n is), length-append xs ys));
      adds = λ a b t u d after skip call. (search rules, rw (← call.on) (search rules));
      leaves = λ a b t u d after skip call. call.leaves;
      goes_on = λ a b t u d after skip call. search rules;
    }) _ _ _ _ _ _ c.walk.ensures.visited in
    finish _ c.walk.new.func.0.now.groups _ _ (search rules) (counts.1 0 (search rules)) (ap length (gathered-groups (tree c.args.node.now)))
