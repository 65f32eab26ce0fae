-- The new tree ends in `Goal` exactly if the old one does, or it always fails.
use Rattle.std.proofs.Common.{◌≡◌, ◌⊎◌, ℕ, true, inl, inr, refl, sym, ap, ◌∙◌}
use Rattle.std.specs.Prelude.{Result}
use Rattle.std.specs.declared.alloc.AllocError.{AllocError}
use Rattle.std.proofs.Math.Bool.{or-false}
use Rattle.std.proofs.lemmas.Bool.{cases_Bool}
use Rattle.regress_tree.specs.NodeTests.{is_goal, match_always_fails}
use Rattle.regress_tree.specs.Reading.{Direction}
use Rattle.regress_tree.specs.Shapes.{some_part, ends_in_goal}
use Rattle.regress_tree.specs.Tree.{Tree, leaf, cat, alt, wrapped}
use Rattle.regress_tree.specs.WellFormed.{Position, inside, root, last_of, IsAllowed, IsWellFormed}
use Rattle.regress_tree.proofs.lemmas.Goal.{goal-last, inside-no_end, no_end-inside}
use Rattle.regress_rewrite.specs.Splice.{parts_of}
use Rattle.regress_normalize.specs.declared.facts.PartFacts.{PartFacts}
use Rattle.regress_normalize.specs.Normalized.{Normalized}

-- A goal among the parts is the last part.
last_part : (n : ℕ) (p : Position) (t : Tree) → IsAllowed n t p → some_part is_goal (parts_of t) ≡ ends_in_goal t
last_part n p (leaf l) m = or-false (is_goal (leaf l))
last_part n p (cat parts) m = goal-last n (last_of p) parts m.1
last_part n p (alt left right) m = refl
last_part n p (wrapped w body) m = refl

pub goal_kept : (d : Direction) (old new : Tree) (response : Result PartFacts AllocError) → IsWellFormed old → Normalized d old new response →
    (ends_in_goal new ≡ ends_in_goal old) ⊎ (match_always_fails new ≡ true)
goal_kept d old new response formed normalized = elim (cases_Bool (ends_in_goal old)) [
  | inl ends ↦ elim (normalized.goal (inl (last_part _ root old formed.occurs ∙ ends))) [
    | inl has ↦ inl (sym (last_part _ root new (normalized.keeps.occurs _ root formed.occurs)) ∙ has ∙ sym ends)
    | inr is ↦ inr (ap match_always_fails is)
  ]
  | inr ends_not ↦
      inl (inside-no_end _ new (normalized.keeps.occurs _ inside (no_end-inside _ old ends_not formed.occurs)) ∙ sym ends_not)
]
