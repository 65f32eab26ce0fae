-- Steps to the normal form of a loop.
use Rattle.std.specs.Prelude.{◌≡◌, ◌⊎◌, ℕ, true, false, [], Result, IfOk}
use Rattle.std.specs.declared.alloc.AllocError.{AllocError}
use Rattle.regress_base.specs.declared.types.Quantifier.{Quantifier}
use Rattle.regress_tree.specs.NodeTests.{matches_exactly_one_char}
use Rattle.regress_tree.specs.NormalForm.{IsNormal}
use Rattle.regress_tree.specs.Reading.{Direction}
use Rattle.regress_tree.specs.Shapes.{has_group, may_unroll, is_empty_wrapper, fails_by_part, is_failed_away}
use Rattle.regress_tree.specs.Tree.{empty, byte_set, loop, loop_one, Tree, leaf, wrapped}
use Rattle.regress_rewrite.specs.Law.{Keeps}
use Rattle.regress_normalize.specs.Normalized.{IsCatOf}
use Rattle.regress_normalize.specs.PartFacts.{HasFacts}
use Rattle.regress_normalize.specs.declared.facts.PartFacts.{PartFacts}
use Rattle.regress_normalize.specs.declared.facts.ListFacts.{ListFacts}
use Rattle.regress_normalize.specs.declared.wrapper.LoopForm.{LoopForm}
use Rattle.regress_normalize.specs.declared.wrapper.LoopForm.TheVariants.{OneCharacter, Empty, AlwaysFails, Stays}
use Rattle.regress_normalize.specs.declared.wrapper.LoopPlan.{LoopPlan}

-- a loop that is not unrolled, around a body in normal form
pub record IsLoopOf (facts : PartFacts) (t : Tree) : Type 0 where
  pub quantifier : Quantifier
  pub start : ℕ
  pub end : ℕ
  pub body : Tree
  pub is : t ≡ wrapped (loop quantifier start end) body
  pub stays : may_unroll quantifier start end body ≡ false
  pub normal : IsNormal body
  pub has : HasFacts facts body

-- a loop in this form
abbrev pub in_form : LoopForm → Quantifier → (start end : ℕ) → Tree → Tree
in_form (OneCharacter room) q start end body = wrapped (loop_one q) body
in_form Empty q start end body = leaf empty
in_form AlwaysFails q start end body = leaf (byte_set [])
in_form Stays q start end body = wrapped (loop q start end) body

-- a loop in this form; any other tree is unchanged
abbrev pub loop_in_form : LoopForm → Tree → Tree
loop_in_form form (wrapped (loop q start end) body) = in_form form q start end body
loop_in_form form t = t

-- The form is that of a loop over one character.
abbrev pub IsOneCharacter : LoopForm → Type 0
IsOneCharacter (OneCharacter room) = Unit {0}
IsOneCharacter form = ⊥

-- The reason for which a loop takes the form. It stays a loop if no rewrite but unrolling has anything to remove.
abbrev pub TakesForm : LoopForm → PartFacts → Quantifier → (start end : ℕ) → Tree → Type 0
TakesForm (OneCharacter room) facts q start end body = (facts.was_one_character ≡ true) ⊎ (matches_exactly_one_char body ≡ true)
TakesForm Empty facts q start end body = is_empty_wrapper (loop q start end) body ≡ true
TakesForm AlwaysFails facts q start end body = (fails_by_part (wrapped (loop q start end) body) ≡ true) × (has_group body ≡ false)
TakesForm Stays facts q start end body =
    (matches_exactly_one_char body ≡ false) × (is_empty_wrapper (loop q start end) body ≡ false)
    × (is_failed_away (wrapped (loop q start end) body) ≡ false)

-- The form of a loop has a reason, and the loop in this form has the facts.
pub record IsPlanned (body_facts : PartFacts) (q : Quantifier) (start end : ℕ) (body : Tree) (plan : LoopPlan) : Type 0 where
  pub takes : TakesForm plan.form body_facts q start end body
  pub has : HasFacts plan.facts (in_form plan.form q start end body)
  pub many : plan.facts.was_one_character ≡ false

-- The new tree keeps what the law requires. Unless an allocation failed it is a `Cat` of parts in normal form with
-- these facts.
pub record HasFinishedParts (d : Direction) (old new : Tree) (response : Result ListFacts AllocError) : Type 0 where
  pub keeps : Keeps d old new
  pub parts : IfOk response (λ list. IsCatOf list new)
