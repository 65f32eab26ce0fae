use Rattle.std.proofs.Common.{◌≡◌, not, true, false, Bool, refl, sym, ◌∙◌}
use Rattle.regress_classes.proofs.class_sets.plain.begins_plain_union.Goals as goal

pub returns-then-not-begins_with : goal.returns-then-not-begins_with
returns-then-not-begins_with c = λ begins. (
  c.in-Some.field-0-0,
  c.in-Some.after.now,
  c.in-Some.ensures.0,
  c.in-Some.ensures.1,
  sym c.begins_with.ensures ∙ c.if-not-begins_with.true,
  sym c.are_at.ensures ∙ was c.are_at.result begins,
)
  where
    was : (b : Bool) → not b ≡ true → b ≡ false
    was true e = absurd cc
    was false e = refl
