-- White space and line terminators in order have the members of the two lists in sequence.
use Rattle.std.proofs.Common.{◌≡◌, ◌++◌, ◌∙◌, ℕ, List, [], ◌∷◌, arith}
use Rattle.std.proofs.lemmas.Bool.Decides.{nat_tests}
use Rattle.std.proofs.lemmas.Result.{IfOk-weaker}
use Rattle.regress_base.specs.Classes.{white_space, line_terminators}
use Rattle.regress_base.specs.Intervals.{Bounds, is_within, is_member}
use Rattle.regress_classes.specs.ClassViews.{HasMembers}
use Rattle.regress_classes.proofs.class_escape.spaces.Goals as goal

abbrev in_order : List Bounds
in_order =
    record { first = 9; last = 13 } ∷ record { first = 32; last = 32 } ∷ record { first = 160; last = 160 }
    ∷ record { first = 5760; last = 5760 } ∷ record { first = 8192; last = 8202 } ∷ record { first = 8232; last = 8233 }
    ∷ record { first = 8239; last = 8239 } ∷ record { first = 8287; last = 8287 } ∷ record { first = 12288; last = 12288 }
    ∷ record { first = 65279; last = 65279 } ∷ []

joined : (n : ℕ) → is_member in_order n ≡ is_member (white_space ++ line_terminators) n
unfolding is_member is_within
joined n = grind (arith, nat_tests)

pub returns : goal.returns
returns c =
    IfOk-weaker c.set_of.result (HasMembers in_order) (HasMembers (white_space ++ line_terminators))
    (λ set has. record { canonical = has.canonical; each = λ n. has.each n ∙ joined n })
    (rw (
      c.new.ensures,
      c.new-2.ensures,
      c.new-3.ensures,
      c.new-4.ensures,
      c.new-5.ensures,
      c.new-6.ensures,
      c.new-7.ensures,
      c.new-8.ensures,
      c.new-9.ensures,
      c.new-10.ensures,
    ) at c.set_of.ensures)
