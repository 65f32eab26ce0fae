-- What is known of all instructions of a routine by those that are stored: tests, and the groups that they change.
use Rattle.std.proofs.Common.{◌≡◌, ℕ, Bool, true, false, ◌||◌, max, List, [], ◌∷◌, refl, sym, ap, ◌∙◌, arith}
use Rattle.std.specs.List.{list_any}
use Rattle.regress_leaves.specs.declared.test.Test.{Test}
use Rattle.regress_program.specs.Copies.{moved_in, expanded, AreCopies}
use Rattle.regress_program.specs.Linear.{changes_captures, is_reason}
use Rattle.regress_program.specs.Listed.{all_of, listed}
use Rattle.regress_program.specs.Program.{Op, accept, fail, part, split, begin_loop, repeat, end_loop, unsets, begin_group, end_group, look, Routine}
use Rattle.regress_program.specs.Ranges.{captured_by, captured_by_all, changed_by, changed_by_all, hull, no_groups}
use Rattle.regress_program.specs.Views.{op_in, ops_in, routine_in}
use Rattle.regress_program.specs.declared.copies.Copies.{Copies}
use Rattle.regress_program.specs.declared.instruction.Instruction.{Instruction}
use Rattle.regress_program.specs.declared.instruction.Routine as declared
use Rattle.regress_program.specs.declared.nonlinear.Nonlinear.{Nonlinear}
use Rattle.regress_program.specs.declared.nonlinear.Nonlinear.TheVariants.{BackReference, CapturingLookaround}
use Rattle.regress_program.specs.declared.ranges.GroupRange.{GroupRange}
use Rattle.regress_program.proofs.AddMoved.{IsUnmoved, unmoved-back_reference, unmoved-captures, unmoved-changed, unmoved-lookaround}
use Rattle.regress_program.proofs.ExpandedLemmas.{op_in-moved}
use Rattle.regress_program.proofs.ExpandedPush.{joined-expanded}
use Rattle.regress_program.proofs.HullLemmas.{hull-swap, hull-twice}
use Rattle.regress_program.proofs.TimesLemmas.{joined}

-- a fold that neither tells copies from originals nor depends on the instructions that they name
module _ {V : Type 0} (value : Op → V) (unmoved : IsUnmoved value) (join : V → V → V) (swap : (a b v : V) → join a (join b v) ≡ join b (join a v))
    (twice : (a v : V) → join a (join a v) ≡ join a v) (leaves : List Test) where
  abbrev value_in : Instruction → V
  value_in i = value (op_in leaves i)

  value-moved : (from n : ℕ) (i : Instruction) → value_in (moved_in from n i) ≡ value_in i
  value-moved from n i = ap value (op_in-moved leaves from n i) ∙ unmoved from n (op_in leaves i)

  folded-expanded : (none : V) (stored : List Instruction) (copies : List Copies) → AreCopies stored copies →
      joined value_in join (expanded stored copies) none ≡ joined value_in join stored none
  folded-expanded none stored copies are =
      joined-expanded value_in join swap twice (λ from n i. value-moved from n i) stored copies are none (λ i r next found. (are i r found).within)

-- ---- tests

or-swap : (a b v : Bool) → (a || (b || v)) ≡ (b || (a || v))
or-swap true true v = refl
or-swap true false v = refl
or-swap false true v = refl
or-swap false false v = refl

or-twice : (a v : Bool) → (a || (a || v)) ≡ (a || v)
or-twice true v = refl
or-twice false v = refl

any-joined : (test : Op → Bool) (leaves : List Test) (xs : List Instruction) → list_any test (ops_in leaves xs) ≡ joined (λ i. test (op_in leaves i)) ◌||◌ xs false
any-joined test leaves [] = refl
any-joined test leaves (x ∷ xs) = ap (λ b. test (op_in leaves x) || b) (any-joined test leaves xs)

-- An instruction passes a test if a stored one does.
any-expanded : (test : Op → Bool) → IsUnmoved test → (leaves : List Test) (stored : List Instruction) (copies : List Copies) → AreCopies stored copies →
    list_any test (ops_in leaves (expanded stored copies)) ≡ list_any test (ops_in leaves stored)
any-expanded test unmoved leaves stored copies are =
    any-joined test leaves (expanded stored copies)
    ∙ folded-expanded test unmoved ◌||◌ or-swap or-twice leaves false stored copies are ∙ sym (any-joined test leaves stored)

unmoved-reason : (program : List Routine) (why : Nonlinear) → IsUnmoved (is_reason program why)
unmoved-reason program BackReference from n op = unmoved-back_reference from n op
unmoved-reason program CapturingLookaround from n op = unmoved-lookaround program from n op

-- ---- the groups that they change

changed-joined : (leaves : List Test) (earlier : List GroupRange) (xs : List Instruction) →
    changed_by_all earlier (ops_in leaves xs) ≡ joined (λ i. changed_by earlier (op_in leaves i)) hull xs no_groups
changed-joined leaves earlier [] = refl
changed-joined leaves earlier (x ∷ xs) = ap (hull (changed_by earlier (op_in leaves x))) (changed-joined leaves earlier xs)

-- The groups that a routine changes are those that its stored instructions change.
changed-expanded : (earlier : List GroupRange) (leaves : List Test) (stored : List Instruction) (copies : List Copies) → AreCopies stored copies →
    changed_by_all earlier (ops_in leaves (expanded stored copies)) ≡ changed_by_all earlier (ops_in leaves stored)
changed-expanded earlier leaves stored copies are =
    changed-joined leaves earlier (expanded stored copies)
    ∙ folded-expanded (changed_by earlier) (unmoved-changed earlier) hull hull-swap hull-twice leaves no_groups stored copies are
    ∙ sym (changed-joined leaves earlier stored)

-- ---- the groups that their lookarounds set

max-swap : (a b v : ℕ) → max a (max b v) ≡ max b (max a v)
max-swap a b v = omega arith

max-twice : (a v : ℕ) → max a (max a v) ≡ max a v
max-twice a v = omega arith

unmoved-captured : (ranges : List GroupRange) → IsUnmoved (captured_by ranges)
unmoved-captured ranges from n accept = refl
unmoved-captured ranges from n fail = refl
unmoved-captured ranges from n (part t next) = refl
unmoved-captured ranges from n (split first second) = refl
unmoved-captured ranges from n (begin_loop greedy body next) = refl
unmoved-captured ranges from n (repeat greedy body next) = refl
unmoved-captured ranges from n (end_loop next) = refl
unmoved-captured ranges from n (unsets start end next) = refl
unmoved-captured ranges from n (begin_group next) = refl
unmoved-captured ranges from n (end_group id next) = refl
unmoved-captured ranges from n (look true routine next) = refl
unmoved-captured ranges from n (look false routine next) = refl

captured-joined : (leaves : List Test) (ranges : List GroupRange) (xs : List Instruction) →
    captured_by_all ranges (ops_in leaves xs) ≡ joined (λ i. captured_by ranges (op_in leaves i)) max xs 0
captured-joined leaves ranges [] = refl
captured-joined leaves ranges (x ∷ xs) = ap (max (captured_by ranges (op_in leaves x))) (captured-joined leaves ranges xs)

-- Lookarounds set groups up to the same one as the stored ones.
captured-expanded : (ranges : List GroupRange) (leaves : List Test) (stored : List Instruction) (copies : List Copies) → AreCopies stored copies →
    captured_by_all ranges (ops_in leaves (expanded stored copies)) ≡ captured_by_all ranges (ops_in leaves stored)
captured-expanded ranges leaves stored copies are =
    captured-joined leaves ranges (expanded stored copies)
    ∙ folded-expanded (captured_by ranges) (unmoved-captured ranges) max max-swap max-twice leaves 0 stored copies are
    ∙ sym (captured-joined leaves ranges stored)

-- ---- the same for the instructions of a routine

module _ (leaves : List Test) (r : declared.Routine) where
  any-stored : (test : Op → Bool) → IsUnmoved test → list_any test (routine_in leaves r).ops ≡ list_any test (ops_in leaves r.instructions.stored.items)
  unfolding listed all_of
  any-stored test unmoved = any-expanded test unmoved leaves r.instructions.stored.items r.instructions.copies.items r.instructions.are

  pub changes-stored : list_any changes_captures (routine_in leaves r).ops ≡ list_any changes_captures (ops_in leaves r.instructions.stored.items)
  changes-stored = any-stored changes_captures unmoved-captures

  pub reason-stored : (program : List Routine) (why : Nonlinear) →
      list_any (is_reason program why) (routine_in leaves r).ops ≡ list_any (is_reason program why) (ops_in leaves r.instructions.stored.items)
  reason-stored program why = any-stored (is_reason program why) (unmoved-reason program why)

  pub changed-stored : (earlier : List GroupRange) →
      changed_by_all earlier (routine_in leaves r).ops ≡ changed_by_all earlier (ops_in leaves r.instructions.stored.items)
  unfolding listed all_of
  changed-stored earlier = changed-expanded earlier leaves r.instructions.stored.items r.instructions.copies.items r.instructions.are

  pub captured-stored : (ranges : List GroupRange) →
      captured_by_all ranges (routine_in leaves r).ops ≡ captured_by_all ranges (ops_in leaves r.instructions.stored.items)
  unfolding listed all_of
  captured-stored ranges = captured-expanded ranges leaves r.instructions.stored.items r.instructions.copies.items r.instructions.are
