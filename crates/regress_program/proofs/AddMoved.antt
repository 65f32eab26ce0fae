-- What moved instructions keep of what a part contains.
use Rattle.std.proofs.Common.{◌≡◌, ℕ, ◌≤◌, true, false, List, length, refl, sym, ap, subst, ◌∙◌, arith}
use Rattle.std.proofs.lemmas.Option.{slice_get_within}
use Rattle.regress_program.specs.declared.ranges.GroupRange.{GroupRange}
use Rattle.regress_program.specs.Adds.{IsRangeWithin, IsOf, Adds}
use Rattle.regress_program.specs.Compiled.{Code}
use Rattle.regress_program.specs.Contents.{Contents}
use Rattle.regress_program.specs.Linear.{changes_captures, is_back_reference, is_capturing_lookaround}
use Rattle.regress_program.specs.Program.{Op, accept, fail, part, split, begin_loop, repeat, end_loop, unsets, begin_group, end_group, look, Routine}
use Rattle.regress_program.specs.Ranges.{changed_by, ranges_of}
use Rattle.regress_program.proofs.AddLemmas.{is_of-part, part-same}
use Rattle.regress_program.proofs.Moved.{moved_op, Moves}
use Rattle.regress_program.proofs.MovedLemmas.{moves-from, later_routines}

-- A function of an instruction does not depend on the instructions that it names.
abbrev pub IsUnmoved : {X : Type 0} → (Op → X) → Type 0
IsUnmoved f = (from n : ℕ) (op : Op) → f (moved_op from n op) ≡ f op

pub unmoved-back_reference : IsUnmoved is_back_reference
unmoved-back_reference from n accept = refl
unmoved-back_reference from n fail = refl
unmoved-back_reference from n (part t next) = refl
unmoved-back_reference from n (split first second) = refl
unmoved-back_reference from n (begin_loop greedy body next) = refl
unmoved-back_reference from n (repeat greedy body next) = refl
unmoved-back_reference from n (end_loop next) = refl
unmoved-back_reference from n (unsets start end next) = refl
unmoved-back_reference from n (begin_group next) = refl
unmoved-back_reference from n (end_group id next) = refl
unmoved-back_reference from n (look negate routine next) = refl

pub unmoved-captures : IsUnmoved changes_captures
unmoved-captures from n accept = refl
unmoved-captures from n fail = refl
unmoved-captures from n (part t next) = refl
unmoved-captures from n (split first second) = refl
unmoved-captures from n (begin_loop greedy body next) = refl
unmoved-captures from n (repeat greedy body next) = refl
unmoved-captures from n (end_loop next) = refl
unmoved-captures from n (unsets start end next) = refl
unmoved-captures from n (begin_group next) = refl
unmoved-captures from n (end_group id next) = refl
unmoved-captures from n (look negate routine next) = refl

pub unmoved-lookaround : (program : List Routine) → IsUnmoved (is_capturing_lookaround program)
unmoved-lookaround program from n accept = refl
unmoved-lookaround program from n fail = refl
unmoved-lookaround program from n (part t next) = refl
unmoved-lookaround program from n (split first second) = refl
unmoved-lookaround program from n (begin_loop greedy body next) = refl
unmoved-lookaround program from n (repeat greedy body next) = refl
unmoved-lookaround program from n (end_loop next) = refl
unmoved-lookaround program from n (unsets start end next) = refl
unmoved-lookaround program from n (begin_group next) = refl
unmoved-lookaround program from n (end_group id next) = refl
unmoved-lookaround program from n (look negate routine next) = refl

pub unmoved-changed : (ranges : List GroupRange) → IsUnmoved (changed_by ranges)
unmoved-changed ranges from n accept = refl
unmoved-changed ranges from n fail = refl
unmoved-changed ranges from n (part t next) = refl
unmoved-changed ranges from n (split first second) = refl
unmoved-changed ranges from n (begin_loop greedy body next) = refl
unmoved-changed ranges from n (repeat greedy body next) = refl
unmoved-changed ranges from n (end_loop next) = refl
unmoved-changed ranges from n (unsets start end next) = refl
unmoved-changed ranges from n (begin_group next) = refl
unmoved-changed ranges from n (end_group id next) = refl
unmoved-changed ranges from n (look true routine next) = refl
unmoved-changed ranges from n (look false routine next) = refl

pub IsOf-moved : (routines : List Routine) (c : Contents) (from n : ℕ) (op : Op) → IsOf routines c op → IsOf routines c (moved_op from n op)
IsOf-moved routines c from n op of = record {
  plain = λ none. unmoved-back_reference from n op ∙ of.plain none;
  within = λ program more start end within.
      subst (λ r. IsRangeWithin start end r) (sym (unmoved-changed (ranges_of program) from n op)) (of.within program more start end within);
  spares = λ none. unmoved-captures from n op ∙ of.spares none;
  looks = λ none program more. unmoved-lookaround program from n op ∙ of.looks none program more;
}

module _ (a b c e : Code) (from n : ℕ) (moves : Moves a b c e from n) where
  pub Adds-moved : (f : Contents) → length a.ops ≤ length b.ops → Adds a b f → Adds c e f
  Adds-moved f grown adds = record {
    ops = λ i op low found.
        let base = moves-from a b c e from n moves grown i op low found in
        let of : IsOf b.routines f base.1 = adds.ops base.0 base.1 base.4 base.3 in
        is_of-part b.routines e.routines f f op (later_routines a b c e from n moves) (part-same f)
        (subst (λ o. IsOf b.routines f o) base.5 (IsOf-moved b.routines f from n base.1 of));
    routines = λ i r low found.
        let len : length e.routines ≡ length c.routines = ap length moves.routines in
        absurd (omega (arith, low, len, slice_get_within e.routines i r found));
  }
