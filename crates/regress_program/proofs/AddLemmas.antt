-- Compiled instructions are tidy where the part of the pattern is, and have no back reference where it has none.
use Rattle.std.proofs.Common.{◌≡◌, ℕ, ◌+◌, inl, inr, false, ◌==◌, List, length, slice_get, Some, sym, ap, subst, ◌∙◌, arith, nat_lt}
use Rattle.std.proofs.lemmas.Bool.{cases_lt}
use Rattle.std.proofs.lemmas.Option.{slice_get_within, same_Some}
use Rattle.regress_program.specs.declared.ranges.GroupRange.{GroupRange}
use Rattle.regress_program.specs.Adds.{IsRangeWithin, IsOf, IsRoutineOf, Adds, Agree}
use Rattle.regress_program.specs.Compiled.{Extends, Code, Grown}
use Rattle.regress_program.specs.Contents.{Ids, union, ids_in, without_ids, AreAmong, Contents, in_sequence, either_of, grouped, in_iteration, in_iterations, after_all}
use Rattle.regress_program.specs.Linear.{changes_captures, is_back_reference, is_capturing_lookaround}
use Rattle.regress_program.specs.Program.{Op, Routine}
use Rattle.regress_program.specs.Pushed.{Pushed}
use Rattle.regress_program.specs.Ranges.{changed_by, no_groups, ranges_of}
use Rattle.regress_program.proofs.CodeLemmas.{get-append-last, length-push, Extends-same, Extends-then, Extends-push}
use Rattle.regress_program.proofs.lemmas.Tidy.{within-among, or_none, among-same, among-left, among-right}

-- ---- what parts contain

-- The part a is one of b, or b itself.
pub record IsPartOf (a b : Contents) : Type 0 where
  pub refers : b.refers ≡ false → a.refers ≡ false
  pub captures : b.captures ≡ false → a.captures ≡ false
  pub looks : b.looks ≡ false → a.looks ≡ false
  pub changes : AreAmong a.changes b.changes
  pub tidy : (set : Ids) → b.tidy set → (before : Ids) × a.tidy before

-- The same for what routines are of.
pub record IsRoutinePart (a b : Contents) : Type 0 where
  pub refers : b.refers ≡ false → a.refers ≡ false
  pub looks : b.looks ≡ false → a.looks ≡ false
  pub tidy : (set : Ids) → b.tidy set → (before : Ids) × a.tidy before

pub routine-part : (a b : Contents) → IsPartOf a b → IsRoutinePart a b
routine-part a b is = record { refers = is.refers; looks = is.looks; tidy = is.tidy }

-- The part a has no more than b, where both begin.
pub record HasNoMore (a b : Contents) : Type 0 where
  pub refers : b.refers ≡ false → a.refers ≡ false
  pub captures : b.captures ≡ false → a.captures ≡ false
  pub looks : b.looks ≡ false → a.looks ≡ false
  pub changes : AreAmong a.changes b.changes
  pub tidy : (set : Ids) → b.tidy set → a.tidy set

pub no_more-part : (a b : Contents) → HasNoMore a b → IsPartOf a b
no_more-part a b is = record { refers = is.refers; captures = is.captures; looks = is.looks; changes = is.changes; tidy = λ set h. (set, is.tidy set h) }

pub no_more-same : (a : Contents) → HasNoMore a a
no_more-same a = record { refers = λ h. h; captures = λ h. h; looks = λ h. h; changes = among-same a.changes; tidy = λ set h. h }

pub part-same : (a : Contents) → IsPartOf a a
part-same a = no_more-part a a (no_more-same a)

pub part-first : (a b : Contents) → IsPartOf a (in_sequence a b)
part-first a b = record {
  refers = λ none. (or_none a.refers b.refers none).0;
  captures = λ none. (or_none a.captures b.captures none).0;
  looks = λ none. (or_none a.looks b.looks none).0;
  changes = among-left a.changes b.changes;
  tidy = λ set h. (set, h.0);
}

pub part-second : (a b : Contents) → IsPartOf b (in_sequence a b)
part-second a b = record {
  refers = λ none. (or_none a.refers b.refers none).1;
  captures = λ none. (or_none a.captures b.captures none).1;
  looks = λ none. (or_none a.looks b.looks none).1;
  changes = among-right a.changes b.changes;
  tidy = λ set h. (union set a.changes, h.1);
}

pub part-left : (a b : Contents) → IsPartOf a (either_of a b)
part-left a b = record {
  refers = λ none. (or_none a.refers b.refers none).0;
  captures = λ none. (or_none a.captures b.captures none).0;
  looks = λ none. (or_none a.looks b.looks none).0;
  changes = among-left a.changes b.changes;
  tidy = λ set h. (set, h.0);
}

pub part-right : (a b : Contents) → IsPartOf b (either_of a b)
part-right a b = record {
  refers = λ none. (or_none a.refers b.refers none).1;
  captures = λ none. (or_none a.captures b.captures none).1;
  looks = λ none. (or_none a.looks b.looks none).1;
  changes = among-right a.changes b.changes;
  tidy = λ set h. (set, h.1);
}

pub part-grouped : (id : ℕ) (a : Contents) → IsPartOf a (grouped id a)
part-grouped id a = record { refers = λ none. none; captures = λ none. cc; looks = λ none. none; changes = among-left a.changes (λ k. k == id); tidy = λ set h. (set, h) }

pub part-iteration : (start end : ℕ) (a : Contents) → IsPartOf a (in_iteration start end a)
part-iteration start end a = record {
  refers = λ none. none;
  captures = λ none. (or_none (nat_lt start end) a.captures none).1;
  looks = λ none. none;
  changes = among-right (ids_in start end) a.changes;
  tidy = λ set h. (without_ids start end set, h (without_ids start end set) (among-same (without_ids start end set)));
}

pub part-iterations : (a : Contents) → IsPartOf a (in_iterations a)
part-iterations a = record {
  refers = λ none. none;
  captures = λ none. none;
  looks = λ none. none;
  changes = among-same a.changes;
  tidy = λ set h. (set, h set (among-left set a.changes));
}

pub part-after : (a b : Contents) → IsPartOf a (after_all a b)
part-after a b = record {
  refers = λ none. (or_none a.refers b.refers none).0;
  captures = λ none. (or_none a.captures b.captures none).0;
  looks = λ none. (or_none a.looks b.looks none).0;
  changes = among-left a.changes b.changes;
  tidy = λ set h. (set, h.0 set (among-left set a.changes));
}

pub part-rest : (a b : Contents) → IsPartOf b (after_all a b)
part-rest a b = record {
  refers = λ none. (or_none a.refers b.refers none).1;
  captures = λ none. (or_none a.captures b.captures none).1;
  looks = λ none. (or_none a.looks b.looks none).1;
  changes = among-right a.changes b.changes;
  tidy = λ set h. (set, h.1 set (among-left set a.changes));
}

-- ---- what is added

pub is_of-part : (routines later : List Routine) (a b : Contents) (op : Op) → Extends routines later → IsPartOf a b → IsOf routines a op → IsOf later b op
is_of-part routines later a b op ext is of = record {
  plain = λ none. of.plain (is.refers none);
  within = λ program more start end within.
      of.within program (Extends-then routines later program ext more) start end (within-among start end a.changes b.changes is.changes within);
  spares = λ none. of.spares (is.captures none);
  looks = λ none program more. of.looks (is.looks none) program (Extends-then routines later program ext more);
}

pub is_routine-part : (routines later : List Routine) (a b : Contents) (r : Routine) → Extends routines later → IsRoutinePart a b → IsRoutineOf routines a r →
    IsRoutineOf later b r
is_routine-part routines later a b r ext is of = record {
  plain = λ none. of.plain (is.refers none);
  tidy = λ set h program more. let before = is.tidy set h in of.tidy before.0 before.1 program (Extends-then routines later program ext more);
  looks = λ none program more. of.looks (is.looks none) program (Extends-then routines later program ext more);
}

pub adds-part : (old new : Code) (a b : Contents) → IsPartOf a b → Adds old new a → Adds old new b
adds-part old new a b is adds = record {
  ops = λ i op low found. is_of-part new.routines new.routines a b op (Extends-same new.routines) is (adds.ops i op low found);
  routines = λ i r low found. is_routine-part new.routines new.routines a b r (Extends-same new.routines) (routine-part a b is) (adds.routines i r low found);
}

pub adds-none : (a : Code) (c : Contents) → Adds a a c
adds-none a c = record {
  ops = λ i op low found. absurd (omega (arith, low, slice_get_within a.ops i op found));
  routines = λ i r low found. absurd (omega (arith, low, slice_get_within a.routines i r found));
}

pub adds-then : (x y z : Code) (c : Contents) → Extends y.ops z.ops → Extends y.routines z.routines → Adds x y c → Adds y z c → Adds x z c
adds-then x y z c ops routines first second = record {
  ops = λ i op low found. elim (cases_lt i (length y.ops)) [
    | inl before ↦ is_of-part y.routines z.routines c c op routines (part-same c) (first.ops i op low (sym (ops.same i before) ∙ found))
    | inr after ↦ second.ops i op after found
  ];
  routines = λ i r low found. elim (cases_lt i (length y.routines)) [
    | inl before ↦ is_routine-part y.routines z.routines c c r routines (routine-part c c (part-same c)) (first.routines i r low (sym (routines.same i before) ∙ found))
    | inr after ↦ second.routines i r after found
  ];
}

pub adds-push : (old new : Code) (op : Op) (at : ℕ) (c : Contents) → Pushed old new op at → IsOf new.routines c op → Adds old new c
adds-push old new op at c pushed of = record {
  ops = λ i other low found.
      let len : length new.ops ≡ length old.ops + 1 = ap length pushed.ops ∙ length-push old.ops op in
      let here : i ≡ length old.ops = omega (arith, low, len, slice_get_within new.ops i other found) in
      let read : slice_get new.ops i ≡ Some op =
      ap (slice_get new.ops) here ∙ ap (λ os. slice_get os (length old.ops)) pushed.ops ∙ get-append-last old.ops op in
      subst (λ o. IsOf new.routines c o) (same_Some op other (sym read ∙ found)) of;
  routines = λ i r low found.
      let len : length new.routines ≡ length old.routines = ap length pushed.routines in
      absurd (omega (arith, low, len, slice_get_within new.routines i r found));
}

none-within : (start end : ℕ) → IsRangeWithin start end no_groups
none-within start end id is = absurd (omega (arith, is.1))

-- ---- one instruction

-- An instruction that changes no group, and is no back reference unless the part is.
pub adds-quiet : (old new : Code) (op : Op) (at : ℕ) (c : Contents) → Pushed old new op at → (c.refers ≡ false → is_back_reference op ≡ false) →
    ((ranges : List GroupRange) → changed_by ranges op ≡ no_groups) →
    (changes_captures op ≡ false) × ((program : List Routine) → is_capturing_lookaround program op ≡ false) → Adds old new c
adds-quiet old new op at c pushed plain none quiet =
    adds-push old new op at c pushed (record {
      plain = plain;
      spares = λ h. quiet.0;
      looks = λ h program more. quiet.1 program;
      within = λ program more start end within.
          subst (λ x. IsRangeWithin start end x) (sym (none (ranges_of program))) (none-within start end);
    })

-- the instruction that has been pushed, in a routine that agrees
pub read-pushed : (x old new : Code) (op : Op) (at : ℕ) (ops : List Op) → Extends x.ops old.ops → Pushed old new op at →
    Agree (length x.ops) (length new.ops) new.ops ops → slice_get ops at ≡ Some op
read-pushed x old new op at ops ext pushed agree =
    let len : length new.ops ≡ length old.ops + 1 = ap length pushed.ops ∙ length-push old.ops op in
    agree at (omega (arith, ext.grown, pushed.at_end)) (omega (arith, len, pushed.at_end))
    ∙ ap (slice_get new.ops) pushed.at_end ∙ ap (λ os. slice_get os (length old.ops)) pushed.ops ∙ get-append-last old.ops op

pub agree-first : (x y z : Code) (ops : List Op) → Extends y.ops z.ops → Agree (length x.ops) (length z.ops) z.ops ops →
    Agree (length x.ops) (length y.ops) y.ops ops
agree-first x y z ops ext agree i low high = agree i low (omega (arith, high, ext.grown)) ∙ ext.same i high

pub agree-second : (x y z : Code) (ops : List Op) → Extends x.ops y.ops → Agree (length x.ops) (length z.ops) z.ops ops →
    Agree (length y.ops) (length z.ops) z.ops ops
agree-second x y z ops ext agree i low high = agree i (omega (arith, low, ext.grown)) high

pub pushed-routines : (old new : Code) (op : Op) (at : ℕ) → Pushed old new op at → Extends old.routines new.routines
pushed-routines old new op at pushed = subst (λ rs. Extends old.routines rs) (sym pushed.routines) (Extends-same old.routines)

pub pushed-ops : (old new : Code) (op : Op) (at : ℕ) → Pushed old new op at → Extends old.ops new.ops
pushed-ops old new op at pushed = subst (λ os. Extends old.ops os) (sym pushed.ops) (Extends-push old.ops op)

-- Instructions and routines have been added.
pub record Longer (old new : Code) : Type 0 where
  pub ops : Extends old.ops new.ops
  pub routines : Extends old.routines new.routines

pub longer : (old new : Code) → Grown old new → Longer old new
longer old new grown = record { ops = grown.ops; routines = grown.routines }

pub longer-push : (old new : Code) (op : Op) (at : ℕ) → Pushed old new op at → Longer old new
longer-push old new op at pushed = record { ops = pushed-ops old new op at pushed; routines = pushed-routines old new op at pushed }
