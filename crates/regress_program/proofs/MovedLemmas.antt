-- What instructions do that have been moved.
use Rattle.std.proofs.Common.{◌≡◌, ℕ, ◌+◌, ◌-◌, ◌≤◌, ◌<◌, inl, inr, true, false, List, [], ◌∷◌, length, slice_get, Option, Some, None, refl, sym, ap, subst, ◌∙◌, arith}
use Rattle.regress_program.specs.Copies.{shift}
use Rattle.std.proofs.lemmas.Bool.{cases_lt}
use Rattle.std.proofs.lemmas.Option.{slice_get_within, slice_get-get_or}
use Rattle.regress_tree.specs.Reading.{Direction}
use Rattle.regress_tree.specs.Steps.{Matcher, Setting}
use Rattle.regress_program.specs.Compiled.{Extends, World, Solved, Goes, Matching, Code, total, Grown, Compiled}
use Rattle.regress_program.specs.Program.{Op, accept, fail, part, split, begin_loop, repeat, end_loop, unsets, begin_group, end_group, look, Routine, At, Out, ended, outcomes_by, outcomes_at, matcher_of}
use Rattle.regress_program.specs.Shape.{Fits, IsProgram}
use Rattle.regress_program.proofs.CodeLemmas.{Fits-later, Extends-same, earlier}
use Rattle.regress_program.proofs.Moved.{moved_op, moved_out, HasMoved, Moves}

-- ---- indices

pub shift-below : (from n pc : ℕ) → pc < from → shift from n pc ≡ pc
shift-below from n pc lt = grind (arith, lt)

pub shift-from : (from n pc : ℕ) → from ≤ pc → shift from n pc ≡ pc + n
shift-from from n pc le = grind (arith, le)

pub shift-grows : (from n pc i : ℕ) → pc < i → shift from n pc < i + n
shift-grows from n pc i lt = elim (cases_lt pc from) [
  | inl below ↦ omega (arith, shift-below from n pc below)
  | inr past ↦ omega (arith, shift-from from n pc past)
]

pub shift-twice : (from a b pc : ℕ) → shift from a (shift from b pc) ≡ shift from (b + a) pc
shift-twice from a b pc = elim (cases_lt pc from) [
  | inl below ↦ ap (shift from a) (shift-below from b pc below) ∙ shift-below from a pc below ∙ sym (shift-below from (b + a) pc below)
  | inr past ↦
      ap (shift from a) (shift-from from b pc past) ∙ shift-from from a (pc + b) (omega (arith, past)) ∙ omega (arith, shift-from from (b + a) pc past)
]

-- ---- outcomes

module _ (setting : Setting) (bytes : List ℕ) (d : Direction) (body_of : ℕ → Matcher) (out : Out) (from n : ℕ) where
  -- Of a moved instruction they are those of the instruction, where each that follows has moved. They do not depend on
  -- where it is.
  pub moved-outcomes : (op : Op) (a : At) (pc : ℕ) →
      outcomes_by setting bytes d body_of out (moved_op from n op) (record a { pc = pc }) ≡ outcomes_by setting bytes d body_of (moved_out from n out) op a
  moved-outcomes accept a pc = refl
  moved-outcomes fail a pc = refl
  moved-outcomes (part t next) a pc = refl
  moved-outcomes (split first second) a pc = refl
  moved-outcomes (begin_loop true body next) a pc = refl
  moved-outcomes (begin_loop false body next) a pc = refl
  moved-outcomes (repeat greedy body next) a pc = refl
  moved-outcomes (end_loop next) a pc = refl
  moved-outcomes (unsets start end next) a pc = refl
  moved-outcomes (begin_group next) a pc = refl
  moved-outcomes (end_group id next) a pc = by a.begins
    where
      by : (begins : List ℕ) →
          out (ended id (shift from n next) (record a { pc = pc }) begins) ≡ moved_out from n out (ended id next a begins)
      by [] = refl
      by (b ∷ bs) = refl
  moved-outcomes (look negate routine next) a pc = refl

module _ {routines : List Routine} (w : World routines) (d : Direction) (out : Out) (from n low high : ℕ) (ops others : List Op) where
  -- What solves the moved instructions solves the instructions, where each index is that of the moved one.
  pub Solved-moved : from ≤ low → high ≤ length ops → HasMoved from n low high ops others → Solved w d out others (low + n) (high + n) →
      Solved w d (moved_out from n out) ops low high
  Solved-moved after within moved is = record { solves = λ a le lt inside. by a le lt inside (slice_get ops a.pc) refl }
    where
      by : (a : At) → low ≤ a.pc → a.pc < high → a.state.position ≤ length w.bytes → (o : Option Op) → slice_get ops a.pc ≡ o →
          moved_out from n out a ≡ outcomes_at w.setting w.bytes d (matcher_of w.setting w.bytes w.program w.outs) (moved_out from n out) o a
      by a le lt inside None e = let there = slice_get-get_or ops a.pc accept (omega (arith, lt, within)) in cc
      by a le lt inside (Some op) e =
          ap (λ pc. out (record a { pc = pc })) (shift-from from n a.pc (omega (arith, after, le)))
          ∙ is.solves (record a { pc = a.pc + n }) (omega (arith, le)) (omega (arith, lt)) inside
          ∙ ap (λ o. outcomes_at w.setting w.bytes d (matcher_of w.setting w.bytes w.program w.outs) out o (record a { pc = a.pc + n }))
          (moved.same a.pc op le lt e)
          ∙ moved-outcomes w.setting w.bytes d (matcher_of w.setting w.bytes w.program w.outs) out from n op a (a.pc + n)

module _ (bytes : List ℕ) (out : Out) (from n next entry : ℕ) (f : Matcher) where
  pub Goes-moved : Goes bytes (moved_out from n out) next entry f → Goes bytes out (shift from n next) (shift from n entry) f
  Goes-moved is = record { goes = λ a inside. is.goes a inside }

-- ---- shapes

module _ (routines : List Routine) (from n high i : ℕ) where
  pub Fits-moved : (op : Op) → Fits routines high i op → Fits routines (high + n) (i + n) (moved_op from n op)
  Fits-moved accept fits = fits
  Fits-moved fail fits = fits
  Fits-moved (part t next) fits = (fits.0, shift-grows from n next i fits.1)
  Fits-moved (split first second) fits = (shift-grows from n first i fits.0, shift-grows from n second i fits.1)
  Fits-moved (begin_loop greedy body next) fits = (shift-grows from n body i fits.0, shift-grows from n next i fits.1)
  Fits-moved (repeat greedy body next) fits = (shift-grows from n body high fits.0, shift-grows from n next i fits.1)
  Fits-moved (end_loop next) fits = shift-grows from n next i fits
  Fits-moved (unsets start end next) fits = shift-grows from n next i fits
  Fits-moved (begin_group next) fits = shift-grows from n next i fits
  Fits-moved (end_group id next) fits = shift-grows from n next i fits
  Fits-moved (look negate routine next) fits = (fits.0, shift-grows from n next i fits.1)

-- ---- what has been compiled, moved

module _ (a b c e : Code) (from n : ℕ) (moves : Moves a b c e from n) where
  pub moves-has : HasMoved from n (length a.ops) (length b.ops) b.ops e.ops
  moves-has = record { same = λ i op low high is. moves.moved i op low is }

  pub later_routines : Extends b.routines e.routines
  later_routines = subst (λ rs. Extends b.routines rs) (sym moves.routines) moves.before

  pub moves-routines : Extends c.routines e.routines
  moves-routines = subst (λ rs. Extends c.routines rs) (sym moves.routines) (Extends-same c.routines)

  pub moves-ops : length a.ops ≤ length b.ops → Extends c.ops e.ops
  moves-ops le = record { grown = omega (arith, moves.start, moves.end, le); same = moves.kept }

  -- an instruction that has been added, and the one that it is a copy of
  pub moves-from : length a.ops ≤ length b.ops → (i : ℕ) (op : Op) → length c.ops ≤ i → slice_get e.ops i ≡ Some op →
      (j : ℕ) × (base : Op) × (j + n ≡ i) × (slice_get b.ops j ≡ Some base) × (length a.ops ≤ j) × (moved_op from n base ≡ op)
  moves-from grown i op le is = by (slice_get b.ops j) refl
    where
      j : ℕ
      j = i - n

      back : j + n ≡ i
      back = omega (arith, le, moves.start)

      within : j < length b.ops
      within = omega (arith, back, slice_get_within e.ops i op is, moves.end)

      by : (o : Option Op) → slice_get b.ops j ≡ o →
          (j : ℕ) × (base : Op) × (j + n ≡ i) × (slice_get b.ops j ≡ Some base) × (length a.ops ≤ j) × (moved_op from n base ≡ op)
      by None e' = let there = slice_get-get_or b.ops j accept within in cc
      by (Some base) e' =
          let low : length a.ops ≤ j = omega (arith, back, le, moves.start) in
          let there : slice_get e.ops (j + n) ≡ Some (moved_op from n base) = moves.moved j base low e' in
          let here : slice_get e.ops (j + n) ≡ Some op = ap (slice_get e.ops) back ∙ is in
          (j, base, back, e', low, cc)

  pub Grown-moved : Grown a b → Grown c e
  Grown-moved grown = record {
    routines = moves-routines;
    ops = moves-ops grown.ops.grown;
    fit = λ i op le lt is.
        let base = moves-from grown.ops.grown i op le is in
        let j = base.0 in
        let fits : Fits b.routines (length b.ops) j base.1 = grown.fit j base.1 base.4 (slice_get_within b.ops j base.1 base.3) base.3 in
        let moved : Fits b.routines (length b.ops + n) (j + n) (moved_op from n base.1) = Fits-moved b.routines from n (length b.ops) j base.1 fits in
        Fits-later b.routines e.routines later_routines (length e.ops) (length e.ops) i (omega arith) op
        (subst (λ k. Fits b.routines k i op) (sym moves.end)
        (subst (λ k. Fits b.routines (length b.ops + n) k op) base.2
        (subst (λ o. Fits b.routines (length b.ops + n) (j + n) o) base.5 moved)));
    program = subst (λ rs. IsProgram c.routines → IsProgram rs) (sym moves.routines) (λ h. h);
    spent =
        let all : total e.routines ≡ total c.routines = ap total moves.routines in
        omega (arith, moves.left, all);
  }

  pub Compiled-moved : (f : Matching) (next entry : ℕ) → Compiled a b f next entry → Compiled c e f (shift from n next) (shift from n entry)
  Compiled-moved f next entry is = record {
    grown = Grown-moved is.grown;
    begins = omega (arith, moves.end, shift-grows from n entry (length b.ops) is.begins);
    stays = is.stays;
    means = λ d w out solved.
        let w' = earlier later_routines w in
        let moved : Solved w' d out e.ops (length a.ops + n) (length b.ops + n) =
        record { solves = λ s low high inside. solved.solves s (omega (arith, low, moves.start)) (omega (arith, high, moves.end)) inside } in
        Goes-moved w.bytes out from n next entry (f d w.setting w.bytes)
        (is.means d w' (moved_out from n out)
        (Solved-moved w' d out from n (length a.ops) (length b.ops) b.ops e.ops moves.after (omega arith) moves-has moved));
  }
