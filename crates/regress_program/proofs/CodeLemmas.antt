-- Lists of instructions and routines that grow.
use Rattle.std.proofs.Common.{◌≡◌, ◌≢◌, ℕ, zero, suc, ◌+◌, ◌≤◌, ◌<◌, inl, inr, List, [], ◌∷◌, ◌++◌, length, set, Some, slice_get, refl, sym, ap, subst, ◌∙◌, arith, not-suc-le-zero, le_of_suc-le-suc}
use Rattle.std.proofs.lemmas.Bool.{cases_lt}
use Rattle.std.proofs.lemmas.List.{length-append}
use Rattle.std.proofs.lemmas.Option.{slice_get_within, same_Some}
use Rattle.regress_tree.specs.Reading.{Direction}
use Rattle.regress_program.specs.Compiled.{Extends, World, Solved, Code, total, Grown}
use Rattle.regress_program.specs.Pushed.{Pushed}
use Rattle.regress_program.specs.Program.{Op, accept, fail, part, split, begin_loop, repeat, end_loop, unsets, begin_group, end_group, look, Routine, At, Out, goto, outcomes_by, outcomes_at, matcher_of}
use Rattle.regress_program.specs.Shape.{Fits, AllFit, IsProgram}

module _ {X : Type 0} where
  pub get-append-below : (xs ys : List X) (i : ℕ) → i < length xs → slice_get (xs ++ ys) i ≡ slice_get xs i
  get-append-below [] ys i lt = absurd (not-suc-le-zero lt)
  get-append-below (x ∷ xs) ys zero lt = refl
  get-append-below (x ∷ xs) ys (suc i) lt = get-append-below xs ys i (le_of_suc-le-suc lt)

  pub get-append-last : (xs : List X) (y : X) → slice_get (xs ++ y ∷ []) (length xs) ≡ Some y
  get-append-last [] y = refl
  get-append-last (x ∷ xs) y = get-append-last xs y

  pub get-set-same : (xs : List X) (i : ℕ) (v : X) → i < length xs → slice_get (set xs i v) i ≡ Some v
  get-set-same [] i v lt = absurd (not-suc-le-zero lt)
  get-set-same (x ∷ xs) zero v lt = refl
  get-set-same (x ∷ xs) (suc i) v lt = get-set-same xs i v (le_of_suc-le-suc lt)

  pub get-set-other : (xs : List X) (i j : ℕ) (v : X) → j ≢ i → slice_get (set xs i v) j ≡ slice_get xs j
  get-set-other [] i j v ne = refl
  get-set-other (x ∷ xs) zero zero v ne = absurd (ne refl)
  get-set-other (x ∷ xs) zero (suc j) v ne = refl
  get-set-other (x ∷ xs) (suc i) zero v ne = refl
  get-set-other (x ∷ xs) (suc i) (suc j) v ne = get-set-other xs i j v (λ e. ne (ap suc e))

  pub length-push : (xs : List X) (x : X) → length (xs ++ x ∷ []) ≡ length xs + 1
  length-push xs x = length-append xs (x ∷ [])

  pub Extends-same : (xs : List X) → Extends xs xs
  Extends-same xs = record { grown = omega arith; same = λ i lt. refl }

  pub Extends-then : (xs ys zs : List X) → Extends xs ys → Extends ys zs → Extends xs zs
  Extends-then xs ys zs a b = record {
    grown = omega (arith, a.grown, b.grown);
    same = λ i lt. b.same i (omega (arith, lt, a.grown)) ∙ a.same i lt;
  }

  pub Extends-push : (xs : List X) (x : X) → Extends xs (xs ++ x ∷ [])
  Extends-push xs x = record {
    grown = omega (arith, length-push xs x);
    same = λ i lt. get-append-below xs (x ∷ []) i lt;
  }

  pub Extends-get : (xs ys : List X) (i : ℕ) (x : X) → Extends xs ys → slice_get xs i ≡ Some x → slice_get ys i ≡ Some x
  Extends-get xs ys i x ext is = ext.same i (slice_get_within xs i x is) ∙ is

-- ---- worlds

abbrev pub earlier : {old new : List Routine} → Extends old new → World new → World old
earlier {old} {new} ext w = record {
  setting = w.setting;
  bytes = w.bytes;
  program = w.program;
  outs = w.outs;
  extends = Extends-then old new w.program ext w.extends;
  solution = w.solution;
}

module _ {old new : List Routine} (ext : Extends old new) (w : World new) (d : Direction) (out : Out) where
  -- Fewer instructions are solved too.
  pub Solved-fewer : (ops ops' : List Op) (low high low' high' : ℕ) → low ≤ low' → high' ≤ high →
      ((i : ℕ) → low' ≤ i → i < high' → slice_get ops i ≡ slice_get ops' i) → Solved w d out ops low high → Solved (earlier ext w) d out ops' low' high'
  Solved-fewer ops ops' low high low' high' le le' same is = record {
    solves = λ a from below inside.
        is.solves a (omega (arith, le, from)) (omega (arith, le', below)) inside
        ∙ ap (λ o. outcomes_at w.setting w.bytes d (matcher_of w.setting w.bytes w.program w.outs) out o a) (same a.pc from below);
  }

module _ {routines : List Routine} (w : World routines) (d : Direction) (out : Out) where
  pub solved_at : (ops : List Op) (low high i : ℕ) (op : Op) → Solved w d out ops low high → low ≤ i → i < high → slice_get ops i ≡ Some op →
      (a : At) → a.state.position ≤ length w.bytes →
      out (goto i a) ≡ outcomes_by w.setting w.bytes d (matcher_of w.setting w.bytes w.program w.outs) out op (goto i a)
  solved_at ops low high i op is le lt read a inside =
      is.solves (goto i a) le lt inside
      ∙ ap (λ o. outcomes_at w.setting w.bytes d (matcher_of w.setting w.bytes w.program w.outs) out o (goto i a)) read

-- ---- shapes

pub Fits-later : (old new : List Routine) → Extends old new → (high high' i : ℕ) → high ≤ high' → (op : Op) → Fits old high i op → Fits new high' i op
Fits-later old new ext high high' i le accept fits = fits
Fits-later old new ext high high' i le fail fits = fits
Fits-later old new ext high high' i le (part t next) fits = fits
Fits-later old new ext high high' i le (split first second) fits = fits
Fits-later old new ext high high' i le (begin_loop greedy body next) fits = fits
Fits-later old new ext high high' i le (repeat greedy body next) fits = (omega (arith, fits.0, le), fits.1)
Fits-later old new ext high high' i le (end_loop next) fits = fits
Fits-later old new ext high high' i le (unsets start end next) fits = fits
Fits-later old new ext high high' i le (begin_group next) fits = fits
Fits-later old new ext high high' i le (end_group id next) fits = fits
Fits-later old new ext high high' i le (look negate routine next) fits = (omega (arith, fits.0, ext.grown), fits.1)

AllFit-then : (earlier' later : List Routine) (mid new : List Op) (low : ℕ) → Extends earlier' later → Extends mid new →
    AllFit earlier' mid low (length mid) → AllFit later new (length mid) (length new) → AllFit later new low (length new)
AllFit-then earlier' later mid new low ext grown before after i op le lt is =
    elim (cases_lt i (length mid)) [
      | inl within ↦ Fits-later earlier' later ext (length mid) (length new) i grown.grown op (before i op le within (sym (grown.same i within) ∙ is))
      | inr past ↦ after i op past lt is
    ]

-- ---- code that grows

pub Grown-same : (c : Code) → Grown c c
Grown-same c = record {
  routines = Extends-same c.routines;
  ops = Extends-same c.ops;
  fit = λ i op le lt is. absurd (omega (arith, le, lt));
  program = λ h. h;
  spent = refl;
}

pub Grown-then : (a b c : Code) → Grown a b → Grown b c → Grown a c
Grown-then a b c first second = record {
  routines = Extends-then a.routines b.routines c.routines first.routines second.routines;
  ops = Extends-then a.ops b.ops c.ops first.ops second.ops;
  fit = AllFit-then b.routines c.routines b.ops c.ops (length a.ops) second.routines second.ops first.fit second.fit;
  program = λ h. second.program (first.program h);
  spent = second.spent ∙ first.spent;
}

fits-last : (routines : List Routine) (ops : List Op) (op : Op) → Fits routines (length ops + 1) (length ops) op →
    AllFit routines (ops ++ op ∷ []) (length ops) (length (ops ++ op ∷ []))
fits-last routines ops op fits i other le lt is =
    let len = length-push ops op in
    let here : i ≡ length ops = omega (arith, le, lt, len) in
    let same : op ≡ other = same_Some op other (sym (get-append-last ops op) ∙ ap (slice_get (ops ++ op ∷ [])) (sym here) ∙ is) in
    subst (λ o. Fits routines (length (ops ++ op ∷ [])) i o) same
    (subst (λ k. Fits routines (length (ops ++ op ∷ [])) k op) (sym here)
    (subst (λ k. Fits routines k (length ops) op) (sym len) fits))

pub Grown-push : (old new : Code) (op : Op) (at : ℕ) → Pushed old new op at → Fits old.routines (length old.ops + 1) (length old.ops) op → Grown old new
Grown-push old new op at is fits = record {
  routines = subst (λ rs. Extends old.routines rs) (sym is.routines) (Extends-same old.routines);
  ops = subst (λ os. Extends old.ops os) (sym is.ops) (Extends-push old.ops op);
  fit = subst (λ os. AllFit new.routines os (length old.ops) (length os)) (sym is.ops)
      (subst (λ rs. AllFit rs (old.ops ++ op ∷ []) (length old.ops) (length (old.ops ++ op ∷ []))) (sym is.routines)
      (fits-last old.routines old.ops op fits));
  program = subst (λ rs. IsProgram old.routines → IsProgram rs) (sym is.routines) (λ h. h);
  spent =
      let len : length new.ops ≡ length old.ops + 1 = ap length is.ops ∙ length-push old.ops op in
      let all : total new.routines ≡ total old.routines = ap total is.routines in
      omega (arith, len, all, is.left);
}

-- What has been added earlier is solved, and the last instruction.
pub Solved-first : {a b c : Code} → Grown a b → (second : Grown b c) → (w : World c.routines) (d : Direction) (out : Out) →
    Solved w d out c.ops (length a.ops) (length c.ops) → Solved (earlier second.routines w) d out b.ops (length a.ops) (length b.ops)
Solved-first {a} {b} {c} first second w d out is =
    Solved-fewer second.routines w d out c.ops b.ops (length a.ops) (length c.ops) (length a.ops) (length b.ops) (omega arith) second.ops.grown
    (λ i le lt. second.ops.same i lt) is

pub Solved-second : {a b c : Code} → (first : Grown a b) → Grown b c → (w : World c.routines) (d : Direction) (out : Out) →
    Solved w d out c.ops (length a.ops) (length c.ops) → Solved w d out c.ops (length b.ops) (length c.ops)
Solved-second {a} {b} {c} first second w d out is =
    record { solves = λ s from below inside. is.solves s (omega (arith, first.ops.grown, from)) below inside }

pub pushed_at : {a b c : Code} → Grown a b → (op : Op) (at : ℕ) → Pushed b c op at → (w : World c.routines) (d : Direction) (out : Out) →
    Solved w d out c.ops (length a.ops) (length c.ops) → (s : At) → s.state.position ≤ length w.bytes →
    out (goto at s) ≡ outcomes_by w.setting w.bytes d (matcher_of w.setting w.bytes w.program w.outs) out op (goto at s)
pushed_at {a} {b} {c} grown op at is w d out solved s inside =
    let len : length c.ops ≡ length b.ops + 1 = ap length is.ops ∙ length-push b.ops op in
    let read : slice_get c.ops at ≡ Some op =
    ap (slice_get c.ops) is.at_end ∙ ap (λ os. slice_get os (length b.ops)) is.ops ∙ get-append-last b.ops op in
    solved_at w d out c.ops (length a.ops) (length c.ops) at op solved (omega (arith, grown.ops.grown, is.at_end)) (omega (arith, len, is.at_end)) read s inside
