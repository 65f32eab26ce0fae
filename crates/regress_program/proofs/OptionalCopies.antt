-- Copies of optional iterations, each of which ends the one before it.
use Rattle.std.proofs.Common.{◌≡◌, ℕ, zero, suc, ◌+◌, ◌-◌, ◌*◌, ◌≤◌, ◌<◌, inl, inr, Bool, List, [], ◌∷◌, ◌++◌, length, take, slice_get, Some, refl, sym, ap, subst, ◌∙◌, arith}
use Rattle.regress_program.specs.Copies.{shift}
use Rattle.std.proofs.lemmas.Bool.{cases_lt}
use Rattle.std.proofs.lemmas.List.{length-take}
use Rattle.std.proofs.lemmas.Option.{slice_get_within, slice_get_past}
use Rattle.regress_program.specs.Adds.{Holds}
use Rattle.regress_program.specs.Compiled.{Extends, Matching, Code, Compiled}
use Rattle.regress_program.specs.Contents.{Contents, in_iterations}
use Rattle.regress_program.specs.Iterates.{Iterates}
use Rattle.regress_program.specs.Program.{Op, repeat}
use Rattle.regress_program.specs.Pushed.{Pushed}
use Rattle.regress_program.proofs.AddMoved.{Adds-moved}
use Rattle.regress_program.proofs.AddLemmas.{pushed-ops}
use Rattle.regress_program.proofs.CodeLemmas.{Extends-then, get-append-below, get-append-last, length-push}
use Rattle.regress_program.proofs.CopiesLemmas.{code_once, code_times, moves-once, once-length}
use Rattle.regress_program.proofs.ElementLemmas.{get-take}
use Rattle.regress_program.proofs.Moved.{moved_op, Moves}
use Rattle.regress_program.proofs.MovedLemmas.{shift-below, shift-from, Compiled-moved}
use Rattle.regress_program.proofs.PieceLemmas.{holds_more}
use Rattle.regress_program.proofs.RepeatLemmas.{iterates_more}
use Rattle.regress_program.proofs.TidyMoved.{Tidies-moved}

pub list-same : {X : Type 0} (xs ys : List X) → ((i : ℕ) → slice_get xs i ≡ slice_get ys i) → xs ≡ ys
list-same [] [] same = refl
list-same [] (y ∷ ys) same = let first = same 0 in cc
list-same (x ∷ xs) [] same = let first = same 0 in cc
list-same (x ∷ xs) (y ∷ ys) same =
    let first : x ≡ y = (let here = same 0 in cc) in
    let rest : xs ≡ ys = list-same xs ys (λ i. same (suc i)) in
    cc

-- ---- a part of what has been moved

-- c with the first part, which m has
abbrev pub middle : (m c e : Code) (n : ℕ) → Code
middle m c e n = record c { ops = take (length m.ops + n) e.ops; left = c.left + length c.ops - (length m.ops + n) }

module _ (a m b c e : Code) (from n : ℕ) (moves : Moves a b c e from n) (first : Extends a.ops m.ops) (second : Extends m.ops b.ops)
    (before : Extends m.routines b.routines) (room : length b.ops + n ≤ c.left + length c.ops) where
  middle-length : length (take (length m.ops + n) e.ops) ≡ length m.ops + n
  middle-length = omega (arith, length-take (length m.ops + n) e.ops, moves.end, second.grown)

  middle-get : (i : ℕ) → i < length m.ops + n → slice_get (take (length m.ops + n) e.ops) i ≡ slice_get e.ops i
  middle-get i lt = get-take (length m.ops + n) e.ops i lt

  pub moves-first : Moves a m c (middle m c e n) from n
  moves-first = record {
    before = Extends-then m.routines b.routines c.routines before moves.before;
    routines = refl;
    after = moves.after;
    start = moves.start;
    end = middle-length;
    kept = λ i lt. middle-get i (omega (arith, lt, moves.start, first.grown)) ∙ moves.kept i lt;
    moved = λ i op low found.
        let lt : i < length m.ops = slice_get_within m.ops i op found in
        middle-get (i + n) (omega (arith, lt)) ∙ moves.moved i op low (second.same i lt ∙ found);
    left = omega (arith, room, second.grown, middle-length);
  }

  pub moves-second : Moves m b (middle m c e n) e from n
  moves-second = record {
    before = moves.before;
    routines = moves.routines;
    after = omega (arith, moves.after, first.grown);
    start = middle-length;
    end = moves.end;
    kept = λ i lt. sym (middle-get i (omega (arith, lt, middle-length)));
    moved = λ i op low found. moves.moved i op (omega (arith, low, first.grown)) found;
    left = moves.left ∙ omega (arith, room, second.grown, middle-length);
  }

-- An instruction that has been pushed, moved.
pub Pushed-moved : (a b c e : Code) (from n : ℕ) (op : Op) (at : ℕ) → Moves a b c e from n → Pushed a b op at → Pushed c e (moved_op from n op) (length c.ops)
Pushed-moved a b c e from n op at moves pushed =
    let len : length b.ops ≡ length a.ops + 1 = ap length pushed.ops ∙ length-push a.ops op in
    let found : slice_get b.ops (length a.ops) ≡ Some op = ap (λ os. slice_get os (length a.ops)) pushed.ops ∙ get-append-last a.ops op in
    let x = moved_op from n op in
    record {
      routines = moves.routines;
      ops = list-same e.ops (c.ops ++ x ∷ []) (λ i. elim (cases_lt i (length c.ops)) [
        | inl below ↦ moves.kept i below ∙ sym (get-append-below c.ops (x ∷ []) i below)
        | inr past ↦ elim (cases_lt (length c.ops) i) [
          | inl over ↦
              slice_get_past e.ops i (omega (arith, over, moves.end, moves.start, len))
              ∙ sym (slice_get_past (c.ops ++ x ∷ []) i (omega (arith, over, length-push c.ops x)))
          | inr within ↦
              (let here : i ≡ length a.ops + n = omega (arith, past, within, moves.start) in
              ap (slice_get e.ops) here ∙ moves.moved (length a.ops) op (omega arith) found
              ∙ sym (get-append-last c.ops x) ∙ ap (slice_get (c.ops ++ x ∷ [])) (omega (arith, here, moves.start)))
        ]
      ]);
      left = omega (arith, moves.left, moves.start, moves.end, len);
      at_end = refl;
    }

-- ---- optional iterations

-- The last one has been compiled: an instruction that ends the iteration before it, and the iteration. The loop begins
-- after z.
pub record Optional (z a m b : Code) (greedy : Bool) (f : Matching) (cf : Contents) (from width next start last body n : ℕ) : Type 0 where
  pub whole : length b.ops ≡ length a.ops + width
  pub after : from ≤ length a.ops
  pub below : next < length z.ops
  pub outside : next < from
  pub after_start : from ≤ start
  pub some : length m.ops < length b.ops
  pub step : body ≡ start + width
  pub ends : Pushed a m (repeat greedy start next) last
  pub one : Compiled m b f last body
  pub holds : Holds m b cf last body
  pub all : Iterates z b greedy f next body n
  pub all_holds : Holds z b (in_iterations cf) next body

module _ (z : Code) (greedy : Bool) (f : Matching) (cf : Contents) (from width next : ℕ) where
  pub Optional-more : (a m b : Code) (start last body n : ℕ) → width ≤ b.left → Optional z a m b greedy f cf from width next start last body n →
      Optional z b (middle m b (code_once from width b) width) (code_once from width b) greedy f cf from width next body (length b.ops) (body + width) (n + 1)
  Optional-more a m b start last body n room o =
      let e = code_once from width b in
      let mid = middle m b e width in
      let all : Moves a b b e from width = moves-once from width a b o.whole o.after room in
      let len : length m.ops ≡ length a.ops + 1 = ap length o.ends.ops ∙ length-push a.ops (repeat greedy start next) in
      let first : Extends a.ops m.ops = pushed-ops a m (repeat greedy start next) last o.ends in
      let enough : length b.ops + width ≤ b.left + length b.ops = omega (arith, room) in
      let one : Moves a m b mid from width = moves-first a m b b e from width all first o.one.grown.ops o.one.grown.routines enough in
      let two : Moves m b mid e from width = moves-second a m b b e from width all first o.one.grown.ops o.one.grown.routines enough in
      let start_is : shift from width start ≡ body = shift-from from width start o.after_start ∙ sym o.step in
      let next_is : shift from width next ≡ next = shift-below from width next o.outside in
      let last_is : shift from width last ≡ length b.ops = shift-from from width last (omega (arith, o.after, o.ends.at_end)) ∙ omega (arith, o.whole, o.ends.at_end) in
      let body_is : shift from width body ≡ body + width = shift-from from width body (omega (arith, o.after_start, o.step)) in
      let pushed : Pushed b mid (repeat greedy body next) (length b.ops) =
      subst (λ k. Pushed b mid (repeat greedy k next) (length b.ops)) start_is
      (subst (λ k. Pushed b mid (repeat greedy (shift from width start) k) (length b.ops)) next_is
      (Pushed-moved a m b mid from width (repeat greedy start next) last one o.ends)) in
      let is : Compiled mid e f (length b.ops) (body + width) =
      subst (λ k. Compiled mid e f k (body + width)) last_is
      (subst (λ k. Compiled mid e f (shift from width last) k) body_is (Compiled-moved m b mid e from width two f last body o.one)) in
      let within : last < length m.ops = omega (arith, len, o.ends.at_end) in
      let holds : Holds mid e cf (length b.ops) (body + width) =
      subst (λ k. Holds mid e cf k (body + width)) last_is
      (subst (λ k. Holds mid e cf (shift from width last) k) body_is (record {
        adds = Adds-moved m b mid e from width two cf o.one.grown.ops.grown o.holds.adds;
        tidies =
            Tidies-moved m b mid e from width two o.some cf last body o.one.grown
            (omega (arith, within, o.one.grown.ops.grown)) o.one.begins o.holds.tidies;
      })) in
      record {
        whole = once-length from width b.ops (omega (arith, o.whole));
        after = omega (arith, o.whole, o.after);
        below = o.below;
        outside = o.outside;
        after_start = omega (arith, o.after_start, o.step);
        some = omega (arith, two.start, two.end, o.some);
        step = refl;
        ends = pushed;
        one = is;
        holds = holds;
        all = iterates_more z b mid e greedy f next body (length b.ops) (body + width) n o.below o.all pushed is;
        all_holds = holds_more z b mid e greedy cf next body (length b.ops) (body + width) o.all.grown is.grown o.all_holds pushed holds;
      }

  pub Optional-times : (count : ℕ) (a m b : Code) (start last body n : ℕ) → count * width ≤ b.left → Optional z a m b greedy f cf from width next start last body n →
      (a' : Code) × (m' : Code) × (start' : ℕ) × (last' : ℕ)
      × (Optional z a' m' (code_times from width count b) greedy f cf from width next start' last' (body + count * width) (n + count))
  Optional-times zero a m b start last body n room o = (
    a,
    m,
    start,
    last,
    subst (λ k. Optional z a m b greedy f cf from width next start last k (n + 0)) (omega arith)
        (subst (λ k. Optional z a m b greedy f cf from width next start last body k) (omega arith) o),
  )
  Optional-times (suc count) a m b start last body n room o =
      let more : (count + 1) * width ≡ count * width + width = omega arith in
      let e = code_once from width b in
      let is = Optional-times count b (middle m b e width) e body (length b.ops) (body + width) (n + 1) (omega (arith, room, more))
      (Optional-more a m b start last body n (omega (arith, room, more)) o) in
      let c = code_times from width (suc count) b in (
        is.0,
        is.1,
        is.2,
        is.3,
        subst (λ k. Optional z is.0 is.1 c greedy f cf from width next is.2 is.3 k (n + suc count)) (omega (arith, more))
            (subst (λ k. Optional z is.0 is.1 c greedy f cf from width next is.2 is.3 (body + width + count * width) k) (omega arith) is.4),
      )
