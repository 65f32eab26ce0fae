-- Loops as instructions.
use Rattle.std.proofs.Common.{◌≡◌, ◌≢◌, ℕ, suc, ◌+◌, ◌-◌, ◌≤◌, ◌<◌, inl, inr, Bool, List, [], ◌∷◌, length, set, Some, None, slice_get, min, refl, sym, ap, subst, ◌∙◌, append-nil, arith}
use Rattle.std.proofs.lemmas.Bool.{cases_eq}
use Rattle.std.proofs.lemmas.List.{length-set}
use Rattle.std.proofs.lemmas.Option.{same_Some}
use Rattle.regress_base.specs.declared.types.Quantifier.{Quantifier}
use Rattle.regress_tree.specs.Reading.{Direction}
use Rattle.regress_tree.specs.Repetition.{iteration, iterations, up_to, extra_iterations, repeat_matcher}
use Rattle.regress_tree.specs.Steps.{◌then_◌, Setting}
use Rattle.regress_tree.proofs.lemmas.Outcomes.{flat_map-then}
use Rattle.regress_program.specs.Compiled.{Extends, World, Solved, Goes, Matching, optional, any_number, extra, after_iterations, repeated, Code, total, Grown, Compiled}
use Rattle.regress_program.specs.Iterates.{Continues, Iterates}
use Rattle.regress_program.specs.Pushed.{Pushed}
use Rattle.regress_program.specs.Program.{Op, accept, begin_loop, repeat, end_loop, Out}
use Rattle.regress_program.specs.Shape.{Fits, AllFit, IsProgram}
use Rattle.regress_program.specs.Stays.{Stays}
use Rattle.regress_program.proofs.CodeLemmas.{get-append-below, get-set-same, get-set-other, length-push, Extends-same, earlier, Solved-fewer, solved_at, Fits-later, Grown-same, Grown-then, Grown-push, Solved-first, Solved-second, pushed_at}
use Rattle.regress_program.proofs.CompileLemmas.{compiled_nothing, compiled_same, compiled_then}
use Rattle.regress_program.proofs.IterationLemmas.{Continues-less, Continues-more, Continues-last, Continues-all, Goes-begin, up_to-min}
use Rattle.regress_program.proofs.lemmas.Onward.{Stays-up_to}

-- ---- a finite number of optional iterations

-- At `last` an iteration has ended, and at most n more may follow.
record Ended (a b : Code) (greedy : Bool) (f : Matching) (next last n : ℕ) : Type 0 where
  grown : Grown a b
  begins : last < length b.ops
  continues : (d : Direction) (w : World b.routines) (out : Out) → Solved w d out b.ops (length a.ops) (length b.ops) →
      Continues w.bytes d out greedy (f d w.setting w.bytes) next last n (length w.bytes + 1)

iterates : (a b c : Code) (greedy : Bool) (f : Matching) (next last body n : ℕ) → Ended a b greedy f next last n → Compiled b c f last body →
    Iterates a c greedy f next body n
iterates a b c greedy f next last body n ended is = record {
  grown = Grown-then a b c ended.grown is.grown;
  begins = is.begins;
  stays = is.stays;
  last = last;
  continues = λ d w out solved. ended.continues d (earlier is.grown.routines w) out (Solved-first ended.grown is.grown w d out solved);
  means = λ d w out solved. is.means d w out (Solved-second ended.grown is.grown w d out solved);
}

-- the last iteration that is allowed
pub iterates_last : (a b c : Code) (greedy : Bool) (f : Matching) (next last body : ℕ) → next < length a.ops → Pushed a b (end_loop next) last →
    Compiled b c f last body → Iterates a c greedy f next body 0
iterates_last a b c greedy f next last body below pushed is =
    let len : length b.ops ≡ length a.ops + 1 = ap length pushed.ops ∙ length-push a.ops (end_loop next) in
    iterates a b c greedy f next last body 0
    (record {
      grown = Grown-push a b (end_loop next) last pushed below;
      begins = omega (arith, len, pushed.at_end);
      continues = λ d w out solved.
          Continues-last w.bytes d out greedy (f d w.setting w.bytes) next last (length w.bytes + 1)
          (λ s inside. pushed_at (Grown-same a) (end_loop next) last pushed w d out solved s inside);
    })
    is

-- one more before it
pub iterates_more : (a b c e : Code) (greedy : Bool) (f : Matching) (next body last body' n : ℕ) → next < length a.ops →
    Iterates a b greedy f next body n → Pushed b c (repeat greedy body next) last → Compiled c e f last body' →
    Iterates a e greedy f next body' (n + 1)
iterates_more a b c e greedy f next body last body' n below so_far pushed is =
    let len : length c.ops ≡ length b.ops + 1 = ap length pushed.ops ∙ length-push b.ops (repeat greedy body next) in
    let grown = Grown-push b c (repeat greedy body next) last pushed (omega (arith, so_far.begins), omega (arith, below, so_far.grown.ops.grown)) in
    iterates a c e greedy f next last body' (n + 1)
    (record {
      grown = Grown-then a b c so_far.grown grown;
      begins = omega (arith, len, pushed.at_end);
      continues = λ d w out solved.
          let L = length w.bytes + 1 in
          let F = f d w.setting w.bytes in
          let before = Solved-first so_far.grown grown w d out solved in
          let w' = earlier grown.routines w in
          let more : Continues w.bytes d out greedy F next last (suc n) (L + 1) =
          Continues-more w.bytes d out greedy F (so_far.stays d w.setting w.bytes) next so_far.last body n L
          (so_far.continues d w' out before) (so_far.means d w' out before) last
          (λ s inside. pushed_at so_far.grown (repeat greedy body next) last pushed w d out solved s inside) in
          let next_number : suc n ≡ n + 1 = omega arith in
          subst (λ (k : ℕ). Continues w.bytes d out greedy F next last k L) next_number
          (Continues-less w.bytes d out greedy F next last (suc n) (L + 1) L (omega arith) more);
    })
    is

-- the beginning of the loop
pub compiled_optional : (a b c : Code) (greedy : Bool) (f : Matching) (next body at n : ℕ) → next < length a.ops →
    Iterates a b greedy f next body n → Pushed b c (begin_loop greedy body next) at → Compiled a c (optional greedy (n + 1) f) next at
compiled_optional a b c greedy f next body at n below so_far pushed =
    let len : length c.ops ≡ length b.ops + 1 = ap length pushed.ops ∙ length-push b.ops (begin_loop greedy body next) in
    let grown = Grown-push b c (begin_loop greedy body next) at pushed (so_far.begins, omega (arith, below, so_far.grown.ops.grown)) in
    record {
      grown = Grown-then a b c so_far.grown grown;
      begins = omega (arith, len, pushed.at_end);
      stays = λ d setting bytes. Stays-up_to bytes d (f d setting bytes) (so_far.stays d setting bytes) greedy (n + 1);
      means = λ d w out solved.
          let F = f d w.setting w.bytes in
          let before = Solved-first so_far.grown grown w d out solved in
          let w' = earlier grown.routines w in
          let next_number : suc n ≡ n + 1 = omega arith in
          subst (λ (k : ℕ). Goes w.bytes out next at (up_to greedy k F)) next_number
          (Goes-begin w.bytes d out greedy F (so_far.stays d w.setting w.bytes) next so_far.last body n (length w.bytes + 1)
          (so_far.continues d w' out before) (so_far.means d w' out before) at (omega arith)
          (λ s inside. pushed_at so_far.grown (begin_loop greedy body next) at pushed w d out solved s inside));
    }

-- ---- any number of optional iterations

-- An instruction has been written over the placeholder.
pub record Written (old new : Code) (at : ℕ) (op : Op) : Type 0 where
  pub routines : new.routines ≡ old.routines
  pub ops : new.ops ≡ set old.ops at op
  pub left : new.left ≡ old.left

module _ (a b c e g : Code) (greedy : Bool) (f : Matching) (next last body at : ℕ) (below : next < length a.ops) (holds : Pushed a b accept last)
    (is : Compiled b c f last body) (written : Written c e last (repeat greedy body next)) (begun : Pushed e g (begin_loop greedy body next) at) where
  start_length : length b.ops ≡ length a.ops + 1
  start_length = ap length holds.ops ∙ length-push a.ops accept

  same_length : length e.ops ≡ length c.ops
  same_length = ap length written.ops ∙ length-set c.ops last (repeat greedy body next)

  within : length a.ops + 1 ≤ length c.ops
  within = omega (arith, start_length, is.grown.ops.grown)

  unwritten : (i : ℕ) → i ≢ last → slice_get e.ops i ≡ slice_get c.ops i
  unwritten i other = ap (λ xs. slice_get xs i) written.ops ∙ get-set-other c.ops last i (repeat greedy body next) other

  at_last : slice_get e.ops last ≡ Some (repeat greedy body next)
  at_last =
      ap (λ xs. slice_get xs last) written.ops ∙ get-set-same c.ops last (repeat greedy body next) (omega (arith, within, holds.at_end))

  routines_grown : Extends a.routines e.routines
  routines_grown =
      subst (λ rs. Extends a.routines rs) (sym written.routines)
      (subst (λ rs. Extends rs c.routines) holds.routines is.grown.routines)

  looped_fit : AllFit e.routines e.ops (length a.ops) (length e.ops)
  looped_fit i op low high found =
      subst (λ rs. Fits rs (length e.ops) i op) (sym written.routines)
      (elim (cases_eq i last) [
        | inl here ↦
            (let same : repeat greedy body next ≡ op = same_Some (repeat greedy body next) op (sym at_last ∙ ap (slice_get e.ops) (sym here) ∙ found) in
            subst (λ o. Fits c.routines (length e.ops) i o) same (omega (arith, is.begins, same_length), omega (arith, below, here, holds.at_end)))
        | inr other ↦
            Fits-later c.routines c.routines (Extends-same c.routines) (length c.ops) (length e.ops) i (omega (arith, same_length)) op
            (is.grown.fit i op (omega (arith, low, other, holds.at_end, start_length)) (omega (arith, high, same_length)) (sym (unwritten i other) ∙ found))
      ])

  looped : Grown a e
  looped = record {
    routines = routines_grown;
    ops = record {
      grown = omega (arith, within, same_length);
      same = λ i lt.
          unwritten i (omega (arith, lt, holds.at_end)) ∙ is.grown.ops.same i (omega (arith, lt, start_length))
          ∙ ap (λ xs. slice_get xs i) holds.ops ∙ get-append-below a.ops (accept ∷ []) i lt;
    };
    fit = looped_fit;
    program = λ h. subst IsProgram (sym written.routines) (is.grown.program (subst IsProgram (sym holds.routines) h));
    spent =
        let all : total e.routines ≡ total c.routines = ap total written.routines in
        let all' : total b.routines ≡ total a.routines = ap total holds.routines in
        omega (arith, same_length, start_length, all, all', is.grown.spent, written.left, holds.left);
  }

  module _ (d : Direction) (w : World e.routines) (out : Out) (solved : Solved w d out e.ops (length a.ops) (length e.ops)) where
    kept : Extends c.routines e.routines
    kept = subst (λ rs. Extends c.routines rs) (sym written.routines) (Extends-same c.routines)

    one_iteration : Goes w.bytes out last body (f d w.setting w.bytes)
    one_iteration =
        is.means d (earlier kept w) out
        (Solved-fewer kept w d out e.ops c.ops (length a.ops) (length e.ops) (length b.ops) (length c.ops)
        (omega (arith, start_length)) (omega (arith, same_length)) (λ i le lt. unwritten i (omega (arith, le, start_length, holds.at_end))) solved)

    all_iterations : (n : ℕ) → Continues w.bytes d out greedy (f d w.setting w.bytes) next last n n
    all_iterations n =
        Continues-all w.bytes d out greedy (f d w.setting w.bytes) (is.stays d w.setting w.bytes) next last body one_iteration
        (λ s inside.
        solved_at w d out e.ops (length a.ops) (length e.ops) last (repeat greedy body next) solved
        (omega (arith, holds.at_end)) (omega (arith, within, same_length, holds.at_end)) at_last s inside)
        n

  pub compiled_any_number : Compiled a g (any_number greedy f) next at
  compiled_any_number =
      let len : length g.ops ≡ length e.ops + 1 = ap length begun.ops ∙ length-push e.ops (begin_loop greedy body next) in
      let grown = Grown-push e g (begin_loop greedy body next) at begun (omega (arith, is.begins, same_length), omega (arith, below, within, same_length)) in
      record {
        grown = Grown-then a e g looped grown;
        begins = omega (arith, len, begun.at_end);
        stays = λ d setting bytes. Stays-up_to bytes d (f d setting bytes) (is.stays d setting bytes) greedy (length bytes + 1);
        means = λ d w out solved.
            let F = f d w.setting w.bytes in
            let w' = earlier grown.routines w in
            let before = Solved-first looped grown w d out solved in
            let n = length w.bytes in
            let next_number : suc n ≡ n + 1 = omega arith in
            subst (λ (k : ℕ). Goes w.bytes out next at (up_to greedy k F)) next_number
            (Goes-begin w.bytes d out greedy F (is.stays d w.setting w.bytes) next last body n n
            (all_iterations d w' out before n) (one_iteration d w' out before) at (omega arith)
            (λ s inside. pushed_at looped (begin_loop greedy body next) at begun w d out solved s inside));
      }

-- ---- mandatory iterations, and loops

pub compiled_mandatory : (a b c : Code) (f g : Matching) (next entry entry' n : ℕ) → Compiled a b (after_iterations n f g) next entry →
    Compiled b c f entry entry' → Compiled a c (after_iterations (n + 1) f g) next entry'
compiled_mandatory a b c f g next entry entry' n rest first =
    let next_number : suc n ≡ n + 1 = omega arith in
    subst (λ (k : ℕ). Compiled a c (after_iterations k f g) next entry') next_number
    (compiled_same a c (λ d setting bytes. f d setting bytes then_ after_iterations n f g d setting bytes) (after_iterations (suc n) f g) next entry'
    (λ d setting bytes s inside. flat_map-then (iterations n (f d setting bytes)) (g d setting bytes) (f d setting bytes s))
    (compiled_then a b c f (after_iterations n f g) next entry entry' rest first))

pub compiled_no_mandatory : (a b : Code) (f g : Matching) (next entry : ℕ) → Compiled a b g next entry → Compiled a b (after_iterations 0 f g) next entry
compiled_no_mandatory a b f g next entry is =
    compiled_same a b g (after_iterations 0 f g) next entry (λ d setting bytes s inside. sym (append-nil (g d setting bytes s))) is

extra_none : (bound : ℕ) (q : Quantifier) → q.max ≡ None → extra_iterations bound q ≡ bound
extra_none bound q none = rw none refl

extra_some : (bound : ℕ) (q : Quantifier) (max : ℕ) → q.max ≡ Some max → extra_iterations bound q ≡ min (max - q.min) bound
extra_some bound q max some = rw some refl

pub compiled_unbounded : (a b : Code) (q : Quantifier) (f : Matching) (next entry : ℕ) → q.max ≡ None → Compiled a b (any_number q.greedy f) next entry →
    Compiled a b (extra q f) next entry
compiled_unbounded a b q f next entry none is =
    compiled_same a b (any_number q.greedy f) (extra q f) next entry
    (λ d setting bytes s inside. ap (λ (k : ℕ). up_to q.greedy k (f d setting bytes) s) (sym (extra_none (length bytes + 1) q none))) is

pub compiled_bounded : (a b : Code) (q : Quantifier) (f : Matching) (next entry max : ℕ) → q.max ≡ Some max →
    ((d : Direction) (setting : Setting) (bytes : List ℕ) → Stays bytes d (f d setting bytes)) →
    Compiled a b (optional q.greedy (max - q.min) f) next entry → Compiled a b (extra q f) next entry
compiled_bounded a b q f next entry max some stays is =
    compiled_same a b (optional q.greedy (max - q.min) f) (extra q f) next entry
    (λ d setting bytes s inside.
    up_to-min bytes d (f d setting bytes) (stays d setting bytes) q.greedy (max - q.min) s inside
    ∙ ap (λ (k : ℕ). up_to q.greedy k (f d setting bytes) s) (sym (extra_some (length bytes + 1) q max some))) is

-- one iteration
abbrev once : (start end : ℕ) → Matching → Matching
once start end f d setting bytes = iteration start end (f d setting bytes)

pub compiled_repeated : (a b : Code) (q : Quantifier) (start end : ℕ) (f : Matching) (next entry : ℕ) →
    Compiled a b (after_iterations q.min (once start end f) (extra q (once start end f))) next entry →
    Compiled a b (repeated q start end f) next entry
unfolding repeat_matcher
compiled_repeated a b q start end f next entry is = is

-- a loop without iterations
pub compiled_never : (a : Code) (q : Quantifier) (start end : ℕ) (f : Matching) (next : ℕ) → q.min ≡ 0 → q.max ≡ Some 0 →
    ((d : Direction) (setting : Setting) (bytes : List ℕ) → Stays bytes d (once start end f d setting bytes)) → next < length a.ops →
    Compiled a a (repeated q start end f) next next
compiled_never a q start end f next least most stays below =
    let g = once start end f in
    let none : 0 ≡ 0 - q.min = omega arith in
    let optional_part = compiled_bounded a a q g next next 0 most stays
    (subst (λ (k : ℕ). Compiled a a (optional q.greedy k g) next next) none (compiled_nothing a next below)) in
    compiled_repeated a a q start end f next next
    (subst (λ (k : ℕ). Compiled a a (after_iterations k g (extra q g)) next next) (sym least) (compiled_no_mandatory a a g (extra q g) next next optional_part))
