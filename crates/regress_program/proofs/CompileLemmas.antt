-- Each kind of node as instructions.
use Rattle.std.proofs.Common.{◌≡◌, ℕ, ◌+◌, ◌≤◌, ◌<◌, List, length, All, sym, ap, subst, ◌∙◌, arith}
use Rattle.regress_tree.specs.Reading.{Direction}
use Rattle.regress_tree.specs.Repetition.{iteration}
use Rattle.regress_tree.specs.Steps.{MatchState, Matcher, stay, fail, ◌then_◌, ◌or_◌, capture, Setting}
use Rattle.regress_tree.specs.Tree.{Tree}
use Rattle.regress_tree.proofs.lemmas.Groups.{iteration-none}
use Rattle.regress_program.specs.Compiled.{Matching, matching, Code, Grown, Compiled}
use Rattle.regress_program.specs.Pushed.{Pushed}
use Rattle.regress_program.specs.Program.{part, split, unsets, begin_group, end_group, start}
use Rattle.regress_program.specs.Program as programs
use Rattle.regress_program.specs.Shape.{IsPart}
use Rattle.regress_program.specs.Stays.{IsReached}
use Rattle.regress_program.proofs.CodeLemmas.{length-push, earlier, Grown-same, Grown-then, Grown-push, Solved-first, Solved-second, pushed_at}
use Rattle.regress_program.proofs.FlowLemmas.{Goes-stay, Goes-same, Goes-then, Goes-or, Goes-iteration, Goes-capture}
use Rattle.regress_program.proofs.lemmas.Onward.{Stays-stay, Stays-fail, Stays-then, Stays-or, Stays-capture, Stays-iteration, Stays-tree}

-- ---- changes that keep the meaning

-- a matcher with the same outcomes inside a text
abbrev pub IsSame : Matching → Matching → Type 0
IsSame f g = (d : Direction) (setting : Setting) (bytes : List ℕ) (s : MatchState) → s.position ≤ length bytes → f d setting bytes s ≡ g d setting bytes s

pub compiled_same : (a b : Code) (f g : Matching) (next entry : ℕ) → IsSame f g → Compiled a b f next entry → Compiled a b g next entry
compiled_same a b f g next entry same is = record {
  grown = is.grown;
  begins = is.begins;
  stays = λ d setting bytes.
      record { reached = λ s le. subst (All (IsReached bytes d s)) (same d setting bytes s le) ((is.stays d setting bytes).reached s le) };
  means = λ d w out solved.
      Goes-same w.bytes d out next entry (f d w.setting w.bytes) (g d w.setting w.bytes) (same d w.setting w.bytes) (is.means d w out solved);
}

-- more code before, and more code after
pub compiled_later : (a b c : Code) (f : Matching) (next entry : ℕ) → Grown b c → Compiled a b f next entry → Compiled a c f next entry
compiled_later a b c f next entry grown is = record {
  grown = Grown-then a b c is.grown grown;
  begins = omega (arith, is.begins, grown.ops.grown);
  stays = is.stays;
  means = λ d w out solved. is.means d (earlier grown.routines w) out (Solved-first is.grown grown w d out solved);
}

pub compiled_earlier : (a b c : Code) (f : Matching) (next entry : ℕ) → Grown a b → Compiled b c f next entry → Compiled a c f next entry
compiled_earlier a b c f next entry grown is = record {
  grown = Grown-then a b c grown is.grown;
  begins = is.begins;
  stays = is.stays;
  means = λ d w out solved. is.means d w out (Solved-second grown is.grown w d out solved);
}

-- ---- nodes without a body

pub compiled_nothing : (a : Code) (next : ℕ) → next < length a.ops → Compiled a a (λ d setting bytes. stay) next next
compiled_nothing a next below = record {
  grown = Grown-same a;
  begins = below;
  stays = λ d setting bytes. Stays-stay bytes d;
  means = λ d w out solved. Goes-stay w.bytes d out next;
}

pub compiled_part : (a b : Code) (t : Tree) (next at : ℕ) → IsPart t → next < length a.ops → Pushed a b (part t next) at →
    Compiled a b (matching t) next at
compiled_part a b t next at is below pushed =
    let grown = Grown-push a b (part t next) at pushed (is, below) in
    let len : length b.ops ≡ length a.ops + 1 = ap length pushed.ops ∙ length-push a.ops (part t next) in
    record {
      grown = grown;
      begins = omega (arith, len, pushed.at_end);
      stays = λ d setting bytes. Stays-tree setting bytes d t;
      means = λ d w out solved. record { goes = λ s inside. pushed_at (Grown-same a) (part t next) at pushed w d out solved s inside };
    }

pub compiled_fail : (a b : Code) (next at : ℕ) → Pushed a b programs.fail at → Compiled a b (λ d setting bytes. fail) next at
compiled_fail a b next at pushed =
    let grown = Grown-push a b programs.fail at pushed tt in
    let len : length b.ops ≡ length a.ops + 1 = ap length pushed.ops ∙ length-push a.ops programs.fail in
    record {
      grown = grown;
      begins = omega (arith, len, pushed.at_end);
      stays = λ d setting bytes. Stays-fail bytes d;
      means = λ d w out solved. record { goes = λ s inside. pushed_at (Grown-same a) programs.fail at pushed w d out solved s inside };
    }

-- ---- two in sequence, and two alternatives

pub compiled_then : (a b c : Code) (f g : Matching) (next middle entry : ℕ) → Compiled a b g next middle → Compiled b c f middle entry →
    Compiled a c (λ d setting bytes. f d setting bytes then_ g d setting bytes) next entry
compiled_then a b c f g next middle entry second first = record {
  grown = Grown-then a b c second.grown first.grown;
  begins = first.begins;
  stays = λ d setting bytes. Stays-then bytes d (f d setting bytes) (g d setting bytes) (first.stays d setting bytes) (second.stays d setting bytes);
  means = λ d w out solved.
      Goes-then w.bytes d out next middle entry (f d w.setting w.bytes) (g d w.setting w.bytes)
      (first.stays d w.setting w.bytes) (second.stays d w.setting w.bytes)
      (first.means d w out (Solved-second second.grown first.grown w d out solved))
      (second.means d (earlier first.grown.routines w) out (Solved-first second.grown first.grown w d out solved));
}

pub compiled_or : (a b c : Code) (f g : Matching) (next first second at : ℕ) → Compiled a b f next first → Compiled a b g next second →
    Pushed b c (split first second) at → Compiled a c (λ d setting bytes. f d setting bytes or_ g d setting bytes) next at
compiled_or a b c f g next first second at left right pushed =
    let grown = Grown-push b c (split first second) at pushed (left.begins, right.begins) in
    let len : length c.ops ≡ length b.ops + 1 = ap length pushed.ops ∙ length-push b.ops (split first second) in
    record {
      grown = Grown-then a b c left.grown grown;
      begins = omega (arith, len, pushed.at_end);
      stays = λ d setting bytes. Stays-or bytes d (f d setting bytes) (g d setting bytes) (left.stays d setting bytes) (right.stays d setting bytes);
      means = λ d w out solved.
          let before = Solved-first left.grown grown w d out solved in
          Goes-or w.bytes d out next at first second (f d w.setting w.bytes) (g d w.setting w.bytes)
          (λ s inside. pushed_at left.grown (split first second) at pushed w d out solved s inside)
          (left.means d (earlier grown.routines w) out before) (right.means d (earlier grown.routines w) out before);
    }

-- ---- groups

pub compiled_group : (a b c e : Code) (f : Matching) (id next ends contents at : ℕ) → next < length a.ops →
    Pushed a b (end_group id next) ends → Compiled b c f ends contents → Pushed c e (begin_group contents) at →
    Compiled a e (λ d setting bytes. capture id (f d setting bytes)) next at
compiled_group a b c e f id next ends contents at below end is begin =
    let ended = Grown-push a b (end_group id next) ends end below in
    let begun = Grown-push c e (begin_group contents) at begin is.begins in
    let whole = Grown-then a b c ended is.grown in
    let len : length e.ops ≡ length c.ops + 1 = ap length begin.ops ∙ length-push c.ops (begin_group contents) in
    record {
      grown = Grown-then a c e whole begun;
      begins = omega (arith, len, begin.at_end);
      stays = λ d setting bytes. Stays-capture bytes d id (f d setting bytes) (is.stays d setting bytes);
      means = λ d w out solved.
          let before = Solved-first whole begun w d out solved in
          let inner = Solved-second ended is.grown (earlier begun.routines w) d out before in
          let ending = Solved-first ended is.grown (earlier begun.routines w) d out before in
          Goes-capture w.bytes d out next at contents ends id (f d w.setting w.bytes) (is.stays d w.setting w.bytes)
          (λ s inside. pushed_at whole (begin_group contents) at begin w d out solved s inside)
          (λ s inside. pushed_at (Grown-same a) (end_group id next) ends end (earlier is.grown.routines (earlier begun.routines w)) d out ending s inside)
          (is.means d (earlier begun.routines w) out inner);
    }

-- ---- one iteration

pub compiled_unset : (a b c : Code) (f : Matching) (start' end' next body at : ℕ) → Compiled a b f next body → Pushed b c (unsets start' end' body) at →
    Compiled a c (λ d setting bytes. iteration start' end' (f d setting bytes)) next at
compiled_unset a b c f start' end' next body at is pushed =
    let grown = Grown-push b c (unsets start' end' body) at pushed is.begins in
    let len : length c.ops ≡ length b.ops + 1 = ap length pushed.ops ∙ length-push b.ops (unsets start' end' body) in
    record {
      grown = Grown-then a b c is.grown grown;
      begins = omega (arith, len, pushed.at_end);
      stays = λ d setting bytes. Stays-iteration bytes d (f d setting bytes) (is.stays d setting bytes) start' end';
      means = λ d w out solved.
          Goes-iteration w.bytes d out next at body start' end' (f d w.setting w.bytes)
          (λ s inside. pushed_at is.grown (unsets start' end' body) at pushed w d out solved s inside)
          (is.means d (earlier grown.routines w) out (Solved-first is.grown grown w d out solved));
    }

pub compiled_without_groups : (a b : Code) (f : Matching) (start' end' next body : ℕ) → end' ≤ start' → Compiled a b f next body →
    Compiled a b (λ d setting bytes. iteration start' end' (f d setting bytes)) next body
compiled_without_groups a b f start' end' next body none is =
    compiled_same a b f _ next body (λ d setting bytes s inside. ap (λ (g : Matcher). g s) (sym (iteration-none start' end' none (f d setting bytes)))) is
