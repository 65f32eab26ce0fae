-- Iterations of which two are compiled, and the others are copies.
use Rattle.std.proofs.Common.{◌≡◌, ℕ, zero, suc, ◌+◌, ◌-◌, ◌*◌, ◌≤◌, ◌<◌, Bool, List, [], ◌∷◌, drop, flat_map, length, map, refl, sym, ap, ap₂, subst, ◌∙◌, arith}
use Rattle.std.proofs.lemmas.List.{length-append, length-map}
use Rattle.regress_leaves.specs.declared.test.Test.{Test}
use Rattle.regress_tree.specs.Repetition.{iterations}
use Rattle.regress_tree.specs.Tree.{Tree}
use Rattle.regress_program.specs.Adds.{Covers, Holds}
use Rattle.regress_program.specs.CodeOf.{code_in, Emits, EmitsCopies, EmitsOne}
use Rattle.regress_program.specs.Compiled.{Matching, after_iterations, exactly, Code, Compiled}
use Rattle.regress_program.specs.Contents.{Contents, after_all, in_iterations}
use Rattle.regress_program.specs.Copies.{moved_in, times}
use Rattle.regress_program.specs.Iterates.{Iterates}
use Rattle.regress_program.specs.Listed.{Appends, all_of}
use Rattle.regress_program.specs.Program.{Op}
use Rattle.regress_program.specs.Views.{op_in, ops_in, program_in}
use Rattle.regress_program.specs.declared.compiler.Compiler.{Compiler}
use Rattle.regress_program.specs.declared.instruction.Instruction.TheVariants as insts
use Rattle.regress_program.proofs.AddLemmas.{Longer, longer, longer-push}
use Rattle.regress_program.proofs.CodeLemmas.{Extends-same, Grown-same, get-append-below}
use Rattle.regress_program.proofs.CompileLemmas.{compiled_nothing, compiled_same}
use Rattle.regress_program.proofs.CopiesLemmas.{Loop, Loop-times, code_once, code_times}
use Rattle.regress_program.proofs.CoverLemmas.{covers_iterations, covers_later, longer-then}
use Rattle.regress_program.proofs.ExpandedLemmas.{op_in-moved}
use Rattle.regress_program.proofs.Moved.{moved_op}
use Rattle.regress_program.proofs.OptionalCopies.{Optional, Optional-times}
use Rattle.regress_program.proofs.OptionalLemmas.{EmitsOptional, optional-last, optional-more}
use Rattle.regress_program.proofs.PieceLemmas.{holds_mandatory, holds_no_mandatory, holds_nothing, holds_repeated}
use Rattle.regress_program.proofs.RepeatLemmas.{compiled_mandatory, compiled_no_mandatory}
use Rattle.regress_program.proofs.TimesLemmas.{map-times, times-length}
use Rattle.regress_program.proofs.ViewLemmas.{below}

-- The last `width` instructions have been copied `count` times.
pub record HasCopied (old new : Compiler) (from width count : ℕ) : Type 0 where
  pub all : all_of new.instructions ≡ times (moved_in from width) width count (all_of old.instructions)
  pub routines : new.routines ≡ old.routines
  pub left : new.left + count * width ≡ old.left
  pub leaf : new.next_leaf ≡ old.next_leaf
  pub stored_left : new.stored_left ≡ old.stored_left
  pub stored : new.instructions.stored.items ≡ old.instructions.stored.items

pub copied-length : (old new : Compiler) (from width count : ℕ) → width ≤ length (all_of old.instructions) → HasCopied old new from width count →
    length (all_of new.instructions) ≡ length (all_of old.instructions) + count * width
copied-length old new from width count le is = ap length is.all ∙ times-length (moved_in from width) width count (all_of old.instructions) le

-- ---- the same as plain code

times-ops : (from width count : ℕ) (c : Code) → (code_times from width count c).ops ≡ times (moved_op from width) width count c.ops
times-ops from width zero c = refl
times-ops from width (suc count) c = times-ops from width count (code_once from width c)

times-routines : (from width count : ℕ) (c : Code) → (code_times from width count c).routines ≡ c.routines
times-routines from width zero c = refl
times-routines from width (suc count) c = times-routines from width count (code_once from width c)

times-left : (from width count : ℕ) (c : Code) → (code_times from width count c).left ≡ c.left - count * width
times-left from width zero c = omega arith
times-left from width (suc count) c =
    let more : (count + 1) * width ≡ count * width + width = omega arith in
    times-left from width count (code_once from width c) ∙ omega (arith, more)

times-longer : (from width count : ℕ) (c : Code) → Longer c (code_times from width count c)
times-longer from width zero c = record { ops = Extends-same c.ops; routines = Extends-same c.routines }
times-longer from width (suc count) c =
    let e = code_once from width c in
    longer-then c e (code_times from width count e)
    (record {
      ops = record { grown = omega (arith, length-append c.ops (rest c)); same = λ i lt. get-append-below c.ops (rest c) i lt };
      routines = Extends-same c.routines;
    })
    (times-longer from width count e)
  where
    rest : Code → List Op
    rest c = map (moved_op from width) (drop (length c.ops - width) c.ops)

code-same : (a b : Code) → a.routines ≡ b.routines → a.ops ≡ b.ops → a.left ≡ b.left → a ≡ b
code-same a b routines ops left =
    ap₂ (λ rs os. record { routines = rs; ops = os; left = a.left }) routines ops ∙ ap (λ k. record { routines = b.routines; ops = b.ops; left = k }) left

pub code-copied : (leaves : List Test) (old new : Compiler) (from width count : ℕ) → HasCopied old new from width count →
    code_times from width count (code_in leaves old) ≡ code_in leaves new
code-copied leaves old new from width count is =
    let c = code_in leaves old in
    code-same (code_times from width count c) (code_in leaves new)
    (times-routines from width count c ∙ ap (λ rs. program_in leaves rs.items) (sym is.routines))
    (times-ops from width count c
    ∙ sym (map-times (op_in leaves) (moved_in from width) (moved_op from width) (λ i. op_in-moved leaves from width i) width count (all_of old.instructions))
    ∙ ap (ops_in leaves) (sym is.all))
    (omega (arith, times-left from width count c, is.left))

-- ---- mandatory iterations

single : {X : Type 0} (xs : List X) → flat_map (λ x. x ∷ []) xs ≡ xs
single [] = refl
single (x ∷ xs) = ap (λ ys. x ∷ ys) (single xs)

-- nothing follows them
compiled_alone : (a b : Code) (f : Matching) (next entry n : ℕ) → Compiled a b (after_iterations n f (exactly 0 f)) next entry →
    Compiled a b (exactly n f) next entry
compiled_alone a b f next entry n is =
    compiled_same a b (after_iterations n f (exactly 0 f)) (exactly n f) next entry
    (λ d setting bytes s inside. single (iterations n (f d setting bytes) s)) is

module _ (z a b c : Compiler) (from : ℕ) (ts : List Tree) (f : Matching) (cf : Contents) (next last entry width count total : ℕ)
    (within : next < length (all_of z.instructions)) (first : Emits z a from ts f cf next last) (second : Emits a b from ts f cf last entry)
    (last_is : last + 1 ≡ length (all_of a.instructions)) (entry_is : entry + 1 ≡ length (all_of b.instructions))
    (wide : length (all_of b.instructions) ≡ length (all_of a.instructions) + width) (some : 0 < width) (number : total ≡ count + 2)
    (copied : HasCopied b c last width count) (appends : Appends z.instructions c.instructions) where
  -- Exactly `total` iterations are two and the copies of the second one.
  pub emits-copied : EmitsCopies z c from ts total (exactly total f) (in_iterations cf) next (entry + count * width)
  emits-copied = record {
    begins = omega (arith, copied-length b c last width count (omega (arith, wide)) copied, entry_is);
    appends = appends;
    means = λ leaves has.
        let x = code_in leaves z in
        let y = code_in leaves a in
        let w = code_in leaves b in
        let e = code_times last width count w in
        let g = exactly 0 f in
        let i = in_iterations cf in
        let one = first.means leaves has in
        let two = second.means leaves has in
        let len : length y.ops ≡ length (all_of a.instructions) = length-map (all_of a.instructions) (op_in leaves) in
        let len' : length w.ops ≡ length (all_of b.instructions) = length-map (all_of b.instructions) (op_in leaves) in
        let inside : next < length x.ops = below leaves (all_of z.instructions) next within in
        let all : Compiled x w (after_iterations 2 f g) next entry =
        compiled_mandatory x y w f g next last entry 1
        (compiled_mandatory x x y f g next next last 0 (compiled_no_mandatory x x f g next next (compiled_nothing x next inside)) one.compiled) two.compiled in
        let held : Holds x w (after_all cf i) next entry =
        holds_mandatory x y w cf i next last entry one.compiled.grown two.compiled.grown
        (holds_mandatory x x y cf i next next last (Grown-same x) one.compiled.grown (holds_no_mandatory x x cf i next next (holds_nothing x i next)) one.holds)
        two.holds in
        let loop : Loop x y w f g cf i last width next last entry 2 = record {
          whole = omega (arith, len, len', wide);
          some = some;
          after = omega (arith, len, last_is);
          after_next = omega arith;
          step = omega (arith, last_is, entry_is, wide);
          one = two.compiled;
          holds = two.holds;
          grown = all.grown;
          all = all;
          all_holds = held;
        } in
        let times = Loop-times x f g cf i last width next count y w last entry 2 (omega (arith, copied.left)) loop in
        let same : e ≡ code_in leaves c = code-copied leaves b c last width count copied in
        let at : ℕ = entry + count * width in
        record {
          after = λ any. copied.leaf ∙ two.after;
          compiled =
              subst (λ (k : ℕ). Compiled x (code_in leaves c) (exactly k f) next at) (omega (arith, number))
              (subst (λ v. Compiled x v (exactly (2 + count) f) next at) same (compiled_alone x e f next at (2 + count) times.2.all));
          holds = subst (λ v. Holds x v i next at) same (holds_repeated x e cf next at times.2.all_holds);
          covers = λ any.
              subst (λ v. Covers x v i) same
              (covers_later x y e i (longer-then y w e (longer y w two.compiled.grown) (times-longer last width count w)) (covers_iterations x y cf one.covers));
        };
  }

-- ---- optional iterations

module _ (z p a m b c : Compiler) (greedy : Bool) (from : ℕ) (ts : List Tree) (f : Matching) (cf : Contents) (next end last again start width count : ℕ)
    (within : next < length (all_of z.instructions)) (ends : EmitsOne z p (λ leaves. op_in leaves (insts.EndLoop next)) end)
    (ends_appends : Appends z.instructions p.instructions) (first : Emits p a from ts f cf end last)
    (more : EmitsOne a m (λ leaves. op_in leaves (insts.Repeat greedy last next)) again) (more_appends : Appends a.instructions m.instructions)
    (second : Emits m b from ts f cf again start)
    (last_is : last + 1 ≡ length (all_of a.instructions)) (start_is : start + 1 ≡ length (all_of b.instructions))
    (wide : length (all_of b.instructions) ≡ length (all_of a.instructions) + width) (some : 1 < width)
    (copied : HasCopied b c last width count) (appends : Appends z.instructions c.instructions) where
  -- The iterations before the beginning of the loop are two and the copies of the second one.
  pub optional-copied : EmitsOptional z c greedy from ts f cf next (start + count * width) (count + 1)
  optional-copied = record {
    begins = omega (arith, copied-length b c last width count (omega (arith, wide)) copied, start_is);
    appends = appends;
    means = λ leaves has.
        let x = code_in leaves z in
        let y = code_in leaves a in
        let v = code_in leaves m in
        let w = code_in leaves b in
        let e = code_times last width count w in
        let i = in_iterations cf in
        let two = second.means leaves has in
        let last_part = optional-last z greedy from ts f cf next within p a end last ends ends_appends first in
        let so_far = optional-more z greedy from ts f cf next within a m b last again start 0 last_part more more_appends second in
        let before = last_part.means leaves has in
        let both = so_far.means leaves has in
        let len : length y.ops ≡ length (all_of a.instructions) = length-map (all_of a.instructions) (op_in leaves) in
        let len_m : length v.ops ≡ length (all_of m.instructions) = length-map (all_of m.instructions) (op_in leaves) in
        let len_b : length w.ops ≡ length (all_of b.instructions) = length-map (all_of b.instructions) (op_in leaves) in
        let len_p : length (all_of p.instructions) ≤ length (all_of a.instructions) = first.appends.all.grown in
        let inside : next < length x.ops = below leaves (all_of z.instructions) next within in
        let o : Optional x y v w greedy f cf last width next last again start 1 = record {
          whole = omega (arith, len, len_b, wide);
          after = omega (arith, len, last_is);
          below = inside;
          outside = omega (arith, within, ends.grown, len_p, last_is);
          after_start = omega arith;
          some = omega (arith, len_m, len_b, more.grown, wide, some);
          step = omega (arith, last_is, start_is, wide);
          ends = more.means leaves;
          one = two.compiled;
          holds = two.holds;
          all = both.iterates;
          all_holds = both.holds;
        } in
        let times = Optional-times x greedy f cf last width next count y v w last again start 1 (omega (arith, copied.left)) o in
        let same : e ≡ code_in leaves c = code-copied leaves b c last width count copied in
        let at : ℕ = start + count * width in
        let number : 1 + count ≡ count + 1 = omega arith in
        record {
          after = copied.leaf ∙ two.after;
          iterates = subst (λ (k : ℕ). Iterates x (code_in leaves c) greedy f next at k) number (subst (λ u. Iterates x u greedy f next at (1 + count)) same times.4.all);
          holds = subst (λ u. Holds x u i next at) same times.4.all_holds;
          covers =
              subst (λ u. Covers x u i) same
              (covers_later x y e i (longer-then y w e (longer-then y v w (longer-push y v _ again (more.means leaves)) (longer v w two.compiled.grown)) (times-longer last width count w))
              before.covers);
        };
  }
