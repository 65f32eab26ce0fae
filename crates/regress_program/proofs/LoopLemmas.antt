-- Loops: optional iterations, and mandatory ones before them.
use Rattle.std.proofs.Common.{◌≡◌, ◌≤◌, ◌<◌, inl, inr, ℕ, ◌+◌, ◌-◌, ◌*◌, Bool, true, false, List, length, max, nat_lt, if◌then◌else◌, ◌||◌, Some, None, option_map, refl, sym, ap, subst, ◌∙◌, arith}
use Rattle.regress_base.specs.declared.types.Quantifier.{Quantifier}
use Rattle.regress_leaves.specs.declared.test.Test.{Test}
use Rattle.regress_prefilter.specs.OneCharacter.{takes_one}
use Rattle.regress_tree.specs.Reading.{Direction}
use Rattle.regress_tree.specs.Steps.{Setting}
use Rattle.regress_tree.specs.Tree.{empty, goal, char, byte_sequence, byte_set, char_set, match_any, match_any_except_line_terminator, anchor, word_boundary, bracket, back_ref, string_set, loop_one, Tree, leaf, cat, alt, wrapped}
use Rattle.regress_program.specs.CodeOf.{code_in, Emits, EmitsCopies, Exceeds, Spends}
use Rattle.regress_program.specs.Compiled.{Matching, after_iterations, any_number, extra, optional, repeated, Compiled}
use Rattle.regress_program.specs.Contents.{Contents, in_iterations, in_loop}
use Rattle.regress_program.specs.LeavesOf.{leaves_of_loop}
use Rattle.regress_program.specs.Linear.{is_never}
use Rattle.regress_program.specs.Size.{every, is_copied, size_of_characters, size_of_extra, size_of_extra_characters, size_of_iteration, size_of_loop, size_of_optional, size_of_up_to, size_of_wrapper, sized, stored_of}
use Rattle.regress_program.specs.Stays.{Stays}
use Rattle.regress_program.specs.declared.compiler.Compiler.{Compiler}
use Rattle.regress_program.specs.declared.counts.Counts.{Counts}
use Rattle.regress_program.specs.declared.counts.Counts.TheVariants.{Bounded, Unbounded, Copied}
use Rattle.regress_program.proofs.CopySpends.{few-stored}
use Rattle.regress_program.proofs.CoverLemmas.{covers_fewer, fewer_in_loop, no_more_runs}
use Rattle.regress_program.proofs.LeavesLemmas.{copies-bounded, has-same, loop-leaves, optional_copies, some-copies}
use Rattle.regress_program.proofs.PieceLemmas.{holds_less}
use Rattle.regress_program.proofs.RepeatLemmas.{compiled_bounded, compiled_unbounded}
use Rattle.regress_program.proofs.lemmas.Tidy.{or_none}
use Rattle.regress_program.proofs.SpendLemmas.{Amount, Spends-at, Spends-none, Spends-same, Spends-then, exceeds-at, exceeds-more, exceeds-then}

-- ---- what they match

module _ (z b : Compiler) (from : ℕ) (ts : List Tree) (q : Quantifier) (f : Matching) (cf : Contents) (next entry : ℕ) where
  pub loop-unbounded : (greedy : Bool) → greedy ≡ q.greedy → q.max ≡ None → Emits z b from ts (any_number greedy f) (in_iterations cf) next entry →
      EmitsCopies z b from ts (optional_copies q) (extra q f) (in_iterations cf) next entry
  loop-unbounded greedy same none is = record {
    begins = is.begins;
    appends = is.appends;
    means = λ leaves has.
        let one = is.means leaves has in
        record {
          after = λ some. one.after;
          compiled =
              compiled_unbounded (code_in leaves z) (code_in leaves b) q f next entry none
              (subst (λ g. Compiled (code_in leaves z) (code_in leaves b) (any_number g f) next entry) same one.compiled);
          holds = one.holds;
          covers = λ some. one.covers;
        };
  }

  pub loop-bounded : (greedy : Bool) (most count : ℕ) → greedy ≡ q.greedy → q.max ≡ Some most → count ≡ most - q.min →
      ((d : Direction) (setting : Setting) (bytes : List ℕ) → Stays bytes d (f d setting bytes)) →
      EmitsCopies z b from ts count (optional greedy count f) (in_iterations cf) next entry →
      EmitsCopies z b from ts (optional_copies q) (extra q f) (in_iterations cf) next entry
  loop-bounded greedy most count same some number stays is =
      let copies : optional_copies q ≡ count = copies-bounded q most some ∙ sym number in
      record {
        begins = is.begins;
        appends = is.appends;
        means = λ leaves has.
            let x = code_in leaves z in
            let y = code_in leaves b in
            let all = is.means leaves has in
            record {
              after = λ any. all.after (omega (arith, any, copies));
              compiled =
                  compiled_bounded x y q f next entry most some stays
                  (subst (λ k. Compiled x y (optional q.greedy k f) next entry) number (subst (λ g. Compiled x y (optional g count f) next entry) same all.compiled));
              holds = all.holds;
              covers = λ any. all.covers (omega (arith, any, copies));
            };
      }

-- a loop with iterations
pub emits-repeated : (z b : Compiler) (from : ℕ) (ts : List Tree) (q : Quantifier) (start end : ℕ) (f g : Matching) (cf : Contents) (next entry : ℕ) → is_never q ≡ false →
    ((x y : Compiler) → (leaves : List Test) → Compiled (code_in leaves x) (code_in leaves y) (after_iterations q.min f (extra q f)) next entry →
    Compiled (code_in leaves x) (code_in leaves y) (repeated q start end g) next entry) →
    EmitsCopies z b from ts (q.min + optional_copies q) (after_iterations q.min f (extra q f)) (in_iterations cf) next entry →
    Emits z b from (leaves_of_loop q ts) (repeated q start end g) (in_loop q (in_iterations cf)) next entry
emits-repeated z b from ts q start end f g cf next entry some whole is =
    let same = loop-leaves q ts some in
    record {
      begins = is.begins;
      appends = is.appends;
      means = λ leaves has.
          let all = is.means leaves (has-same leaves from (leaves_of_loop q ts) ts same has) in
          let x = code_in leaves z in
          let y = code_in leaves b in
          record {
            after = omega (arith, all.after (some-copies q some), ap length same);
            compiled = whole z b leaves all.compiled;
            holds = holds_less x y (in_iterations cf) (in_loop q (in_iterations cf)) next entry (no_more_runs q (in_iterations cf) some) all.holds;
            covers = covers_fewer x y (in_iterations cf) (in_loop q (in_iterations cf)) (fewer_in_loop q (in_iterations cf)) (all.covers (some-copies q some));
          };
    }

-- ---- what they cost

-- the optional iterations, each of a size
abbrev pub extra_size : Quantifier → Amount → Amount
extra_size q n counted = size_of_extra (n counted) (option_map (λ most. counted (most - q.min)) q.max)

-- the mandatory ones
abbrev pub least_size : Quantifier → Amount → Amount
least_size q n counted = n counted * counted q.min

-- all of them
abbrev pub loop_size : Quantifier → Amount → Amount
loop_size q n counted = size_of_loop counted q (n counted)

module _ (q : Quantifier) (n : Amount) where
  pub extra-none : q.max ≡ None → (counted : ℕ → ℕ) → size_of_extra (n counted) None ≡ extra_size q n counted
  extra-none none counted = ap (λ m. size_of_extra (n counted) (option_map (λ most. counted (most - q.min)) m)) (sym none)

  pub extra-some : (most count : ℕ) → q.max ≡ Some most → count ≡ most - q.min → (counted : ℕ → ℕ) →
      size_of_optional (n counted) (counted count) ≡ extra_size q n counted
  extra-some most count some number counted =
      ap (λ k. size_of_optional (n counted) (counted k)) number
      ∙ ap (λ m. size_of_extra (n counted) (option_map (λ most. counted (most - q.min)) m)) (sym some)

module _ (counts : Counts) (q : Quantifier) (n : Amount) where
  pub spends-loop : (z b c : Compiler) → Spends z b counts (extra_size q n) → Spends b c counts (least_size q n) → Spends z c counts (loop_size q n)
  spends-loop z b c first second =
      Spends-same z c counts (λ counted. extra_size q n counted + least_size q n counted) (loop_size q n) (λ counted. omega arith)
      (Spends-then z b c counts (extra_size q n) (least_size q n) first second)

  pub exceeds-extra : (z : Compiler) → Exceeds z counts (extra_size q n) → Exceeds z counts (loop_size q n)
  exceeds-extra z more = exceeds-more z counts (extra_size q n) (loop_size q n) (λ counted. omega arith) more

  pub exceeds-least : (z b : Compiler) → Spends z b counts (extra_size q n) → Exceeds b counts (least_size q n) → Exceeds z counts (loop_size q n)
  exceeds-least z b first more =
      exceeds-more z counts (λ counted. extra_size q n counted + least_size q n counted) (loop_size q n) (λ counted. omega arith)
      (exceeds-then z b counts (extra_size q n) (least_size q n) first more)

-- ---- one iteration

module _ (counts : Counts) (start end : ℕ) (n : Amount) where
  -- an iteration of such a body
  abbrev pub whole_iteration : Amount
  whole_iteration counted = size_of_iteration counts start end (n counted)

  with-first : (nat_lt start end || is_copied counts) ≡ true → (counted : ℕ → ℕ) → n counted + 1 ≡ whole_iteration counted
  with-first first counted = ap (λ b. if b then n counted + 1 else max (n counted) 1) (sym first)

  without-first : (nat_lt start end || is_copied counts) ≡ false → (counted : ℕ → ℕ) → max (n counted) 1 ≡ whole_iteration counted
  without-first none counted = ap (λ b. if b then n counted + 1 else max (n counted) 1) (sym none)

-- without copies all iterations are stored
pub same-stored : (counts : Counts) (n : Amount) → is_copied counts ≡ false → n (stored_of counts) ≡ n every
same-stored Bounded n is = refl
same-stored Unbounded n is = refl
same-stored Copied n is = cc

module _ (a b : Compiler) (counts : Counts) (start end : ℕ) (n : Amount) (is : Spends a b counts n) where
  -- a body with instructions, which is the iteration
  pub spends-body : (nat_lt start end || is_copied counts) ≡ false → b.left < a.left → Spends a b counts (whole_iteration counts start end n)
  spends-body none less =
      let plain = (or_none (nat_lt start end) (is_copied counts) none).1 in
      let same = same-stored counts n plain in
      Spends-at a b counts n (whole_iteration counts start end n)
      (omega (arith, without-first counts start end n none (stored_of counts), same, is.all, less))
      (omega (arith, without-first counts start end n none every, is.all, less)) is

  -- one more instruction than the body has
  module _ (why : (nat_lt start end || is_copied counts) ≡ false → a.left ≤ b.left) where
    last-size : (counted : ℕ → ℕ) → (is_copied counts ≡ false → n counted ≡ n every) → n counted + 1 ≡ whole_iteration counts start end n counted
    last-size counted same = by (nat_lt start end || is_copied counts) refl
      where
        by : (b' : Bool) → (nat_lt start end || is_copied counts) ≡ b' → n counted + 1 ≡ whole_iteration counts start end n counted
        by true first = with-first counts start end n first counted
        by false none =
            let plain = (or_none (nat_lt start end) (is_copied counts) none).1 in
            omega (arith, without-first counts start end n none counted, same plain, is.exact plain, why none)

    pub spends-pushed : (c : Compiler) → Spends b c counts (λ counted. 1) → Spends a c counts (whole_iteration counts start end n)
    spends-pushed c one =
        Spends-at a c counts (λ counted. n counted + 1) (whole_iteration counts start end n) (last-size (stored_of counts) (same-stored counts n))
        (last-size every (λ plain. refl)) (Spends-then a b c counts n (λ counted. 1) is one)

    pub exceeds-pushed : Exceeds b counts (λ counted. 1) → Exceeds a counts (whole_iteration counts start end n)
    exceeds-pushed more =
        exceeds-at a counts (λ counted. n counted + 1) (whole_iteration counts start end n)
        (omega (arith, last-size (stored_of counts) (same-stored counts n))) (omega (arith, last-size every (λ plain. refl)))
        (exceeds-then a b counts n (λ counted. 1) is more)

-- ---- loops over one character

pub one-size : (counts : Counts) (counted : ℕ → ℕ) (t : Tree) → takes_one t ≡ true → sized counts counted t ≡ 1
one-size counts counted (leaf empty) is = cc
one-size counts counted (leaf goal) is = cc
one-size counts counted (leaf (char c)) is = refl
one-size counts counted (leaf (byte_sequence bytes)) is = refl
one-size counts counted (leaf (byte_set members)) is = refl
one-size counts counted (leaf (char_set members)) is = refl
one-size counts counted (leaf match_any) is = refl
one-size counts counted (leaf match_any_except_line_terminator) is = refl
one-size counts counted (leaf (anchor kind multiline)) is = cc
one-size counts counted (leaf (word_boundary invert unicode_icase)) is = cc
one-size counts counted (leaf (bracket invert intervals)) is = refl
one-size counts counted (leaf (back_ref group icase)) is = cc
one-size counts counted (leaf (string_set ss icase)) is = cc
one-size counts counted (cat parts) is = cc
one-size counts counted (alt left right) is = cc
one-size counts counted (wrapped w body) is = cc

-- the optional characters
abbrev pub characters_size : Counts → Quantifier → ℕ
characters_size counts q = size_of_extra_characters counts (option_map (λ most. most - q.min) q.max)

-- A number that does not depend on the copies is spent alike however loops are compiled.
pub Spends-plain : (a b : Compiler) (counts : Counts) (n : ℕ) → Spends a b Unbounded (λ counted. n) → Spends a b counts (λ counted. n)
Spends-plain a b counts n is = record { stored = is.stored; all = is.all; exact = λ plain. is.exact refl; room = is.room; kept = is.kept }

pub characters-none : (counts : Counts) (q : Quantifier) → q.max ≡ None → size_of_extra 1 None ≡ characters_size counts q
characters-none counts q none = ap (λ m. size_of_extra_characters counts (option_map (λ most. most - q.min) m)) (sym none)

pub characters-some : (counts : Counts) (q : Quantifier) (most count : ℕ) → q.max ≡ Some most → count ≡ most - q.min →
    size_of_up_to counts count count ≡ characters_size counts q
characters-some counts q most count some number =
    ap (λ k. size_of_up_to counts k k) number ∙ ap (λ m. size_of_extra_characters counts (option_map (λ most. most - q.min) m)) (sym some)

-- the size of a loop over a node, by whether that matches one character
pub one-loop-size : (counts : Counts) (counted : ℕ → ℕ) (q : Quantifier) (t : Tree) → takes_one t ≡ true →
    size_of_characters counts q ≡ sized counts counted (wrapped (loop_one q) t)
one-loop-size counts counted q t is = ap (λ b. size_of_wrapper counts counted (loop_one q) b (sized counts counted t)) (sym is)

pub many-loop-size : (counts : Counts) (counted : ℕ → ℕ) (q : Quantifier) (t : Tree) → takes_one t ≡ false →
    size_of_loop counted q (size_of_iteration counts 0 0 (sized counts counted t)) ≡ sized counts counted (wrapped (loop_one q) t)
many-loop-size counts counted q t is = ap (λ b. size_of_wrapper counts counted (loop_one q) b (sized counts counted t)) (sym is)

-- a loop without iterations costs nothing
module _ (q : Quantifier) (n : Amount) (least : q.min ≡ 0) (most : q.max ≡ Some 0) where
  never-size : (counted : ℕ → ℕ) → counted 0 ≡ 0 → 0 ≡ loop_size q n counted
  never-size counted none =
      let first : n counted * counted q.min ≡ 0 = ap (λ k. n counted * counted k) least ∙ ap (λ k. n counted * k) none ∙ omega arith in
      let second : extra_size q n counted ≡ 0 =
      sym (extra-some q n 0 0 most (omega (arith, least)) counted) ∙ ap (λ k. size_of_optional (n counted) k) none in
      omega (arith, first, second)

  pub spends-never : (z : Compiler) (counts : Counts) → Spends z z counts (loop_size q n)
  spends-never z counts =
      Spends-at z z counts (λ counted. 0) (loop_size q n) (never-size (stored_of counts) (few-stored counts 0 (omega arith))) (never-size every refl)
      (Spends-none z counts)

-- one iteration of a loop over one character, of which no copies are made
pub single-size : (start end : ℕ) (t : Tree) → start ≡ 0 → end ≡ 0 → takes_one t ≡ true → (counted : ℕ → ℕ) →
    size_of_iteration Unbounded start end (sized Unbounded counted t) ≡ 1
single-size start end t first last is counted =
    ap (λ k. size_of_iteration Unbounded k end (sized Unbounded counted t)) first
    ∙ ap (λ k. size_of_iteration Unbounded 0 k (sized Unbounded counted t)) last
    ∙ ap (λ k. size_of_iteration Unbounded 0 0 k) (one-size Unbounded counted t is)

pub exceeds-plain : (c : Compiler) (counts : Counts) (m : Amount) (k n : ℕ) → ((counted : ℕ → ℕ) → m counted ≡ k) → k ≤ n → Exceeds c Unbounded m →
    Exceeds c counts (λ counted. n)
exceeds-plain c counts m k n same le (inl more) = inl (omega (arith, more, same (stored_of Unbounded), le))
exceeds-plain c counts m k n same le (inr more) = inr (omega (arith, more, same every, le))
