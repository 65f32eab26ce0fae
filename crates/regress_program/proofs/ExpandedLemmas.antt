-- Routines whose copies of instructions are not stored.
use Rattle.std.proofs.Common.{◌≡◌, ℕ, zero, suc, ◌+◌, ◌-◌, ◌*◌, ◌/◌, ◌%◌, ◌≤◌, ◌<◌, inl, inr, List, ◌++◌, length, take, drop, slice_get, Option, Some, None, refl, sym, ap, ◌∙◌, arith}
use Rattle.regress_program.specs.Copies.{end_of, shift, renamed_in, moved_in, times, with_copies, expand, expanded, AreCopies}
use Rattle.regress_program.specs.declared.copies.Copies.{Copies}
use Rattle.std.proofs.lemmas.Bool.{cases_lt}
use Rattle.std.proofs.lemmas.List.{length-append, length-take, length-drop}
use Rattle.std.proofs.lemmas.Nat.{div-add-mod'}
use Rattle.std.proofs.Math.Nat.{mul-le-mul_right}
use Rattle.std.proofs.lemmas.Option.{slice_get_within, slice_get-get_or, same_Some}
use Rattle.regress_leaves.specs.declared.test.Test.{Test}
use Rattle.regress_program.specs.Views.{op_in}
use Rattle.regress_program.specs.declared.instruction.Instruction.{Instruction}
use Rattle.regress_program.specs.declared.instruction.Instruction.TheVariants as insts
use Rattle.regress_program.proofs.CodeLemmas.{get-append-below}
use Rattle.regress_program.proofs.ElementLemmas.{get-append-past, get-take, get-drop}
use Rattle.regress_program.proofs.Moved.{moved_op}
use Rattle.regress_program.proofs.MovedLemmas.{shift-twice}
use Rattle.regress_program.proofs.TimesLemmas.{changed, times-length, times-below, times-get}

-- ---- moved instructions

pub op_in-moved : (leaves : List Test) (from n : ℕ) (i : Instruction) → op_in leaves (moved_in from n i) ≡ moved_op from n (op_in leaves i)
op_in-moved leaves from n insts.Accept = refl
op_in-moved leaves from n insts.Fail = refl
op_in-moved leaves from n (insts.Leaf leaf next) = refl
op_in-moved leaves from n (insts.Characters leaf count next) = refl
op_in-moved leaves from n (insts.Split first second) = refl
op_in-moved leaves from n (insts.BeginLoop greedy body next) = refl
op_in-moved leaves from n (insts.Repeat greedy body next) = refl
op_in-moved leaves from n (insts.EndLoop next) = refl
op_in-moved leaves from n (insts.Unset start end next) = refl
op_in-moved leaves from n (insts.BeginGroup next) = refl
op_in-moved leaves from n (insts.EndGroup id next) = refl
op_in-moved leaves from n (insts.Look negate routine next) = refl

renamed_in-twice : (f g : ℕ → ℕ) (i : Instruction) → renamed_in f (renamed_in g i) ≡ renamed_in (λ k. f (g k)) i
renamed_in-twice f g insts.Accept = refl
renamed_in-twice f g insts.Fail = refl
renamed_in-twice f g (insts.Leaf leaf next) = refl
renamed_in-twice f g (insts.Characters leaf count next) = refl
renamed_in-twice f g (insts.Split first second) = refl
renamed_in-twice f g (insts.BeginLoop greedy body next) = refl
renamed_in-twice f g (insts.Repeat greedy body next) = refl
renamed_in-twice f g (insts.EndLoop next) = refl
renamed_in-twice f g (insts.Unset start end next) = refl
renamed_in-twice f g (insts.BeginGroup next) = refl
renamed_in-twice f g (insts.EndGroup id next) = refl
renamed_in-twice f g (insts.Look negate routine next) = refl

renamed_in-same : (f : ℕ → ℕ) (i : Instruction) → ((k : ℕ) → f k ≡ k) → renamed_in f i ≡ i
renamed_in-same f i same = ap (λ (g : ℕ → ℕ). renamed_in g i) (agree f (λ k. k) same) ∙ none i
  where
    agree : (f g : ℕ → ℕ) → ((k : ℕ) → f k ≡ g k) → f ≡ g
    agree f g same = λ i x. same x i

    none : (i : Instruction) → renamed_in (λ k. k) i ≡ i
    none insts.Accept = refl
    none insts.Fail = refl
    none (insts.Leaf leaf next) = refl
    none (insts.Characters leaf count next) = refl
    none (insts.Split first second) = refl
    none (insts.BeginLoop greedy body next) = refl
    none (insts.Repeat greedy body next) = refl
    none (insts.EndLoop next) = refl
    none (insts.Unset start end next) = refl
    none (insts.BeginGroup next) = refl
    none (insts.EndGroup id next) = refl
    none (insts.Look negate routine next) = refl

pub moved_in-twice : (from a b : ℕ) (i : Instruction) → moved_in from a (moved_in from b i) ≡ moved_in from (b + a) i
moved_in-twice from a b i =
    renamed_in-twice (shift from a) (shift from b) i
    ∙ ap (λ (g : ℕ → ℕ). renamed_in g i) (agree (λ k. shift from a (shift from b k)) (shift from (b + a)) (λ k. shift-twice from a b k))
  where
    agree : (f g : ℕ → ℕ) → ((k : ℕ) → f k ≡ g k) → f ≡ g
    agree f g same = λ i x. same x i

-- moved n times
pub moved_in-times : (from width n : ℕ) (i : Instruction) → changed (moved_in from width) n i ≡ moved_in from (n * width) i
moved_in-times from width zero i = sym (renamed_in-same (shift from (0 * width)) i (λ k. none k))
  where
    none : (k : ℕ) → shift from (0 * width) k ≡ k
    none k = let zero_is : 0 * width ≡ 0 = omega arith in grind (arith, zero_is)
moved_in-times from width (suc n) i =
    let more : width + n * width ≡ suc n * width = (let all : (n + 1) * width ≡ n * width + width = omega arith in omega (arith, all)) in
    moved_in-times from width n (moved_in from width i) ∙ moved_in-twice from (n * width) width i ∙ ap (λ k. moved_in from k i) more

-- ---- all instructions

module _ (stored : List Instruction) (copies : List Copies) (are : AreCopies stored copies) where
  -- the copies of the record j
  module _ (j : ℕ) (r : Copies) (is : slice_get copies j ≡ Some r) where
    expand-is : (k : ℕ) → expand stored copies (suc j) k ≡
        times (moved_in r.from r.width) r.width r.count (expand stored copies j r.stored) ++ take (k - r.stored) (drop r.stored stored)
    expand-is k = ap (with_copies stored (λ s. expand stored copies j s) k) is

    pub times-is : length (times (moved_in r.from r.width) r.width r.count (expand stored copies j r.stored)) ≡ end_of r
    times-is =
        let the = are j r is in
        times-length (moved_in r.from r.width) r.width r.count (expand stored copies j r.stored) (omega (arith, the.start, the.fits))
        ∙ omega (arith, the.start)

    pub expand-length : (k : ℕ) → r.stored ≤ k → k ≤ length stored → length (expand stored copies (suc j) k) ≡ end_of r + (k - r.stored)
    expand-length k le le' =
        ap length (expand-is k)
        ∙ length-append (times (moved_in r.from r.width) r.width r.count (expand stored copies j r.stored)) (take (k - r.stored) (drop r.stored stored))
        ∙ omega (arith, times-is, length-take (k - r.stored) (drop r.stored stored), length-drop r.stored stored, le, le')

    -- before the copies
    pub expand-before : (k pc : ℕ) → pc < r.start → slice_get (expand stored copies (suc j) k) pc ≡ slice_get (expand stored copies j r.stored) pc
    expand-before k pc lt =
        let the = are j r is in
        ap (λ xs. slice_get xs pc) (expand-is k)
        ∙ get-append-below (times (moved_in r.from r.width) r.width r.count (expand stored copies j r.stored)) (take (k - r.stored) (drop r.stored stored)) pc
        (omega (arith, times-is, lt))
        ∙ times-below (moved_in r.from r.width) r.width r.count (expand stored copies j r.stored) pc (omega (arith, the.start, the.fits)) (omega (arith, the.start, lt))

    -- among the copies
    pub expand-among : (k n i : ℕ) (x : Instruction) → n ≤ r.count → r.start ≤ i + r.width → i + n * r.width < end_of r → slice_get (expand stored copies j r.stored) i ≡ Some x →
        slice_get (expand stored copies (suc j) k) (i + n * r.width) ≡ Some (moved_in r.from (n * r.width) x)
    expand-among k n i x le low lt found =
        let the = are j r is in
        ap (λ xs. slice_get xs (i + n * r.width)) (expand-is k)
        ∙ get-append-below (times (moved_in r.from r.width) r.width r.count (expand stored copies j r.stored)) (take (k - r.stored) (drop r.stored stored))
        (i + n * r.width) (omega (arith, times-is, lt))
        ∙ times-get (moved_in r.from r.width) r.width r.count n (expand stored copies j r.stored) i x (omega (arith, the.start, the.fits)) le
        (omega (arith, the.start, low)) found
        ∙ ap Some (moved_in-times r.from r.width n x)

    -- after the copies
    pub expand-after : (k pc : ℕ) → end_of r ≤ pc → pc < end_of r + (k - r.stored) →
        slice_get (expand stored copies (suc j) k) pc ≡ slice_get stored (r.stored + (pc - end_of r))
    expand-after k pc le lt =
        ap (λ xs. slice_get xs pc) (expand-is k)
        ∙ get-append-past (times (moved_in r.from r.width) r.width r.count (expand stored copies j r.stored)) (take (k - r.stored) (drop r.stored stored))
        pc (pc - end_of r) (omega (arith, times-is, le))
        ∙ get-take (k - r.stored) (drop r.stored stored) (pc - end_of r) (omega (arith, le, lt))
        ∙ get-drop r.stored stored (pc - end_of r) (r.stored + (pc - end_of r)) refl

    -- where the copies are, by division
    abbrev pub nth : ℕ → ℕ
    nth pc = (pc - r.start) / r.width + 1

    pub copy-at : (pc : ℕ) → r.start ≤ pc → pc < end_of r →
        (nth pc ≤ r.count) × (pc - nth pc * r.width + nth pc * r.width ≡ pc) × (r.start ≤ pc - nth pc * r.width + r.width) × (pc - nth pc * r.width < r.start)
    copy-at pc le lt =
        let the = are j r is in
        let q : ℕ = (pc - r.start) / r.width in
        let parts : q * r.width + (pc - r.start) % r.width ≡ pc - r.start = div-add-mod' (pc - r.start) r.width in
        let rest : (pc - r.start) % r.width < r.width = omega (arith, the.some) in
        let more : (q + 1) * r.width ≡ q * r.width + r.width = omega arith in
        let few : q < r.count = elim (cases_lt q r.count) [
          | inl below ↦ below
          | inr past ↦ (let many : r.count * r.width ≤ q * r.width = mul-le-mul_right r.width past in absurd (omega (arith, parts, lt, le, many)))
        ] in
        (omega (arith, few), omega (arith, parts, more, the.fits, le), omega (arith, parts, more, the.fits, le), omega (arith, parts, more, rest, the.fits, le))

  pub some-record : (j : ℕ) → j < length copies → (r : Copies) × (slice_get copies j ≡ Some r)
  some-record j lt = by (slice_get copies j) refl
    where
      d : Copies
      d = record { start = 0; width = 0; count = 0; from = 0; stored = 0 }

      by : (o : Option Copies) → slice_get copies j ≡ o → (r : Copies) × (slice_get copies j ≡ Some r)
      by None e = let there = slice_get-get_or copies j d lt in cc
      by (Some r) e = (r, e)

  record-after : (i j : ℕ) (r s : Copies) → suc i ≡ j → slice_get copies i ≡ Some r → slice_get copies j ≡ Some s → (r.stored ≤ s.stored) × (end_of r ≤ s.start)
  record-after i j r s next is is' =
      let the = are j s is' in
      let more : r.stored ≤ s.stored = the.before i r next is in
      let start : s.start ≡ length (expand stored copies (suc i) s.stored) = the.start ∙ ap (λ (n : ℕ). length (expand stored copies n s.stored)) (sym next) in
      (more, omega (arith, start, expand-length i r is s.stored more the.within))

  -- Later records come after more stored instructions, and after the copies of the earlier ones.
  pub records-rise : (n i j : ℕ) (r s : Copies) → j ≡ i + n + 1 → slice_get copies i ≡ Some r → slice_get copies j ≡ Some s →
      (r.stored ≤ s.stored) × (end_of r ≤ s.start)
  records-rise zero i j r s e is is' = record-after i j r s (omega (arith, e)) is is'
  records-rise (suc n) i j r s e is is' =
      let found = some-record (i + n + 1) (omega (arith, e, slice_get_within copies j s is')) in
      let early = records-rise n i (i + n + 1) r found.0 refl is found.1 in
      let late = record-after (i + n + 1) j found.0 s (omega (arith, e)) found.1 is' in
      (omega (arith, early.0, late.0), omega (arith, early.1, late.1))

  -- All copies are among all instructions.
  pub records-end : (j : ℕ) (r : Copies) → slice_get copies j ≡ Some r → end_of r ≤ length (expanded stored copies)
  records-end j r is =
      let lt : j < length copies = slice_get_within copies j r is in
      let found = some-record (length copies - 1) (omega (arith, lt)) in
      let count : length copies ≡ suc (length copies - 1) = omega (arith, lt) in
      let all : length (expanded stored copies) ≡ length (expand stored copies (suc (length copies - 1)) (length stored)) =
      ap (λ (n : ℕ). length (expand stored copies n (length stored))) count in
      let last = expand-length (length copies - 1) found.0 found.1 (length stored) (are (length copies - 1) found.0 found.1).within (omega arith) in
      elim (cases_lt j (length copies - 1)) [
        | inl before ↦
            (let rise = records-rise (length copies - 1 - j - 1) j (length copies - 1) r found.0 (omega (arith, before)) is found.1 in
            omega (arith, rise.1, all, last))
        | inr after ↦
            (let same : j ≡ length copies - 1 = omega (arith, lt, after) in
            let e : r ≡ found.0 = same_Some r found.0 (sym is ∙ ap (slice_get copies) same ∙ found.1) in
            let e' : end_of r ≡ end_of found.0 = ap (λ (q : Copies). end_of q) e in
            omega (arith, e', all, last))
      ]
