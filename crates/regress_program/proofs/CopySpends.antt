-- What iterations cost, of which two are compiled and the others are copies.
use Rattle.std.proofs.Common.{◌≡◌, ◌≤◌, ◌<◌, inr, ℕ, zero, suc, ◌+◌, ◌-◌, ◌*◌, true, false, min, nat_lt, length, refl, sym, ap, ◌∙◌, arith}
use Rattle.std.proofs.lemmas.Bool.{ltb-false, ltb-true}
use Rattle.std.proofs.lemmas.Nat.{mul-le}
use Rattle.regress_program.specs.CodeOf.{Exceeds, Spends}
use Rattle.regress_program.specs.Listed.{all_of, stored_total}
use Rattle.regress_program.specs.Size.{every, is_copied, size_of_optional, stored_of}
use Rattle.regress_program.specs.declared.compiler.Compiler.{Compiler}
use Rattle.regress_program.specs.declared.counts.Counts.{Counts}
use Rattle.regress_program.specs.declared.counts.Counts.TheVariants.{Bounded, Unbounded, Copied}
use Rattle.regress_program.proofs.CopiedLemmas.{HasCopied, copied-length}
use Rattle.regress_program.proofs.SpendLemmas.{Amount, Spends-at, Spends-none, Spends-then, exceeds-at, exceeds-then}

-- ---- numbers

pub two-stored : (counts : Counts) (n : ℕ) → is_copied counts ≡ true → 2 ≤ n → stored_of counts n ≡ 2
two-stored Bounded n is le = cc
two-stored Unbounded n is le = cc
two-stored Copied n is le = omega (arith, le)

pub some-copied : (counts : Counts) (n : ℕ) → nat_lt (stored_of counts n) n ≡ true → (2 < n) × (is_copied counts ≡ true)
some-copied Bounded n is = absurd (omega (arith, ltb-true n n is))
some-copied Unbounded n is = absurd (omega (arith, ltb-true n n is))
some-copied Copied n is = (omega (arith, ltb-true (min n 2) n is), refl)

pub all-stored : (counts : Counts) (n : ℕ) → nat_lt (stored_of counts n) n ≡ false → stored_of counts n ≡ n
all-stored Bounded n is = refl
all-stored Unbounded n is = refl
all-stored Copied n is = omega (arith, ltb-false (min n 2) n is)

pub few-stored : (counts : Counts) (n : ℕ) → n ≤ 2 → stored_of counts n ≡ n
few-stored Bounded n le = refl
few-stored Unbounded n le = refl
few-stored Copied n le = omega (arith, le)

pub optional-size : (s n : ℕ) → 0 < n → size_of_optional s n ≡ 1 + (s + 1) * n
optional-size s zero some = absurd (omega (arith, some))
optional-size s (suc n) some = refl

pub times-two : (s : ℕ) → s * 2 ≡ s + s
times-two s = omega arith

pub times-more : (s n : ℕ) → s * (n + 2) ≡ s + s + n * s
times-more s n = grind arith

-- ---- copies

module _ (a b c : Compiler) (counts : Counts) (part whole : Amount) (width count : ℕ) (is : is_copied counts ≡ true) (spent : Spends a b counts part)
    (wide : length (all_of b.instructions) ≡ length (all_of a.instructions) + width) (all : whole every ≡ part every + count * part every) where
  width-within : count * width ≤ count * part every
  width-within = mul-le count width count (part every) (omega arith) (omega (arith, spent.room, spent.all, wide))

  -- The copied part costs only what it costs to store it, and all copies cost at most as much each.
  pub spends-copy : (from : ℕ) → whole (stored_of counts) ≡ part (stored_of counts) → HasCopied b c from width count → Spends a c counts whole
  spends-copy from stored copied = record {
    stored = omega (arith, stored, spent.stored, copied.stored_left);
    all = omega (arith, all, spent.all, copied.left, width-within);
    exact = λ copied'. cc;
    room = omega (arith, spent.room, copied.left, copied-length b c from width count (omega (arith, wide)) copied);
    kept = omega (arith, spent.kept, copied.stored_left, ap length copied.stored, ap (λ rs. stored_total rs.items) copied.routines);
  }

  pub exceeds-copy : b.left < count * width → Exceeds a counts whole
  exceeds-copy more = inr (omega (arith, all, spent.all, more, width-within))

-- ---- mandatory iterations

module _ (counts : Counts) (size : Amount) (count total : ℕ) (is : is_copied counts ≡ true) (number : total ≡ count + 2) where
  -- all iterations, and those after the first one
  abbrev sum : Amount
  sum counted = size counted * counted total

  abbrev others : Amount
  others counted = size counted * (counted total - 1)

  stored-sum : sum (stored_of counts) ≡ size (stored_of counts) + size (stored_of counts)
  stored-sum = ap (λ n. size (stored_of counts) * n) (two-stored counts total is (omega (arith, number))) ∙ times-two (size (stored_of counts))

  every-sum : sum every ≡ size every + size every + count * size every
  every-sum = ap (λ n. size every * n) number ∙ times-more (size every) count

  stored-others : others (stored_of counts) ≡ size (stored_of counts)
  stored-others = ap (λ n. size (stored_of counts) * (n - 1)) (two-stored counts total is (omega (arith, number))) ∙ omega arith

  every-others : others every ≡ size every + count * size every
  every-others =
      let less : total - 1 ≡ count + 1 = omega (arith, number) in
      ap (λ n. size every * n) less ∙ one-more (size every) count
    where
      one-more : (s n : ℕ) → s * (n + 1) ≡ s + n * s
      one-more s n = grind arith

  module _ (z a b : Compiler) where
    pub spends-exactly : (c : Compiler) (from width : ℕ) → Spends z a counts size → Spends a b counts size →
        length (all_of b.instructions) ≡ length (all_of a.instructions) + width → HasCopied b c from width count → Spends z c counts sum
    spends-exactly c from width first second wide copied =
        Spends-at z c counts (λ counted. size counted + others counted) sum (omega (arith, stored-sum, stored-others)) (omega (arith, every-sum, every-others))
        (Spends-then z a c counts size others first (spends-copy a b c counts size others width count is second wide every-others from stored-others copied))

    pub exceeds-copies : (width : ℕ) → Spends z a counts size → Spends a b counts size → length (all_of b.instructions) ≡ length (all_of a.instructions) + width →
        b.left < count * width → Exceeds z counts sum
    exceeds-copies width first second wide more =
        exceeds-at z counts (λ counted. size counted + others counted) sum (omega (arith, stored-sum, stored-others)) (omega (arith, every-sum, every-others))
        (exceeds-then z a counts size others first (exceeds-copy a b b counts size others width count is second wide every-others more))

-- ---- optional iterations

module _ (counts : Counts) (size : Amount) (count total : ℕ) (is : is_copied counts ≡ true) (number : total ≡ count + 2) where
  abbrev one : Amount
  one counted = 1

  -- an iteration, and the instruction before it
  abbrev ended : Amount
  ended counted = 1 + size counted

  abbrev ended_others : Amount
  ended_others counted = (1 + size counted) * (counted total - 1)

  abbrev loop_size : Amount
  loop_size counted = size_of_optional (size counted) (counted total)

  stored-loop : loop_size (stored_of counts) ≡ 1 + (1 + size (stored_of counts)) + (1 + size (stored_of counts))
  stored-loop = ap (λ n. size_of_optional (size (stored_of counts)) n) (two-stored counts total is (omega (arith, number))) ∙ by (size (stored_of counts))
    where
      by : (s : ℕ) → size_of_optional s 2 ≡ 1 + (1 + s) + (1 + s)
      by s = omega arith

  every-loop : loop_size every ≡ 1 + (1 + size every) + (1 + size every) + count * (1 + size every)
  every-loop = optional-size (size every) total (omega (arith, number)) ∙ ap (λ n. 1 + (size every + 1) * n) number ∙ by (size every) count
    where
      by : (s n : ℕ) → 1 + (s + 1) * (n + 2) ≡ 1 + (1 + s) + (1 + s) + n * (1 + s)
      by s n = grind arith

  stored-ended : ended_others (stored_of counts) ≡ 1 + size (stored_of counts)
  stored-ended = ap (λ n. (1 + size (stored_of counts)) * (n - 1)) (two-stored counts total is (omega (arith, number))) ∙ omega arith

  every-ended : ended_others every ≡ 1 + size every + count * (1 + size every)
  every-ended =
      let less : total - 1 ≡ count + 1 = omega (arith, number) in
      ap (λ n. (1 + size every) * n) less ∙ one-more (1 + size every) count
    where
      one-more : (s n : ℕ) → s * (n + 1) ≡ s + n * s
      one-more s n = grind arith

  pub exceeds-end : (z : Compiler) → Exceeds z counts one → Exceeds z counts loop_size
  exceeds-end z more = exceeds-at z counts one loop_size (omega (arith, stored-loop)) (omega (arith, every-loop)) more

  module _ (z p : Compiler) (ends : Spends z p counts one) where
    pub exceeds-last : Exceeds p counts size → Exceeds z counts loop_size
    exceeds-last more =
        exceeds-at z counts ended loop_size (omega (arith, stored-loop)) (omega (arith, every-loop)) (exceeds-then z p counts one size ends more)

    module _ (a : Compiler) (first : Spends p a counts size) where
      -- the first iteration, with the instruction that ends it
      spends-last : Spends z a counts ended
      spends-last = Spends-then z p a counts one size ends first

      pub exceeds-again : Exceeds a counts one → Exceeds z counts loop_size
      exceeds-again more =
          exceeds-at z counts (λ counted. ended counted + 1) loop_size (omega (arith, stored-loop)) (omega (arith, every-loop))
          (exceeds-then z a counts ended one spends-last more)

      module _ (m : Compiler) (again : Spends a m counts one) where
        pub exceeds-start : Exceeds m counts size → Exceeds z counts loop_size
        exceeds-start more =
            exceeds-at z counts (λ counted. ended counted + ended counted) loop_size (omega (arith, stored-loop)) (omega (arith, every-loop))
            (exceeds-then z a counts ended ended spends-last (exceeds-then a m counts one size again more))

        module _ (b : Compiler) (second : Spends m b counts size) (width : ℕ)
            (wide : length (all_of b.instructions) ≡ length (all_of a.instructions) + width) where
          -- the second iteration, with the instruction that ends the one before it
          spends-start : Spends a b counts ended
          spends-start = Spends-then a m b counts one size again second

          pub exceeds-optional-copies : b.left < count * width → Exceeds z counts loop_size
          exceeds-optional-copies more =
              exceeds-at z counts (λ counted. ended counted + ended_others counted) loop_size (omega (arith, stored-loop, stored-ended))
              (omega (arith, every-loop, every-ended))
              (exceeds-then z a counts ended ended_others spends-last (exceeds-copy a b b counts ended ended_others width count is spends-start wide every-ended more))

          module _ (c : Compiler) (from : ℕ) (copied : HasCopied b c from width count) where
            spends-most : Spends z c counts (λ counted. ended counted + ended_others counted)
            spends-most =
                Spends-then z a c counts ended ended_others spends-last
                (spends-copy a b c counts ended ended_others width count is spends-start wide every-ended from stored-ended copied)

            pub exceeds-begin : Exceeds c counts one → Exceeds z counts loop_size
            exceeds-begin more =
                exceeds-at z counts (λ counted. ended counted + ended_others counted + 1) loop_size (omega (arith, stored-loop, stored-ended))
                (omega (arith, every-loop, every-ended))
                (exceeds-then z c counts (λ counted. ended counted + ended_others counted) one spends-most more)

            pub spends-optional : (e : Compiler) → Spends c e counts one → Spends z e counts loop_size
            spends-optional e begun =
                Spends-at z e counts (λ counted. ended counted + ended_others counted + 1) loop_size (omega (arith, stored-loop, stored-ended))
                (omega (arith, every-loop, every-ended))
                (Spends-then z c e counts (λ counted. ended counted + ended_others counted) one spends-most begun)

-- ---- iterations that are all stored

-- one more than i iterations, where there are k
pub next-within : (n i k : ℕ) → i < k → n * i + n ≤ n * k
next-within n i k lt =
    let more : n * (i + 1) ≡ n * i + n = omega arith in
    omega (arith, more, mul-le n (i + 1) n k (omega arith) (omega (arith, lt)))

module _ (z b : Compiler) (counts : Counts) (n : Amount) (count i : ℕ) (stored : stored_of counts count ≡ count) (within : i < count) where
  abbrev mandatory : Amount
  mandatory counted = n counted * counted count

  -- one more iteration exceeds the limit
  pub exceeds-next : Spends z b counts (λ counted. n counted * i) → Exceeds b counts n → Exceeds z counts mandatory
  exceeds-next spent more =
      exceeds-at z counts (λ counted. n counted * i + n counted) mandatory
      (omega (arith, next-within (n (stored_of counts)) i count within, ap (λ k. n (stored_of counts) * k) stored))
      (next-within (n every) i count within) (exceeds-then z b counts (λ counted. n counted * i) n spent more)

module _ (z : Compiler) (counts : Counts) (n : Amount) (count : ℕ) (stored : stored_of counts count ≡ count) (some : 0 < count) where
  abbrev most : Amount
  most counted = size_of_optional (n counted) (counted count)

  most-stored : most (stored_of counts) ≡ 1 + (n (stored_of counts) + 1) * count
  most-stored = ap (λ k. size_of_optional (n (stored_of counts)) k) stored ∙ optional-size (n (stored_of counts)) count some

  most-every : most every ≡ 1 + (n every + 1) * count
  most-every = optional-size (n every) count some

  least : (k : ℕ) → k + 1 ≤ (k + 1) * count
  least k = omega (arith, next-within (k + 1) 0 count some)

  pub exceeds-ended : Exceeds z counts (λ counted. 1) → Exceeds z counts most
  exceeds-ended more = exceeds-at z counts (λ counted. 1) most (omega (arith, most-stored)) (omega (arith, most-every)) more

  pub exceeds-one : (p : Compiler) → Spends z p counts (λ counted. 1) → Exceeds p counts n → Exceeds z counts most
  exceeds-one p spent more =
      exceeds-at z counts (λ counted. 1 + n counted) most (omega (arith, most-stored, least (n (stored_of counts))))
      (omega (arith, most-every, least (n every))) (exceeds-then z p counts (λ counted. 1) n spent more)

  module _ (b : Compiler) (i : ℕ) (within : i < count) (spent : Spends z b counts (λ counted. (n counted + 1) * i)) where
    pub exceeds-repeat : Exceeds b counts (λ counted. 1) → Exceeds z counts most
    exceeds-repeat more =
        exceeds-at z counts (λ counted. (n counted + 1) * i + 1) most
        (omega (arith, most-stored, next-within (n (stored_of counts) + 1) i count within)) (omega (arith, most-every, next-within (n every + 1) i count within))
        (exceeds-then z b counts (λ counted. (n counted + 1) * i) (λ counted. 1) spent more)

    pub exceeds-another : (m : Compiler) → Spends b m counts (λ counted. 1) → Exceeds m counts n → Exceeds z counts most
    exceeds-another m again more =
        exceeds-at z counts (λ counted. (n counted + 1) * i + (1 + n counted)) most
        (omega (arith, most-stored, next-within (n (stored_of counts) + 1) i count within)) (omega (arith, most-every, next-within (n every + 1) i count within))
        (exceeds-then z b counts (λ counted. (n counted + 1) * i) (λ counted. 1 + n counted) spent (exceeds-then b m counts (λ counted. 1) n again more))

  module _ (b : Compiler) (i : ℕ) (all : i ≡ count) (spent : Spends z b counts (λ counted. (n counted + 1) * i)) where
    every-number : (k : ℕ) → (k + 1) * i ≡ (k + 1) * count
    every-number k = ap (λ j. (k + 1) * j) all

    pub exceeds-begun : Exceeds b counts (λ counted. 1) → Exceeds z counts most
    exceeds-begun more =
        exceeds-at z counts (λ counted. (n counted + 1) * i + 1) most (omega (arith, most-stored, every-number (n (stored_of counts))))
        (omega (arith, most-every, every-number (n every))) (exceeds-then z b counts (λ counted. (n counted + 1) * i) (λ counted. 1) spent more)

    pub spends-begun : (c : Compiler) → Spends b c counts (λ counted. 1) → Spends z c counts most
    spends-begun c begun =
        Spends-at z c counts (λ counted. (n counted + 1) * i + 1) most (omega (arith, most-stored, every-number (n (stored_of counts))))
        (omega (arith, most-every, every-number (n every))) (Spends-then z b c counts (λ counted. (n counted + 1) * i) (λ counted. 1) spent begun)

-- no optional iterations
pub spends-no-optional : (z : Compiler) (counts : Counts) (n : Amount) (count : ℕ) → count ≡ 0 → Spends z z counts (λ counted. size_of_optional (n counted) (counted count))
spends-no-optional z counts n count none =
    Spends-at z z counts (λ counted. 0) (λ counted. size_of_optional (n counted) (counted count))
    (sym (ap (λ k. size_of_optional (n (stored_of counts)) k) (few-stored counts count (omega (arith, none)) ∙ none)))
    (sym (ap (λ k. size_of_optional (n every) k) none)) (Spends-none z counts)
