-- Counting of distinct ids: they fill a range if none is outside and their number is that of the range.
use Rattle.std.proofs.Common.{◌≡◌, ◌≢◌, ℕ, zero, suc, ◌+◌, ◌-◌, ◌<◌, ◌≤◌, ◌==◌, ◌&&◌, nat_le, nat_lt, Bool, true, false, List, [], ◌∷◌, ◌++◌, length, refl, sym, ap, subst, ◌∙◌, ◌⊎◌, inl, inr, eqb-true, leb-true, le-leb, ltb-true, lt-ltb, arith}
use Rattle.std.specs.Prelude.{if◌then◌else◌}
use Rattle.std.proofs.lemmas.Bool.{cases_eq, cases_lt, cases_Bool, ne_eqb, eq-eqb, and_parts, and_from}
use Rattle.std.proofs.lemmas.List.Sums.{sum_by-cons, sum_by-append}
use Rattle.std.proofs.lemmas.Bool.Decides.{nat_tests}
use Rattle.regress_tree.specs.declared.ir.groups.Tally.{Tally}
use Rattle.regress_tree.specs.WellFormed.{Capture}
use Rattle.regress_tree.specs.Survey.{times, least_id, past_ids, fill, IsTally}

pub times-cons : (k : ℕ) (c : Capture) (cs : List Capture) → times k (c ∷ cs) ≡ (if c.id == k then 1 else 0) + times k cs
times-cons k c cs = sum_by-cons (λ c. if c.id == k then 1 else 0) c cs

times-here : (k : ℕ) (c : Capture) (cs : List Capture) → c.id ≡ k → times k (c ∷ cs) ≡ 1 + times k cs
times-here k c cs e = times-cons k c cs ∙ ap (λ b. (if b then 1 else 0) + times k cs) (eq-eqb c.id k e)

times-other : (k : ℕ) (c : Capture) (cs : List Capture) → c.id ≢ k → times k (c ∷ cs) ≡ times k cs
times-other k c cs ne =
    let e = times-cons k c cs ∙ ap (λ b. (if b then 1 else 0) + times k cs) (ne_eqb c.id k ne) in
    omega (arith, e)

pub times-append : (k : ℕ) (cs ds : List Capture) → times k (cs ++ ds) ≡ times k cs + times k ds
times-append k cs ds = sum_by-append (λ c. if c.id == k then 1 else 0) cs ds

abbrev one_if : Bool → ℕ
one_if b = if b then 1 else 0

-- The ids are start to end - 1, each once.
abbrev pub HasIds : (start end : ℕ) → List Capture → Type 0
HasIds start end cs = (k : ℕ) → times k cs ≡ (if nat_le start k && nat_lt k end then 1 else 0)

abbrev pub Differ : List Capture → Type 0
Differ cs = (k : ℕ) → times k cs ≤ 1

-- All ids are in the range.
abbrev Within : (start end : ℕ) → List Capture → Type 0
Within start end [] = Unit {0}
Within start end (c ∷ cs) = (start ≤ c.id) × (c.id < end) × Within start end cs

-- the number of groups that have one of the n ids from start on
abbrev total : (start n : ℕ) → List Capture → ℕ
total start zero cs = 0
total start (suc n) cs = times start cs + total (start + 1) n cs

total-none : (start n : ℕ) → total start n [] ≡ 0
total-none start zero = refl
total-none start (suc n) = omega (arith, total-none (start + 1) n)

total-cons : (start n : ℕ) (c : Capture) (cs : List Capture) → total start n (c ∷ cs) ≡ total start n (c ∷ []) + total start n cs
total-cons start zero c cs = refl
total-cons start (suc n) c cs =
    omega (arith, times-cons start c cs, times-cons start c [], total-cons (start + 1) n c cs)

total-below : (start n : ℕ) (c : Capture) → c.id < start → total start n (c ∷ []) ≡ 0
total-below start zero c h = refl
total-below start (suc n) c h =
    omega (arith, times-other start c [] (λ e. omega arith), total-below (start + 1) n c (omega arith))

total-one : (start n : ℕ) (c : Capture) → start ≤ c.id → c.id < start + n → total start n (c ∷ []) ≡ 1
total-one start zero c from to = absurd (omega arith)
total-one start (suc n) c from to =
    elim (cases_eq c.id start) [
      | inl e ↦ omega (arith, times-here start c [] e, total-below (start + 1) n c (omega arith))
      | inr ne ↦ omega (arith, times-other start c [] ne, total-one (start + 1) n c (omega arith) (omega arith))
    ]

total-all : (start n : ℕ) (cs : List Capture) → Within start (start + n) cs → total start n cs ≡ length cs
total-all start n [] within = total-none start n
total-all start n (c ∷ cs) within =
    omega (arith, total-cons start n c cs, total-one start n c within.0 within.1, total-all start n cs within.2)

total-le : (start n : ℕ) (cs : List Capture) → Differ cs → total start n cs ≤ n
total-le start zero cs differ = omega arith
total-le start (suc n) cs differ = omega (arith, differ start, total-le (start + 1) n cs differ)

total-full : (start n : ℕ) (cs : List Capture) → Differ cs → total start n cs ≡ n → (k : ℕ) → start ≤ k → k < start + n → times k cs ≡ 1
total-full start zero cs differ full k from to = absurd (omega arith)
total-full start (suc n) cs differ full k from to =
    let first = differ start in
    let rest = total-le (start + 1) n cs differ in
    elim (cases_eq k start) [
      | inl e ↦ ap (λ j. times j cs) e ∙ omega arith
      | inr ne ↦ total-full (start + 1) n cs differ (omega arith) k (omega arith) (omega arith)
    ]

total-ones : (start n : ℕ) (cs : List Capture) → ((k : ℕ) → start ≤ k → k < start + n → times k cs ≡ 1) → total start n cs ≡ n
total-ones start zero cs ones = refl
total-ones start (suc n) cs ones =
    let first = ones start (omega arith) (omega arith) in
    let rest = total-ones (start + 1) n cs (λ k from to. ones k (omega arith) (omega arith)) in
    omega arith

times-outside : (start end : ℕ) (cs : List Capture) → Within start end cs → (k : ℕ) → (start ≤ k → k < end → ⊥) → times k cs ≡ 0
times-outside start end [] within k out = refl
times-outside start end (c ∷ cs) within k out =
    times-other k c cs (λ e. out (omega (arith, within.0, e)) (omega (arith, within.1, e)))
    ∙ times-outside start end cs within.2 k out

-- ---- the summary of the ids

within-reported : (start end : ℕ) (cs : List Capture) → start ≤ least_id cs → past_ids cs ≤ end → Within start end cs
within-reported start end [] low high = tt
within-reported start end (c ∷ cs) low high =
    (omega arith, omega arith, within-reported start end cs (omega arith) (omega arith))

reported-within : (start end : ℕ) (cs : List Capture) → start ≤ 65536 → Within start end cs → (start ≤ least_id cs) × (past_ids cs ≤ end)
reported-within start end [] h within = (h, omega arith)
reported-within start end (c ∷ cs) h within =
    let rest = reported-within start end cs h within.2 in
    (omega (arith, within.0, rest.0), omega (arith, within.1, rest.1))

within-from : (start end : ℕ) (cs : List Capture) → ((k : ℕ) → times k cs ≢ 0 → (start ≤ k) × (k < end)) → Within start end cs
within-from start end [] reports = tt
within-from start end (c ∷ cs) reports =
    let here = reports c.id (λ none. omega (arith, none, times-here c.id c cs refl)) in
    (here.0, here.1, within-from start end cs (λ k some. reports k (λ none. some (omega (arith, none, times-cons k c cs)))))

module _ (cs : List Capture) (differ : Differ cs) where
  -- There are at most as many distinct ids as values below the end.
  pub differ-length : (end : ℕ) → past_ids cs ≤ end → length cs ≤ end
  differ-length end high =
      let within : Within 0 (0 + end) cs = within-reported 0 (0 + end) cs (omega arith) (omega arith) in
      omega (arith, total-all 0 end cs within, total-le 0 end cs differ)

  full-has : (start end : ℕ) → Within start end cs → length cs ≡ end - start → HasIds start end cs
  full-has start end within full k =
      elim (cases_lt k start) [
        | inl below ↦
            times-outside start end cs within k (λ from to. omega arith) ∙ sym (outside (inl below))
        | inr from ↦ elim (cases_lt k end) [
          | inr past ↦ times-outside start end cs within k (λ from to. omega arith) ∙ sym (outside (inr past))
          | inl to ↦
              let sum : start + (end - start) ≡ end = omega arith in
              let within' : Within start (start + (end - start)) cs = subst (λ e. Within start e cs) (sym sum) within in
              total-full start (end - start) cs differ (total-all start (end - start) cs within' ∙ full) k from (omega arith)
              ∙ sym (inside from to)
        ]
      ]
    where
      inside : start ≤ k → k < end → one_if (nat_le start k && nat_lt k end) ≡ 1
      inside from to = rw (le-leb start k from, lt-ltb k end to)

      outside : (k < start) ⊎ (end ≤ k) → one_if (nat_le start k && nat_lt k end) ≡ 0
      outside out = grind (arith, nat_tests)

has-within : (start end : ℕ) (cs : List Capture) → HasIds start end cs → Within start end cs
has-within start end cs has = within-from start end cs (λ k some. inside k some)
  where
    inside : (k : ℕ) → times k cs ≢ 0 → (start ≤ k) × (k < end)
    inside k some =
        elim (cases_Bool (nat_le start k && nat_lt k end)) [
          | inl lies ↦ let parts = and_parts (nat_le start k) (nat_lt k end) lies in (leb-true start k parts.0, ltb-true k end parts.1)
          | inr outside ↦ absurd (some (has k ∙ ap (λ b. if b then 1 else 0) outside))
        ]

has-length : (start end : ℕ) (cs : List Capture) → HasIds start end cs → length cs ≡ end - start
has-length start end cs has =
    elim (cases_lt end start) [
      | inl none ↦ empty cs none (has-within start end cs has)
      | inr some ↦
          let sum : start + (end - start) ≡ end = omega arith in
          let within : Within start (start + (end - start)) cs =
          subst (λ e. Within start e cs) (sym sum) (has-within start end cs has) in
          sym (total-all start (end - start) cs within)
          ∙ total-ones start (end - start) cs (λ k from to.
          let below : k < end = omega arith in
          has k ∙ rw (le-leb start k from, lt-ltb k end below))
    ]
  where
    empty : (ds : List Capture) → end < start → Within start end ds → length ds ≡ end - start
    empty [] none within = omega arith
    empty (d ∷ ds) none within = absurd (omega (arith, within.0, within.1))

-- ---- the test of a range is correct, for distinct ids

module _ (g : Tally) (cs : List Capture) (referred : ℕ) (reports : IsTally g cs referred) where
  pub fill-has : Differ cs → (start end : ℕ) → end ≤ 65536 → fill start end g ≡ true → HasIds start end cs
  fill-has differ start end small full =
      let a = and_parts (nat_le start g.least) _ full in
      let b = and_parts (nat_le g.past end) _ a.1 in
      let low : start ≤ least_id cs = omega (arith, leb-true start g.least a.0, reports.least) in
      let high : past_ids cs ≤ end = omega (arith, leb-true g.past end b.0, reports.past) in
      let count : g.count ≡ end - start = eqb-true g.count (end - start) b.1 in
      let many : length cs ≡ end - start = omega (arith, reports.count) in
      full-has cs differ start end (within-reported start end cs low high) many

  pub has-fill : (start end : ℕ) → start ≤ 65536 → end ≤ 65536 → HasIds start end cs → fill start end g ≡ true
  has-fill start end small small' has =
      let reported = reported-within start end cs small (has-within start end cs has) in
      let many = has-length start end cs has in
      and_from (nat_le start g.least) _ (le-leb start g.least (omega (arith, reported.0, reports.least)))
      (and_from (nat_le g.past end) _ (le-leb g.past end (omega (arith, reported.1, reports.past)))
      (eq-eqb g.count (end - start) (omega (arith, many, reports.count))))

  -- All ids are less than the number of groups.
  pub all-has : Differ cs → fill 0 g.count g ≡ true → (g.count ≡ length cs) × HasIds 0 (length cs) cs
  all-has differ full =
      let most = differ-length cs differ 65536 (omega (arith, reports.past, reports.past_in_range)) in
      let count : g.count ≡ length cs = omega (arith, reports.count) in
      (count, fill-has differ 0 (length cs) most (subst (λ n. fill 0 n g ≡ true) count full))

  pub has-all : HasIds 0 (length cs) cs → (g.count ≡ length cs) × (fill 0 g.count g ≡ true)
  has-all has =
      let differ : Differ cs = λ k. at_most_one (nat_le 0 k && nat_lt k (length cs)) (times k cs) (has k) in
      let most = differ-length cs differ 65536 (omega (arith, reports.past, reports.past_in_range)) in
      let count : g.count ≡ length cs = omega (arith, reports.count) in
      (count, subst (λ n. fill 0 n g ≡ true) (sym count) (has-fill 0 (length cs) (omega arith) most has))
    where
      at_most_one : (b : Bool) (n : ℕ) → n ≡ (if b then 1 else 0) → n ≤ 1
      at_most_one true n e = omega arith
      at_most_one false n e = omega arith
