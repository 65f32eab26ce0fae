-- Routines whose copies of instructions are not stored: an instruction is added, or a record of copies.
use Rattle.std.proofs.Common.{◌≡◌, ℕ, zero, suc, ◌+◌, ◌-◌, ◌≤◌, ◌<◌, inl, inr, List, [], ◌∷◌, ◌++◌, length, take, drop, slice_get, Option, Some, None, refl, sym, ap, ap₂, subst, ◌∙◌, append-nil, append_assoc, arith}
use Rattle.regress_program.specs.Copies.{NamesBelow, moved_in, times, with_copies, expand, expanded, IsCopies, AreCopies}
use Rattle.regress_program.specs.declared.copies.Copies.{Copies}
use Rattle.std.proofs.lemmas.Bool.{cases_lt}
use Rattle.std.proofs.lemmas.List.{length-drop, take-append-le, drop-append-le, take_all}
use Rattle.std.proofs.lemmas.Option.{slice_get_within, slice_get-get_or, same_Some}
use Rattle.regress_program.specs.declared.instruction.Instruction.{Instruction}
use Rattle.regress_program.proofs.CodeLemmas.{get-append-below, get-append-last, length-push}
use Rattle.regress_program.proofs.Expanded.{IsAfter}
use Rattle.regress_program.proofs.TimesLemmas.{joined, joined-append, joined-times}

take-none : {X : Type 0} (m : ℕ) → take {A = X} m [] ≡ []
take-none zero = refl
take-none (suc m) = refl

take-parts : {X : Type 0} (s k m : ℕ) (xs : List X) → k ≡ s + m → take s xs ++ take m (drop s xs) ≡ take k xs
take-parts zero k m xs e = let same : m ≡ k = omega (arith, e) in ap (λ (n : ℕ). take n xs) same
take-parts (suc s) zero m xs e = absurd (omega (arith, e))
take-parts (suc s) (suc k) m [] e = take-none m
take-parts (suc s) (suc k) m (x ∷ xs) e = ap (λ ys. x ∷ ys) (take-parts s k m xs (omega (arith, e)))

-- ---- an instruction is added

module _ (stored : List Instruction) (x : Instruction) (copies : List Copies) where
  -- The records of copies come within the stored instructions.
  abbrev pub AreWithin : Type 0
  AreWithin = (j : ℕ) (r : Copies) → slice_get copies j ≡ Some r → r.stored ≤ length stored

  module _ (within : AreWithin) where
    pub expand-stored : (j k : ℕ) → k ≤ length stored → expand (stored ++ x ∷ []) copies j k ≡ expand stored copies j k
    expand-stored zero k le = take-append-le k stored (x ∷ []) le
    expand-stored (suc j) k le = by (slice_get copies j) refl (λ s le'. expand-stored j s le')
      where
        by : (o : Option Copies) → slice_get copies j ≡ o → ((s : ℕ) → s ≤ length stored → expand (stored ++ x ∷ []) copies j s ≡ expand stored copies j s) →
            with_copies (stored ++ x ∷ []) (λ s. expand (stored ++ x ∷ []) copies j s) k o ≡ with_copies stored (λ s. expand stored copies j s) k o
        by None e same = same k le
        by (Some r) e same =
            let few : r.stored ≤ length stored = within j r e in
            ap₂ ◌++◌ (ap (times (moved_in r.from r.width) r.width r.count) (same r.stored few))
            (ap (take (k - r.stored)) (drop-append-le r.stored stored (x ∷ []) few)
            ∙ take-append-le (k - r.stored) (drop r.stored stored) (x ∷ []) (omega (arith, length-drop r.stored stored, le)))

    pub expand-push : (j : ℕ) → expand (stored ++ x ∷ []) copies j (length stored + 1) ≡ expand stored copies j (length stored) ++ x ∷ []
    expand-push zero =
        take_all (length stored + 1) (stored ++ x ∷ []) (omega (arith, length-push stored x))
        ∙ ap (λ xs. xs ++ x ∷ []) (sym (take_all (length stored) stored (omega arith)))
    expand-push (suc j) = by (slice_get copies j) refl (expand-push j)
      where
        by : (o : Option Copies) → slice_get copies j ≡ o → expand (stored ++ x ∷ []) copies j (length stored + 1) ≡ expand stored copies j (length stored) ++ x ∷ [] →
            with_copies (stored ++ x ∷ []) (λ s. expand (stored ++ x ∷ []) copies j s) (length stored + 1) o
            ≡ with_copies stored (λ s. expand stored copies j s) (length stored) o ++ x ∷ []
        by None e same = same
        by (Some r) e same =
            let few : r.stored ≤ length stored = within j r e in
            let rest = drop r.stored stored in
            ap₂ ◌++◌ (ap (times (moved_in r.from r.width) r.width r.count) (expand-stored j r.stored few))
            (ap (take (length stored + 1 - r.stored)) (drop-append-le r.stored stored (x ∷ []) few)
            ∙ take_all (length stored + 1 - r.stored) (rest ++ x ∷ []) (omega (arith, length-push rest x, length-drop r.stored stored, few))
            ∙ ap (λ xs. xs ++ x ∷ []) (sym (take_all (length stored - r.stored) rest (omega (arith, length-drop r.stored stored)))))
            ∙ sym (append_assoc (times (moved_in r.from r.width) r.width r.count (expand stored copies j r.stored)) (take (length stored - r.stored) rest) (x ∷ []))

    -- The list of all instructions has it at the end.
    pub expanded-push : expanded (stored ++ x ∷ []) copies ≡ expanded stored copies ++ x ∷ []
    expanded-push = ap (λ (k : ℕ). expand (stored ++ x ∷ []) copies (length copies) k) (length-push stored x) ∙ expand-push (length copies)

    pub copies-push : AreCopies stored copies → AreCopies (stored ++ x ∷ []) copies
    copies-push are j r is =
        let the = are j r is in
        record {
          start = the.start ∙ ap length (sym (expand-stored j r.stored the.within));
          some = the.some;
          fits = the.fits;
          from_start = the.from_start;
          within = omega (arith, the.within, length-push stored x);
          named = λ pc i low found. the.named pc i low (ap (λ xs. slice_get xs pc) (sym (expand-stored j r.stored the.within)) ∙ found);
          before = the.before;
        }

-- ---- a record of copies is added

module _ (stored : List Instruction) (copies : List Copies) (r : Copies) where
  pub expand-copies : (j k : ℕ) → j ≤ length copies → expand stored (copies ++ r ∷ []) j k ≡ expand stored copies j k
  expand-copies zero k le = refl
  expand-copies (suc j) k le =
      ap (with_copies stored (λ s. expand stored (copies ++ r ∷ []) j s) k) (get-append-below copies (r ∷ []) j (omega (arith, le)))
      ∙ ap (λ (f : ℕ → List Instruction). with_copies stored f k (slice_get copies j)) (agree (λ s. expand-copies j s (omega (arith, le))))
    where
      agree : {f g : ℕ → List Instruction} → ((s : ℕ) → f s ≡ g s) → f ≡ g
      agree same = λ i s. same s i

  -- The list of all instructions has the copies at the end.
  pub expanded-copy : r.stored ≡ length stored →
      expanded stored (copies ++ r ∷ []) ≡ times (moved_in r.from r.width) r.width r.count (expanded stored copies)
  expanded-copy last =
      let len : length (copies ++ r ∷ []) ≡ suc (length copies) = omega (arith, length-push copies r) in
      let none : length stored - r.stored ≡ 0 = omega (arith, last) in
      let all = times (moved_in r.from r.width) r.width r.count (expand stored (copies ++ r ∷ []) (length copies) r.stored) in
      ap (λ (j : ℕ). expand stored (copies ++ r ∷ []) j (length stored)) len
      ∙ ap (with_copies stored (λ s. expand stored (copies ++ r ∷ []) (length copies) s) (length stored)) (get-append-last copies r)
      ∙ ap (λ (n : ℕ). all ++ take n (drop r.stored stored)) none ∙ append-nil all
      ∙ ap (times (moved_in r.from r.width) r.width r.count)
      (expand-copies (length copies) r.stored (omega arith) ∙ ap (λ (k : ℕ). expand stored copies (length copies) k) last)

  pub copies-copy : AreCopies stored copies → r.stored ≡ length stored → r.start ≡ length (expanded stored copies) → 0 < r.width → r.width ≤ r.start →
      r.from + r.width ≤ r.start → ((pc : ℕ) (i : Instruction) → r.start ≤ pc + r.width → slice_get (expanded stored copies) pc ≡ Some i → NamesBelow r.start i) →
      AreCopies stored (copies ++ r ∷ [])
  copies-copy are last start some fits from_start named j s is = elim (cases_lt j (length copies)) [
    | inl below ↦
        (let the = are j s (sym (get-append-below copies (r ∷ []) j below) ∙ is) in
        record {
          start = the.start ∙ ap length (sym (expand-copies j s.stored (omega (arith, below))));
          some = the.some;
          fits = the.fits;
          from_start = the.from_start;
          within = the.within;
          named = λ pc i low found. the.named pc i low (ap (λ xs. slice_get xs pc) (sym (expand-copies j s.stored (omega (arith, below)))) ∙ found);
          before = λ i q next found. the.before i q next (sym (get-append-below copies (r ∷ []) i (omega (arith, next, below))) ∙ found);
        })
    | inr past ↦
        (let here : j ≡ length copies = omega (arith, past, slice_get_within (copies ++ r ∷ []) j s is, length-push copies r) in
        let same : r ≡ s = same_Some r s (sym (get-append-last copies r) ∙ ap (slice_get (copies ++ r ∷ [])) (sym here) ∙ is) in
        subst (λ q. IsCopies stored (copies ++ r ∷ []) j q) same
        (subst (λ (k : ℕ). IsCopies stored (copies ++ r ∷ []) k r) (sym here)
        (record {
          start =
              start ∙ ap length (ap (λ (k : ℕ). expand stored copies (length copies) k) (sym last) ∙ sym (expand-copies (length copies) r.stored (omega arith)));
          some = some;
          fits = fits;
          from_start = from_start;
          within = omega (arith, last);
          named = λ pc i low found.
              named pc i low
              (ap (λ xs. slice_get xs pc)
              (ap (λ (k : ℕ). expand stored copies (length copies) k) (sym last) ∙ sym (expand-copies (length copies) r.stored (omega arith))) ∙ found);
          before = λ i q next found.
              let lt : i < length copies = omega (arith, next) in
              let within = (are i q (sym (get-append-below copies (r ∷ []) i lt) ∙ found)).within in omega (arith, within, last);
        })))
  ]

-- ---- what does not tell copies from originals is known from the stored instructions

module _ {V : Type 0} (value : Instruction → V) (join : V → V → V) (swap : (a b v : V) → join a (join b v) ≡ join b (join a v))
    (twice : (a v : V) → join a (join a v) ≡ join a v) (same : (from n : ℕ) (i : Instruction) → value (moved_in from n i) ≡ value i)
    (stored : List Instruction) (copies : List Copies) (are : AreCopies stored copies) where
  joined-expand : (j k : ℕ) (v : V) → j ≤ length copies → IsAfter stored copies j k → joined value join (expand stored copies j k) v ≡ joined value join (take k stored) v
  joined-expand zero k v le last = refl
  joined-expand (suc j) k v le last = by (slice_get copies j) refl (λ s u after. joined-expand j s u (omega (arith, le)) after)
    where
      by : (o : Option Copies) → slice_get copies j ≡ o →
          ((s : ℕ) (u : V) → IsAfter stored copies j s → joined value join (expand stored copies j s) u ≡ joined value join (take s stored) u) →
          joined value join (with_copies stored (λ s. expand stored copies j s) k o) v ≡ joined value join (take k stored) v
      by None e before = let there = slice_get-get_or copies j (record { start = 0; width = 0; count = 0; from = 0; stored = 0 }) (omega (arith, le)) in cc
      by (Some r) e before =
          let the = are j r e in
          let few : r.stored ≤ k = last j r refl e in
          let first = expand stored copies j r.stored in
          let rest = take (k - r.stored) (drop r.stored stored) in
          joined-append value join (times (moved_in r.from r.width) r.width r.count first) rest v
          ∙ joined-times value join swap twice (moved_in r.from r.width) (λ i. same r.from r.width i) r.width r.count first (joined value join rest v)
          ∙ before r.stored (joined value join rest v) the.before
          ∙ sym (joined-append value join (take r.stored stored) rest v)
          ∙ ap (λ xs. joined value join xs v) (take-parts r.stored k (k - r.stored) stored (omega (arith, few)))

  pub joined-expanded : (v : V) → IsAfter stored copies (length copies) (length stored) →
      joined value join (expanded stored copies) v ≡ joined value join stored v
  joined-expanded v last =
      joined-expand (length copies) (length stored) v (omega arith) last ∙ ap (λ xs. joined value join xs v) (take_all (length stored) stored (omega arith))
