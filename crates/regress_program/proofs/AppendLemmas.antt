-- Instructions that are added to those of a routine.
use Rattle.std.proofs.Common.{◌≡◌, ℕ, ◌+◌, ◌≤◌, ◌<◌, inl, inr, List, [], ◌∷◌, ◌++◌, length, slice_get, Some, sym, ap, subst, ◌∙◌, arith}
use Rattle.std.proofs.lemmas.Bool.{cases_lt}
use Rattle.std.proofs.lemmas.List.Elements.{All-weaker}
use Rattle.std.proofs.lemmas.Option.{slice_get_within, same_Some}
use Rattle.regress_program.specs.Compiled.{Extends}
use Rattle.regress_program.specs.Copies.{NamesBelow, end_of, expanded, names, AreCopies}
use Rattle.regress_program.specs.Listed.{Appends, IsAlone, all_of}
use Rattle.regress_program.specs.declared.copies.Copies.{Copies}
use Rattle.regress_program.specs.declared.copies.Instructions.{Instructions}
use Rattle.regress_program.specs.declared.instruction.Instruction.{Instruction}
use Rattle.regress_program.proofs.CodeLemmas.{length-push, Extends-same, Extends-then, Extends-push, get-append-last}
use Rattle.regress_program.proofs.ExpandedLemmas.{records-end}
use Rattle.regress_program.proofs.ExpandedPush.{expanded-push, copies-push}

pub NamesBelow-more : (m n : ℕ) (i : Instruction) → m ≤ n → NamesBelow m i → NamesBelow n i
NamesBelow-more m n i le below = All-weaker (λ k. k < m) (λ k. k < n) (λ k lt. omega (arith, lt, le)) (names i) below

pub Appends-none : (is : Instructions) → Appends is is
Appends-none is = record {
  stored = Extends-same is.stored.items;
  copies = Extends-same is.copies.items;
  all = Extends-same (all_of is);
  apart = λ j r low found. absurd (omega (arith, low, slice_get_within is.copies.items j r found));
  named = λ pc i low found. absurd (omega (arith, low, slice_get_within (all_of is) pc i found));
}

pub Appends-then : (a b c : Instructions) → Appends a b → Appends b c → Appends a c
Appends-then a b c first second = record {
  stored = Extends-then a.stored.items b.stored.items c.stored.items first.stored second.stored;
  copies = Extends-then a.copies.items b.copies.items c.copies.items first.copies second.copies;
  all = Extends-then (all_of a) (all_of b) (all_of c) first.all second.all;
  apart = λ j r low found. elim (cases_lt j (length b.copies.items)) [
    | inl lt ↦ first.apart j r low (sym (second.copies.same j lt) ∙ found)
    | inr ge ↦
        (let far = second.apart j r ge found in
        (omega (arith, far.0, first.stored.grown), omega (arith, far.1, first.all.grown)))
  ];
  named = λ pc i low found. elim (cases_lt pc (length (all_of b))) [
    | inl lt ↦
        NamesBelow-more (length (all_of b)) (length (all_of c)) i second.all.grown (first.named pc i low (sym (second.all.same pc lt) ∙ found))
    | inr ge ↦ second.named pc i ge found
  ];
}

-- ---- an instruction is added

pub all_of-push : (a b : Instructions) (x : Instruction) → b.stored.items ≡ a.stored.items ++ x ∷ [] → b.copies.items ≡ a.copies.items →
    all_of b ≡ all_of a ++ x ∷ []
unfolding all_of
all_of-push a b x stored copies =
    ap (λ xs. expanded xs b.copies.items) stored ∙ ap (λ rs. expanded (a.stored.items ++ x ∷ []) rs) copies
    ∙ expanded-push a.stored.items x a.copies.items (λ j r is. (a.are j r is).within)

pub Appends-push : (a b : Instructions) (x : Instruction) → b.stored.items ≡ a.stored.items ++ x ∷ [] → b.copies.items ≡ a.copies.items →
    NamesBelow (length (all_of a)) x → Appends a b
Appends-push a b x stored copies below =
    let all = all_of-push a b x stored copies in
    let len : length (all_of b) ≡ length (all_of a) + 1 = ap length all ∙ length-push (all_of a) x in
    record {
      stored = subst-extends a.stored.items b.stored.items (a.stored.items ++ x ∷ []) (sym stored) (Extends-push a.stored.items x);
      copies = subst-extends a.copies.items b.copies.items a.copies.items (sym copies) (Extends-same a.copies.items);
      all = subst-extends (all_of a) (all_of b) (all_of a ++ x ∷ []) (sym all) (Extends-push (all_of a) x);
      apart = λ j r low found. absurd (omega (arith, low, slice_get_within b.copies.items j r found, ap length copies));
      named = λ pc i low found.
          let here : pc ≡ length (all_of a) = omega (arith, low, slice_get_within (all_of b) pc i found, len) in
          let is : x ≡ i =
          same_Some x i (sym (get-append-last (all_of a) x) ∙ ap (λ xs. slice_get xs (length (all_of a))) (sym all) ∙ ap (slice_get (all_of b)) (sym here) ∙ found) in
          NamesBelow-more (length (all_of a)) (length (all_of b)) i (omega (arith, len)) (subst (NamesBelow (length (all_of a))) is below);
    }
  where
    subst-extends : {X : Type 0} (xs ys zs : List X) → zs ≡ ys → Extends xs zs → Extends xs ys
    subst-extends xs ys zs same ext = subst (Extends xs) same ext

-- All copies are among the instructions.
pub record-end : (a : Instructions) (j : ℕ) (r : Copies) → slice_get a.copies.items j ≡ Some r → end_of r ≤ length (all_of a)
unfolding all_of
record-end a j r is = records-end a.stored.items a.copies.items a.are j r is

-- The instruction that was added to `a`, which made it `b`, is not a copy in `c`, and there are no copies of it.
pub alone-after : (a b c : Instructions) → b.copies.items ≡ a.copies.items → length (all_of b) ≡ length (all_of a) + 1 → Appends b c →
    IsAlone c (length (all_of a))
alone-after a b c copies len more j r found = elim (cases_lt j (length b.copies.items)) [
  | inl lt ↦ inl (record-end a j r (ap (λ rs. slice_get rs j) (sym copies) ∙ sym (more.copies.same j lt) ∙ found))
  | inr ge ↦ inr (let far = more.apart j r ge found in omega (arith, far.1, len))
]

-- ---- the same in the fields of a list

pub push-invariant : (a : Instructions) (stored : List Instruction) (x : Instruction) → stored ≡ a.stored.items ++ x ∷ [] →
    AreCopies stored a.copies.items × (a.len + 1 ≡ length (expanded stored a.copies.items))
push-invariant a stored x is =
    let within : (j : ℕ) (r : Copies) → slice_get a.copies.items j ≡ Some r → r.stored ≤ length a.stored.items = λ j r found. (a.are j r found).within in
    let len : length (expanded stored a.copies.items) ≡ length (expanded a.stored.items a.copies.items) + 1 =
    ap (λ xs. length (expanded xs a.copies.items)) is ∙ ap length (expanded-push a.stored.items x a.copies.items within)
    ∙ length-push (expanded a.stored.items a.copies.items) x in
    (subst (λ xs. AreCopies xs a.copies.items) (sym is) (copies-push a.stored.items x a.copies.items within a.are), omega (arith, len, a.counted))

pub same-invariant : (a : Instructions) (stored : List Instruction) (copies : List Copies) → stored ≡ a.stored.items → copies ≡ a.copies.items →
    AreCopies stored copies × (a.len ≡ length (expanded stored copies))
same-invariant a stored copies is is' = (
  subst (λ xs. AreCopies xs copies) (sym is) (subst (λ rs. AreCopies a.stored.items rs) (sym is') a.are),
  a.counted ∙ ap (λ xs. length (expanded xs a.copies.items)) (sym is) ∙ ap (λ rs. length (expanded stored rs)) (sym is'),
)

pub all_of-same : (a b : Instructions) → b.stored.items ≡ a.stored.items → b.copies.items ≡ a.copies.items → all_of b ≡ all_of a
unfolding all_of
all_of-same a b stored copies = ap (λ xs. expanded xs b.copies.items) stored ∙ ap (λ rs. expanded a.stored.items rs) copies
