-- The rows that a memo keeps.
use Rattle.std.proofs.Common.{zero, suc, ◌≡◌, ℕ, ◌+◌, ◌-◌, ◌⊎◌, List, drop, length, slice_get, replicate, Option, Some, None, refl, sym, ap, ap₂, ◌∙◌, subst, inl, inr, arith}
use Rattle.std.proofs.lemmas.Option.{none-some, same_Some}
use Rattle.regress_tables.specs.declared.memo.Entry.{Entry}
use Rattle.regress_tables.specs.declared.memo.Key.{Key}
use Rattle.regress_tables.specs.declared.memo.Memo.{Memo}
use Rattle.regress_tables.specs.declared.repetitions.Repetitions.{Repetitions}
use Rattle.regress_tables.specs.Memo.{IsDirect, IsKept, SameRows, direct_index}
use Rattle.regress_tables.specs.Repetitions.{AreRepetitions, IsRepeated, SameRepetitions}
use Rattle.regress_leaves.specs.declared.test.Test.{Test}
use Rattle.regress_program.specs.Program.{Op}

-- Nothing is kept where no slot has an entry, and no row is found directly.
pub kept-none : (slots : List (Option Entry)) (direct : List ℕ) (count : ℕ) →
    ((k : ℕ) (entry : Entry) → slice_get slots k ≡ Some (Some entry) → ⊥) → direct ≡ replicate count 0 → (key : Key) (n : ℕ) → ((k : ℕ) × (slice_get slots k ≡ Some (Some (record { key = key; row = n }))))
    ⊎ (IsDirect key × (slice_get direct (direct_index key) ≡ Some (n + 1))) → ⊥
kept-none slots direct count none zeros key n kept = elim kept [
  | inl hashed ↦ none hashed.0 (record { key = key; row = n }) hashed.1
  | inr found ↦ no-row count (direct_index key) (ap (λ ns. slice_get ns (direct_index key)) (sym zeros) ∙ found.1)
]
  where
    no-row : (m i : ℕ) → slice_get (replicate m 0) i ≡ Some (n + 1) → ⊥
    no-row zero i is = none-some (n + 1) is
    no-row (suc m) zero is = let e : 0 ≡ n + 1 = same_Some 0 (n + 1) is in omega (arith, e)
    no-row (suc m) (suc i) is = no-row m i is

-- A memo with the same rows keeps the same.
pub kept-same : (memo memo' : Memo) → SameRows memo memo' → (key : Option Key) (n : ℕ) → IsKept memo' key n → IsKept memo key n
kept-same memo memo' same None n kept = kept
kept-same memo memo' same (Some key) n kept = elim kept [
  | inl hashed ↦ inl (hashed.0, ap (λ es. slice_get es hashed.0) (sym same.slots) ∙ hashed.1)
  | inr found ↦ inr (found.0, ap (λ ns. slice_get ns (direct_index key)) (sym same.direct) ∙ found.1)
]

-- ---- repetitions

pub repetitions-refl : (r : Repetitions) → SameRepetitions r r
repetitions-refl r = record { distinct = refl; uses = refl }

pub repetitions-trans : (a b c : Repetitions) → SameRepetitions a b → SameRepetitions b c → SameRepetitions a c
repetitions-trans a b c ab bc = record { distinct = bc.distinct ∙ ab.distinct; uses = bc.uses ∙ ab.uses }

-- The same are those of the same instructions.
pub repetitions-same : (leaves : List Test) (ops : List Op) (far far' : List ℕ) (r r' : Repetitions) → far' ≡ far → SameRepetitions r r' →
    AreRepetitions leaves ops far r → AreRepetitions leaves ops far' r'
repetitions-same leaves ops far far' r r' far_is same are = record {
  count = omega (arith, are.count, ap length same.uses, ap length far_is);
  one = λ k x is. are.one k x (ap (λ xs. slice_get xs k) (sym same.distinct) ∙ is);
  uses = λ k pc repeated is used.
      subst (λ xs. IsRepeated leaves ops xs pc repeated) (sym same.distinct)
      (are.uses k pc repeated (ap₂ (λ xs us. slice_get (drop (length xs - length us) xs) k) (sym far_is) (sym same.uses) ∙ is)
      (ap (λ xs. slice_get xs k) (sym same.uses) ∙ used));
}

pub rows-trans : (a b c : Memo) → SameRows a b → SameRows b c → SameRows a c
rows-trans a b c ab bc = record {
  far = bc.far ∙ ab.far;
  direct = bc.direct ∙ ab.direct;
  slots = bc.slots ∙ ab.slots;
  bytes = bc.bytes ∙ ab.bytes;
  tests = bc.tests ∙ ab.tests;
  repetitions = repetitions-trans a.repetitions b.repetitions c.repetitions ab.repetitions bc.repetitions;
}
