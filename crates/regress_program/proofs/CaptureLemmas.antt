-- The captures of single groups.
use Rattle.std.proofs.Common.{◌≡◌, ◌≢◌, ℕ, zero, suc, ◌+◌, ◌≤◌, ◌<◌, ◌⊎◌, Bool, true, false, ◌&&◌, [], ◌∷◌, length, replicate, Option, None, refl, sym, ap, ◌∙◌, subst, arith, nat_le, nat_lt, set, if◌then◌else◌, inl, inr}
use Rattle.std.proofs.lemmas.Bool.{cases_eq, cases_lt}
use Rattle.std.proofs.lemmas.List.{length-set, get_or-set_same, get_or-set_other, set_past}
use Rattle.regress_tree.specs.Repetition.{unset_from}
use Rattle.regress_tree.specs.Steps.{CaptureSpan}
use Rattle.regress_program.specs.Isolated.{Captures, capture_at}

-- There are as many captures, and those of the groups in R are the same.
pub record SameIn (R : ℕ → Type 0) (before after : Captures) : Type 0 where
  pub count : length after ≡ length before
  pub same : (id : ℕ) → R id → capture_at after id ≡ capture_at before id

-- Groups that are all unset have no capture.
pub capture-none : (n id : ℕ) → capture_at (replicate n None) id ≡ None
capture-none zero id = refl
capture-none (suc n) zero = refl
capture-none (suc n) (suc id) = capture-none n id

length-unset : (k start end : ℕ) (cs : Captures) → length (unset_from k start end cs) ≡ length cs
length-unset k start end [] = refl
length-unset k start end (c ∷ cs) = ap suc (length-unset (k + 1) start end cs)

-- The group is one of those that are unset.
abbrev is_unset : (start end id : ℕ) → Bool
is_unset start end id = nat_le start id && nat_lt id end

same_or : (x : Option CaptureSpan) (b : Bool) → x ≡ (if b then x else x)
same_or x true = refl
same_or x false = refl

-- a group after some are unset
capture-unset_from : (k start end : ℕ) (cs : Captures) (id : ℕ) →
    capture_at (unset_from k start end cs) id ≡ (if is_unset start end (k + id) then None else capture_at cs id)
capture-unset_from k start end [] id = same_or None (is_unset start end (k + id))
capture-unset_from k start end (c ∷ cs) zero =
    let e : k ≡ k + 0 = omega arith in ap (λ i. if is_unset start end i then None else c) e
capture-unset_from k start end (c ∷ cs) (suc id) =
    let e : k + 1 + id ≡ k + suc id = omega arith in
    capture-unset_from (k + 1) start end cs id ∙ ap (λ i. if is_unset start end i then None else capture_at cs id) e

capture-unset : (start end : ℕ) (cs : Captures) (id : ℕ) →
    capture_at (unset_from 0 start end cs) id ≡ (if is_unset start end id then None else capture_at cs id)
capture-unset start end cs id =
    let e : 0 + id ≡ id = omega arith in
    capture-unset_from 0 start end cs id ∙ ap (λ i. if is_unset start end i then None else capture_at cs id) e

not_unset : (start end id : ℕ) → (start ≤ id → id < end → ⊥) → is_unset start end id ≡ false
not_unset start end id out = by (cases_lt id start) (cases_lt id end)
  where
    by : (id < start) ⊎ (start ≤ id) → (id < end) ⊎ (end ≤ id) → is_unset start end id ≡ false
    by (inl lt) other = grind arith
    by (inr le) (inl lt) = absurd (out le lt)
    by (inr le) (inr le') = grind arith

module _ (R : ℕ → Type 0) where
  pub SameIn-refl : (cs : Captures) → SameIn R cs cs
  SameIn-refl cs = record { count = refl; same = λ id is. refl }

  pub SameIn-then : (as' bs cs : Captures) → SameIn R as' bs → SameIn R bs cs → SameIn R as' cs
  SameIn-then as' bs cs first second =
      record { count = second.count ∙ first.count; same = λ id is. second.same id is ∙ first.same id is }

  -- ---- a change of both lists

  pub SameIn-unset : (start end : ℕ) (cs ds : Captures) → SameIn R cs ds → SameIn R (unset_from 0 start end cs) (unset_from 0 start end ds)
  SameIn-unset start end cs ds both = record {
    count = length-unset 0 start end ds ∙ both.count ∙ sym (length-unset 0 start end cs);
    same = λ id is.
        capture-unset start end ds id ∙ ap (λ x. if is_unset start end id then None else x) (both.same id is)
        ∙ sym (capture-unset start end cs id);
  }

  pub SameIn-set : (id : ℕ) (x : Option CaptureSpan) (cs ds : Captures) → SameIn R cs ds → SameIn R (set cs id x) (set ds id x)
  SameIn-set id x cs ds both = record {
    count = length-set ds id x ∙ both.count ∙ sym (length-set cs id x);
    same = λ k is. by k is (cases_eq k id) (cases_lt id (length cs));
  }
    where
      by : (k : ℕ) → R k → (k ≡ id) ⊎ (k ≢ id) → (id < length cs) ⊎ (length cs ≤ id) →
          capture_at (set ds id x) k ≡ capture_at (set cs id x) k
      by k is (inr other) short = get_or-set_other ds id k x None other ∙ both.same k is ∙ sym (get_or-set_other cs id k x None other)
      by k is (inl here) (inl lt) =
          ap (capture_at (set ds id x)) here ∙ get_or-set_same ds id x None (omega (arith, lt, both.count))
          ∙ sym (get_or-set_same cs id x None lt) ∙ sym (ap (capture_at (set cs id x)) here)
      by k is (inl here) (inr past) =
          ap (λ es. capture_at es k) (set_past ds id x (omega (arith, past, both.count))) ∙ both.same k is
          ∙ sym (ap (λ es. capture_at es k) (set_past cs id x past))

  -- ---- a change of groups that are not in R

  pub SameIn-unset_outside : (start end : ℕ) (cs : Captures) → ((id : ℕ) → R id → start ≤ id → id < end → ⊥) →
      SameIn R cs (unset_from 0 start end cs)
  SameIn-unset_outside start end cs out = record {
    count = length-unset 0 start end cs;
    same = λ id is.
        capture-unset start end cs id ∙ ap (λ (b : Bool). if b then None else capture_at cs id) (not_unset start end id (out id is));
  }

  pub SameIn-set_outside : (id : ℕ) (x : Option CaptureSpan) (cs : Captures) → (R id → ⊥) → SameIn R cs (set cs id x)
  SameIn-set_outside id x cs out = record {
    count = length-set cs id x;
    same = λ k is. get_or-set_other cs id k x None (other k is);
  }
    where
      other : (k : ℕ) → R k → k ≢ id
      other k is here = out (subst R here is)
