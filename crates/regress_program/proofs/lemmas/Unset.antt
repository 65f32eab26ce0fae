-- Groups unset one by one.
use Rattle.std.proofs.Common.{◌≡◌, ℕ, zero, suc, ◌+◌, ◌≤◌, ◌<◌, min, Bool, true, false, ◌&&◌, List, [], ◌∷◌, length, Option, None, refl, sym, ap, ap₂, ◌∙◌, arith, nat_le, nat_lt, set, if◌then◌else◌, ◌⊎◌, inl, inr}
use Rattle.std.proofs.lemmas.Bool.{cases_lt}
use Rattle.regress_tree.specs.Repetition.{unset_from}
use Rattle.regress_tree.specs.Steps.{CaptureSpan}

outside : (start end k : ℕ) → end ≤ start → (nat_le start k && nat_lt k end) ≡ false
outside start end k le = grind arith

same_tests : (start end end' k : ℕ) → k < end → end ≤ end' → (nat_le start k && nat_lt k end) ≡ (nat_le start k && nat_lt k end')
same_tests start end end' k lt le = grind arith

before_tests : (start group k : ℕ) → k < group → (nat_le start k && nat_lt k group) ≡ (nat_le start k && nat_lt k (group + 1))
before_tests start group k lt = grind arith

after_test : (start group k : ℕ) → group < k → (nat_le start k && nat_lt k group) ≡ (nat_le start k && nat_lt k (group + 1))
after_test start group k lt = grind arith

pub unset-none : (k start end : ℕ) (spans : List (Option CaptureSpan)) → end ≤ start → unset_from k start end spans ≡ spans
unset-none k start end [] le = refl
unset-none k start end (x ∷ xs) le =
    ap₂ (λ (b : Bool) ys. (if b then None else x) ∷ ys) (outside start end k le) (unset-none (k + 1) start end xs le)

-- ids past the last group make no difference
unset-past : (k start end end' : ℕ) (spans : List (Option CaptureSpan)) → k + length spans ≤ end → end ≤ end' →
    unset_from k start end spans ≡ unset_from k start end' spans
unset-past k start end end' [] le le' = refl
unset-past k start end end' (x ∷ xs) le le' =
    ap₂ (λ (b : Bool) ys. (if b then None else x) ∷ ys) (same_tests start end end' k (omega (arith, le)) le')
    (unset-past (k + 1) start end end' xs (omega (arith, le)) le')

beyond : (k start group : ℕ) (spans : List (Option CaptureSpan)) → group < k →
    unset_from k start group spans ≡ unset_from k start (group + 1) spans
beyond k start group [] lt = refl
beyond k start group (x ∷ xs) lt =
    ap₂ (λ (b : Bool) ys. (if b then None else x) ∷ ys) (after_test start group k lt) (beyond (k + 1) start group xs (omega (arith, lt)))

-- unsetting one more group
more_at : (k start j : ℕ) (spans : List (Option CaptureSpan)) → start ≤ k + j →
    unset_from k start (k + j + 1) spans ≡ set (unset_from k start (k + j) spans) j None
more_at k start j [] le = refl
more_at k start zero (x ∷ xs) le =
    ap₂ (λ (b : Bool) ys. (if b then None else x) ∷ ys) (here-test k start le)
    (sym (beyond (k + 1) start (k + 0) xs (omega arith)))
  where
    here-test : (k start : ℕ) → start ≤ k + 0 → (nat_le start k && nat_lt k (k + 0 + 1)) ≡ true
    here-test k start le = grind arith
more_at k start (suc j) (x ∷ xs) le =
    let n : k + suc j ≡ k + 1 + j = omega arith in
    let rest : unset_from (k + 1) start (k + suc j + 1) xs ≡ set (unset_from (k + 1) start (k + suc j) xs) j None =
    ap (λ m. unset_from (k + 1) start (m + 1) xs) n ∙ more_at (k + 1) start j xs (omega (arith, le))
    ∙ ap (λ m. set (unset_from (k + 1) start m xs) j None) (sym n) in
    ap₂ (λ (b : Bool) ys. (if b then None else x) ∷ ys) (sym (before_tests start (k + suc j) k (omega arith))) rest

pub unset-more : (start group : ℕ) (spans : List (Option CaptureSpan)) → start ≤ group →
    unset_from 0 start (group + 1) spans ≡ set (unset_from 0 start group spans) group None
unset-more start group spans le =
    let n : 0 + group ≡ group = omega arith in
    ap (λ m. unset_from 0 start (m + 1) spans) (sym n) ∙ more_at 0 start group spans (omega (arith, le, n))
    ∙ ap (λ m. set (unset_from 0 start m spans) group None) n

clipped_by : (start end after : ℕ) (spans : List (Option CaptureSpan)) → (end < length spans) ⊎ (length spans ≤ end) → after ≡ min end (length spans) →
    unset_from 0 start after spans ≡ unset_from 0 start end spans
clipped_by start end after spans (inl le) is = ap (λ k. unset_from 0 start k spans) (omega (arith, is, le))
clipped_by start end after spans (inr le) is =
    unset-past 0 start after end spans (omega (arith, is, le)) (omega (arith, is, le))

pub unset-clipped : (start end after : ℕ) (spans : List (Option CaptureSpan)) → after ≡ min end (length spans) →
    unset_from 0 start after spans ≡ unset_from 0 start end spans
unset-clipped start end after spans is = clipped_by start end after spans (cases_lt end (length spans)) is
