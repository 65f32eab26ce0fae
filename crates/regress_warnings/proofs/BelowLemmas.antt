-- A test of the numbers less than another one.
use Rattle.std.proofs.Common.{◌≡◌, ℕ, zero, suc, ◌+◌, ◌-◌, ◌<◌, Bool, true, refl, subst, arith}
use Rattle.std.proofs.lemmas.Bool.{or_left, or_right}
use Rattle.regress_warnings.specs.Classes.{some_below}

module _ (test : ℕ → Bool) where
  some_more : (k c n : ℕ) → n ≡ suc c + k → test c ≡ true → some_below n test ≡ true
  some_more zero c n e holds =
      let last : suc c ≡ n = omega arith in
      subst (λ (m : ℕ). some_below m test ≡ true) last (or_right (some_below c test) _ holds)
  some_more (suc k) c n e holds =
      let further : suc (suc c + k) ≡ n = omega arith in
      subst (λ (m : ℕ). some_below m test ≡ true) further (or_left (some_below (suc c + k) test) _ (some_more k c (suc c + k) refl holds))

  -- It holds of one.
  pub some_holds : (n c : ℕ) → c < n → test c ≡ true → some_below n test ≡ true
  some_holds n c less holds =
      let sum : n ≡ suc c + (n - suc c) = omega arith in
      some_more (n - suc c) c n sum holds
