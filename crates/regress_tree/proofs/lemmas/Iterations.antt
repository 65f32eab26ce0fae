-- Loops over the empty text, loops without a group inside, and loops with a maximum of zero iterations.
use Rattle.std.proofs.Common.{◌≡◌, ℕ, zero, suc, ◌≤◌, Bool, true, false, not, cond, [], ◌∷◌, ◌++◌, Option, Some, sym, refl, ap, ap₂, subst, ◌∙◌, append-nil, le_refl, arith}
use Rattle.std.specs.Prelude.{IfSome}
use Rattle.std.specs.List.{flat_map}
use Rattle.std.proofs.lemmas.Bool.{eq-eqb}
use Rattle.regress_base.specs.declared.types.Quantifier.{Quantifier}
use Rattle.regress_tree.specs.Repetition.{iteration, iterations, moving, up_to, extra_iterations, repeat_matcher}
use Rattle.regress_tree.specs.Steps.{MatchState, Matcher, stay, ◌then_◌}
use Rattle.regress_tree.specs.WellFormed.{IsQuantifier}
use Rattle.regress_tree.proofs.lemmas.Groups.{iteration-none}

iterations-stay : (n : ℕ) (s : MatchState) → iterations n stay s ≡ stay s
iterations-stay zero s = refl
iterations-stay (suc n) s = append-nil _ ∙ iterations-stay n s

moving-stay : (s : MatchState) → moving stay s ≡ []
moving-stay s = ap (λ b. cond (not b) (s ∷ []) []) (eq-eqb s.position s.position refl)

up_to-stay : (greedy : Bool) (n : ℕ) (s : MatchState) → up_to greedy n stay s ≡ stay s
up_to-stay greedy zero s = refl
up_to-stay true (suc n) s = ap (λ states. flat_map (up_to true n stay) states ++ s ∷ []) (moving-stay s)
up_to-stay false (suc n) s = ap (λ states. s ∷ flat_map (up_to false n stay) states) (moving-stay s)

module _ (bound : ℕ) (q : Quantifier) (start end : ℕ) where
  -- Iterations without a group inside reset nothing.
  pub repeat-groupless : (f : Matcher) → end ≤ start → repeat_matcher bound q start end f ≡ repeat_matcher bound q 0 0 f
  unfolding repeat_matcher
  repeat-groupless f ends =
      ap (λ (g : Matcher). iterations q.min g then_ up_to q.greedy (extra_iterations bound q) g)
      (iteration-none start end ends f ∙ sym (iteration-none 0 0 (le_refl 0) f))

  -- Iterations over the empty text alone change nothing.
  pub repeat-stay : end ≤ start → (s : MatchState) → repeat_matcher bound q start end stay s ≡ stay s
  unfolding repeat_matcher
  repeat-stay ends s =
      ap (λ (f : Matcher). (iterations q.min f then_ up_to q.greedy (extra_iterations bound q) f) s) (iteration-none start end ends stay)
      ∙ ap (flat_map (up_to q.greedy (extra_iterations bound q) stay)) (iterations-stay q.min s)
      ∙ append-nil _ ∙ up_to-stay q.greedy (extra_iterations bound q) s

  extra_iterations-none : q.max ≡ Some 0 → extra_iterations bound q ≡ 0
  extra_iterations-none is = rw is (omega arith)

  -- no iteration
  pub repeat-none : q.max ≡ Some 0 → IsQuantifier q → (f : Matcher) (s : MatchState) → repeat_matcher bound q start end f s ≡ stay s
  unfolding repeat_matcher
  repeat-none is quantifier f s =
      let least : q.min ≤ 0 = subst (λ (max : Option ℕ). IfSome max (λ m. q.min ≤ m)) is quantifier in
      let none : q.min ≡ 0 = omega (arith, least) in
      ap₂ (λ (n m : ℕ). (iterations n (iteration start end f) then_ up_to q.greedy m (iteration start end f)) s) none (extra_iterations-none is)
