-- The cost of what follows a state is determined by the states that are evaluated before it.
use Rattle.std.proofs.Common.{◌≡◌, ℕ, ◌+◌, ◌≤◌, ◌<◌, Bool, true, false, List, [], ◌∷◌, length, All, sum_by, if◌then◌else◌, refl, sym, ap, ap₂, ◌∙◌}
use Rattle.std.proofs.lemmas.List.Elements.{All-head, All-tail}
use Rattle.std.proofs.lemmas.List.Sums.{sum_by-cons}
use Rattle.std.specs.Int.{abs_diff}
use Rattle.regress_tree.specs.Lookaround.{lookaround_matcher}
use Rattle.regress_tree.specs.Matching.{steps}
use Rattle.regress_tree.specs.Reading.{Direction}
use Rattle.regress_tree.specs.Steps.{MatchState, Matcher, Setting}
use Rattle.regress_program.specs.Below.{Below}
use Rattle.regress_program.specs.Cost.{Cost, blocks, bytes_ahead, compared, cost_after, cost_by, unset_cost}
use Rattle.regress_program.specs.Program.{At, Routine, Op, accept, fail, part, split, begin_loop, repeat, end_loop, unsets, begin_group, end_group, look, goto, enter, reach, ended}
use Rattle.regress_program.specs.Shape.{Fits}
use Rattle.regress_program.specs.Stays.{IsReached}
use Rattle.regress_program.proofs.lemmas.Below.{IsAt, below-again, below-enter, below-here, below-reach, looked-stays, reach-moved}
use Rattle.regress_program.proofs.lemmas.Onward.{Stays-tree}

sum_by-same : {A : Type 0} (P : A → Type 0) (f g : A → ℕ) (xs : List A) → All P xs → ((x : A) → P x → f x ≡ g x) → sum_by f xs ≡ sum_by g xs
sum_by-same P f g [] all same = refl
sum_by-same P f g (x ∷ xs) all same =
    sum_by-cons f x xs ∙ ap₂ ◌+◌ (same x (All-head P x xs all)) (sum_by-same P f g xs (All-tail P x xs all) same) ∙ sym (sum_by-cons g x xs)

module _ (setting : Setting) (bytes : List ℕ) (d : Direction) (width : ℕ) (earlier : List Routine) (body_of : ℕ → Matcher) (b1 b2 : ℕ → MatchState → ℕ)
    (f g : Cost) (a : At) (pc_in : a.pc < width) (within : a.state.position ≤ length bytes)
    (agree : (b : At) → Below width (length bytes) d a b → f b ≡ g b)
    (bodies : (i : ℕ) → i < length earlier → b1 i a.state ≡ b2 i a.state) where
  here : (b : At) → b.pc < a.pc → b.moved ≡ a.moved → b.state.position ≡ a.state.position → f b ≡ g b
  here b lt m p = agree b (below-here width (length bytes) d a pc_in within b lt m p)

  ended-same : (id next : ℕ) → next < a.pc → (begins : List ℕ) → f (ended id next a begins) ≡ g (ended id next a begins)
  ended-same id next lt [] = here (ended id next a []) lt refl refl
  ended-same id next lt (k ∷ ks) = here (ended id next a (k ∷ ks)) lt refl refl

  advanced-same : (b : Bool) (m n : ℕ) → (b ≡ true → m ≡ n) → (if b then m else 0) ≡ (if b then n else 0)
  advanced-same true m n is = is refl
  advanced-same false m n is = refl

  after-same : (P : MatchState → Type 0) (next : ℕ) (states : List MatchState) → All P states →
      ((to : MatchState) → P to → f (reach next a to) ≡ g (reach next a to)) → cost_after f next a states ≡ cost_after g next a states
  after-same P next states all same =
      sum_by-same P _ _ states all (λ to is. ap (λ n. blocks (abs_diff a.state.position to.position) + n) (same to is))

  -- The cost of an instruction is determined by those of the states that are evaluated before it.
  pub cost-same : (op : Op) → Fits earlier width a.pc op → cost_by setting bytes d body_of b1 f op a ≡ cost_by setting bytes d body_of b2 g op a
  unfolding lookaround_matcher
  cost-same accept fits = refl
  cost-same fail fits = refl
  cost-same (part t next) fits =
      ap (λ n. compared (bytes_ahead d (length bytes) a.state.position) t a.state + n)
      (after-same (IsReached bytes d a.state) next (steps setting bytes d t a.state) ((Stays-tree setting bytes d t).reached a.state within)
      (λ to is. agree (reach next a to) (below-reach width (length bytes) d a pc_in within next to fits.1 is.inside is.onward)))
  cost-same (split first second) fits = ap₂ ◌+◌ (here (goto first a) fits.0 refl refl) (here (goto second a) fits.1 refl refl)
  cost-same (begin_loop greedy body next) fits =
      ap₂ ◌+◌ (agree (enter body a) (below-enter width (length bytes) d a pc_in within body fits.0)) (here (goto next a) fits.1 refl refl)
  cost-same (repeat greedy body next) fits =
      advanced-same a.moved _ _ (λ m. ap₂ ◌+◌
      (agree (enter body a) (below-again width (length bytes) d a pc_in within body fits.0 m)) (here (goto next a) fits.1 refl refl))
  cost-same (end_loop next) fits = advanced-same a.moved _ _ (λ m. here (goto next a) fits refl refl)
  cost-same (unsets start end next) fits = ap (λ n. unset_cost start end (length a.state.captures) + n) (here _ fits refl refl)
  cost-same (begin_group next) fits = here _ fits refl refl
  cost-same (end_group id next) fits = ended-same id next fits a.begins
  cost-same (look negate i next) fits =
      ap₂ ◌+◌ (bodies i fits.0)
      (after-same (IsAt a.state.position) next (lookaround_matcher negate (body_of i) a.state) (looked-stays negate a.state (body_of i a.state))
      (λ to is. here (reach next a to) fits.1 (reach-moved width (length bytes) d a pc_in within next to is) is))
