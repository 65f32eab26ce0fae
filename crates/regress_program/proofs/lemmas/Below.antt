-- What follows a state is evaluated before it.
use Rattle.std.proofs.Common.{◌≡◌, ℕ, ◌≤◌, ◌<◌, ◌==◌, Bool, true, false, not, ◌||◌, List, [], ◌∷◌, ◌++◌, flat_map, length, All, if◌then◌else◌, refl, ap, ap₂, ◌∙◌, inl, inr, arith}
use Rattle.std.proofs.lemmas.Bool.{cases_eq}
use Rattle.std.proofs.lemmas.List.Elements.{All-nil, All-cons, All-head, All-tail}
use Rattle.regress_tree.specs.Lookaround.{looked, lookaround_matcher}
use Rattle.regress_tree.specs.Matching.{steps}
use Rattle.regress_tree.specs.Reading.{Direction}
use Rattle.regress_tree.specs.Steps.{MatchState, Matcher, Setting}
use Rattle.regress_program.specs.Below.{Below, place}
use Rattle.regress_program.specs.Program.{Out, At, Routine, Op, accept, fail, part, split, begin_loop, repeat, end_loop, unsets, begin_group, end_group, look, goto, enter, reach, either, ended, outcomes_by}
use Rattle.regress_program.specs.Shape.{Fits}
use Rattle.regress_program.specs.Stays.{IsReached, IsOnward}
use Rattle.regress_program.proofs.lemmas.Onward.{Stays-tree}
use Rattle.regress_program.proofs.lemmas.Places.{place-earlier, place-begins, place-enters, place-row, row-onward}

pub flat_map-same : {A B : Type 0} (P : A → Type 0) (f g : A → List B) (xs : List A) → All P xs → ((x : A) → P x → f x ≡ g x) → flat_map f xs ≡ flat_map g xs
flat_map-same P f g [] all same = refl
flat_map-same P f g (x ∷ xs) all same = ap₂ ◌++◌ (same x (All-head P x xs all)) (flat_map-same P f g xs (All-tail P x xs all) same)

-- a lookaround stays where it is
abbrev pub IsAt : ℕ → MatchState → Type 0
IsAt k t = t.position ≡ k

pub looked-stays : (negate : Bool) (s : MatchState) (states : List MatchState) → All (IsAt s.position) (looked negate s states)
looked-stays true s [] = All-cons (IsAt s.position) s [] refl (All-nil (IsAt s.position))
looked-stays true s (t ∷ ts) = All-nil (IsAt s.position)
looked-stays false s [] = All-nil (IsAt s.position)
looked-stays false s (t ∷ ts) = All-cons (IsAt s.position) (record t { position = s.position }) [] refl (All-nil (IsAt s.position))

module _ (width length : ℕ) (d : Direction) (a : At) (pc_in : a.pc < width) (within : a.state.position ≤ length) where
  pub below-here : (b : At) → b.pc < a.pc → b.moved ≡ a.moved → b.state.position ≡ a.state.position → Below width length d a b
  below-here b lt m p = record {
    pc = omega (arith, lt, pc_in);
    position = omega (arith, p, within);
    lower = omega (arith, place-earlier width length d a.pc b.pc a.moved a.state.position lt, ap₂ (λ x y. place width length d b.pc x y) m p);
  }

  pub below-enter : (body : ℕ) → body < a.pc → Below width length d a (enter body a)
  below-enter body lt = record {
    pc = omega (arith, lt, pc_in);
    position = within;
    lower = place-enters width length d a.pc body a.moved a.state.position lt;
  }

  pub below-again : (body : ℕ) → body < width → a.moved ≡ true → Below width length d a (enter body a)
  below-again body lt m = record {
    pc = lt;
    position = within;
    lower = omega (arith, place-begins width length d a.pc body a.state.position lt, ap (λ x. place width length d a.pc x a.state.position) m);
  }

  same_here : (k : ℕ) → (k == k) ≡ true
  same_here k = grind arith

  or_false : (b : Bool) → (b || false) ≡ b
  or_false true = refl
  or_false false = refl

  -- on from an outcome
  pub reach-moved : (next : ℕ) (t : MatchState) → t.position ≡ a.state.position → (reach next a t).moved ≡ a.moved
  reach-moved next t is =
      ap (λ k. a.moved || not (k == a.state.position)) is ∙ ap (λ b. a.moved || not b) (same_here a.state.position) ∙ or_false a.moved

  pub below-reach : (next : ℕ) (t : MatchState) → next < a.pc → t.position ≤ length → IsOnward d a.state.position t.position →
      Below width length d a (reach next a t)
  below-reach next t lt inside on =
      elim (cases_eq t.position a.state.position) [
        | inl same ↦ below-here (reach next a t) lt (reach-moved next t same) same
        | inr other ↦ record {
          pc = omega (arith, lt, pc_in);
          position = inside;
          lower = place-row width length d a.pc next a.moved (reach next a t).moved a.state.position t.position (omega (arith, lt, pc_in))
              (row-onward width length d a.state.position t.position within inside other on);
        }
      ]

module _ (setting : Setting) (bytes : List ℕ) (d : Direction) (width : ℕ) (earlier : List Routine) (b1 b2 : ℕ → Matcher) (f g : Out) (a : At)
    (pc_in : a.pc < width) (within : a.state.position ≤ length bytes)
    (agree : (b : At) → Below width (length bytes) d a b → f b ≡ g b)
    (bodies : (i : ℕ) → i < length earlier → b1 i a.state ≡ b2 i a.state) where
  here : (b : At) → b.pc < a.pc → b.moved ≡ a.moved → b.state.position ≡ a.state.position → f b ≡ g b
  here b lt m p = agree b (below-here width (length bytes) d a pc_in within b lt m p)

  either-same : (greedy : Bool) (b c : At) → f b ≡ g b → f c ≡ g c → either f greedy b c ≡ either g greedy b c
  either-same true b c eb ec = ap₂ ◌++◌ eb ec
  either-same false b c eb ec = ap₂ ◌++◌ ec eb

  ended-same : (id next : ℕ) → next < a.pc → (begins : List ℕ) → f (ended id next a begins) ≡ g (ended id next a begins)
  ended-same id next lt [] = here (ended id next a []) lt refl refl
  ended-same id next lt (k ∷ ks) = here (ended id next a (k ∷ ks)) lt refl refl

  advanced-same : (b : Bool) (xs ys : List MatchState) → (b ≡ true → xs ≡ ys) → (if b then xs else []) ≡ (if b then ys else [])
  advanced-same true xs ys is = is refl
  advanced-same false xs ys is = refl

  -- The outcomes of an instruction are determined by those of the states that are evaluated before it.
  pub outcomes-same : (op : Op) → Fits earlier width a.pc op → outcomes_by setting bytes d b1 f op a ≡ outcomes_by setting bytes d b2 g op a
  unfolding lookaround_matcher
  outcomes-same accept fits = refl
  outcomes-same fail fits = refl
  outcomes-same (part t next) fits =
      flat_map-same (IsReached bytes d a.state) _ _ (steps setting bytes d t a.state) ((Stays-tree setting bytes d t).reached a.state within)
      (λ to is. agree (reach next a to) (below-reach width (length bytes) d a pc_in within next to fits.1 is.inside is.onward))
  outcomes-same (split first second) fits = ap₂ ◌++◌ (here (goto first a) fits.0 refl refl) (here (goto second a) fits.1 refl refl)
  outcomes-same (begin_loop greedy body next) fits =
      either-same greedy (enter body a) (goto next a) (agree (enter body a) (below-enter width (length bytes) d a pc_in within body fits.0))
      (here (goto next a) fits.1 refl refl)
  outcomes-same (repeat greedy body next) fits =
      advanced-same a.moved _ _ (λ m. either-same greedy (enter body a) (goto next a)
      (agree (enter body a) (below-again width (length bytes) d a pc_in within body fits.0 m)) (here (goto next a) fits.1 refl refl))
  outcomes-same (end_loop next) fits = advanced-same a.moved _ _ (λ m. here (goto next a) fits refl refl)
  outcomes-same (unsets start end next) fits = here _ fits refl refl
  outcomes-same (begin_group next) fits = here _ fits refl refl
  outcomes-same (end_group id next) fits = ended-same id next fits a.begins
  outcomes-same (look negate i next) fits =
      flat_map-same (IsAt a.state.position) _ _ (looked negate a.state (b1 i a.state)) (looked-stays negate a.state (b1 i a.state))
      (λ to is. here (reach next a to) fits.1 (reach-moved width (length bytes) d a pc_in within next to is) is)
      ∙ ap (λ xs. flat_map (λ to. g (reach next a to)) (looked negate a.state xs)) (bodies i fits.0)
