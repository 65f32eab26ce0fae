-- What an instruction's bit is, by the bits that it reads.
use Rattle.std.proofs.Common.{◌≡◌, ℕ, ◌≤◌, ◌<◌, ◌==◌, Bool, true, false, not, ◌&&◌, ◌||◌, List, [], ◌∷◌, ◌++◌, flat_map, if◌then◌else◌, refl, ap, ap₂, ◌∙◌, append-nil, arith}
use Rattle.std.proofs.Math.Bool.{beq}
use Rattle.regress_tree.specs.Lookaround.{looked, lookaround_matcher}
use Rattle.regress_tree.specs.Reading.{direction_if}
use Rattle.regress_tree.specs.Steps.{MatchState, Matcher}
use Rattle.regress_program.specs.Below.{row_of}
use Rattle.regress_program.specs.Program.{Out, At, goto, enter, reach, either, ended}
use Rattle.regress_tables.specs.declared.table.Table.{Table}
use Rattle.regress_tables.specs.Table.{has_outcome, Tells, TellsOf, index, cell, IsRight, IsNext}
use Rattle.regress_program.proofs.lemmas.Places.{place-earlier, place-begins, place-enters, place-row}

pub has-append : (xs ys : List MatchState) → has_outcome (xs ++ ys) ≡ (has_outcome xs || has_outcome ys)
has-append [] ys = refl
has-append (x ∷ xs) ys = refl

module _ (out : Out) (t : Table) (right : IsRight out t) (pc : ℕ) (moved : Bool) (position : ℕ) (next : IsNext t pc moved position) where
  -- the bits that may be read
  pub tells-earlier : (pc' : ℕ) → pc' < pc → Tells out pc' moved position (cell t pc' moved position)
  tells-earlier pc' lt =
      right.tells pc' moved position (omega (arith, next.pc_in, lt)) next.position_in
      (omega (arith, next.at, place-earlier t.width t.length (direction_if t.backwards) pc pc' moved position lt))

  pub tells-begins : (pc' : ℕ) → pc' < t.width → moved ≡ true → Tells out pc' false position (cell t pc' false position)
  tells-begins pc' lt is =
      right.tells pc' false position lt next.position_in
      (omega (arith, next.at, place-begins t.width t.length (direction_if t.backwards) pc pc' position lt, ap (λ m. index t pc m position) is))

  pub tells-enters : (pc' : ℕ) → pc' < pc → Tells out pc' false position (cell t pc' false position)
  tells-enters pc' lt =
      right.tells pc' false position (omega (arith, next.pc_in, lt)) next.position_in
      (omega (arith, next.at, place-enters t.width t.length (direction_if t.backwards) pc pc' moved position lt))

  pub tells-row : (pc' : ℕ) (moved' : Bool) (position' : ℕ) → pc' < t.width → position' ≤ t.length →
      row_of (direction_if t.backwards) t.length position' < row_of (direction_if t.backwards) t.length position →
      Tells out pc' moved' position' (cell t pc' moved' position')
  tells-row pc' moved' position' lt within before =
      right.tells pc' moved' position' lt within
      (omega (arith, next.at, place-row t.width t.length (direction_if t.backwards) pc pc' moved moved' position position' lt before))

-- ---- the kinds of instructions

module _ (out : Out) (moved : Bool) (position : ℕ) where
  pub split_tells : (first second : ℕ) (b c : Bool) → Tells out first moved position b → Tells out second moved position c →
      TellsOf (λ a. out (goto first a) ++ out (goto second a)) moved position (b || c)
  split_tells first second b c one two a m p = has-append _ _ ∙ ap₂ ◌||◌ (one (goto first a) refl m p) (two (goto second a) refl m p)

  or_swapped : (b c : Bool) → (b || c) ≡ (c || b)
  or_swapped true true = refl
  or_swapped true false = refl
  or_swapped false true = refl
  or_swapped false false = refl

  pub either_tells : (greedy : Bool) (body next : ℕ) (b c : Bool) → Tells out body false position b → Tells out next moved position c →
      TellsOf (λ a. either out greedy (enter body a) (goto next a)) moved position (b || c)
  either_tells true body next b c one two a m p = has-append _ _ ∙ ap₂ ◌||◌ (one (enter body a) refl refl p) (two (goto next a) refl m p)
  either_tells false body next b c one two a m p =
      has-append _ _ ∙ ap₂ ◌||◌ (two (goto next a) refl m p) (one (enter body a) refl refl p) ∙ or_swapped c b

  -- the outcomes, if the iteration has advanced
  pub advanced_tells : (f : Out) (b : Bool) → (moved ≡ true → TellsOf f true position b) →
      TellsOf (λ a. if a.moved then f a else []) moved position (moved && b)
  advanced_tells f b tells a m p = by moved m tells
    where
      by : (m' : Bool) → a.moved ≡ m' → (m' ≡ true → TellsOf f true position b) → has_outcome (if a.moved then f a else []) ≡ (m' && b)
      by true e h = ap (λ (x : Bool). has_outcome (if x then f a else [])) e ∙ h refl a e p
      by false e h = ap (λ (x : Bool). has_outcome (if x then f a else [])) e

  has-one : (f : MatchState → List MatchState) (states : List MatchState) (s : MatchState) → states ≡ s ∷ [] → has_outcome (flat_map f states) ≡ has_outcome (f s)
  has-one f states s is = ap (λ xs. has_outcome (flat_map f xs)) is ∙ ap has_outcome (append-nil (f s))

  -- a part that has no outcome, and one that has one
  pub none_tells : (next : ℕ) (f : Matcher) → ((s : MatchState) → s.position ≡ position → f s ≡ []) →
      TellsOf (λ a. flat_map (λ to. out (reach next a to)) (f a.state)) moved position false
  none_tells next f none a m p = ap (λ xs. has_outcome (flat_map (λ to. out (reach next a to)) xs)) (none a.state p)

  pub one_tells : (next : ℕ) (f : Matcher) (q : ℕ) (b : Bool) → ((s : MatchState) → s.position ≡ position → f s ≡ record s { position = q } ∷ []) →
      Tells out next (moved || not (q == position)) q b → TellsOf (λ a. flat_map (λ to. out (reach next a to)) (f a.state)) moved position b
  one_tells next f q b goes tells a m p =
      has-one (λ to. out (reach next a to)) (f a.state) (record a.state { position = q }) (goes a.state p)
      ∙ tells (reach next a (record a.state { position = q })) refl (ap₂ (λ x y. x || not (q == y)) m p) refl

  same_position : (k : ℕ) → (k == k) ≡ true
  same_position k = grind arith

  or_false : (b : Bool) → (b || false) ≡ b
  or_false true = refl
  or_false false = refl

  stays : (next : ℕ) (a : At) (s : MatchState) → s.position ≡ a.state.position → (reach next a s).moved ≡ a.moved
  stays next a s is = ap (λ k. a.moved || not (k == a.state.position)) is ∙ ap (λ b. a.moved || not b) (same_position a.state.position) ∙ or_false a.moved

  -- a lookaround, by whether its body has an outcome
  pub looked_tells : (negate : Bool) (next : ℕ) (f : Matcher) (b c : Bool) → ((s : MatchState) → s.position ≡ position → has_outcome (f s) ≡ b) →
      Tells out next moved position c →
      TellsOf (λ a. flat_map (λ to. out (reach next a to)) (lookaround_matcher negate f a.state)) moved position (not (beq b negate) && c)
  unfolding lookaround_matcher
  looked_tells negate next f b c body tells a m p = by negate (f a.state) b (body a.state p)
    where
      goes : (s : MatchState) → s.position ≡ a.state.position → has_outcome (flat_map (λ to. out (reach next a to)) (s ∷ [])) ≡ c
      goes s is = ap has_outcome (append-nil (out (reach next a s))) ∙ tells (reach next a s) refl (stays next a s is ∙ m) (is ∙ p)

      by : (n : Bool) (states : List MatchState) (x : Bool) → has_outcome states ≡ x →
          has_outcome (flat_map (λ to. out (reach next a to)) (looked n a.state states)) ≡ (not (beq x n) && c)
      by true [] true is = cc
      by true [] false is = goes a.state refl
      by true (s ∷ ss) true is = refl
      by true (s ∷ ss) false is = cc
      by false [] true is = cc
      by false [] false is = refl
      by false (s ∷ ss) true is = goes (record s { position = a.state.position }) refl
      by false (s ∷ ss) false is = cc

  pub group_tells : (id next : ℕ) (b : Bool) → Tells out next moved position b → TellsOf (λ a. out (ended id next a a.begins)) moved position b
  group_tells id next b tells a m p = by a.begins
    where
      by : (begins : List ℕ) → has_outcome (out (ended id next a begins)) ≡ b
      by [] = tells (ended id next a []) refl m p
      by (k ∷ ks) = tells (ended id next a (k ∷ ks)) refl m p
