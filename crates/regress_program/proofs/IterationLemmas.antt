-- The instructions of a loop, as outcomes of its optional iterations.
use Rattle.std.proofs.Common.{◌≡◌, ℕ, zero, suc, ◌+◌, ◌≤◌, ◌<◌, inl, inr, ◌==◌, Bool, true, false, not, ◌||◌, List, [], ◌∷◌, ◌++◌, length, filter, flat_map, All, refl, sym, ap, ap₂, ◌∙◌, append-nil, min, arith, if◌then◌else◌}
use Rattle.std.proofs.lemmas.Bool.{eq-eqb, cases_lt, false≢true}
use Rattle.std.proofs.lemmas.List.Concat.{flat_map-append}
use Rattle.std.proofs.lemmas.List.Elements.{All-filter, filter_passes}
use Rattle.regress_tree.specs.Reading.{Direction, forwards, backwards}
use Rattle.regress_tree.specs.Repetition.{moving, up_to}
use Rattle.regress_tree.specs.Steps.{MatchState, Matcher, ◌then_◌}
use Rattle.regress_tree.proofs.lemmas.Outcomes.{flat_map-then}
use Rattle.regress_program.specs.Compiled.{Goes}
use Rattle.regress_program.specs.Iterates.{left, Continues}
use Rattle.regress_program.specs.Program.{At, Out, goto, enter, reach, either}
use Rattle.regress_program.specs.Stays.{IsReached, Stays}
use Rattle.regress_program.proofs.FlowLemmas.{flag-moves, onward-moves, flat_map-agree, reach-same}
use Rattle.regress_program.proofs.lemmas.Onward.{Stays-up_to}

-- ---- the length of the remaining text

left-le : (d : Direction) (bytes : List ℕ) (k : ℕ) → k ≤ length bytes → left d bytes k ≤ length bytes
left-le forwards bytes k le = omega arith
left-le backwards bytes k le = omega arith

left-less : (d : Direction) (bytes : List ℕ) (s t : MatchState) → IsReached bytes d s t → (t.position ≡ s.position → ⊥) →
    left d bytes t.position < left d bytes s.position
left-less forwards bytes s t r ne = omega (arith, ne, r.onward, r.inside)
left-less backwards bytes s t r ne = omega (arith, ne, r.onward)

-- ---- lists of outcomes

not-equal : (i j : ℕ) → (i == j) ≡ false → i ≡ j → ⊥
not-equal i j e same = false≢true (sym e ∙ eq-eqb i j same)

-- a state of which the position is that one is dropped, and any other is kept
chosen : (g : Matcher) (k : ℕ) (t : MatchState) (states rest : List MatchState) (b : Bool) → (t.position == k) ≡ b →
    flat_map g (filter (λ v. not (v.position == k)) states) ≡ rest →
    flat_map g (filter (λ v. not (v.position == k)) (t ∷ states)) ≡ (if t.position == k then [] else g t) ++ rest
chosen g k t states rest true e same = rw e same
chosen g k t states rest false e same = rw e (ap (λ xs. g t ++ xs) same)

moving-later : (g : Matcher) (k : ℕ) (states : List MatchState) →
    flat_map g (filter (λ v. not (v.position == k)) states) ≡ flat_map (λ t. if t.position == k then [] else g t) states
moving-later g k [] = refl
moving-later g k (t ∷ states) = chosen g k t states _ (t.position == k) refl (moving-later g k states)

-- another iteration, or none
both : Bool → List MatchState → MatchState → List MatchState
both greedy more s = if greedy then more ++ s ∷ [] else s ∷ more

up_to-more : (greedy : Bool) (n : ℕ) (F : Matcher) (s : MatchState) →
    up_to greedy (suc n) F s ≡ both greedy (flat_map (up_to greedy n F) (moving F s)) s
unfolding both
up_to-more true n F s = refl
up_to-more false n F s = refl

either-both : (out : Out) (greedy : Bool) (H : Matcher) (body next : At) (more : List MatchState) (s : MatchState) →
    out body ≡ flat_map H more → out next ≡ H s → either out greedy body next ≡ flat_map H (both greedy more s)
unfolding both
either-both out true H body next more s is is' =
    ap₂ ◌++◌ is (is' ∙ sym (append-nil (H s))) ∙ sym (flat_map-append H more (s ∷ []))
either-both out false H body next more s is is' = ap₂ ◌++◌ is' is

-- ---- iterations

module _ (bytes : List ℕ) (d : Direction) (out : Out) where
  pub Continues-less : (greedy : Bool) (F : Matcher) (next last n m m' : ℕ) → m' ≤ m → Continues bytes d out greedy F next last n m →
      Continues bytes d out greedy F next last n m'
  Continues-less greedy F next last n m m' le is =
      record { stuck = is.stuck; continues = λ a in' moved less. is.continues a in' moved (omega (arith, le, less)) }

  module _ (greedy : Bool) (F : Matcher) (stays : Stays bytes d F) (next last body n m : ℕ) (after : Continues bytes d out greedy F next last n m)
      (is : Goes bytes out last body F) where
    -- where one outcome of an iteration leads
    one_iteration : (a : At) (t : MatchState) (b : Bool) → left d bytes a.state.position ≤ m → IsReached bytes d a.state t → (t.position == a.state.position) ≡ b →
        out (reach last (enter body a) t) ≡ (if b then [] else flat_map (λ u. out (reach next a u)) (up_to greedy n F t))
    one_iteration a t true le r e = after.stuck (reach last (enter body a) t) r.inside (ap not e)
    one_iteration a t false le r e =
        let ne = not-equal t.position a.state.position e in
        let here : At = reach last (enter body a) t in
        let less = left-less d bytes a.state t r ne in
        after.continues here r.inside (ap not e) (omega (arith, less, le))
        ∙ flat_map-agree (IsReached bytes d t) (λ u. out (reach next here u)) (λ u. out (reach next a u))
        (λ u r'.
        let other = onward-moves d a.state.position t.position u.position r.onward r'.onward ne in
        let moves : (here.moved || not (u.position == t.position)) ≡ (a.moved || not (u.position == a.state.position)) =
        ap (λ c. c || not (u.position == t.position)) (ap not e) ∙ sym (flag-moves a.moved u.position a.state.position other) in
        ap (λ c. out (record { pc = next; moved = c; state = u; begins = a.begins })) moves)
        (up_to greedy n F t) ((Stays-up_to bytes d F stays greedy n).reached t r.inside)

    -- where an iteration leads
    all_iterations : (a : At) → a.state.position ≤ length bytes → left d bytes a.state.position ≤ m →
        out (enter body a) ≡ flat_map (λ u. out (reach next a u)) (flat_map (up_to greedy n F) (moving F a.state))
    all_iterations a in' le =
        let s = a.state in
        let H : Matcher = λ u. out (reach next a u) in
        let U : Matcher = up_to greedy n F in
        is.goes (enter body a) in'
        ∙ flat_map-agree (IsReached bytes d s) (λ t. out (reach last (enter body a) t)) (λ t. if t.position == s.position then [] else (U then_ H) t)
        (λ t r. one_iteration a t (t.position == s.position) le r refl) (F s) (stays.reached s in')
        ∙ sym (moving-later (U then_ H) s.position (F s))
        ∙ flat_map-then U H (moving F s)

    -- One more iteration, or what follows.
    one_more : (a : At) → a.state.position ≤ length bytes → left d bytes a.state.position ≤ m →
        either out greedy (enter body a) (goto next a) ≡ flat_map (λ u. out (reach next a u)) (up_to greedy (suc n) F a.state)
    one_more a in' le =
        either-both out greedy (λ u. out (reach next a u)) (enter body a) (goto next a) _ a.state (all_iterations a in' le) (sym (reach-same out next a))
        ∙ ap (flat_map (λ u. out (reach next a u))) (sym (up_to-more greedy n F a.state))

    -- the beginning of the loop
    pub Goes-begin : (begin : ℕ) → length bytes ≤ m → ((a : At) → a.state.position ≤ length bytes →
        out (goto begin a) ≡ either out greedy (enter body a) (goto next a)) → Goes bytes out next begin (up_to greedy (suc n) F)
    Goes-begin begin all begins = record {
      goes = λ a in'.
          let le = left-le d bytes a.state.position in' in
          begins a in' ∙ one_more a in' (omega (arith, le, all));
    }

    -- the end of an iteration after which one more is allowed than after the next
    pub Continues-more : (last' : ℕ) → ((a : At) → a.state.position ≤ length bytes →
        out (goto last' a) ≡ (if a.moved then either out greedy (enter body a) (goto next a) else [])) →
        Continues bytes d out greedy F next last' (suc n) (m + 1)
    Continues-more last' repeats = record {
      stuck = λ a in' not_moved. repeats a in' ∙ ap (λ (b : Bool). if b then either out greedy (enter body a) (goto next a) else []) not_moved;
      continues = λ a in' has_moved less.
          repeats a in' ∙ ap (λ (b : Bool). if b then either out greedy (enter body a) (goto next a) else []) has_moved
          ∙ one_more a in' (omega (arith, less));
    }

  -- the end of the last iteration
  pub Continues-last : (greedy : Bool) (F : Matcher) (next last m : ℕ) → ((a : At) → a.state.position ≤ length bytes →
      out (goto last a) ≡ (if a.moved then out (goto next a) else [])) → Continues bytes d out greedy F next last 0 m
  Continues-last greedy F next last m ends = record {
    stuck = λ a in' not_moved. ends a in' ∙ ap (λ (b : Bool). if b then out (goto next a) else []) not_moved;
    continues = λ a in' has_moved less.
        ends a in' ∙ ap (λ (b : Bool). if b then out (goto next a) else []) has_moved
        ∙ sym (append-nil _ ∙ reach-same out next a);
  }

  -- the end of an iteration after which the same iteration may follow
  pub Continues-all : (greedy : Bool) (F : Matcher) → Stays bytes d F → (next last body : ℕ) → Goes bytes out last body F →
      ((a : At) → a.state.position ≤ length bytes →
      out (goto last a) ≡ (if a.moved then either out greedy (enter body a) (goto next a) else [])) →
      (n : ℕ) → Continues bytes d out greedy F next last n n
  Continues-all greedy F stays next last body is repeats zero = record {
    stuck = λ a in' not_moved. repeats a in' ∙ ap (λ (b : Bool). if b then either out greedy (enter body a) (goto next a) else []) not_moved;
    continues = λ a in' has_moved less. absurd (omega (arith, less));
  }
  Continues-all greedy F stays next last body is repeats (suc n) =
      let more : Continues bytes d out greedy F next last (suc n) (n + 1) =
      Continues-more greedy F stays next last body n n (Continues-all greedy F stays next last body is repeats n) is last repeats in
      Continues-less greedy F next last (suc n) (n + 1) (suc n) (omega arith) more

-- ---- a bound that exceeds the remaining text

module _ (bytes : List ℕ) (d : Direction) where
  module _ (F : Matcher) (stays : Stays bytes d F) where
    record IsFurther (s t : MatchState) : Type 0 where
      inside : t.position ≤ length bytes
      less : left d bytes t.position < left d bytes s.position

    further : (s : MatchState) → s.position ≤ length bytes → All (IsFurther s) (moving F s)
    further s in' k e h =
        let r = All-filter (λ t. not (t.position == s.position)) (IsReached bytes d s) (F s) (stays.reached s in') k e h in
        let moves = filter_passes (λ t. not (t.position == s.position)) (F s) k e h in
        record { inside = r.inside; less = left-less d bytes s _ r (λ same. false≢true (sym (ap not (eq-eqb _ s.position same)) ∙ moves)) }

    pub up_to-bound : (greedy : Bool) (n m : ℕ) (s : MatchState) → s.position ≤ length bytes → left d bytes s.position < n → left d bytes s.position < m →
        up_to greedy n F s ≡ up_to greedy m F s
    up_to-bound greedy zero m s in' hn hm = absurd (omega (arith, hn))
    up_to-bound greedy (suc n) zero s in' hn hm = absurd (omega (arith, hm))
    up_to-bound greedy (suc n) (suc m) s in' hn hm =
        up_to-more greedy n F s
        ∙ ap (λ xs. both greedy xs s)
        (flat_map-agree (IsFurther s) (up_to greedy n F) (up_to greedy m F)
        (λ t f. up_to-bound greedy n m t f.inside (omega (arith, hn, f.less)) (omega (arith, hm, f.less)))
        (moving F s) (further s in'))
        ∙ sym (up_to-more greedy m F s)

    -- no more iterations are of use than the text has bytes
    pub up_to-min : (greedy : Bool) (k : ℕ) (s : MatchState) → s.position ≤ length bytes →
        up_to greedy k F s ≡ up_to greedy (min k (length bytes + 1)) F s
    up_to-min greedy k s in' =
        let le = left-le d bytes s.position in' in
        elim (cases_lt k (length bytes + 1)) [
          | inl few ↦ (let same : k ≡ min k (length bytes + 1) = omega (arith, few) in ap (λ (j : ℕ). up_to greedy j F s) same)
          | inr many ↦ up_to-bound greedy k (min k (length bytes + 1)) s in' (omega (arith, many, le)) (omega (arith, many, le))
        ]
