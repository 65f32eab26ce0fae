-- Every program has outcomes.
use Rattle.std.proofs.Common.{◌≡◌, ℕ, zero, suc, ◌≤◌, ◌<◌, List, [], length, take, slice_get, Option, Some, None, refl, sym, ap, subst, arith, not-suc-le-zero}
use Rattle.std.proofs.lemmas.List.{length-take}
use Rattle.regress_tree.specs.Steps.{MatchState, Matcher, Setting}
use Rattle.regress_program.specs.Below.{Below, place_of}
use Rattle.regress_program.specs.Program.{Out, At, Routine, Op, outcomes_at, start, matcher_of, Solves, IsSolution}
use Rattle.regress_program.specs.Shape.{IsRoutine, IsProgram}
use Rattle.regress_program.proofs.lemmas.Below.{outcomes-same}

module _ (setting : Setting) (bytes : List ℕ) where
  -- the outcomes in a routine that are reached within a number of instructions
  run : Routine → (ℕ → Matcher) → ℕ → Out
  run r body_of zero a = []
  run r body_of (suc n) a = outcomes_at setting bytes r.direction body_of (run r body_of n) (slice_get r.ops a.pc) a

  rank : Routine → At → ℕ
  rank r a = place_of (length r.ops) (length bytes) r.direction a

  todo : Routine → (ℕ → Matcher) → Out
  todo r body_of a = run r body_of (suc (rank r a)) a

  module _ (earlier : List Routine) (r : Routine) (is : IsRoutine earlier r) where
    at-same : (b1 b2 : ℕ → Matcher) (f g : Out) (a : At) (o : Option Op) → slice_get r.ops a.pc ≡ o → a.pc < length r.ops → a.state.position ≤ length bytes →
        ((b : At) → Below (length r.ops) (length bytes) r.direction a b → f b ≡ g b) →
        ((i : ℕ) → i < length earlier → b1 i a.state ≡ b2 i a.state) →
        outcomes_at setting bytes r.direction b1 f o a ≡ outcomes_at setting bytes r.direction b2 g o a
    at-same b1 b2 f g a None e lt within agree bodies = refl
    at-same b1 b2 f g a (Some op) e lt within agree bodies =
        outcomes-same setting bytes r.direction (length r.ops) earlier b1 b2 f g a lt within agree bodies op (is.fit a.pc op (omega arith) lt e)

    -- With enough steps more of them change nothing, and other routines matter only inside the text.
    run-same : (b1 b2 : ℕ → Matcher) → ((i : ℕ) (s : MatchState) → i < length earlier → s.position ≤ length bytes → b1 i s ≡ b2 i s) →
        (n m : ℕ) (a : At) → a.pc < length r.ops → a.state.position ≤ length bytes → rank r a < n → rank r a < m → run r b1 n a ≡ run r b2 m a
    unfolding run rank
    run-same b1 b2 bodies zero m a lt within low low' = absurd (not-suc-le-zero low)
    run-same b1 b2 bodies (suc n) zero a lt within low low' = absurd (not-suc-le-zero low')
    run-same b1 b2 bodies (suc n) (suc m) a lt within low low' =
        at-same b1 b2 (run r b1 n) (run r b2 m) a (slice_get r.ops a.pc) refl lt within
        (λ b below. run-same b1 b2 bodies n m b below.pc below.position (omega (arith, below.lower, low)) (omega (arith, below.lower, low')))
        (λ i lt'. bodies i a.state lt' within)

    todo-same : (b1 b2 : ℕ → Matcher) → ((i : ℕ) (s : MatchState) → i < length earlier → s.position ≤ length bytes → b1 i s ≡ b2 i s) →
        (a : At) → a.pc < length r.ops → a.state.position ≤ length bytes → todo r b1 a ≡ todo r b2 a
    unfolding todo
    todo-same b1 b2 bodies a lt within = run-same b1 b2 bodies (suc (rank r a)) (suc (rank r a)) a lt within (omega arith) (omega arith)

    solves : (b1 b2 : ℕ → Matcher) → ((i : ℕ) (s : MatchState) → i < length earlier → s.position ≤ length bytes → b1 i s ≡ b2 i s) →
        Solves setting bytes r.direction b2 (todo r b1) r.ops 0 (length r.ops)
    unfolding todo run rank
    solves b1 b2 bodies a low lt within =
        at-same b1 b2 (run r b1 (rank r a)) (todo r b1) a (slice_get r.ops a.pc) refl lt within
        (λ b below. run-same b1 b1 (λ i s l w. refl) (rank r a) (suc (rank r b)) b below.pc below.position below.lower (omega arith))
        (λ i lt'. bodies i a.state lt' within)

  module _ (program : List Routine) (is_program : IsProgram program) where
    of_routine : Option Routine → (ℕ → Matcher) → Out
    of_routine None body_of a = []
    of_routine (Some r) body_of a = todo r body_of a

    -- the outcomes, where lookarounds are followed to a depth
    solve : ℕ → ℕ → Out
    solve zero i a = []
    solve (suc m) i a = of_routine (slice_get program i) (matcher_of setting bytes program (solve m)) a

    routine-same : (b1 b2 : ℕ → Matcher) (i : ℕ) (s : MatchState) (o : Option Routine) → slice_get program i ≡ o → s.position ≤ length bytes →
        ((j : ℕ) (t : MatchState) → j < length (take i program) → t.position ≤ length bytes → b1 j t ≡ b2 j t) →
        of_routine o b1 (start setting bytes o s) ≡ of_routine o b2 (start setting bytes o s)
    unfolding of_routine
    routine-same b1 b2 i s None e within bodies = refl
    routine-same b1 b2 i s (Some r) e within bodies =
        todo-same (take i program) r (is_program i r e) b1 b2 bodies (start setting bytes (Some r) s) (is_program i r e).entry within

    solve-same : (m n i : ℕ) (s : MatchState) → i < m → i < n → s.position ≤ length bytes →
        matcher_of setting bytes program (solve m) i s ≡ matcher_of setting bytes program (solve n) i s
    unfolding solve
    solve-same zero n i s lt lt' within = absurd (not-suc-le-zero lt)
    solve-same (suc m) zero i s lt lt' within = absurd (not-suc-le-zero lt')
    solve-same (suc m) (suc n) i s lt lt' within =
        routine-same (matcher_of setting bytes program (solve m)) (matcher_of setting bytes program (solve n)) i s (slice_get program i) refl within
        (λ j t lt'' w. solve-same m n j t (omega (arith, lt'', lt, length-take i program)) (omega (arith, lt'', lt', length-take i program)) w)

    pub outcomes : ℕ → Out
    outcomes i = solve (suc i) i

    -- These outcomes solve the equations of the program.
    pub outcomes-solve : IsSolution setting bytes program outcomes
    unfolding outcomes solve of_routine
    outcomes-solve i r is a low lt within =
        let b1 : ℕ → Matcher = matcher_of setting bytes program (solve i) in
        let b2 : ℕ → Matcher = matcher_of setting bytes program outcomes in
        let bodies : (j : ℕ) (s : MatchState) → j < length (take i program) → s.position ≤ length bytes → b1 j s ≡ b2 j s =
        λ j s lt' w. solve-same i (suc j) j s (omega (arith, lt', length-take i program)) (omega arith) w in
        let same : outcomes i ≡ todo r b1 = ap (λ o. of_routine o b1) is in
        subst (λ f. f a ≡ outcomes_at setting bytes r.direction b2 f (slice_get r.ops a.pc) a) (sym same)
        (solves (take i program) r (is_program i r is) b1 b2 bodies a low lt within)
