-- What the states that are evaluated before it determine is defined at every state of a program.
use Rattle.std.proofs.Common.{◌≡◌, ℕ, zero, suc, ◌≤◌, ◌<◌, List, length, take, slice_get, Option, Some, None, refl, sym, ap, subst, arith, not-suc-le-zero}
use Rattle.std.proofs.lemmas.List.{length-take}
use Rattle.regress_tree.specs.Reading.{Direction}
use Rattle.regress_tree.specs.Steps.{MatchState, Setting}
use Rattle.regress_program.specs.Below.{Below, place_of}
use Rattle.regress_program.specs.Program.{At, Routine, Op, start}
use Rattle.regress_program.specs.Shape.{Fits, IsRoutine, IsProgram}

module _ (setting : Setting) (bytes : List ℕ) (X : Type 0) (none : X) where
  -- a value at each state of a routine, and one for each routine by the state at its start
  abbrev pub Values : Type 0
  Values = At → X

  abbrev pub Bodies : Type 0
  Bodies = ℕ → MatchState → X

  abbrev pub bodies_of : List Routine → (ℕ → Values) → Bodies
  bodies_of program values i s = values i (start setting bytes (slice_get program i) s)

  module _ (by : Direction → Bodies → Values → Op → Values) where
    abbrev pub value_at : Direction → Bodies → Values → Option Op → Values
    value_at d body_of f None a = none
    value_at d body_of f (Some op) a = by d body_of f op a

    -- The value at an instruction is determined by those at the states that are evaluated before it.
    abbrev pub IsDetermined : Type 0
    IsDetermined = (d : Direction) (width : ℕ) (earlier : List Routine) (b1 b2 : Bodies) (f g : Values) (a : At) → a.pc < width →
        a.state.position ≤ length bytes → ((b : At) → Below width (length bytes) d a b → f b ≡ g b) →
        ((i : ℕ) → i < length earlier → b1 i a.state ≡ b2 i a.state) → (op : Op) → Fits earlier width a.pc op → by d b1 f op a ≡ by d b2 g op a

    -- the values in a routine, within a number of instructions
    run : Routine → Bodies → ℕ → Values
    run r body_of zero a = none
    run r body_of (suc n) a = value_at r.direction body_of (run r body_of n) (slice_get r.ops a.pc) a

    rank : Routine → At → ℕ
    rank r a = place_of (length r.ops) (length bytes) r.direction a

    todo : Routine → Bodies → Values
    todo r body_of a = run r body_of (suc (rank r a)) a

    module _ (determined : IsDetermined) where
      module _ (earlier : List Routine) (r : Routine) (is : IsRoutine earlier r) where
        at-same : (b1 b2 : Bodies) (f g : Values) (a : At) (o : Option Op) → slice_get r.ops a.pc ≡ o → a.pc < length r.ops → a.state.position ≤ length bytes →
            ((b : At) → Below (length r.ops) (length bytes) r.direction a b → f b ≡ g b) →
            ((i : ℕ) → i < length earlier → b1 i a.state ≡ b2 i a.state) →
            value_at r.direction b1 f o a ≡ value_at r.direction b2 g o a
        at-same b1 b2 f g a None e lt within agree bodies = refl
        at-same b1 b2 f g a (Some op) e lt within agree bodies =
            determined r.direction (length r.ops) earlier b1 b2 f g a lt within agree bodies op (is.fit a.pc op (omega arith) lt e)

        -- With enough steps more of them change nothing, and other routines matter only inside the text.
        run-same : (b1 b2 : Bodies) → ((i : ℕ) (s : MatchState) → i < length earlier → s.position ≤ length bytes → b1 i s ≡ b2 i s) →
            (n m : ℕ) (a : At) → a.pc < length r.ops → a.state.position ≤ length bytes → rank r a < n → rank r a < m → run r b1 n a ≡ run r b2 m a
        unfolding run rank
        run-same b1 b2 bodies zero m a lt within low low' = absurd (not-suc-le-zero low)
        run-same b1 b2 bodies (suc n) zero a lt within low low' = absurd (not-suc-le-zero low')
        run-same b1 b2 bodies (suc n) (suc m) a lt within low low' =
            at-same b1 b2 (run r b1 n) (run r b2 m) a (slice_get r.ops a.pc) refl lt within
            (λ b below. run-same b1 b2 bodies n m b below.pc below.position (omega (arith, below.lower, low)) (omega (arith, below.lower, low')))
            (λ i lt'. bodies i a.state lt' within)

        todo-same : (b1 b2 : Bodies) → ((i : ℕ) (s : MatchState) → i < length earlier → s.position ≤ length bytes → b1 i s ≡ b2 i s) →
            (a : At) → a.pc < length r.ops → a.state.position ≤ length bytes → todo r b1 a ≡ todo r b2 a
        unfolding todo
        todo-same b1 b2 bodies a lt within = run-same b1 b2 bodies (suc (rank r a)) (suc (rank r a)) a lt within (omega arith) (omega arith)

        solves : (b1 b2 : Bodies) → ((i : ℕ) (s : MatchState) → i < length earlier → s.position ≤ length bytes → b1 i s ≡ b2 i s) →
            (a : At) → a.pc < length r.ops → a.state.position ≤ length bytes →
            todo r b1 a ≡ value_at r.direction b2 (todo r b1) (slice_get r.ops a.pc) a
        unfolding todo run rank
        solves b1 b2 bodies a lt within =
            at-same b1 b2 (run r b1 (rank r a)) (todo r b1) a (slice_get r.ops a.pc) refl lt within
            (λ b below. run-same b1 b1 (λ i s l w. refl) (rank r a) (suc (rank r b)) b below.pc below.position below.lower (omega arith))
            (λ i lt'. bodies i a.state lt' within)

      module _ (program : List Routine) (is_program : IsProgram program) where
        of_routine : Option Routine → Bodies → Values
        of_routine None body_of a = none
        of_routine (Some r) body_of a = todo r body_of a

        -- the values, where lookarounds are followed to a depth
        solve : ℕ → ℕ → Values
        solve zero i a = none
        solve (suc m) i a = of_routine (slice_get program i) (bodies_of program (solve m)) a

        routine-same : (b1 b2 : Bodies) (i : ℕ) (s : MatchState) (o : Option Routine) → slice_get program i ≡ o → s.position ≤ length bytes →
            ((j : ℕ) (t : MatchState) → j < length (take i program) → t.position ≤ length bytes → b1 j t ≡ b2 j t) →
            of_routine o b1 (start setting bytes o s) ≡ of_routine o b2 (start setting bytes o s)
        unfolding of_routine
        routine-same b1 b2 i s None e within bodies = refl
        routine-same b1 b2 i s (Some r) e within bodies =
            todo-same (take i program) r (is_program i r e) b1 b2 bodies (start setting bytes (Some r) s) (is_program i r e).entry within

        solve-same : (m n i : ℕ) (s : MatchState) → i < m → i < n → s.position ≤ length bytes →
            bodies_of program (solve m) i s ≡ bodies_of program (solve n) i s
        unfolding solve
        solve-same zero n i s lt lt' within = absurd (not-suc-le-zero lt)
        solve-same (suc m) zero i s lt lt' within = absurd (not-suc-le-zero lt')
        solve-same (suc m) (suc n) i s lt lt' within =
            routine-same (bodies_of program (solve m)) (bodies_of program (solve n)) i s (slice_get program i) refl within
            (λ j t lt'' w. solve-same m n j t (omega (arith, lt'', lt, length-take i program)) (omega (arith, lt'', lt', length-take i program)) w)

        pub values : ℕ → Values
        values i = solve (suc i) i

        -- These values solve the equations of the program.
        pub values-solve : (i : ℕ) (r : Routine) → slice_get program i ≡ Some r → (a : At) → a.pc < length r.ops → a.state.position ≤ length bytes →
            values i a ≡ value_at r.direction (bodies_of program values) (values i) (slice_get r.ops a.pc) a
        unfolding values solve of_routine
        values-solve i r is a lt within =
            let b1 : Bodies = bodies_of program (solve i) in
            let b2 : Bodies = bodies_of program values in
            let bodies : (j : ℕ) (s : MatchState) → j < length (take i program) → s.position ≤ length bytes → b1 j s ≡ b2 j s =
            λ j s lt' w. solve-same i (suc j) j s (omega (arith, lt', length-take i program)) (omega arith) w in
            let same : values i ≡ todo r b1 = ap (λ o. of_routine o b1) is in
            subst (λ f. f a ≡ value_at r.direction b2 f (slice_get r.ops a.pc) a) (sym same)
            (solves (take i program) r (is_program i r is) b1 b2 bodies a lt within)
