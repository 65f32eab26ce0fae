-- A routine changes no other groups than those of its range.
use Rattle.std.proofs.Common.{◌≡◌, ℕ, zero, suc, ◌≤◌, ◌<◌, Bool, true, false, nat_lt, List, [], ◌∷◌, length, take, slice_get, slice_index_or, Option, Some, None, All, if◌then◌else◌, refl, sym, subst, arith, not-suc-le-zero, inl, inr}
use Rattle.std.proofs.lemmas.List.{length-take}
use Rattle.std.proofs.lemmas.List.Elements.{All-nil, All-cons, All-head, All-append, All-weaker}
use Rattle.std.proofs.lemmas.Option.{slice_get_cases}
use Rattle.regress_tree.specs.Lookaround.{looked, lookaround_matcher}
use Rattle.regress_tree.specs.Matching.{steps}
use Rattle.regress_tree.specs.Reading.{Direction}
use Rattle.regress_tree.specs.Repetition.{unset_from}
use Rattle.regress_tree.specs.Steps.{MatchState, Matcher, Setting}
use Rattle.regress_program.specs.declared.ranges.GroupRange.{GroupRange}
use Rattle.regress_program.specs.Below.{Below, place_of}
use Rattle.regress_program.specs.Isolated.{Captures}
use Rattle.regress_program.specs.Program.{Out, At, Routine, Op, accept, fail, part, split, begin_loop, repeat, end_loop, unsets, begin_group, end_group, look, goto, enter, reach, either, ended, outcomes_by, outcomes_at, start, matcher_of, IsSolution}
use Rattle.regress_program.specs.Ranges.{no_groups, IsIn, changed_by, ranges_of}
use Rattle.regress_program.specs.Shape.{Fits, IsProgram}
use Rattle.regress_program.specs.Stays.{IsReached}
use Rattle.regress_program.proofs.lemmas.Onward.{Stays-tree}
use Rattle.regress_program.proofs.lemmas.Below.{IsAt, looked-stays, below-here, below-enter, below-again, below-reach, reach-moved}
use Rattle.regress_program.proofs.CaptureLemmas.{SameIn, SameIn-refl, SameIn-then, SameIn-unset_outside, SameIn-set_outside}
use Rattle.regress_program.proofs.ChangedLemmas.{changed-in}
use Rattle.regress_program.proofs.KeepLemmas.{Has, flat_map-all, part-keeps}

-- No group in R is in the range.
abbrev pub Spares : (R : ℕ → Type 0) → GroupRange → Type 0
Spares R range = (id : ℕ) → R id → IsIn range id → ⊥

-- The state t has the captures cs of the groups in R.
abbrev pub KeepsIn : (R : ℕ → Type 0) → Captures → MatchState → Type 0
KeepsIn R cs t = SameIn R cs t.captures

module _ (R : ℕ → Type 0) where
  one_keeps : (cs : Captures) (t : MatchState) → SameIn R cs t.captures → All (KeepsIn R cs) (t ∷ [])
  one_keeps cs t is = All-cons (KeepsIn R cs) t [] is (All-nil (KeepsIn R cs))

  keeps-from : (cs ds : Captures) (states : List MatchState) → SameIn R cs ds → All (KeepsIn R ds) states → All (KeepsIn R cs) states
  keeps-from cs ds states first all =
      All-weaker (KeepsIn R ds) (KeepsIn R cs) (λ t h. SameIn-then R cs ds t.captures first h) states all

  looked-keeps : (negate : Bool) (s : MatchState) (states : List MatchState) → (negate ≡ false → All (KeepsIn R s.captures) states) →
      All (KeepsIn R s.captures) (looked negate s states)
  looked-keeps true s [] all = one_keeps s.captures s (SameIn-refl R s.captures)
  looked-keeps true s (t ∷ ts) all = All-nil (KeepsIn R s.captures)
  looked-keeps false s [] all = All-nil (KeepsIn R s.captures)
  looked-keeps false s (t ∷ ts) all =
      one_keeps s.captures (record t { position = s.position }) (All-head (KeepsIn R s.captures) t ts (all refl))

  -- an instruction spares the groups in R, so it keeps their captures
  unsets-keep : (ranges : List GroupRange) (start' end next : ℕ) (cs : Captures) → Spares R (changed_by ranges (unsets start' end next)) →
      SameIn R cs (unset_from 0 start' end cs)
  unsets-keep ranges start' end next cs spares =
      SameIn-unset_outside R start' end cs (λ id is le lt. by id is le lt (nat_lt start' end) refl)
    where
      by : (id : ℕ) → R id → start' ≤ id → id < end → (b : Bool) → nat_lt start' end ≡ b → ⊥
      by id is le lt true e =
          spares id is (subst (λ (x : Bool). IsIn (if x then record { start = start'; end = end } else no_groups) id) (sym e) (le, lt))
      by id is le lt false e = grind arith

  module _ (setting : Setting) (bytes : List ℕ) (d : Direction) (width : ℕ) (ranges : List GroupRange) (earlier : List Routine) (body_of : ℕ → Matcher)
      (out : Out) (a : At) (pc_in : a.pc < width) (within : a.state.position ≤ length bytes)
      (below : (b : At) → Below width (length bytes) d a b → All (KeepsIn R b.state.captures) (out b))
      (bodies : (i : ℕ) → i < length earlier → Spares R (slice_index_or ranges i no_groups) → All (KeepsIn R a.state.captures) (body_of i a.state)) where
    abbrev Kept : List MatchState → Type 0
    Kept = All (KeepsIn R a.state.captures)

    on : (b : At) → SameIn R a.state.captures b.state.captures → Below width (length bytes) d a b → Kept (out b)
    on b is lower = keeps-from a.state.captures b.state.captures (out b) is (below b lower)

    here : (b : At) → b.pc < a.pc → b.moved ≡ a.moved → b.state.position ≡ a.state.position → SameIn R a.state.captures b.state.captures → Kept (out b)
    here b lt m p is = on b is (below-here width (length bytes) d a pc_in within b lt m p)

    same : SameIn R a.state.captures a.state.captures
    same = SameIn-refl R a.state.captures

    either-keeps : (greedy : Bool) (b c : At) → Kept (out b) → Kept (out c) → Kept (either out greedy b c)
    either-keeps true b c one two = All-append (KeepsIn R a.state.captures) (out b) (out c) one two
    either-keeps false b c one two = All-append (KeepsIn R a.state.captures) (out c) (out b) two one

    advanced-keeps : (b : Bool) (xs : List MatchState) → (b ≡ true → Kept xs) → Kept (if b then xs else [])
    advanced-keeps true xs all = all refl
    advanced-keeps false xs all = All-nil (KeepsIn R a.state.captures)

    ended-keeps : (id next : ℕ) → next < a.pc → (R id → ⊥) → (begins : List ℕ) → Kept (out (ended id next a begins))
    ended-keeps id next lt other [] = here (ended id next a []) lt refl refl (SameIn-set_outside R id _ a.state.captures other)
    ended-keeps id next lt other (k ∷ ks) = here (ended id next a (k ∷ ks)) lt refl refl (SameIn-set_outside R id _ a.state.captures other)

    look-keeps : (negate : Bool) (i next : ℕ) → i < length earlier → next < a.pc → Spares R (changed_by ranges (look negate i next)) →
        All (KeepsIn R a.state.captures) (looked negate a.state (body_of i a.state))
    look-keeps true i next earlier' lt spares = looked-keeps true a.state (body_of i a.state) (λ e. cc)
    look-keeps false i next earlier' lt spares = looked-keeps false a.state (body_of i a.state) (λ e. bodies i earlier' spares)

    -- The outcomes of an instruction keep the captures if those of the states that are evaluated before it do.
    op-keeps : (op : Op) → Fits earlier width a.pc op → Spares R (changed_by ranges op) → Kept (outcomes_by setting bytes d body_of out op a)
    unfolding lookaround_matcher
    op-keeps accept fits spares = one_keeps a.state.captures a.state same
    op-keeps fail fits spares = All-nil (KeepsIn R a.state.captures)
    op-keeps (part t next) fits spares =
        flat_map-all (IsReached bytes d a.state) (Has a.state.captures) (KeepsIn R a.state.captures) (λ to. out (reach next a to)) (steps setting bytes d t a.state)
        ((Stays-tree setting bytes d t).reached a.state within) (part-keeps setting bytes d t fits.0 a.state)
        (λ to is has. on (reach next a to) (subst (SameIn R a.state.captures) (sym has) same)
        (below-reach width (length bytes) d a pc_in within next to fits.1 is.inside is.onward))
    op-keeps (split first second) fits spares =
        All-append (KeepsIn R a.state.captures) (out (goto first a)) (out (goto second a)) (here (goto first a) fits.0 refl refl same)
        (here (goto second a) fits.1 refl refl same)
    op-keeps (begin_loop greedy body next) fits spares =
        either-keeps greedy (enter body a) (goto next a) (on (enter body a) same (below-enter width (length bytes) d a pc_in within body fits.0))
        (here (goto next a) fits.1 refl refl same)
    op-keeps (repeat greedy body next) fits spares =
        advanced-keeps a.moved _ (λ m. either-keeps greedy (enter body a) (goto next a)
        (on (enter body a) same (below-again width (length bytes) d a pc_in within body fits.0 m)) (here (goto next a) fits.1 refl refl same))
    op-keeps (end_loop next) fits spares = advanced-keeps a.moved _ (λ m. here (goto next a) fits refl refl same)
    op-keeps (unsets start' end next) fits spares = here _ fits refl refl (unsets-keep ranges start' end next a.state.captures spares)
    op-keeps (begin_group next) fits spares = here _ fits refl refl same
    op-keeps (end_group id next) fits spares = ended-keeps id next fits (λ is. spares id is (omega arith, omega arith)) a.begins
    op-keeps (look negate i next) fits spares =
        let states = body_of i a.state in
        flat_map-all (IsAt a.state.position) (KeepsIn R a.state.captures) (KeepsIn R a.state.captures) (λ to. out (reach next a to))
        (looked negate a.state states) (looked-stays negate a.state states) (look-keeps negate i next fits.0 fits.1 spares)
        (λ to is has. here (reach next a to) fits.1 (reach-moved width (length bytes) d a pc_in within next to is) is has)

    at-keeps : (o : Option Op) → ((op : Op) → o ≡ Some op → Fits earlier width a.pc op) →
        ((op : Op) → o ≡ Some op → Spares R (changed_by ranges op)) → Kept (outcomes_at setting bytes d body_of out o a)
    at-keeps None fits spares = All-nil (KeepsIn R a.state.captures)
    at-keeps (Some op) fits spares = op-keeps op (fits op refl) (spares op refl)

  module _ (setting : Setting) (bytes : List ℕ) (program : List Routine) (is_program : IsProgram program) (outs : ℕ → Out)
      (solution : IsSolution setting bytes program outs) where
    abbrev range_at : ℕ → GroupRange
    range_at i = slice_index_or (ranges_of program) i no_groups

    -- The routines before n keep the captures of the groups in R, if their ranges spare these.
    abbrev Bodies : ℕ → Type 0
    Bodies n = (j : ℕ) (r : Routine) (s : MatchState) → j < n → slice_get program j ≡ Some r → Spares R (range_at j) →
        s.position ≤ length bytes → All (KeepsIn R s.captures) (matcher_of setting bytes program outs j s)

    body-keeps : (n : ℕ) → Bodies n → (j : ℕ) (s : MatchState) → j < length (take n program) → Spares R (range_at j) →
        s.position ≤ length bytes → All (KeepsIn R s.captures) (matcher_of setting bytes program outs j s)
    body-keeps n bodies j s lt spares within =
        elim ((slice_get_cases program j).1) [
          | inl found ↦ bodies j found.0 s (omega (arith, lt, length-take n program)) found.2 spares within
          | inr past ↦ absurd (omega (arith, past.0, lt, length-take n program))
        ]

    routine-keeps : (i : ℕ) (r : Routine) → slice_get program i ≡ Some r → Spares R (range_at i) → Bodies i → (n : ℕ) (a : At) →
        a.pc < length r.ops → a.state.position ≤ length bytes → place_of (length r.ops) (length bytes) r.direction a < n →
        All (KeepsIn R a.state.captures) (outs i a)
    routine-keeps i r is spares bodies zero a lt within low = absurd (not-suc-le-zero low)
    routine-keeps i r is spares bodies (suc n) a lt within low =
        subst (All (KeepsIn R a.state.captures)) (sym (solution i r is a (omega arith) lt within))
        (at-keeps setting bytes r.direction (length r.ops) (ranges_of program) (take i program) (matcher_of setting bytes program outs) (outs i) a lt within
        (λ b below. routine-keeps i r is spares bodies n b below.pc below.position (omega (arith, below.lower, low)))
        (λ j earlier spares'. body-keeps i bodies j a.state earlier spares' within) (slice_get r.ops a.pc)
        (λ op e. (is_program i r is).fit a.pc op (omega arith) lt e)
        (λ op e id in_R changed. spares id in_R (changed-in program is_program i r is a.pc op lt e id changed)))

    -- where lookarounds are nested to a depth
    bodies-keep : (n : ℕ) → Bodies n
    bodies-keep zero j r s lt is spares within = absurd (not-suc-le-zero lt)
    bodies-keep (suc n) j r s lt is spares within =
        subst (λ o. All (KeepsIn R s.captures) (outs j (start setting bytes o s))) (sym is)
        (routine-keeps j r is spares (λ k q t lt' is' spares' w. bodies-keep n k q t (omega (arith, lt, lt')) is' spares' w)
        (suc (place_of (length r.ops) (length bytes) r.direction (start setting bytes (Some r) s)))
        (start setting bytes (Some r) s) (is_program j r is).entry within (omega arith))

    -- The outcomes of a whole routine whose range spares R keep the captures of the groups in R.
    pub local-matcher : (i : ℕ) (r : Routine) → slice_get program i ≡ Some r → Spares R (range_at i) → (s : MatchState) →
        s.position ≤ length bytes → All (KeepsIn R s.captures) (matcher_of setting bytes program outs i s)
    local-matcher i r is spares s within = bodies-keep (suc i) i r s (omega arith) is spares within
