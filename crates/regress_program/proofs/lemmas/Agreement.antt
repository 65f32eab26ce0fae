-- What a routine does to some groups depends on the position and on the captures of these groups alone.
use Rattle.std.proofs.Common.{◌≡◌, ℕ, zero, suc, ◌≤◌, ◌<◌, Bool, true, false, List, [], ◌∷◌, ◌++◌, flat_map, length, take, slice_get, slice_index_or, Option, Some, None, All, if◌then◌else◌, refl, sym, ap, ◌∙◌, subst, append-nil, arith, not-suc-le-zero, inl, inr}
use Rattle.std.proofs.lemmas.List.{length-replicate, length-take}
use Rattle.std.proofs.lemmas.List.Elements.{All-head}
use Rattle.std.proofs.lemmas.Option.{slice_get_cases}
use Rattle.regress_tree.specs.Lookaround.{looked, lookaround_matcher}
use Rattle.regress_tree.specs.Matching.{steps}
use Rattle.regress_tree.specs.Reading.{Direction}
use Rattle.regress_tree.specs.Steps.{MatchState, Matcher, Setting}
use Rattle.regress_tree.specs.Tree.{Tree}
use Rattle.regress_leaves.specs.Leaves.{put}
use Rattle.regress_program.specs.Below.{Below, place_of}
use Rattle.regress_found.specs.Found.{initial_state}
use Rattle.regress_program.specs.Isolated.{Captures, AreUnset, captures_from, first_captures, IsReplaced}
use Rattle.regress_program.specs.Linear.{is_back_reference}
use Rattle.regress_program.specs.Program.{Out, At, Routine, Op, accept, fail, part, split, begin_loop, repeat, end_loop, unsets, begin_group, end_group, look, goto, enter, reach, either, ended, outcomes_by, outcomes_at, start, matcher_of, IsSolution}
use Rattle.regress_program.specs.Ranges.{IsIn, ranges_of, no_groups as empty_range}
use Rattle.regress_program.specs.Shape.{Fits, IsProgram}
use Rattle.regress_program.specs.Tidy.{has_no_back_reference}
use Rattle.regress_program.proofs.lemmas.Onward.{Stays-tree, reached-one}
use Rattle.regress_program.proofs.lemmas.Below.{below-here, below-enter, below-again, below-reach, reach-moved}
use Rattle.regress_program.proofs.CaptureLemmas.{SameIn, SameIn-unset, SameIn-set, capture-none}
use Rattle.regress_program.proofs.lemmas.Instructions.{no_reference-at}
use Rattle.regress_program.proofs.LocalLemmas.{KeepsIn, local-matcher}
use Rattle.regress_program.proofs.PutLemmas.{puts-part}

-- The states have the same position, and the same captures of the groups in R.
pub record Agree (R : ℕ → Type 0) (s t : MatchState) : Type 0 where
  pub position : t.position ≡ s.position
  pub captures : SameIn R s.captures t.captures

-- The outcomes agree one by one.
abbrev pub AgreeAll : (R : ℕ → Type 0) → (ss ts : List MatchState) → Type 0
AgreeAll R [] [] = Unit {0}
AgreeAll R [] (t ∷ ts) = ⊥
AgreeAll R (s ∷ ss) [] = ⊥
AgreeAll R (s ∷ ss) (t ∷ ts) = Agree R s t × AgreeAll R ss ts

-- the state with other captures
abbrev with_captures : Captures → At → At
with_captures cs a = record a { state = record { position = a.state.position; captures = cs } }

module _ (R : ℕ → Type 0) where
  agree-one : (s t : MatchState) → t.position ≡ s.position → SameIn R s.captures t.captures → AgreeAll R (s ∷ []) (t ∷ [])
  agree-one s t p same = (record { position = p; captures = same }, tt)

  agree-append : (ss ts ss' ts' : List MatchState) → AgreeAll R ss ts → AgreeAll R ss' ts' → AgreeAll R (ss ++ ss') (ts ++ ts')
  agree-append [] [] ss' ts' one two = two
  agree-append [] (t ∷ ts) ss' ts' one two = absurd one
  agree-append (s ∷ ss) [] ss' ts' one two = absurd one
  agree-append (s ∷ ss) (t ∷ ts) ss' ts' one two = (one.0, agree-append ss ts ss' ts' one.1 two)

  agree-as : (ss ss' ts ts' : List MatchState) → ss ≡ ss' → ts ≡ ts' → AgreeAll R ss' ts' → AgreeAll R ss ts
  agree-as ss ss' ts ts' is is' agree = subst (λ xs. AgreeAll R xs ts) (sym is) (subst (AgreeAll R ss') (sym is') agree)

  module _ (setting : Setting) (bytes : List ℕ) (d : Direction) (width : ℕ) (earlier : List Routine) (body_of : ℕ → Matcher) (out : Out)
      (a : At) (cs : Captures) (pc_in : a.pc < width) (within : a.state.position ≤ length bytes) (same : SameIn R a.state.captures cs)
      (below : (b : At) (ds : Captures) → Below width (length bytes) d a b → SameIn R b.state.captures ds → AgreeAll R (out b) (out (with_captures ds b)))
      (bodies : (i : ℕ) → i < length earlier → AgreeAll R (body_of i a.state) (body_of i (with_captures cs a).state)) where
    -- the same place with the other captures
    abbrev other : At
    other = with_captures cs a

    here : (b : At) (ds : Captures) → b.pc < a.pc → b.moved ≡ a.moved → b.state.position ≡ a.state.position → SameIn R b.state.captures ds →
        AgreeAll R (out b) (out (with_captures ds b))
    here b ds lt m p = below b ds (below-here width (length bytes) d a pc_in within b lt m p)

    either-agrees : (greedy : Bool) (b b' c c' : At) → AgreeAll R (out b) (out b') → AgreeAll R (out c) (out c') →
        AgreeAll R (either out greedy b c) (either out greedy b' c')
    either-agrees true b b' c c' one two = agree-append (out b) (out b') (out c) (out c') one two
    either-agrees false b b' c c' one two = agree-append (out c) (out c') (out b) (out b') two one

    advanced-agrees : (b : Bool) (ss ts : List MatchState) → (b ≡ true → AgreeAll R ss ts) → AgreeAll R (if b then ss else []) (if b then ts else [])
    advanced-agrees true ss ts agree = agree refl
    advanced-agrees false ss ts agree = tt

    ended-agrees : (id next : ℕ) → next < a.pc → (begins : List ℕ) → AgreeAll R (out (ended id next a begins)) (out (ended id next other begins))
    ended-agrees id next lt [] = here (ended id next a []) _ lt refl refl (SameIn-set R id _ a.state.captures cs same)
    ended-agrees id next lt (k ∷ ks) = here (ended id next a (k ∷ ks)) _ lt refl refl (SameIn-set R id _ a.state.captures cs same)

    part-agrees : (t : Tree) (next : ℕ) → next < a.pc → (to : Option ℕ) →
        ((s : MatchState) → s.position ≡ a.state.position → steps setting bytes d t s ≡ put s to) →
        AgreeAll R (flat_map (λ s. out (reach next a s)) (steps setting bytes d t a.state))
        (flat_map (λ s. out (reach next other s)) (steps setting bytes d t other.state))
    part-agrees t next lt None goes =
        agree-as _ [] _ [] (ap (flat_map (λ s. out (reach next a s))) (goes a.state refl))
        (ap (flat_map (λ s. out (reach next other s))) (goes other.state refl)) tt
    part-agrees t next lt (Some q) goes =
        let to = record a.state { position = q } in
        let to' = record other.state { position = q } in
        let on = reached-one bytes d (steps setting bytes d t) a.state.position q (Stays-tree setting bytes d t) within goes in
        agree-as _ (out (reach next a to)) _ (out (reach next other to'))
        (ap (flat_map (λ s. out (reach next a s))) (goes a.state refl) ∙ append-nil (out (reach next a to)))
        (ap (flat_map (λ s. out (reach next other s))) (goes other.state refl) ∙ append-nil (out (reach next other to')))
        (below (reach next a to) cs (below-reach width (length bytes) d a pc_in within next to lt on.0 on.1) same)

    -- after a lookaround
    look-goes : (next : ℕ) (ds es : Captures) → next < a.pc → SameIn R ds es →
        AgreeAll R (out (reach next a (record { position = a.state.position; captures = ds })) ++ [])
        (out (reach next other (record { position = a.state.position; captures = es })) ++ [])
    look-goes next ds es lt is =
        let to : MatchState = record { position = a.state.position; captures = ds } in
        agree-append _ _ [] [] (here (reach next a to) es lt (reach-moved width (length bytes) d a pc_in within next to refl) refl is) tt

    -- Only the first outcome of its body counts, and a negated lookaround keeps the captures.
    look-agrees : (negate : Bool) (next : ℕ) → next < a.pc → (ss ts : List MatchState) → AgreeAll R ss ts →
        AgreeAll R (flat_map (λ s. out (reach next a s)) (looked negate a.state ss))
        (flat_map (λ s. out (reach next other s)) (looked negate other.state ts))
    look-agrees true next lt [] [] agree = look-goes next a.state.captures cs lt same
    look-agrees true next lt (s ∷ ss) (t ∷ ts) agree = tt
    look-agrees false next lt [] [] agree = tt
    look-agrees false next lt (s ∷ ss) (t ∷ ts) agree = look-goes next s.captures t.captures lt agree.0.captures
    look-agrees negate next lt [] (t ∷ ts) agree = absurd agree
    look-agrees negate next lt (s ∷ ss) [] agree = absurd agree

    -- The outcomes of an instruction agree if those of the states that are evaluated before it do.
    op-agrees : (op : Op) → Fits earlier width a.pc op → is_back_reference op ≡ false →
        AgreeAll R (outcomes_by setting bytes d body_of out op a) (outcomes_by setting bytes d body_of out op other)
    unfolding lookaround_matcher
    op-agrees accept fits plain = agree-one a.state other.state refl same
    op-agrees fail fits plain = tt
    op-agrees (part t next) fits plain =
        let puts = puts-part setting bytes d a.state.position t fits.0 plain in part-agrees t next fits.1 puts.to puts.goes
    op-agrees (split first second) fits plain =
        agree-append (out (goto first a)) (out (goto first other)) _ _ (here (goto first a) cs fits.0 refl refl same)
        (here (goto second a) cs fits.1 refl refl same)
    op-agrees (begin_loop greedy body next) fits plain =
        either-agrees greedy (enter body a) (enter body other) (goto next a) (goto next other)
        (below (enter body a) cs (below-enter width (length bytes) d a pc_in within body fits.0) same) (here (goto next a) cs fits.1 refl refl same)
    op-agrees (repeat greedy body next) fits plain =
        advanced-agrees a.moved _ _ (λ m. either-agrees greedy (enter body a) (enter body other) (goto next a) (goto next other)
        (below (enter body a) cs (below-again width (length bytes) d a pc_in within body fits.0 m) same) (here (goto next a) cs fits.1 refl refl same))
    op-agrees (end_loop next) fits plain = advanced-agrees a.moved _ _ (λ m. here (goto next a) cs fits refl refl same)
    op-agrees (unsets start' end next) fits plain = here _ _ fits refl refl (SameIn-unset R start' end a.state.captures cs same)
    op-agrees (begin_group next) fits plain = here _ cs fits refl refl same
    op-agrees (end_group id next) fits plain = ended-agrees id next fits a.begins
    op-agrees (look negate i next) fits plain =
        look-agrees negate next fits.1 (body_of i a.state) (body_of i other.state) (bodies i fits.0)

    at-agrees : (o : Option Op) → ((op : Op) → o ≡ Some op → Fits earlier width a.pc op) →
        ((op : Op) → o ≡ Some op → is_back_reference op ≡ false) →
        AgreeAll R (outcomes_at setting bytes d body_of out o a) (outcomes_at setting bytes d body_of out o other)
    at-agrees None fits plain = tt
    at-agrees (Some op) fits plain = op-agrees op (fits op refl) (plain op refl)

  module _ (setting : Setting) (bytes : List ℕ) (program : List Routine) (is_program : IsProgram program)
      (plain : has_no_back_reference program ≡ true) (outs : ℕ → Out) (solution : IsSolution setting bytes program outs) where
    -- The outcomes of the routines before n agree.
    abbrev AgreeBefore : ℕ → Type 0
    AgreeBefore n = (j : ℕ) (r : Routine) (s t : MatchState) → j < n → slice_get program j ≡ Some r → s.position ≤ length bytes → Agree R s t →
        AgreeAll R (matcher_of setting bytes program outs j s) (matcher_of setting bytes program outs j t)

    body-agrees : (n : ℕ) → AgreeBefore n → (j : ℕ) (s t : MatchState) → j < length (take n program) → s.position ≤ length bytes → Agree R s t →
        AgreeAll R (matcher_of setting bytes program outs j s) (matcher_of setting bytes program outs j t)
    body-agrees n bodies j s t lt within agree =
        elim ((slice_get_cases program j).1) [
          | inl found ↦ bodies j found.0 s t (omega (arith, lt, length-take n program)) found.2 within agree
          | inr past ↦ absurd (omega (arith, past.0, lt, length-take n program))
        ]

    routine-agrees : (i : ℕ) (r : Routine) → slice_get program i ≡ Some r → AgreeBefore i → (n : ℕ) (a : At) (cs : Captures) →
        a.pc < length r.ops → a.state.position ≤ length bytes → place_of (length r.ops) (length bytes) r.direction a < n →
        SameIn R a.state.captures cs → AgreeAll R (outs i a) (outs i (with_captures cs a))
    routine-agrees i r is bodies zero a cs lt within low same = absurd (not-suc-le-zero low)
    routine-agrees i r is bodies (suc n) a cs lt within low same =
        agree-as _ _ _ _ (solution i r is a (omega arith) lt within) (solution i r is (with_captures cs a) (omega arith) lt within)
        (at-agrees setting bytes r.direction (length r.ops) (take i program) (matcher_of setting bytes program outs) (outs i) a cs lt within same
        (λ b ds below. routine-agrees i r is bodies n b ds below.pc below.position (omega (arith, below.lower, low)))
        (λ j earlier. body-agrees i bodies j a.state (with_captures cs a).state earlier within (record { position = refl; captures = same }))
        (slice_get r.ops a.pc) (λ op e. (is_program i r is).fit a.pc op (omega arith) lt e) (λ op e. no_reference-at program i r a.pc op plain is e))

    -- the outcomes from two places that agree
    agrees-at : (i : ℕ) (r : Routine) → slice_get program i ≡ Some r → AgreeBefore i → (pc : ℕ) (moved : Bool) (begins : List ℕ) (s t : MatchState) →
        pc < length r.ops → s.position ≤ length bytes → Agree R s t →
        AgreeAll R (outs i (record { pc = pc; moved = moved; state = s; begins = begins }))
        (outs i (record { pc = pc; moved = moved; state = t; begins = begins }))
    agrees-at i r is bodies pc moved begins s t lt within agree =
        let a : At = record { pc = pc; moved = moved; state = s; begins = begins } in
        subst (λ k. AgreeAll R (outs i a) (outs i (record a { state = record { position = k; captures = t.captures } }))) (sym agree.position)
        (routine-agrees i r is bodies (suc (place_of (length r.ops) (length bytes) r.direction a)) a t.captures lt within (omega arith) agree.captures)

    -- where lookarounds are nested to a depth
    agree-before : (n : ℕ) → AgreeBefore n
    agree-before zero j r s t lt is within agree = absurd (not-suc-le-zero lt)
    agree-before (suc n) j r s t lt is within agree =
        subst (λ o. AgreeAll R (outs j (start setting bytes o s)) (outs j (start setting bytes o t))) (sym is)
        (agrees-at j r is (λ k q u v lt' is' w both. agree-before n k q u v (omega (arith, lt, lt')) is' w both)
        r.entry true [] s t (is_program j r is).entry within agree)

    -- From states that agree, so do the outcomes of a whole routine.
    pub agreement-matcher : (i : ℕ) (r : Routine) → slice_get program i ≡ Some r → (s t : MatchState) → s.position ≤ length bytes → Agree R s t →
        AgreeAll R (matcher_of setting bytes program outs i s) (matcher_of setting bytes program outs i t)
    agreement-matcher i r is s t within agree = agree-before (suc i) i r s t (omega arith) is within agree

  -- the captures of the first outcome
  first-agrees : (o : MatchState) (later ts : List MatchState) → AgreeAll R (o ∷ later) ts → (id : ℕ) → R id →
      slice_index_or o.captures id None ≡ slice_index_or (first_captures ts) id None
  first-agrees o later [] agree id is = absurd agree
  first-agrees o later (t ∷ ts) agree id is = sym (agree.0.captures.same id is)

-- A routine that begins with the groups of its range unset replaces them by those that it sets from there.
pub isolated : (setting : Setting) (bytes : List ℕ) (program : List Routine) → IsProgram program → has_no_back_reference program ≡ true →
    (outs : ℕ → Out) → IsSolution setting bytes program outs → (i : ℕ) (r : Routine) → slice_get program i ≡ Some r →
    (s : MatchState) → s.position ≤ length bytes →
    let range = slice_index_or (ranges_of program) i empty_range in
    AreUnset range s.captures → (o : MatchState) (later : List MatchState) → matcher_of setting bytes program outs i s ≡ o ∷ later →
    IsReplaced range (captures_from setting bytes program outs (length s.captures) i s.position) s.captures o.captures
isolated setting bytes program is_program plain outs solution i r is s within unset o later first =
    let range = slice_index_or (ranges_of program) i empty_range in
    let from = initial_state (length s.captures) s.position in
    let agree : Agree (IsIn range) s from = record {
      position = refl;
      captures = record {
        count = length-replicate (length s.captures) None;
        same = λ id inside. capture-none (length s.captures) id ∙ sym (unset id inside);
      };
    } in
    let both = agreement-matcher (IsIn range) setting bytes program is_program plain outs solution i r is s from within agree in
    let outside : ℕ → Type 0 = λ id. IsIn range id → ⊥ in
    let all = local-matcher outside setting bytes program is_program outs solution i r is (λ id out inside. out inside) s within in
    let kept = All-head (KeepsIn outside s.captures) o later (subst (All (KeepsIn outside s.captures)) first all) in
    record {
      count = kept.count;
      inside = first-agrees (IsIn range) o later _ (subst (λ xs. AgreeAll (IsIn range) xs (matcher_of setting bytes program outs i from)) first both);
      outside = kept.same;
    }
