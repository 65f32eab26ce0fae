-- Lemmas about `dedup` of lists that are joined, filtered and mapped.
use Rattle.std.proofs.Common.{◌≡◌, ◌==◌, ℕ, Bool, true, false, not, ◌&&◌, ◌||◌, List, [], ◌∷◌, ◌++◌, map, Option, Some, None, refl, sym, ap, ap₂, ◌∙◌, inl, inr, eqb-true, eq-eqb}
use Rattle.std.specs.List.{filter, flat_map}
use Rattle.std.proofs.lemmas.Bool.{and_parts, cases_Bool, or_right, false≢true}
use Rattle.std.proofs.lemmas.List.Concat.{flat_map_single}
use Rattle.std.proofs.lemmas.List.Elements.{filter-append, filter_agree}
use Rattle.regress_tree.specs.Steps.{CaptureSpan, MatchState, same_capture, same_captures, same_state, dedup}

-- ---- `same_state` decides equality

same_capture-true : (a b : Option CaptureSpan) → same_capture a b ≡ true → a ≡ b
same_capture-true None None e = refl
same_capture-true None (Some b) e = absurd (false≢true e)
same_capture-true (Some a) None e = absurd (false≢true e)
same_capture-true (Some a) (Some b) e =
    let parts = and_parts (a.0 == b.0) (a.1 == b.1) e in
    let from : a.0 ≡ b.0 = eqb-true _ _ parts.0 in
    let to : a.1 ≡ b.1 = eqb-true _ _ parts.1 in
    ap₂ (λ (x y : ℕ). Some (x, y)) from to

same_capture-refl : (a : Option CaptureSpan) → same_capture a a ≡ true
same_capture-refl None = refl
same_capture-refl (Some a) = rw (eq-eqb a.0 a.0 refl, eq-eqb a.1 a.1 refl)

same_captures-true : (xs ys : List (Option CaptureSpan)) → same_captures xs ys ≡ true → xs ≡ ys
same_captures-true [] [] e = refl
same_captures-true [] (y ∷ ys) e = absurd (false≢true e)
same_captures-true (x ∷ xs) [] e = absurd (false≢true e)
same_captures-true (x ∷ xs) (y ∷ ys) e =
    let parts = and_parts (same_capture x y) (same_captures xs ys) e in
    ap₂ ◌∷◌ (same_capture-true x y parts.0) (same_captures-true xs ys parts.1)

same_captures-refl : (xs : List (Option CaptureSpan)) → same_captures xs xs ≡ true
same_captures-refl [] = refl
same_captures-refl (x ∷ xs) = rw (same_capture-refl x, same_captures-refl xs)

pub same_state-true : (s t : MatchState) → same_state s t ≡ true → s ≡ t
unfolding same_state
same_state-true s t e =
    let parts = and_parts (s.position == t.position) (same_captures s.captures t.captures) e in
    let position : s.position ≡ t.position = eqb-true _ _ parts.0 in
    let captures : s.captures ≡ t.captures = same_captures-true _ _ parts.1 in
    ap₂ (λ (p : ℕ) (cs : List (Option CaptureSpan)). record { position = p; captures = cs }) position captures

pub same_state-refl : (s : MatchState) → same_state s s ≡ true
unfolding same_state
same_state-refl s = rw (eq-eqb s.position s.position refl, same_captures-refl s.captures)

-- ---- filters

filter-swap : {X : Type 0} (p q : X → Bool) (l : List X) → filter p (filter q l) ≡ filter q (filter p l)
filter-swap p q [] = refl
filter-swap p q (x ∷ l) =
    let ih = filter-swap p q l in
    elim (cases_Bool (p x)) [
      | inl pt ↦ elim (cases_Bool (q x)) [ inl qt ↦ simp (pt, qt) (ap (λ r. x ∷ r) ih) | inr qf ↦ simp (pt, qf) ih ]
      | inr pf ↦ elim (cases_Bool (q x)) [ inl qt ↦ simp (pf, qt) ih | inr qf ↦ simp (pf, qf) ih ]
    ]

-- An element that passes p passes q.
filter-absorb : {X : Type 0} (p q : X → Bool) (implies : (x : X) → p x ≡ true → q x ≡ true) (l : List X) →
    filter p (filter q l) ≡ filter p l
filter-absorb p q implies [] = refl
filter-absorb p q implies (x ∷ l) =
    let ih = filter-absorb p q implies l in
    elim (cases_Bool (p x)) [
      | inl pt ↦ let qt = implies x pt in simp (pt, qt) (ap (λ r. x ∷ r) ih)
      | inr pf ↦ elim (cases_Bool (q x)) [ inl qt ↦ simp (pf, qt) ih | inr qf ↦ simp (pf, qf) ih ]
    ]

filter-filter : {X : Type 0} (p q : X → Bool) (l : List X) → filter p (filter q l) ≡ filter (λ x. q x && p x) l
filter-filter p q [] = refl
filter-filter p q (x ∷ l) =
    let ih = filter-filter p q l in
    elim (cases_Bool (q x)) [
      | inl qt ↦ elim (cases_Bool (p x)) [ inl pt ↦ simp (pt, qt) (ap (λ r. x ∷ r) ih) | inr pf ↦ simp (pf, qt) ih ]
      | inr qf ↦ simp qf ih
    ]

-- the list without the state
abbrev except : MatchState → List MatchState → List MatchState
except s l = filter (λ t. not (same_state s t)) l

-- A test that the state fails is passed by no state equal to it.
except-absorb : (p : MatchState → Bool) (s : MatchState) → p s ≡ false → (l : List MatchState) → filter p (except s l) ≡ filter p l
except-absorb p s fails =
    filter-absorb p (λ t. not (same_state s t)) (λ t passes. elim (cases_Bool (same_state s t)) [
      | inl same ↦ absurd (false≢true (sym fails ∙ ap p (same_state-true s t same) ∙ passes))
      | inr other ↦ simp other
    ])

pub distinct-filter : (p : MatchState → Bool) (l : List MatchState) → dedup (filter p l) ≡ filter p (dedup l)
distinct-filter p [] = refl
distinct-filter p (s ∷ l) =
    let ih = distinct-filter p l in
    elim (cases_Bool (p s)) [
      | inl pt ↦ simp pt (ap (λ r. s ∷ except s r) ih ∙ ap (λ r. s ∷ r) (filter-swap _ p (dedup l)))
      | inr pf ↦ simp pf (ih ∙ sym (except-absorb p s pf (dedup l)))
    ]

-- ---- joined lists

-- The state is in the list.
abbrev among : MatchState → List MatchState → Bool
among t [] = false
among t (s ∷ l) = same_state s t || among t l

-- the second list without the elements of the first
abbrev without : List MatchState → List MatchState → List MatchState
without xs l = filter (λ t. not (among t xs)) l

not-or : (a b : Bool) → (not a && not b) ≡ not (a || b)
not-or true b = refl
not-or false b = refl

filter_true : {X : Type 0} (l : List X) → filter (λ _. true) l ≡ l
filter_true [] = refl
filter_true (x ∷ l) = ap (λ r. x ∷ r) (filter_true l)

-- New elements come after those of the first list.
distinct-append : (xs ys : List MatchState) → dedup (xs ++ ys) ≡ dedup xs ++ without xs (dedup ys)
distinct-append [] ys = sym (filter_true (dedup ys))
distinct-append (s ∷ xs) ys =
    let ih = distinct-append xs ys in
    let later : except s (without xs (dedup ys)) ≡ without (s ∷ xs) (dedup ys) =
    filter-swap _ _ (dedup ys) ∙ filter-filter _ _ (dedup ys)
    ∙ filter_agree _ _ (λ t. not-or (same_state s t) (among t xs)) (dedup ys) in
    ap (λ r. s ∷ except s r) ih
    ∙ ap (λ r. s ∷ r) (filter-append _ (dedup xs) (without xs (dedup ys)) ∙ ap (λ r. except s (dedup xs) ++ r) later)

among-distinct : (t : MatchState) (l : List MatchState) → among t (dedup l) ≡ among t l
among-distinct t [] = refl
among-distinct t (s ∷ l) =
    let ih = among-distinct t l in
    elim (cases_Bool (same_state s t)) [
      | inl same ↦ simp same
      | inr other ↦ simp other (among-except s t other (dedup l) ∙ ih)
    ]
  where
    among-except : (s t : MatchState) → same_state s t ≡ false → (l : List MatchState) → among t (except s l) ≡ among t l
    among-except s t other [] = refl
    among-except s t other (x ∷ l) =
        let ih = among-except s t other l in
        elim (cases_Bool (same_state s x)) [
          | inl same ↦
              let moved : same_state x t ≡ false = ap (λ y. same_state y t) (sym (same_state-true s x same)) ∙ other in
              simp (same, moved) ih
          | inr differs ↦ simp differs (ap (λ b. same_state x t || b) ih)
        ]

-- `without` depends only on which states are in the first list.
without-distinct : (xs l : List MatchState) → without (dedup xs) l ≡ without xs l
without-distinct xs l = filter_agree _ _ (λ t. ap not (among-distinct t xs)) l

without-alike : (xs ys l : List MatchState) → dedup xs ≡ dedup ys → without xs l ≡ without ys l
without-alike xs ys l e = sym (without-distinct xs l) ∙ ap (λ zs. without zs l) e ∙ without-distinct ys l

pub distinct-append-alike : (xs xs' ys ys' : List MatchState) → dedup xs ≡ dedup xs' → dedup ys ≡ dedup ys' →
    dedup (xs ++ ys) ≡ dedup (xs' ++ ys')
distinct-append-alike xs xs' ys ys' first second =
    distinct-append xs ys ∙ ap₂ ◌++◌ first (ap (without xs) second ∙ without-alike xs xs' (dedup ys') first)
    ∙ sym (distinct-append xs' ys')

-- A list without the elements of another that covers it is empty.
without-covered : (xs l : List MatchState) → ((t : MatchState) → among t l ≡ true → among t xs ≡ true) → without xs l ≡ []
without-covered xs [] covers = refl
without-covered xs (s ∷ l) covers =
    let here : among s xs ≡ true = covers s (ap (λ b. b || among s l) (same_state-refl s)) in
    simp here (without-covered xs l (λ t e. covers t (or_right (same_state s t) (among t l) e)))

without-itself : (xs : List MatchState) → without xs (dedup xs) ≡ []
without-itself xs = sym (distinct-filter _ xs) ∙ ap dedup (without-covered xs xs (λ t e. e))

without-swap : (xs ys l : List MatchState) → without xs (without ys l) ≡ without ys (without xs l)
without-swap xs ys l = filter-swap _ _ l

without-without : (xs l : List MatchState) → without xs (without xs l) ≡ without xs l
without-without xs l = filter-absorb _ _ (λ t e. e) l

-- ---- lists of lists

module _ (f : MatchState → List MatchState) where
  without-flat_map : (zs : List MatchState) (t : MatchState) (l : List MatchState) →
      without zs (dedup (flat_map f (t ∷ l))) ≡ without zs (dedup (f t)) ++ without zs (without (f t) (dedup (flat_map f l)))
  without-flat_map zs t l = ap (without zs) (distinct-append (f t) (flat_map f l)) ∙ filter-append _ (dedup (f t)) _

  -- the outcomes from a list of states without those from a repeated state
  flat_map-except : (s : MatchState) (l : List MatchState) →
      without (f s) (dedup (flat_map f l)) ≡ without (f s) (dedup (flat_map f (except s l)))
  flat_map-except s [] = refl
  flat_map-except s (t ∷ l) =
      let ih = flat_map-except s l in
      elim (cases_Bool (same_state s t)) [
        | inl same ↦
            let nothing : without (f s) (dedup (f t)) ≡ [] =
            ap (λ x. without (f s) (dedup (f x))) (sym (same_state-true s t same)) ∙ without-itself (f s) in
            let once : without (f s) (without (f t) (dedup (flat_map f l))) ≡ without (f s) (dedup (flat_map f l)) =
            ap (λ x. without (f s) (without (f x) (dedup (flat_map f l)))) (sym (same_state-true s t same)) ∙ without-without (f s) _ in
            simp same (without-flat_map (f s) t l ∙ ap₂ ◌++◌ nothing once ∙ ih)
        | inr other ↦
            let later : without (f s) (without (f t) (dedup (flat_map f l)))
            ≡ without (f s) (without (f t) (dedup (flat_map f (except s l)))) =
            without-swap (f s) (f t) _ ∙ ap (without (f t)) ih ∙ without-swap (f t) (f s) _ in
            simp other
            (without-flat_map (f s) t l ∙ ap (λ r. without (f s) (dedup (f t)) ++ r) later
            ∙ sym (without-flat_map (f s) t (except s l)))
      ]

  distinct-flat_map : (l : List MatchState) → dedup (flat_map f l) ≡ dedup (flat_map f (dedup l))
  distinct-flat_map [] = refl
  distinct-flat_map (s ∷ l) =
      distinct-append (f s) (flat_map f l)
      ∙ ap (λ r. dedup (f s) ++ r) (ap (without (f s)) (distinct-flat_map l) ∙ flat_map-except s (dedup l))
      ∙ sym (distinct-append (f s) (flat_map f (except s (dedup l))))

distinct-flat_map-each : (f g : MatchState → List MatchState) → ((s : MatchState) → dedup (f s) ≡ dedup (g s)) → (l : List MatchState) →
    dedup (flat_map f l) ≡ dedup (flat_map g l)
distinct-flat_map-each f g each [] = refl
distinct-flat_map-each f g each (s ∷ l) =
    distinct-append-alike (f s) (g s) (flat_map f l) (flat_map g l) (each s) (distinct-flat_map-each f g each l)

pub distinct-flat_map-alike : (f g : MatchState → List MatchState) (xs ys : List MatchState) → ((s : MatchState) → dedup (f s) ≡ dedup (g s)) →
    dedup xs ≡ dedup ys → dedup (flat_map f xs) ≡ dedup (flat_map g ys)
distinct-flat_map-alike f g xs ys each same =
    distinct-flat_map-each f g each xs ∙ distinct-flat_map g xs ∙ ap (λ l. dedup (flat_map g l)) same ∙ sym (distinct-flat_map g ys)

pub distinct-map-alike : (g : MatchState → MatchState) (xs ys : List MatchState) → dedup xs ≡ dedup ys → dedup (map g xs) ≡ dedup (map g ys)
distinct-map-alike g xs ys same =
    ap dedup (sym (flat_map_single g xs))
    ∙ distinct-flat_map-alike (λ s. g s ∷ []) (λ s. g s ∷ []) xs ys (λ s. refl) same
    ∙ ap dedup (flat_map_single g ys)
