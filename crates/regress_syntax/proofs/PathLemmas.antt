-- Paths as values of the code.
use Rattle.std.proofs.Common.{◌≡◌, ℕ, zero, suc, ◌+◌, Bool, true, false, not, ◌==◌, ◌&&◌, List, [], ◌∷◌, ◌++◌, map, reverse, length, get_or, slice_set, Option, Some, None, option_map, refl, sym, ap, ◌∙◌, arith}
use Rattle.std.specs.List.{zip, find}
use Rattle.std.specs.Option.{MatchOption}
use Rattle.std.proofs.lemmas.List.{map-append, reverse-append, reverse-reverse}
use Rattle.regress_syntax.specs.Paths.{are_alternatives, next_alternative}
use Rattle.regress_syntax.specs.Scanning.{enclosing_disjunction_of, path_of}
use Rattle.regress_syntax.specs.declared.scan.path.Level.{Level as CodeLevel}
use Rattle.regress_syntax.specs.declared.scan.path.Path.{Path as CodePath}

-- ---- the first difference

-- The first disjunction at which two paths differ decides whether they are alternatives.
abbrev pub differ : CodeLevel × CodeLevel → Bool
differ pair = not (pair.0.opening == pair.1.opening && pair.0.alternative == pair.1.alternative)

abbrev pub reports : Option (CodeLevel × CodeLevel) → Bool
reports None = false
reports (Some pair) = pair.0.opening == pair.1.opening

-- The result of a closure that is called on what was found.
pub decided_by_call : {A : Type 0} (v : A → CodeLevel × CodeLevel) (found : Option A) (result : Bool) (Post : A → Type 0) →
    MatchOption found (result ≡ false) Post → ((x : A) → Post x → result ≡ reports (Some (v x))) → result ≡ reports (option_map v found)
decided_by_call v None result Post e post = e
decided_by_call v (Some x) result Post called post = post x called

by_first_difference : (path other : List CodeLevel) →
    reports (find differ (zip path other)) ≡ are_alternatives (map enclosing_disjunction_of path) (map enclosing_disjunction_of other)
by_first_difference [] other = refl
by_first_difference (k ∷ path) [] = refl
by_first_difference (k ∷ path) (j ∷ other) =
    by (by_first_difference path other) (k.opening == j.opening) (k.alternative == j.alternative) refl refl
  where
    by : reports (find differ (zip path other)) ≡ are_alternatives (map enclosing_disjunction_of path) (map enclosing_disjunction_of other) →
        (opening alternative : Bool) → (k.opening == j.opening) ≡ opening → (k.alternative == j.alternative) ≡ alternative →
        reports (find differ (zip (k ∷ path) (j ∷ other))) ≡ are_alternatives (map enclosing_disjunction_of (k ∷ path)) (map enclosing_disjunction_of (j ∷ other))
    by inside true true e f = rw (e, f) inside
    by inside true false e f = rw (e, f) e
    by inside false alternative e f = rw e e

pub reported_by_paths : (path other : CodePath) →
    reports (find differ (zip path.nesting.items other.nesting.items)) ≡ are_alternatives (reverse (path_of path)) (reverse (path_of other))
reported_by_paths path other =
    rw (reverse-reverse (map enclosing_disjunction_of path.nesting.items), reverse-reverse (map enclosing_disjunction_of other.nesting.items))
    (by_first_difference path.nesting.items other.nesting.items)

-- ---- the innermost disjunction

-- A list is its elements up to the last one and that one, which an update replaces.
up_to_last : {X : Type 0} (n : ℕ) (xs : List X) (last new d : X) → length xs ≡ n + 1 → last ≡ get_or xs n d →
    (others : List X) × (xs ≡ others ++ last ∷ []) × (slice_set xs n new ≡ others ++ new ∷ [])
up_to_last n [] last new d l e = absurd (omega (arith, l))
up_to_last zero (x ∷ []) last new d l e = ([], ap (λ y. y ∷ []) (sym e), refl)
up_to_last zero (x ∷ y ∷ ys) last new d l e = absurd (omega (arith, l))
up_to_last (suc n) (x ∷ xs) last new d l e =
    let inside = up_to_last n xs last new d (omega (arith, l)) e in
    (x ∷ inside.0, ap (λ ys. x ∷ ys) inside.1, ap (λ ys. x ∷ ys) inside.2)

innermost_last : (outer : List CodeLevel) (level : CodeLevel) → reverse (map enclosing_disjunction_of (outer ++ level ∷ [])) ≡ enclosing_disjunction_of level ∷ reverse (map enclosing_disjunction_of outer)
innermost_last outer level =
    ap reverse (map-append enclosing_disjunction_of outer (level ∷ [])) ∙ reverse-append (map enclosing_disjunction_of outer) (enclosing_disjunction_of level ∷ [])

pub counted_on : (nesting : List CodeLevel) (n : ℕ) (level : CodeLevel) → length nesting ≡ n + 1 → level ≡ get_or nesting n level →
    reverse (map enclosing_disjunction_of (slice_set nesting n (record level { alternative = level.alternative + 1 }))) ≡ next_alternative (reverse (map enclosing_disjunction_of nesting))
counted_on nesting n level l e =
    let parts = up_to_last n nesting level (record level { alternative = level.alternative + 1 }) level l e in
    ap (λ ls. reverse (map enclosing_disjunction_of ls)) parts.2 ∙ innermost_last parts.0 _
    ∙ sym (ap next_alternative (ap (λ ls. reverse (map enclosing_disjunction_of ls)) parts.1 ∙ innermost_last parts.0 level))

-- ---- the numbers of a path
