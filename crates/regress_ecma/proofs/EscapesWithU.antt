-- With the flag u the productions of an escape find what CharacterEscape of ECMA-262 derives.
use Rattle.std.proofs.Common.{◌≡◌, ℕ, ◌==◌, Bool, true, false, not, ◌&&◌, ◌||◌, [], ◌∷◌, length, take, drop, Option, Some, None, if◌then◌else◌, refl, sym, ap, subst, ◌∙◌, eqb-true, arith}
use Rattle.std.specs.Prelude.{codes}
use Rattle.std.specs.Option.{option_or}
use Rattle.std.proofs.lemmas.Bool.Decides.{nat_tests}
use Rattle.std.proofs.lemmas.List.Folds.{list_any-append}
use Rattle.regress_lexer.specs.Source.{Source, Found, ◌>>=◌, char}
use Rattle.regress_lexer.specs.Digits.{hex_at, is_between, is_decimal, is_letter, control, number}
use Rattle.regress_lexer.specs.Escapes.{escape_at, unicode_at, braced_hex_at, with_trail_surrogate, trail_surrogate_at, unit_at, paired, or_identity_escape, control_at, other_escape}
use Rattle.regress_lexer.specs.Escapes as Escapes
use Rattle.regress_ecma.specs.CharacterEscapes.{hex_4_digits, is_lead, is_trail, escaped_trail, code_point, unicode_escape, character_escape, is_syntax_character, pair_value}

-- ---- one character at a time

-- what holds of one character, and of every other one
pub at_character : (P : ℕ → Type 0) (K c : ℕ) → P K → ((c == K) ≡ false → P c) → P c
at_character P K c hit miss = by (c == K) refl
  where
    by : (b : Bool) → (c == K) ≡ b → P c
    by true e = subst P (sym (eqb-true c K e)) hit
    by false e = miss e

pub by_case : {P : Type 0} (b : Bool) → (b ≡ true → P) → (b ≡ false → P) → P
by_case true h k = h refl
by_case false h k = k refl

pub or_none : {A : Type 0} (found : Option A) → option_or found None ≡ found
or_none None = refl
or_none (Some x) = refl

pub and_false : (b : Bool) → (b && false) ≡ false
and_false true = refl
and_false false = refl

-- ---- `\u`

-- A brace is no hexadecimal digit.
pub no_hex : (t : Source) → hex_at 4 (char "{" ∷ t) ≡ None
no_hex t =
    ap (λ (b : Bool). if b then Some (number 16 (take 4 (char "{" ∷ t)), drop 4 (char "{" ∷ t)) else None)
    (and_false (length (take 4 (char "{" ∷ t)) == 4))

no_surrogate : (c : ℕ) → is_lead c ≡ false → is_trail c ≡ false → is_between 0xD800 0xDFFF c ≡ false
no_surrogate c lead trail = grind (arith, nat_tests)

pub trail_same : (t : Source) → escaped_trail t ≡ trail_surrogate_at t
trail_same [] = refl
trail_same (c ∷ []) = by (c == char "\\")
  where
    by : (b : Bool) →
        (if b then None else None) ≡ (if b && false then hex_at 4 [] else None) >>= λ (low, rest). (if is_trail low then Some (low, rest) else None)
    by true = refl
    by false = refl
trail_same (c ∷ d ∷ t) = by (c == char "\\") (d == char "u")
  where
    by : (a b : Bool) →
        (if a then (if b then hex_4_digits is_trail t else None) else None)
        ≡ (if a && b then hex_at 4 t else None) >>= λ (low, rest). (if is_trail low then Some (low, rest) else None)
    by true true = refl
    by true false = refl
    by false b = refl

-- what Hex4Digits derive, by their value
by_value : (found : Found ℕ) →
    option_or ((found >>= λ (value, rest). (if is_lead value then Some (value, rest) else None)) >>= λ (lead, u). escaped_trail u >>= λ
    (trail, rest). Some (pair_value lead trail, rest))
    (option_or (found >>= λ (value, rest). (if is_lead value then Some (value, rest) else None))
    (option_or (found >>= λ (value, rest). (if is_trail value then Some (value, rest) else None))
    (option_or (found >>= λ (value, rest). (if not (is_between 0xD800 0xDFFF value) then Some (value, rest) else None)) None)))
    ≡ found >>= with_trail_surrogate
by_value None = refl
by_value (Some (value, t)) = by_case (is_lead value) is_lead_first (λ lead. by_case (is_trail value) (λ trail. rw (lead, trail) refl) (λ trail. rw
    (lead, trail, no_surrogate value lead trail) refl))
  where
    by_second : (second : Found ℕ) →
        option_or (second >>= λ (trail, rest). Some (pair_value value trail, rest)) (Some (value, t))
        ≡ elim second as (λ _. Found ℕ) [ None ↦ Some (value, t) | Some low ↦ Some (paired value low.0, low.1) ]
    by_second None = refl
    by_second (Some low) = refl

    is_lead_first : is_lead value ≡ true →
        option_or ((if is_lead value then Some (value, t) else None) >>= λ (lead, u). escaped_trail u >>= λ (trail, rest). Some (pair_value lead trail, rest))
        (option_or {T = ℕ × Source} (if is_lead value then Some (value, t) else None)
        (option_or {T = ℕ × Source} (if is_trail value then Some (value, t) else None)
        (option_or {T = ℕ × Source} (if not (is_between 0xD800 0xDFFF value) then Some (value, t) else None) None)))
        ≡ with_trail_surrogate (value, t)
    is_lead_first e =
        rw e
        (ap (λ (second : Found ℕ). option_or (second >>= λ (trail, rest). Some (pair_value value trail, rest)) (Some (value, t))) (trail_same t)
        ∙ by_second (trail_surrogate_at t))

pub u_escape : (t : Source) → unicode_escape true (char "u" ∷ t) ≡ unicode_at t
unfolding unicode_at
u_escape [] = refl
u_escape (c ∷ t) =
    at_character (λ d. unicode_escape true (char "u" ∷ d ∷ t) ≡ unicode_at (d ∷ t)) (char "{") c (brace t)
    (λ e. rw (unicode_at, e) (by_value (hex_at 4 (c ∷ t))))
  where
    brace : (t : Source) → unicode_escape true (char "u" ∷ char "{" ∷ t) ≡ unicode_at (char "{" ∷ t)
    brace t = rw (no_hex t) (or_none (code_point t))

syntax_same : (c : ℕ) → Escapes.is_syntax_character c ≡ (is_syntax_character c || c == char "/")
syntax_same c = list_any-append (λ d. d == c) (codes "^$\\.*+?()[]{}|") (codes "/") ∙ ap (λ (b : Bool). is_syntax_character c || b) (slash c)
  where
    slash : (c : ℕ) → (char "/" == c || false) ≡ (c == char "/")
    slash c = grind (arith, nat_tests)

module _ (named : Bool) where
  abbrev Same : Source → Type 0
  Same t = character_escape true named t ≡ escape_at true t

  at_c : (t : Source) → Same (char "c" ∷ t)
  unfolding escape_at
  at_c [] = refl
  at_c (d ∷ t) = by (is_letter d)
    where
      by : (b : Bool) →
          option_or ((if b then Some (d, t) else None) >>= λ (c, rest). Some (control c, rest)) None ≡ (if b then Some (control d, t) else None)
      by true = refl
      by false = refl

  at_zero : (t : Source) → Same (char "0" ∷ t)
  unfolding escape_at
  at_zero [] = refl
  at_zero (d ∷ t) = by (is_decimal d)
    where
      by : (b : Bool) → option_or {T = ℕ × Source} (if not b then Some (0, d ∷ t) else None) None ≡ (if not b then Some (0, d ∷ t) else None)
      by true = refl
      by false = refl

  at_x : (t : Source) → Same (char "x" ∷ t)
  unfolding escape_at
  at_x t = by (hex_at 2 t)
    where
      by : (found : Found ℕ) → option_or found None ≡ or_identity_escape true (char "x") t found
      by None = refl
      by (Some x) = refl

  at_u : (t : Source) → Same (char "u" ∷ t)
  unfolding escape_at
  at_u t = ap (λ (found : Found ℕ). option_or found None) (u_escape t) ∙ by (unicode_at t)
    where
      by : (found : Found ℕ) → option_or found None ≡ or_identity_escape true (char "u") t found
      by None = refl
      by (Some x) = refl

  identity : (c : ℕ) (t : Source) →
      option_or {T = ℕ × Source} (if is_syntax_character c then Some (c, t) else None)
      (option_or {T = ℕ × Source} (if c == char "/" then Some (char "/", t) else None) None)
      ≡ (if Escapes.is_syntax_character c || false then Some (c, t) else None)
  identity c t = by_case (c == char "/") slash other
    where
      or_false : (b : Bool) → (b || false) ≡ b
      or_false true = refl
      or_false false = refl

      other : (c == char "/") ≡ false →
          option_or {T = ℕ × Source} (if is_syntax_character c then Some (c, t) else None)
          (option_or {T = ℕ × Source} (if c == char "/" then Some (char "/", t) else None) None)
          ≡ (if Escapes.is_syntax_character c || false then Some (c, t) else None)
      other e =
          rw (or_false (Escapes.is_syntax_character c), syntax_same c, e, or_false (is_syntax_character c))
          (or_none (if is_syntax_character c then Some (c, t) else None))

      slash : (c == char "/") ≡ true →
          option_or {T = ℕ × Source} (if is_syntax_character c then Some (c, t) else None)
          (option_or {T = ℕ × Source} (if c == char "/" then Some (char "/", t) else None) None)
          ≡ (if Escapes.is_syntax_character c || false then Some (c, t) else None)
      slash e = subst (λ d. option_or {T = ℕ × Source} (if is_syntax_character d then Some (d, t) else None)
          (option_or {T = ℕ × Source} (if d == char "/" then Some (char "/", t) else None) None)
          ≡ (if Escapes.is_syntax_character d || false then Some (d, t) else None)) (sym (eqb-true c (char "/") e)) refl

  pub escape_with_u : (t : Source) → Same t
  unfolding escape_at
  escape_with_u [] = refl
  escape_with_u (c ∷ t) =
      at_character (λ d. Same (d ∷ t)) (char "f") c refl
      (λ f. at_character (λ d. Same (d ∷ t)) (char "n") c refl
      (λ n. at_character (λ d. Same (d ∷ t)) (char "r") c refl
      (λ r. at_character (λ d. Same (d ∷ t)) (char "t") c refl
      (λ tab. at_character (λ d. Same (d ∷ t)) (char "v") c refl
      (λ v. at_character (λ d. Same (d ∷ t)) (char "c") c (at_c t)
      (λ letter. at_character (λ d. Same (d ∷ t)) (char "0") c (at_zero t)
      (λ zero. at_character (λ d. Same (d ∷ t)) (char "x") c (at_x t)
      (λ x. at_character (λ d. Same (d ∷ t)) (char "u") c (at_u t)
      (λ u. rw (escape_at, f, n, r, tab, v, letter, zero, x, u) (or_none _ ∙ identity c t))))))))))
