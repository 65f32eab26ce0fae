-- The source that a parsing function leaves is a suffix of the one that it was given.
use Rattle.std.proofs.Common.{◌≡◌, ℕ, suc, ◌+◌, ◌≤◌, ◌<◌, Bool, true, false, not, cond, ◌&&◌, ◌||◌, ◌==◌, [], ◌∷◌, length, drop, Option, Some, None, refl, sym, ap, ◌∙◌, subst, arith, length-drop}
use Rattle.std.proofs.lemmas.Option.{none-some, same_Some}
use Rattle.std.proofs.lemmas.List.{drop-drop}
use Rattle.std.proofs.lemmas.List.Elements.{All-drop}
use Rattle.std.specs.List.{All}
use Rattle.regress_base.specs.declared.types.Quantifier.{Quantifier}
use Rattle.regress_lexer.specs.declared.dialect.Dialect.{Dialect}
use Rattle.regress_lexer.specs.Dialects.{is_lone_u}
use Rattle.regress_lexer.specs.Source.{Source, Found, ◌>>=◌, found_map, IsCodePoint, is_at, question_mark}
use Rattle.regress_lexer.specs.Digits.{is_decimal, is_octal, is_hex, number, after, hex_at}
use Rattle.regress_lexer.specs.Escapes.{braced_hex_at, unit_at, trail_surrogate_at, paired, with_trail_surrogate, unicode_at, or_identity_escape, octal_digits, letter_escape, begins_with_digit, is_syntax_character, control_at, other_escape, escape_at, character_escape_at}
use Rattle.regress_lexer.specs.Quantifiers.{RepeatBounds, count_at, closed_brace, maximum_at, quantifier_prefix_by, greedy_or_lazy, quantifier_at}

-- rest is t without its first `count` code points
pub record IsSuffix (t rest : Source) : Type 0 where
  pub count : ℕ
  pub same : rest ≡ drop count t

pub after_same : (t : Source) → IsSuffix t t
after_same t = record { count = 0; same = refl }

pub after_after : (t s rest : Source) → IsSuffix t s → IsSuffix s rest → IsSuffix t rest
after_after t s rest h k = record {
  count = h.count + k.count;
  same = k.same ∙ (ap (drop k.count) h.same ∙ drop-drop k.count h.count t);
}

pub after_more : (c : ℕ) (t rest : Source) → IsSuffix t rest → IsSuffix (c ∷ t) rest
after_more c t rest h = record { count = suc h.count; same = h.same }

pub after_drop : (n : ℕ) (t : Source) → IsSuffix t (drop n t)
after_drop n t = record { count = n; same = refl }

pub after_shorter : (t rest : Source) → IsSuffix t rest → length rest ≤ length t
after_shorter t rest h = omega (arith, ap length h.same, length-drop h.count t)

pub after_each : (P : ℕ → Type 0) (t rest : Source) → IsSuffix t rest → All P t → All P rest
after_each P t rest h each = subst (All P) (sym h.same) (All-drop P h.count t each)

pub after_all : (t rest : Source) → IsSuffix t rest → All IsCodePoint t → All IsCodePoint rest
after_all = after_each IsCodePoint

pub after_front : (p : ℕ → Bool) (t : Source) → IsSuffix t (after p t)
unfolding after
after_front p [] = after_same []
after_front p (c ∷ t) =
    elim (p c) as (λ b. IsSuffix (c ∷ t) (cond b (after p t) (c ∷ t)))
    [ true ↦ after_more c t (after p t) (after_front p t) | false ↦ after_same (c ∷ t) ]

-- Whatever is found, the source after it is a suffix of t.
pub record Ends {A : Type 0} (found : Found A) (t : Source) : Type 0 where
  pub each : (x : A × Source) → found ≡ Some x → IsSuffix t x.1

pub ends_none : {A : Type 0} (t : Source) → Ends {A = A} None t
ends_none t = record { each = λ x e. absurd (none-some x e) }

pub ends_some : {A : Type 0} (x : A × Source) (t : Source) → IsSuffix t x.1 → Ends (Some x) t
ends_some {A} x t h = record { each = λ y e. subst (λ (z : A × Source). IsSuffix t z.1) (same_Some x y e) h }

-- What takes one code point leaves the source after it.
pub one-ends : {A : Type 0} (x : A) (c : ℕ) (t : Source) → Ends (Some (x, t)) (c ∷ t)
one-ends x c t = ends_some (x, t) (c ∷ t) (after_drop 1 (c ∷ t))

pub ends_after : {A : Type 0} (found : Found A) (t s : Source) → IsSuffix t s → Ends found s → Ends found t
ends_after found t s h k = record { each = λ x e. after_after t s x.1 h (k.each x e) }

pub ends_more : {A : Type 0} (found : Found A) (c : ℕ) (t : Source) → Ends found t → Ends found (c ∷ t)
ends_more found c t h = record { each = λ x e. after_more c t x.1 (h.each x e) }

pub ends_then : {A B : Type 0} (found : Found A) (next : A × Source → Found B) (t : Source) → Ends found t →
    ((x : A × Source) → Ends (next x) x.1) → Ends (found >>= next) t
ends_then None next t h k = ends_none t
ends_then (Some x) next t h k = ends_after (next x) t x.1 (h.each x refl) (k x)

pub ends_map : {A B : Type 0} (f : A → B) (found : Found A) (t : Source) → Ends found t → Ends (found_map f found) t
ends_map f None t h = ends_none t
ends_map f (Some x) t h = ends_some (f x.0, x.1) t (h.each x refl)

pub ends_cond : {A : Type 0} (b : Bool) (x y : Found A) (t : Source) → Ends x t → Ends y t → Ends (cond b x y) t
ends_cond true x y t h k = h
ends_cond false x y t h k = k

pub hex_at-ends : (n : ℕ) (t : Source) → Ends (hex_at n t) t
hex_at-ends n t = ends_cond _ _ _ t (ends_some _ t (after_drop n t)) (ends_none t)

braced_hex_at-ends : (t : Source) → Ends (braced_hex_at t) t
braced_hex_at-ends t =
    ends_cond _ _ _ t (ends_some _ t (after_after _ _ _ (after_front is_hex t) (after_drop 1 (after is_hex t)))) (ends_none t)

unit_at-ends : (t : Source) → Ends (unit_at t) t
unit_at-ends t = ends_cond _ _ _ t (ends_after _ t (drop 2 t) (after_drop 2 t) (hex_at-ends 4 (drop 2 t))) (ends_none t)

trail_surrogate_at-ends : (t : Source) → Ends (trail_surrogate_at t) t
trail_surrogate_at-ends t =
    ends_then (unit_at t) _ t (unit_at-ends t)
    (λ x. ends_cond _ _ _ x.1 (ends_some _ x.1 (after_same x.1)) (ends_none x.1))

first_half-ends : (high : ℕ) (t : Source) (second : Found ℕ) → Ends second t →
    Ends (elim second as (λ _. Found ℕ) [ None ↦ Some (high, t) | Some low ↦ Some (paired high low.0, low.1) ]) t
first_half-ends high t None h = ends_some (high, t) t (after_same t)
first_half-ends high t (Some low) h = ends_some _ t (h.each low refl)

with_trail_surrogate-ends : (x : ℕ × Source) → Ends (with_trail_surrogate x) x.1
with_trail_surrogate-ends (high, t) =
    ends_cond _ _ _ t (first_half-ends high t (trail_surrogate_at t) (trail_surrogate_at-ends t)) (ends_some (high, t) t (after_same t))

pub unicode_at-ends : (t : Source) → Ends (unicode_at t) t
unfolding unicode_at
unicode_at-ends t =
    ends_cond _ _ _ t
    (ends_after _ t (drop 1 t) (after_drop 1 t) (braced_hex_at-ends (drop 1 t)))
    (ends_then (hex_at 4 t) with_trail_surrogate t (hex_at-ends 4 t) with_trail_surrogate-ends)

or_identity_escape-ends : (unicode : Bool) (c : ℕ) (t : Source) (found : Found ℕ) → Ends found t → Ends (or_identity_escape unicode c t found) t
or_identity_escape-ends unicode c t None h = ends_cond unicode _ _ t (ends_none t) (ends_some (c, t) t (after_same t))
or_identity_escape-ends unicode c t (Some x) h = h

control_at-ends : (t : Source) → Ends (control_at t) t
control_at-ends [] = ends_none []
control_at-ends (d ∷ t) = ends_more _ d t (ends_cond _ _ _ t (ends_some _ t (after_same t)) (ends_none t))

other_escape-ends : (unicode : Bool) (c : ℕ) (t : Source) → Ends (other_escape unicode c t) (c ∷ t)
other_escape-ends unicode c t =
    ends_cond (c == 99) _ _ (c ∷ t) (ends_more _ c t (control_at-ends t))
    (ends_cond (c == 48 && not (begins_with_digit t)) _ _ (c ∷ t) (one-ends 0 c t)
    (ends_cond (c == 120) _ _ (c ∷ t) (ends_more _ c t (or_identity_escape-ends unicode c t (hex_at 2 t) (hex_at-ends 2 t)))
    (ends_cond (c == 117) _ _ (c ∷ t) (ends_more _ c t (or_identity_escape-ends unicode c t (unicode_at t) (unicode_at-ends t)))
    (ends_cond (not unicode && is_octal c) _ _ (c ∷ t)
    (ends_some (number 8 (octal_digits c t), _) (c ∷ t) (after_drop (length (octal_digits c t)) (c ∷ t)))
    (ends_cond (is_syntax_character c || not unicode) _ _ (c ∷ t) (one-ends c c t) (ends_none (c ∷ t)))))))

escape_by-ends : (unicode : Bool) (c : ℕ) (t : Source) (letter : Option ℕ) →
    Ends (elim letter as (λ _. Found ℕ) [ None ↦ other_escape unicode c t | Some x ↦ Some (x, t) ]) (c ∷ t)
escape_by-ends unicode c t None = other_escape-ends unicode c t
escape_by-ends unicode c t (Some x) = one-ends x c t

pub escape_at-ends : (unicode : Bool) (t : Source) → Ends (escape_at unicode t) t
unfolding escape_at
escape_at-ends unicode [] = ends_none []
escape_at-ends unicode (c ∷ t) = escape_by-ends unicode c t (letter_escape c)

pub character_escape_at-ends : (dialect : Dialect) (unicode : Bool) (t : Source) → Ends (character_escape_at dialect unicode t) t
character_escape_at-ends dialect unicode [] = ends_none []
character_escape_at-ends dialect unicode (c ∷ t) =
    ends_cond (is_lone_u dialect unicode c t) _ _ (c ∷ t) (one-ends c c t) (escape_at-ends unicode (c ∷ t))

pub count_at-ends : (t : Source) → Ends (count_at t) t
count_at-ends t = ends_cond _ _ _ t (ends_none t) (ends_some _ t (after_front is_decimal t))

closed_brace-ends : (times : RepeatBounds) (t : Source) → Ends (closed_brace times t) t
closed_brace-ends times t = ends_cond _ _ _ t (ends_some _ t (after_drop 1 t)) (ends_none t)

-- The same after a code point.
closed_after-ends : (times : RepeatBounds) (t : Source) → Ends (closed_brace times (drop 1 t)) t
closed_after-ends times t = ends_after _ t (drop 1 t) (after_drop 1 t) (closed_brace-ends times (drop 1 t))

maximum_at-ends : (x : ℕ × Source) → Ends (maximum_at x) x.1
maximum_at-ends (least, t) =
    ends_cond _ _ _ t
    (ends_cond _ _ _ t (closed_after-ends (least, None) t)
    (ends_after _ t (drop 1 t) (after_drop 1 t)
    (ends_then (count_at (drop 1 t)) (λ x. closed_brace (least, Some x.0) x.1) (drop 1 t) (count_at-ends (drop 1 t))
    (λ x. closed_brace-ends (least, Some x.0) x.1))))
    (closed_brace-ends (least, Some least) t)

quantifier_prefix_by-ends : (c : ℕ) (t : Source) → Ends (quantifier_prefix_by c t) t
quantifier_prefix_by-ends c t =
    ends_cond (c == 42) _ _ t (ends_some ((0, None), t) t (after_same t))
    (ends_cond (c == 43) _ _ t (ends_some ((1, None), t) t (after_same t))
    (ends_cond (c == question_mark) _ _ t (ends_some ((0, Some 1), t) t (after_same t))
    (ends_cond (c == 123) _ _ t (ends_then (count_at t) maximum_at t (count_at-ends t) maximum_at-ends) (ends_none t))))

greedy_or_lazy-ends : (x : RepeatBounds × Source) → Ends (greedy_or_lazy x) x.1
greedy_or_lazy-ends (times, t) =
    ends_some _ t
    (elim (is_at question_mark t) as (λ b. IsSuffix t (cond b (drop 1 t) t)) [ true ↦ after_drop 1 t | false ↦ after_same t ])

pub quantifier_at-ends : (t : Source) → Ends (quantifier_at t) t
unfolding quantifier_at
quantifier_at-ends [] = ends_none []
quantifier_at-ends (c ∷ t) = ends_more _ c t (ends_then (quantifier_prefix_by c t) greedy_or_lazy t (quantifier_prefix_by-ends c t) greedy_or_lazy-ends)

-- A quantifier takes at least one code point.
pub quantifier_at-shortens : (t : Source) (x : Quantifier × Source) → quantifier_at t ≡ Some x → length x.1 < length t
unfolding quantifier_at
quantifier_at-shortens [] x e = absurd (none-some x e)
quantifier_at-shortens (c ∷ t) x e =
    omega (
      arith,
      after_shorter t x.1 ((ends_then (quantifier_prefix_by c t) greedy_or_lazy t (quantifier_prefix_by-ends c t) greedy_or_lazy-ends).each x e),
    )
