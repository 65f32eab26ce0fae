-- The value of an escape is a code point.
use Rattle.std.proofs.Common.{◌≡◌, ℕ, ◌<◌, ◌≤◌, Bool, true, false, not, cond, ◌&&◌, ◌||◌, ◌==◌, nat_le, [], ◌∷◌, length, take, drop, length-take, Option, Some, None, refl, sym, subst, arith, leb-true}
use Rattle.std.proofs.lemmas.Option.{none-some, same_Some}
use Rattle.std.proofs.lemmas.List.Elements.{All-head}
use Rattle.std.specs.List.{All, list_all}
use Rattle.std.specs.Option.{IfSome, option_map}
use Rattle.regress_base.specs.Intervals.{code_point_max}
use Rattle.regress_lexer.specs.declared.dialect.Dialect.{Dialect}
use Rattle.regress_lexer.specs.Dialects.{is_lone_u}
use Rattle.regress_lexer.specs.Source.{Source, Found, ◌>>=◌, found_map, IsCodePoint, char, is_at}
use Rattle.regress_lexer.specs.Digits.{is_between, is_letter, is_octal, is_hex, control, number, front, after, hex_at}
use Rattle.regress_lexer.specs.Escapes.{braced_hex_at, unit_at, trail_surrogate_at, paired, with_trail_surrogate, unicode_at, or_identity_escape, octal_digits, letter_escape, begins_with_digit, is_syntax_character, control_at, other_escape, escape_at, character_escape_at}
use Rattle.regress_lexer.proofs.lemmas.Digits.{and_both, hex_fits, octal_number_fits}

-- Whatever is found has the property.
pub record Finds {A : Type 0} (P : A → Type 0) (found : Found A) : Type 0 where
  pub each : (x : A × Source) → found ≡ Some x → P x.0

pub finds_none : {A : Type 0} (P : A → Type 0) → Finds P None
finds_none P = record { each = λ x e. absurd (none-some x e) }

pub finds_some : {A : Type 0} (P : A → Type 0) (x : A × Source) → P x.0 → Finds P (Some x)
finds_some {A} P x h = record { each = λ y e. subst (λ (z : A × Source). P z.0) (same_Some x y e) h }

pub finds_cond : {A : Type 0} (P : A → Type 0) (b : Bool) (x y : Found A) → (b ≡ true → Finds P x) → (b ≡ false → Finds P y) →
    Finds P (cond b x y)
finds_cond P true x y h k = h refl
finds_cond P false x y h k = k refl

pub finds_then : {A B : Type 0} (P : A → Type 0) (Q : B → Type 0) (found : Found A) (next : A × Source → Found B) →
    Finds P found → ((x : A × Source) → P x.0 → Finds Q (next x)) → Finds Q (found >>= next)
finds_then P Q None next h k = finds_none Q
finds_then P Q (Some x) next h k = k x (h.each x refl)

pub finds_map : {A B : Type 0} (P : A → Type 0) (Q : B → Type 0) (f : A → B) (found : Found A) → ((x : A) → P x → Q (f x)) →
    Finds P found → Finds Q (found_map f found)
finds_map P Q f None k h = finds_none Q
finds_map P Q f (Some x) k h = finds_some Q (f x.0, x.1) (k x.0 (h.each x refl))

hex_at-in_range : (n : ℕ) (t : Source) → n ≤ 4 → Finds (λ x. x < 0x10000) (hex_at n t)
hex_at-in_range n t few =
    finds_cond _ (length (take n t) == n && list_all is_hex (take n t)) _ _
    (λ e. finds_some _ (number 16 (take n t), drop n t)
    (hex_fits (take n t) (omega (arith, length-take n t)) (and_both _ _ e).1))
    (λ e. finds_none _)

hex_at-code_point : (n : ℕ) (t : Source) → n ≤ 4 → Finds IsCodePoint (hex_at n t)
hex_at-code_point n t few = record { each = λ x e. let small = (hex_at-in_range n t few).each x e in omega arith }

braced_hex_at-in_range : (t : Source) → Finds IsCodePoint (braced_hex_at t)
braced_hex_at-in_range t =
    finds_cond _ (not (length (front is_hex t) == 0) && is_at 125 (after is_hex t) && nat_le (number 16 (front is_hex t)) code_point_max) _ _
    (λ e. finds_some _ (number 16 (front is_hex t), _) (leb-true _ _ (and_both _ _ e).1))
    (λ e. finds_none _)

unit_at-in_range : (t : Source) → Finds (λ x. x < 0x10000) (unit_at t)
unit_at-in_range t =
    finds_cond _ (is_at (char "\\") t && is_at (char "u") (drop 1 t)) _ _
    (λ _. hex_at-in_range 4 (drop 2 t) (omega arith)) (λ _. finds_none _)

trail_surrogate_at-in_range : (t : Source) → Finds (λ low. low ≤ 0xDFFF) (trail_surrogate_at t)
trail_surrogate_at-in_range t =
    finds_then _ _ (unit_at t) _ (unit_at-in_range t)
    (λ x _. finds_cond _ (is_between 0xDC00 0xDFFF x.0) _ _ (λ e. finds_some _ x (leb-true _ _ (and_both _ _ e).1)) (λ e. finds_none _))

-- A surrogate pair denotes a code point.
paired_in_range : (high low : ℕ) → high ≤ 0xDBFF → low ≤ 0xDFFF → paired high low ≤ code_point_max
paired_in_range high low h l = omega arith

halves_in_range : (high : ℕ) (t : Source) (second : Found ℕ) → high ≤ 0xDBFF → Finds (λ low. low ≤ 0xDFFF) second →
    Finds IsCodePoint (elim second as (λ _. Found ℕ) [ None ↦ Some (high, t) | Some low ↦ Some (paired high low.0, low.1) ])
halves_in_range high t None small h = finds_some _ (high, t) (omega arith)
halves_in_range high t (Some low) small h = finds_some _ (paired high low.0, low.1) (paired_in_range high low.0 small (h.each low refl))

with_trail_surrogate-in_range : (x : ℕ × Source) → x.0 < 0x10000 → Finds IsCodePoint (with_trail_surrogate x)
with_trail_surrogate-in_range (high, t) small =
    finds_cond _ (is_between 0xD800 0xDBFF high) _ _
    (λ e. halves_in_range high t (trail_surrogate_at t) (leb-true _ _ (and_both _ _ e).1) (trail_surrogate_at-in_range t))
    (λ e. finds_some _ (high, t) (omega arith))

unicode_at-in_range : (t : Source) → Finds IsCodePoint (unicode_at t)
unfolding unicode_at
unicode_at-in_range t =
    finds_cond _ (is_at 123 t) _ _
    (λ _. braced_hex_at-in_range (drop 1 t))
    (λ _. finds_then _ _ (hex_at 4 t) with_trail_surrogate (hex_at-in_range 4 t (omega arith)) with_trail_surrogate-in_range)

or_identity_escape-in_range : (unicode : Bool) (c : ℕ) (t : Source) (found : Found ℕ) → IsCodePoint c → Finds IsCodePoint found →
    Finds IsCodePoint (or_identity_escape unicode c t found)
or_identity_escape-in_range unicode c t None c_in h = finds_cond _ unicode _ _ (λ _. finds_none _) (λ _. finds_some _ (c, t) c_in)
or_identity_escape-in_range unicode c t (Some x) c_in h = h

control_at-in_range : (t : Source) → Finds IsCodePoint (control_at t)
control_at-in_range [] = finds_none _
control_at-in_range (d ∷ t) =
    finds_cond _ (is_letter d) _ _ (λ _. finds_some _ (control d, t) (omega arith)) (λ _. finds_none _)

other_escape-in_range : (unicode : Bool) (c : ℕ) (t : Source) → IsCodePoint c → Finds IsCodePoint (other_escape unicode c t)
other_escape-in_range unicode c t c_in =
    finds_cond _ (c == 99) _ _ (λ _. control_at-in_range t)
    (λ _. finds_cond _ (c == 48 && not (begins_with_digit t)) _ _ (λ _. finds_some _ (0, t) (omega arith))
    (λ _. finds_cond _ (c == 120) _ _ (λ _. or_identity_escape-in_range unicode c t (hex_at 2 t) c_in (hex_at-code_point 2 t (omega arith)))
    (λ _. finds_cond _ (c == 117) _ _ (λ _. or_identity_escape-in_range unicode c t (unicode_at t) c_in (unicode_at-in_range t))
    (λ _. finds_cond _ (not unicode && is_octal c) _ _
    (λ _. finds_some _ (number 8 (octal_digits c t), _) (let small = octal_number_fits c t in omega arith))
    (λ _. finds_cond _ (is_syntax_character c || not unicode) _ _ (λ _. finds_some _ (c, t) c_in) (λ _. finds_none _))))))

some_cond : (P : ℕ → Type 0) (b : Bool) (x : ℕ) (o : Option ℕ) → P x → IfSome o P → IfSome (cond b (Some x) o) P
some_cond P true x o h k = h
some_cond P false x o h k = k

letter_escape-in_range : (c : ℕ) → IfSome (letter_escape c) IsCodePoint
letter_escape-in_range c =
    some_cond IsCodePoint (c == 102) 0xC _ (omega arith)
    (some_cond IsCodePoint (c == 110) 0xA _ (omega arith)
    (some_cond IsCodePoint (c == 114) 0xD _ (omega arith)
    (some_cond IsCodePoint (c == 116) 0x9 _ (omega arith) (some_cond IsCodePoint (c == 118) 0xB None (omega arith) tt))))

escape_by-in_range : (unicode : Bool) (c : ℕ) (t : Source) (letter : Option ℕ) → IfSome letter IsCodePoint → IsCodePoint c →
    Finds IsCodePoint (elim letter as (λ _. Found ℕ) [ None ↦ other_escape unicode c t | Some x ↦ Some (x, t) ])
escape_by-in_range unicode c t None h c_in = other_escape-in_range unicode c t c_in
escape_by-in_range unicode c t (Some x) h c_in = finds_some _ (x, t) h

pub escape_at-in_range : (unicode : Bool) (t : Source) → All IsCodePoint t → Finds IsCodePoint (escape_at unicode t)
unfolding escape_at
escape_at-in_range unicode [] h = finds_none _
escape_at-in_range unicode (c ∷ t) h =
    escape_by-in_range unicode c t (letter_escape c) (letter_escape-in_range c) (All-head IsCodePoint c t h)

-- The same for the result of a function, as its contract states it.
pub value_in_range : {R : Type 0} (view : R → Source) (unicode : Bool) (t : Source) (response : Option (ℕ × R)) → All IsCodePoint t →
    option_map (λ found. (found.0, view found.1)) response ≡ escape_at unicode t → IfSome response (λ found. IsCodePoint found.0)
value_in_range view unicode t None h e = tt
value_in_range view unicode t (Some x) h e = (escape_at-in_range unicode t h).each (x.0, view x.1) (sym e)

pub character_escape_at-in_range : (dialect : Dialect) (unicode : Bool) (t : Source) → All IsCodePoint t →
    Finds IsCodePoint (character_escape_at dialect unicode t)
character_escape_at-in_range dialect unicode [] h = finds_none _
character_escape_at-in_range dialect unicode (c ∷ t) h =
    finds_cond _ (is_lone_u dialect unicode c t) _ _ (λ _. finds_some _ (c, t) (All-head IsCodePoint c t h))
    (λ _. escape_at-in_range unicode (c ∷ t) h)
