-- ECMA-262 (2025), 22.2.1 Patterns: Quantifier with its early error (22.2.1.1), and B.1.2: InvalidBracedQuantifier.
use Rattle.std.specs.Prelude.{◌≡◌, ℕ, ◌<◌, ◌-◌, ◌^◌, min, Bool, true, false, not, List, ◌∷◌, ◌++◌, length, Some, None, nat_le}
use Rattle.std.specs.List.{list_all}
use Rattle.regress_base.specs.declared.types.Quantifier.{Quantifier}
use Rattle.regress_lexer.specs.Source.{Source, char}
use Rattle.regress_lexer.specs.Digits.{is_decimal, number}
use Rattle.regress_lexer.specs.Quantifiers.{RepeatBounds}

-- In what follows, the node is derived from t, and `rest` remains.

-- 12.9.3 DecimalDigits, of which n is the MV
abbrev pub IsDecimalDigits : (n : ℕ) → (t rest : Source) → Type 0
IsDecimalDigits n t rest =
    (digits : List ℕ) × (t ≡ digits ++ rest) × (0 < length digits) × (list_all is_decimal digits ≡ true) × (number 10 digits ≡ n)

-- the parse nodes of QuantifierPrefix: `*`, `+`, `?`, `{n}`, `{n,}` and `{n,m}`
pub data QuantifierPrefix : Type 0 where
  star : QuantifierPrefix
  plus : QuantifierPrefix
  optional : QuantifierPrefix
  exactly : (n : ℕ) → QuantifierPrefix
  at_least : (n : ℕ) → QuantifierPrefix
  between : (n m : ℕ) → QuantifierPrefix

abbrev pub IsQuantifierPrefix : QuantifierPrefix → (t rest : Source) → Type 0
IsQuantifierPrefix star t rest = t ≡ char "*" ∷ rest
IsQuantifierPrefix plus t rest = t ≡ char "+" ∷ rest
IsQuantifierPrefix optional t rest = t ≡ char "?" ∷ rest
IsQuantifierPrefix (exactly n) t rest = (u : Source) × (t ≡ char "{" ∷ u) × IsDecimalDigits n u (char "}" ∷ rest)
IsQuantifierPrefix (at_least n) t rest = (u : Source) × (t ≡ char "{" ∷ u) × IsDecimalDigits n u (char "," ∷ char "}" ∷ rest)
IsQuantifierPrefix (between n m) t rest =
    (u v : Source) × (t ≡ char "{" ∷ u) × IsDecimalDigits n u (char "," ∷ v) × IsDecimalDigits m v (char "}" ∷ rest)

-- Quantifier: QuantifierPrefix, or QuantifierPrefix `?`, which is lazy
abbrev pub IsQuantifier : QuantifierPrefix → (lazy : Bool) → (t rest : Source) → Type 0
IsQuantifier prefix false t rest = IsQuantifierPrefix prefix t rest
IsQuantifier prefix true t rest = IsQuantifierPrefix prefix t (char "?" ∷ rest)

-- InvalidBracedQuantifier has the same alternatives as QuantifierPrefix with braces.
abbrev pub is_braced : QuantifierPrefix → Bool
is_braced star = false
is_braced plus = false
is_braced optional = false
is_braced (exactly n) = true
is_braced (at_least n) = true
is_braced (between n m) = true

abbrev pub IsInvalidBracedQuantifier : QuantifierPrefix → (t rest : Source) → Type 0
IsInvalidBracedQuantifier prefix t rest = (is_braced prefix ≡ true) × IsQuantifierPrefix prefix t rest

-- 22.2.1.1: the MV of the first DecimalDigits is greater than that of the second.
abbrev pub is_out_of_order : QuantifierPrefix → Bool
is_out_of_order star = false
is_out_of_order plus = false
is_out_of_order optional = false
is_out_of_order (exactly n) = false
is_out_of_order (at_least n) = false
is_out_of_order (between n m) = not (nat_le n m)

-- ---- what the parser makes of it

-- A number saturates at `usize::MAX`.
abbrev pub saturated : ℕ → ℕ
saturated n = min n (2 ^ 64 - 1)

-- 22.2.2.6 CompileQuantifierPrefix
abbrev pub bounds_of : QuantifierPrefix → RepeatBounds
bounds_of star = (0, None)
bounds_of plus = (1, None)
bounds_of optional = (0, Some 1)
bounds_of (exactly n) = (saturated n, Some (saturated n))
bounds_of (at_least n) = (saturated n, None)
bounds_of (between n m) = (saturated n, Some (saturated m))

abbrev pub quantifier_of : QuantifierPrefix → (lazy : Bool) → Quantifier
quantifier_of prefix lazy = record { min = (bounds_of prefix).0; max = (bounds_of prefix).1; greedy = not lazy }

-- The first number does not saturate.
abbrev pub HasMinimum : QuantifierPrefix → Type 0
HasMinimum star = Unit {0}
HasMinimum plus = Unit {0}
HasMinimum optional = Unit {0}
HasMinimum (exactly n) = Unit {0}
HasMinimum (at_least n) = Unit {0}
HasMinimum (between n m) = n < 2 ^ 64
