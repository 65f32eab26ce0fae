-- The quantifier at the start of a source (ECMA-262, Quantifier).
use Rattle.std.specs.Prelude.{ℕ, ◌-◌, ◌^◌, Bool, true, not, min, [], ◌∷◌, length, drop, Option, Some, None, if◌then◌else◌, nat_le, ◌==◌}
use Rattle.regress_base.specs.declared.types.Quantifier.{Quantifier}
use Rattle.regress_lexer.specs.Source.{Source, Found, ◌>>=◌, char, is_at, question_mark}
use Rattle.regress_lexer.specs.Digits.{is_decimal, number, front, after}

-- minimum and maximum; `None` if there is no maximum
abbrev pub RepeatBounds : Type 0
RepeatBounds = ℕ × Option ℕ

-- A number of one or more digits, which saturates at `usize::MAX` after all digits are parsed (dialect).
abbrev pub count_at : Source → Found ℕ
count_at t =
    if length (front is_decimal t) == 0 then None
    else Some (min (number 10 (front is_decimal t)) (2 ^ 64 - 1), after is_decimal t)

-- the closing brace
abbrev pub closed_brace : RepeatBounds → Source → Found RepeatBounds
closed_brace times t = if is_at (char "}") t then Some (times, drop 1 t) else None

-- what follows the minimum: `}`, `,}`, or `,`, the maximum and `}`
abbrev pub maximum_at : ℕ × Source → Found RepeatBounds
maximum_at (least, t) =
    if is_at (char ",") t
    then (if is_at (char "}") (drop 1 t) then closed_brace (least, None) (drop 1 t)
    else (count_at (drop 1 t) >>= λ (most, rest). closed_brace (least, Some most) rest))
    else closed_brace (least, Some least) t

-- `*`, `+`, `?` or numbers in braces (ECMA-262, QuantifierPrefix)
abbrev pub quantifier_prefix_by : ℕ → Source → Found RepeatBounds
quantifier_prefix_by c t =
    if c == char "*" then Some ((0, None), t)
    else if c == char "+" then Some ((1, None), t)
    else if c == question_mark then Some ((0, Some 1), t)
    else if c == char "{" then count_at t >>= maximum_at
    else None

-- A `?` after it makes the quantifier lazy.
abbrev pub greedy_or_lazy : RepeatBounds × Source → Found Quantifier
greedy_or_lazy (times, t) = Some (
  record { min = times.0; max = times.1; greedy = not (is_at question_mark t) },
  if is_at question_mark t then drop 1 t else t,
)

-- a quantifier at the start of a source
unfoldable pub quantifier_at : Source → Found Quantifier
quantifier_at [] = None
quantifier_at (c ∷ t) = quantifier_prefix_by c t >>= greedy_or_lazy

-- The minimum is at most the maximum.
abbrev pub is_ordered : Quantifier → Bool
is_ordered q = elim q.max [ None ↦ true | Some most ↦ nat_le q.min most ]
