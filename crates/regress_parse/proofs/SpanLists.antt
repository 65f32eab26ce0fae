-- Lists of spans that are appended in reverse order.
use Rattle.std.proofs.Common.{◌≡◌, ℕ, min, ◌==◌, Bool, true, false, not, cond, List, [], ◌∷◌, ◌++◌, take, drop, length, Vec, refl, sym, ap, ◌∙◌, arith, length-append}
use Rattle.std.specs.declared.alloc.Global.{Global}
use Rattle.std.proofs.lemmas.List.{append_assoc, append-nil, take_at, drop_at}
use Rattle.regress_lexer.specs.Source.{Source}
use Rattle.regress_parse.specs.declared.span.Span.{Span}
use Rattle.regress_parse.specs.Spans.{span_of_alternative}
use Rattle.regress_parse.specs.Recorded.{joined_in_reverse, span_to, alternations}

pub alternations-push : (whole : ℕ) (lefts : List ℕ) (left : ℕ) (rest : Source) →
    alternations whole (lefts ++ left ∷ []) rest
    ≡ span_to whole left rest ∷ [] ++ alternations whole lefts rest
alternations-push whole [] left rest = refl
alternations-push whole (l ∷ lefts) left rest =
    ap (λ (ss : List Span). ss ++ span_to whole l rest ∷ []) (alternations-push whole lefts left rest)

pub reversed-push : (parts : List (Vec Span Global)) (part : Vec Span Global) → joined_in_reverse (parts ++ part ∷ []) ≡ part.items ++ joined_in_reverse parts
reversed-push [] part = sym (append-nil part.items)
reversed-push (p ∷ parts) part =
    ap (λ (ss : List Span). ss ++ p.items) (reversed-push parts part) ∙ append_assoc part.items (joined_in_reverse parts) p.items

-- An alternative, the alternatives after it and the span of all of them, regrouped.
pub alternative_joined : (now first others : List Span) (all : Span) (around : List Span) →
    now ++ (first ++ others ++ all ∷ [] ++ around) ≡ (now ++ first) ++ (others ++ (all ∷ [] ++ around))
alternative_joined now first others all around =
    ap (λ (ss : List Span). now ++ ss) (append_assoc (first ++ others) (all ∷ []) around ∙ append_assoc first others (all ∷ [] ++ around))
    ∙ sym (append_assoc now first (others ++ (all ∷ [] ++ around)))

-- The conditional span of an alternative is the one of the definition.
pub alternative_if : (n : ℕ) (s : Span) → cond (not (n == 1)) (s ∷ []) [] ≡ span_of_alternative n s
alternative_if n s = by (n == 1)
  where
    by : (b : Bool) → cond (not b) (s ∷ []) [] ≡ cond b [] (s ∷ [])
    by true = refl
    by false = refl

-- Where a list begins with another of that length, it is split there.
pub split-apart : (before part items : List Span) (at begin : ℕ) → items ≡ before ++ part → length before ≡ begin → at ≡ min begin (length items) →
    (take at items ≡ before) × (drop at items ≡ part)
split-apart before part items at begin is from bounded =
    let front : length before ≡ at = omega (arith, from, bounded, ap (λ (ss : List Span). length ss) is, length-append before part) in
    (ap (take at) is ∙ take_at before part at front, ap (drop at) is ∙ drop_at before part at front)
