-- The parser finds the quantifiers that ECMA-262 derives.
use Rattle.std.proofs.Common.{◌≡◌, ℕ, ◌==◌, Bool, true, false, not, [], ◌∷◌, ◌++◌, length, drop, Some, None, if◌then◌else◌, refl, sym, ap, subst, ◌∙◌, arith, eqb-true}
use Rattle.std.specs.List.{list_all}
use Rattle.std.proofs.lemmas.Bool.{false≢true, and_parts}
use Rattle.std.proofs.lemmas.Bool.Decides.{nat_tests}
use Rattle.regress_base.specs.declared.types.Quantifier.{Quantifier}
use Rattle.regress_lexer.specs.Source.{Source, Found, ◌>>=◌, char, is_at, question_mark}
use Rattle.regress_lexer.specs.Digits.{is_decimal, number, front, after}
use Rattle.regress_lexer.specs.Quantifiers.{RepeatBounds, count_at, closed_brace, maximum_at, quantifier_prefix_by, greedy_or_lazy, quantifier_at, is_ordered}
use Rattle.regress_ecma.specs.CharacterEscapes.{is_before}
use Rattle.regress_ecma.specs.Quantifiers.{IsDecimalDigits, QuantifierPrefix, star, plus, optional, exactly, at_least, between, IsQuantifierPrefix, IsQuantifier, is_braced, is_out_of_order, saturated, bounds_of, quantifier_of, HasMinimum}
use Rattle.regress_ecma.proofs.ClassDerivations.{front_is}
use Rattle.regress_ecma.proofs.ClassRangeNodes.{Each, each_none, each_some, each_if, each_then, each_at, each_weaker}

-- ---- digits

-- a source is its longest prefix that passes a test, and the rest
pub front_after : (p : ℕ → Bool) (t : Source) → t ≡ front p t ++ after p t
unfolding front after
front_after p [] = refl
front_after p (c ∷ t) = by (p c) (front_after p t)
  where
    by : (b : Bool) → t ≡ front p t ++ after p t → c ∷ t ≡ (if b then c ∷ front p t else []) ++ (if b then after p t else c ∷ t)
    by true e = ap (λ (u : Source). c ∷ u) e
    by false e = refl

pub front_all : (p : ℕ → Bool) (t : Source) → list_all p (front p t) ≡ true
unfolding front
front_all p [] = refl
front_all p (c ∷ t) = by (p c) refl (front_all p t)
  where
    by : (b : Bool) → p c ≡ b → list_all p (front p t) ≡ true → list_all p (if b then c ∷ front p t else []) ≡ true
    by true e more = rw e more
    by false e more = refl

-- Where all of a prefix passes, and what follows does not, it is the longest one.
pub front_is_prefix : (p : ℕ → Bool) (prefix rest : Source) → list_all p prefix ≡ true → is_before p rest ≡ false →
    (front p (prefix ++ rest) ≡ prefix) × (after p (prefix ++ rest) ≡ rest)
unfolding front after
front_is_prefix p [] [] passes ends = (refl, refl)
front_is_prefix p [] (c ∷ t) passes ends = (rw (front, ends) refl, rw (after, ends) refl)
front_is_prefix p (c ∷ prefix) rest passes ends =
    let both = and_parts (p c) (list_all p prefix) passes in
    let more = front_is_prefix p prefix rest both.1 ends in
    (rw (front, both.0) (ap (λ (u : Source). c ∷ u) more.0), rw (after, both.0) more.1)

counts : (t : Source) → Each (λ x. (n : ℕ) × (saturated n ≡ x.0) × IsDecimalDigits n t x.1) (count_at t)
counts t =
    each_if P (length (front is_decimal t) == 0) None _ (λ _. each_none P)
    (λ some. each_some P (saturated (number 10 (front is_decimal t)), after is_decimal t) (
      number 10 (front is_decimal t),
      refl,
      (front is_decimal t, front_after is_decimal t, grind (arith, nat_tests, some), front_all is_decimal t, refl),
    ))
  where
    P : ℕ × Source → Type 0
    P x = (n : ℕ) × (saturated n ≡ x.0) × IsDecimalDigits n t x.1

derived_count : (n : ℕ) (t rest : Source) → IsDecimalDigits n t rest → is_before is_decimal rest ≡ false → count_at t ≡ Some (saturated n, rest)
derived_count n t rest (digits, same, some, decimal, value) ends =
    let found = front_is_prefix is_decimal digits rest decimal ends in
    rw (same, found.0, found.1, value, not_empty) refl
  where
    not_empty : (length digits == 0) ≡ false
    not_empty = grind (arith, nat_tests, some)

-- ---- prefixes

-- A prefix with braces is derived, and has these bounds.
abbrev IsBraced : Source → RepeatBounds × Source → Type 0
IsBraced t x = (p : QuantifierPrefix) × (is_braced p ≡ true) × (bounds_of p ≡ x.0) × IsQuantifierPrefix p (char "{" ∷ t) x.1

exact : (t u : Source) (n : ℕ) → IsDecimalDigits n t u → Each (IsBraced t) (closed_brace (saturated n, Some (saturated n)) u)
exact t u n digits =
    each_if (IsBraced t) (is_at (char "}") u) _ None
    (λ closes. each_some (IsBraced t) ((saturated n, Some (saturated n)), drop 1 u)
    (exactly n, refl, refl, (t, refl, subst (IsDecimalDigits n t) (front_is (char "}") u closes) digits)))
    (λ _. each_none (IsBraced t))

open_ended : (t v : Source) (n : ℕ) → IsDecimalDigits n t (char "," ∷ v) → is_at (char "}") v ≡ true →
    Each (IsBraced t) (closed_brace (saturated n, None) v)
open_ended t v n digits closes =
    subst (λ (b : Bool). Each (IsBraced t) (if b then Some ((saturated n, None), drop 1 v) else None)) (sym closes)
    (each_some (IsBraced t) ((saturated n, None), drop 1 v)
    (at_least n, refl, refl, (t, refl, subst (λ (w : Source). IsDecimalDigits n t (char "," ∷ w)) (front_is (char "}") v closes) digits)))

both : (t v w : Source) (n m : ℕ) → IsDecimalDigits n t (char "," ∷ v) → IsDecimalDigits m v w →
    Each (IsBraced t) (closed_brace (saturated n, Some (saturated m)) w)
both t v w n m digits more =
    each_if (IsBraced t) (is_at (char "}") w) _ None
    (λ closes. each_some (IsBraced t) ((saturated n, Some (saturated m)), drop 1 w)
    (between n m, refl, refl, (t, v, refl, digits, subst (IsDecimalDigits m v) (front_is (char "}") w closes) more)))
    (λ _. each_none (IsBraced t))

maxima : (t u : Source) (n : ℕ) → IsDecimalDigits n t u → Each (IsBraced t) (maximum_at (saturated n, u))
maxima t u n digits =
    each_if (IsBraced t) (is_at (char ",") u) _ _
    (λ comma.
    let digits' = subst (IsDecimalDigits n t) (front_is (char ",") u comma) digits in
    each_if (IsBraced t) (is_at (char "}") (drop 1 u)) _ _ (open_ended t (drop 1 u) n digits')
    (λ _. each_then (IsBraced t) (count_at (drop 1 u)) _
    (λ x e. let found = each_at _ _ (counts (drop 1 u)) x e in
    subst (λ (most : ℕ). Each (IsBraced t) (closed_brace (saturated n, Some most) x.1)) found.1 (both t (drop 1 u) x.1 n found.0 digits' found.2))))
    (λ _. exact t u n digits)

braces : (t : Source) → Each (IsBraced t) (count_at t >>= maximum_at)
braces t =
    each_then (IsBraced t) (count_at t) maximum_at
    (λ x e. let found = each_at _ _ (counts t) x e in
    subst (λ (least : ℕ). Each (IsBraced t) (maximum_at (least, x.1))) found.1 (maxima t x.1 found.0 found.2))

-- A prefix is derived, and has these bounds.
abbrev IsPrefixed : Source → RepeatBounds × Source → Type 0
IsPrefixed t x = (p : QuantifierPrefix) × (bounds_of p ≡ x.0) × IsQuantifierPrefix p t x.1

prefixes : (c : ℕ) (t : Source) → Each (IsPrefixed (c ∷ t)) (quantifier_prefix_by c t)
prefixes c t =
    each_if P (c == char "*") _ _
    (λ e. each_some P ((0, None), t) (star, refl, ap (λ (d : ℕ). d ∷ t) (eqb-true c (char "*") e)))
    (λ _. each_if P (c == char "+") _ _
    (λ e. each_some P ((1, None), t) (plus, refl, ap (λ (d : ℕ). d ∷ t) (eqb-true c (char "+") e)))
    (λ _. each_if P (c == question_mark) _ _
    (λ e. each_some P ((0, Some 1), t) (optional, refl, ap (λ (d : ℕ). d ∷ t) (eqb-true c (char "?") e)))
    (λ _. each_if P (c == char "{") _ None
    (λ e. each_weaker (IsBraced t) P (count_at t >>= maximum_at)
    (λ x h. (h.0, h.2, subst (λ (d : ℕ). IsQuantifierPrefix h.0 (d ∷ t) x.1) (sym (eqb-true c (char "{") e)) h.3)) (braces t))
    (λ _. each_none P))))
  where
    P : RepeatBounds × Source → Type 0
    P = IsPrefixed (c ∷ t)

-- ---- from the parser

-- A quantifier is derived, it is this one, and what follows it is no `?` if it is not lazy.
abbrev pub IsQuantifierNode : Source → Quantifier × Source → Type 0
IsQuantifierNode t x =
    (p : QuantifierPrefix) × (lazy : Bool) × IsQuantifier p lazy t x.1 × (quantifier_of p lazy ≡ x.0)
    × (lazy ≡ false → is_at (char "?") x.1 ≡ false)

laziness : (t u : Source) (bounds : RepeatBounds) (p : QuantifierPrefix) → bounds_of p ≡ bounds → IsQuantifierPrefix p t u →
    Each (IsQuantifierNode t) (greedy_or_lazy (bounds, u))
laziness t u bounds p same derived = by (is_at question_mark u) refl
  where
    by : (b : Bool) → is_at question_mark u ≡ b →
        Each (IsQuantifierNode t)
        (Some (record { min = bounds.0; max = bounds.1; greedy = not b }, if b then drop 1 u else u))
    by true e =
        each_some (IsQuantifierNode t) (record { min = bounds.0; max = bounds.1; greedy = false }, drop 1 u) (
          p,
          true,
          subst (IsQuantifierPrefix p t) (front_is question_mark u e) derived,
          ap (λ (b : RepeatBounds). record { min = b.0; max = b.1; greedy = false }) same,
          λ f. absurd (false≢true (sym f)),
        )
    by false e =
        each_some (IsQuantifierNode t) (record { min = bounds.0; max = bounds.1; greedy = true }, u)
        (p, false, derived, ap (λ (b : RepeatBounds). record { min = b.0; max = b.1; greedy = true }) same, λ _. e)

quantifiers : (t : Source) → Each (IsQuantifierNode t) (quantifier_at t)
unfolding quantifier_at
quantifiers [] = each_none (IsQuantifierNode [])
quantifiers (c ∷ t) =
    each_then (IsQuantifierNode (c ∷ t)) (quantifier_prefix_by c t) greedy_or_lazy
    (λ x e. let found = each_at _ _ (prefixes c t) x e in laziness (c ∷ t) x.1 x.0 found.0 found.1 found.2)

pub quantifier_accepted : (t rest : Source) (q : Quantifier) → quantifier_at t ≡ Some (q, rest) → IsQuantifierNode t (q, rest)
quantifier_accepted t rest q e = each_at _ _ (quantifiers t) (q, rest) e

-- ---- to the parser

prefix_found : (p : QuantifierPrefix) (t rest : Source) → IsQuantifierPrefix p t rest →
    (c : ℕ) × (u : Source) × (t ≡ c ∷ u) × (quantifier_prefix_by c u ≡ Some (bounds_of p, rest))
prefix_found star t rest e = (char "*", rest, e, refl)
prefix_found plus t rest e = (char "+", rest, e, refl)
prefix_found optional t rest e = (char "?", rest, e, refl)
prefix_found (exactly n) t rest (u, e, digits) = (char "{", u, e, ap (λ (o : Found ℕ). o >>= maximum_at) (derived_count n u (char "}" ∷ rest) digits refl))
prefix_found (at_least n) t rest (u, e, digits) =
    (char "{", u, e, ap (λ (o : Found ℕ). o >>= maximum_at) (derived_count n u (char "," ∷ char "}" ∷ rest) digits refl))
prefix_found (between n m) t rest (u, v, e, digits, more) = (
  char "{",
  u,
  e,
  ap (λ (o : Found ℕ). o >>= maximum_at) (derived_count n u (char "," ∷ v) digits refl)
      ∙ ap (λ (b : Bool). if b then closed_brace (saturated n, None) v
      else (count_at v >>= λ (most, after'). closed_brace (saturated n, Some most) after')) (digit_first v m (char "}" ∷ rest) more)
      ∙ ap (λ (o : Found ℕ). o >>= λ (most, after'). closed_brace (saturated n, Some most) after') (derived_count m v (char "}" ∷ rest) more refl),
)
  where
    digit_first : (v : Source) (m : ℕ) (rest : Source) → IsDecimalDigits m v rest → is_at (char "}") v ≡ false
    digit_first v m rest ([], same, some, decimal, value) = absurd (omega arith)
    digit_first v m rest (c ∷ digits, same, some, decimal, value) =
        ap (is_at (char "}")) same ∙ no_brace (and_parts (is_decimal c) (list_all is_decimal digits) decimal).0
      where
        no_brace : is_decimal c ≡ true → (c == char "}") ≡ false
        no_brace e = grind (arith, nat_tests)

pub quantifier_derived : (p : QuantifierPrefix) (lazy : Bool) (t rest : Source) → IsQuantifier p lazy t rest →
    (lazy ≡ false → is_at (char "?") rest ≡ false) → quantifier_at t ≡ Some (quantifier_of p lazy, rest)
unfolding quantifier_at
quantifier_derived p true t rest derived greedy =
    let found = prefix_found p t (char "?" ∷ rest) derived in
    ap quantifier_at found.2 ∙ ap (λ (o : Found RepeatBounds). o >>= greedy_or_lazy) found.3
quantifier_derived p false t rest derived greedy =
    let found = prefix_found p t rest derived in
    ap quantifier_at found.2 ∙ ap (λ (o : Found RepeatBounds). o >>= greedy_or_lazy) found.3
    ∙ ap (λ (b : Bool). Some (record { min = (bounds_of p).0; max = (bounds_of p).1; greedy = not b }, if b then drop 1 rest else rest)) (greedy refl)

-- ---- the order of the numbers

pub order_kept : (p : QuantifierPrefix) (lazy : Bool) → is_out_of_order p ≡ false → is_ordered (quantifier_of p lazy) ≡ true
order_kept star lazy e = refl
order_kept plus lazy e = refl
order_kept optional lazy e = refl
order_kept (exactly n) lazy e = grind (arith, nat_tests)
order_kept (at_least n) lazy e = refl
order_kept (between n m) lazy e = grind (arith, nat_tests, e)

pub order_back : (p : QuantifierPrefix) (lazy : Bool) → HasMinimum p → is_ordered (quantifier_of p lazy) ≡ true → is_out_of_order p ≡ false
order_back star lazy few e = refl
order_back plus lazy few e = refl
order_back optional lazy few e = refl
order_back (exactly n) lazy few e = refl
order_back (at_least n) lazy few e = refl
order_back (between n m) lazy few e = grind (arith, nat_tests, e)
