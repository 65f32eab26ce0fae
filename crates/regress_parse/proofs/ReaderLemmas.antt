-- The parsing function: the bound on its calls suffices for every source, and its equations.
use Rattle.std.proofs.Common.{◌≡◌, ℕ, zero, suc, ◌+◌, ◌*◌, ◌<◌, ◌≤◌, ⊎_elim, true, false, cond, length, drop, Option, Some, refl, sym, ap, ◌∙◌, arith, length-drop}
use Rattle.std.proofs.lemmas.Option.{none-some, same_Some, cond_some}
use Rattle.regress_base.specs.declared.types.Quantifier.{Quantifier}
use Rattle.regress_lexer.specs.Source.{Source, Found, ◌>>=◌, closing, bar, is_at, ends_alternative}
use Rattle.regress_syntax.specs.Syntax.{Group, Pattern, Terms, Item, one, either, no_terms, more_terms, atom}
use Rattle.regress_syntax.specs.Productions.{Context, context_inside, Head, single, opens, head_of_item, allows, head_at, optional_quantifier_at}
use Rattle.regress_lexer.proofs.lemmas.Sources.{found_then, then_same, chosen, cond_same, at_front, Shortens}
use Rattle.regress_syntax.proofs.lemmas.Productions.{head_at-shortens, optional_quantifier_at-shortens}
use Rattle.regress_parse.specs.Reader.{Term, closed, item_after_head, item_by, quantified, term_by, parse_terms, parse_pattern, fuel, pattern_at, terms_at, item_at, term_at}

-- parsing functions for patterns, in every context, and what they keep
abbrev Inner : Type 0
Inner = Context → Source → Found Pattern

abbrev InnerShortens : Inner → Type 0
InnerShortens inner = (ctx : Context) → Shortens (inner ctx)

-- Both functions parse sources shorter than n alike.
abbrev Agree : Inner → Inner → ℕ → Type 0
Agree f g n = (ctx : Context) (u : Source) → length u < n → f ctx u ≡ g ctx u

closed-shortens : (kind : Group) (x : Pattern × Source) (y : Item × Source) → closed kind x ≡ Some y → length y.1 ≤ length x.1
closed-shortens kind x y e =
    let same = (cond_some (is_at closing x.1) _ y e).1 in
    omega (arith, ap (λ (z : Item × Source). length z.1) same, length-drop 1 x.1)

item_after_head-shortens : (inner : Inner) → InnerShortens inner → (ctx : Context) (x : Head × Source) (y : Item × Source) →
    item_after_head inner ctx x ≡ Some y → length y.1 ≤ length x.1
item_after_head-shortens inner h ctx (single a, t) y e = omega (arith, ap (λ (z : Item × Source). length z.1) (same_Some (atom a, t) y e))
item_after_head-shortens inner h ctx (opens kind, t) y e =
    let found = found_then (inner (context_inside kind ctx) t) (closed kind) y e in
    omega (arith, h (context_inside kind ctx) t found.0 found.1, closed-shortens kind found.0 y found.2)

item_by-shortens : (inner : Inner) → InnerShortens inner → (ctx : Context) (t : Source) (y : Item × Source) →
    item_by inner ctx t ≡ Some y → length y.1 < length t
item_by-shortens inner h ctx t y e =
    let found = found_then (head_at ctx t) (item_after_head inner ctx) y e in
    omega (arith, head_at-shortens ctx t found.0 found.1, item_after_head-shortens inner h ctx found.0 y found.2)

quantified-shortens : (ctx : Context) (x : Item × Source) (y : Term × Source) → quantified ctx x ≡ Some y → length y.1 ≤ length x.1
quantified-shortens ctx x y e =
    let allowed = allows ctx (head_of_item x.0) in
    let found = found_then (optional_quantifier_at ctx allowed x.1) (λ (q : Option Quantifier × Source). Some ((x.0, q.0), q.1)) y e in
    omega (arith, optional_quantifier_at-shortens ctx allowed x.1 found.0 found.1, ap (λ (z : Term × Source). length z.1) (same_Some _ y found.2))

term_by-shortens : (inner : Inner) → InnerShortens inner → (ctx : Context) (t : Source) (y : Term × Source) →
    term_by inner ctx t ≡ Some y → length y.1 < length t
term_by-shortens inner h ctx t y e =
    let found = found_then (item_by inner ctx t) (quantified ctx) y e in
    omega (arith, item_by-shortens inner h ctx t found.0 found.1, quantified-shortens ctx found.0 y found.2)

item_after_head-same : (f g : Inner) (n : ℕ) → Agree f g n → (ctx : Context) (x : Head × Source) → length x.1 < n →
    item_after_head f ctx x ≡ item_after_head g ctx x
item_after_head-same f g n agree ctx (single a, t) shorter = refl
item_after_head-same f g n agree ctx (opens kind, t) shorter = ap (λ found. found >>= closed kind) (agree (context_inside kind ctx) t shorter)

item_by-same : (f g : Inner) (ctx : Context) (t : Source) → Agree f g (length t) → item_by f ctx t ≡ item_by g ctx t
item_by-same f g ctx t agree =
    then_same (head_at ctx t) _ _ (λ x found. item_after_head-same f g (length t) agree ctx x (head_at-shortens ctx t x found))

term_by-same : (f g : Inner) (ctx : Context) (t : Source) → Agree f g (length t) → term_by f ctx t ≡ term_by g ctx t
term_by-same f g ctx t agree = ap (λ found. found >>= quantified ctx) (item_by-same f g ctx t agree)

-- the terms and alternatives after a first one, if those are parsed
abbrev pub more_by : (Source → Found Terms) → Term × Source → Found Terms
more_by read x = read x.1 >>= λ (y : Terms × Source). Some (more_terms x.0.0 x.0.1 y.0, y.1)

abbrev pub others_by : (Source → Found Pattern) → Terms × Source → Found Pattern
others_by read x = cond (is_at bar x.1) (read (drop 1 x.1) >>= λ (y : Pattern × Source). Some (either x.0 y.0, y.1)) (Some (one x.0, x.1))

more_by-shortens : (read : Source → Found Terms) → Shortens read → (x : Term × Source) (y : Terms × Source) →
    more_by read x ≡ Some y → length y.1 ≤ length x.1
more_by-shortens read h x y e =
    let others = found_then (read x.1) _ y e in
    omega (arith, h x.1 others.0 others.1, ap (λ (z : Terms × Source). length z.1) (same_Some _ y others.2))

others_by-shortens : (read : Source → Found Pattern) → Shortens read → (x : Terms × Source) (y : Pattern × Source) →
    others_by read x ≡ Some y → length y.1 ≤ length x.1
others_by-shortens read h x y e =
    ⊎_elim
    (λ (more : (is_at bar x.1 ≡ true) × (_ ≡ Some y)).
    let others = found_then (read (drop 1 x.1)) _ y more.1 in
    omega (
      arith,
      h (drop 1 x.1) others.0 others.1,
      length-drop 1 x.1,
      ap (λ (z : Pattern × Source). length z.1) (same_Some _ y others.2),
    ))
    (λ (last : (is_at bar x.1 ≡ false) × (_ ≡ Some y)). omega (arith, ap (λ (z : Pattern × Source). length z.1) (same_Some _ y last.1)))
    (chosen (is_at bar x.1) _ _ _ e)

mutual
  unfolding parse_terms

  parse_terms-shortens : (n : ℕ) (ctx : Context) → Shortens (parse_terms n ctx)
  parse_terms-shortens zero ctx t y e = absurd (none-some y e)
  parse_terms-shortens (suc n) ctx t y e =
      ⊎_elim
      (λ (ends : (ends_alternative t ≡ true) × (Some (no_terms, t) ≡ Some y)).
      omega (arith, ap (λ (z : Terms × Source). length z.1) (same_Some _ _ ends.1)))
      (λ (goes_on : (ends_alternative t ≡ false) × (_ ≡ Some y)).
      let first = found_then (term_by (parse_pattern n) ctx t) (more_by (parse_terms n ctx)) y goes_on.1 in
      omega (
        arith,
        term_by-shortens (parse_pattern n) (parse_pattern-shortens n) ctx t first.0 first.1,
        more_by-shortens (parse_terms n ctx) (parse_terms-shortens n ctx) first.0 y first.2,
      ))
      (chosen (ends_alternative t) _ _ _ e)

  parse_pattern-shortens : (n : ℕ) (ctx : Context) → Shortens (parse_pattern n ctx)
  parse_pattern-shortens zero ctx t y e = absurd (none-some y e)
  parse_pattern-shortens (suc n) ctx t y e =
      let first = found_then (parse_terms n ctx t) (others_by (parse_pattern n ctx)) y e in
      omega (
        arith,
        parse_terms-shortens n ctx t first.0 first.1,
        others_by-shortens (parse_pattern n ctx) (parse_pattern-shortens n ctx) first.0 y first.2,
      )

-- A larger bound changes nothing once the bound suffices.
mutual
  unfolding parse_terms

  parse_terms-same : (n m : ℕ) (ctx : Context) (t : Source) → 2 * length t < n → 2 * length t < m → parse_terms n ctx t ≡ parse_terms m ctx t
  parse_terms-same zero m ctx t h k = absurd (omega arith)
  parse_terms-same (suc n) zero ctx t h k = absurd (omega arith)
  parse_terms-same (suc n) (suc m) ctx t h k =
      cond_same (ends_alternative t) _ _ _ _ (λ ends. refl)
      (λ goes_on.
      ap (λ found. found >>= more_by (parse_terms n ctx))
      (term_by-same (parse_pattern n) (parse_pattern m) ctx t (λ c u shorter. parse_pattern-same n m c u (omega arith) (omega arith)))
      ∙ then_same (term_by (parse_pattern m) ctx t) _ _
      (λ x found. ap (λ found. found >>= λ (y : Terms × Source). Some (more_terms x.0.0 x.0.1 y.0, y.1))
      (let shorter = term_by-shortens (parse_pattern m) (parse_pattern-shortens m) ctx t x found in
      parse_terms-same n m ctx x.1 (omega arith) (omega arith))))

  parse_pattern-same : (n m : ℕ) (ctx : Context) (t : Source) → 2 * length t + 1 < n → 2 * length t + 1 < m →
      parse_pattern n ctx t ≡ parse_pattern m ctx t
  parse_pattern-same zero m ctx t h k = absurd (omega arith)
  parse_pattern-same (suc n) zero ctx t h k = absurd (omega arith)
  parse_pattern-same (suc n) (suc m) ctx t h k =
      ap (λ found. found >>= others_by (parse_pattern n ctx)) (parse_terms-same n m ctx t (omega arith) (omega arith))
      ∙ then_same (parse_terms m ctx t) _ _
      (λ x found. cond_same (is_at bar x.1) _ _ _ _
      (λ more. ap (λ found. found >>= λ (y : Pattern × Source). Some (either x.0 y.0, y.1))
      (let shorter = parse_terms-shortens m ctx t x found in
      let front = at_front bar x.1 more in
      parse_pattern-same n m ctx (drop 1 x.1) (omega (arith, length-drop 1 x.1)) (omega (arith, length-drop 1 x.1))))
      (λ last. refl))

pattern_at-fuel : (n : ℕ) (ctx : Context) (t : Source) → 2 * length t + 1 < n → parse_pattern n ctx t ≡ pattern_at ctx t
unfolding pattern_at
pattern_at-fuel n ctx t h = parse_pattern-same n (fuel t) ctx t h (omega arith)

terms_at-fuel : (n : ℕ) (ctx : Context) (t : Source) → 2 * length t < n → parse_terms n ctx t ≡ terms_at ctx t
unfolding terms_at
terms_at-fuel n ctx t h = parse_terms-same n (fuel t) ctx t h (omega arith)

pub pattern_at-shortens : (ctx : Context) → Shortens (pattern_at ctx)
unfolding pattern_at
pattern_at-shortens ctx t y e = parse_pattern-shortens (fuel t) ctx t y e

pub terms_at-shortens : (ctx : Context) → Shortens (terms_at ctx)
unfolding terms_at
terms_at-shortens ctx t y e = parse_terms-shortens (fuel t) ctx t y e

pub term_at-shortens : (ctx : Context) (t : Source) (y : Term × Source) → term_at ctx t ≡ Some y → length y.1 < length t
unfolding item_at term_at
term_at-shortens ctx t y e = term_by-shortens pattern_at pattern_at-shortens ctx t y e

-- the terms after a first one
abbrev pub optional_of : Context → Term × Source → Found Terms
optional_of ctx = more_by (terms_at ctx)

-- the alternatives after a first one
abbrev pub others_of : Context → Terms × Source → Found Pattern
others_of ctx = others_by (pattern_at ctx)

-- The equations of the parsing function, without a bound.
pub terms_at-is : (ctx : Context) (t : Source) →
    terms_at ctx t ≡ cond (ends_alternative t) (Some (no_terms, t)) (term_at ctx t >>= optional_of ctx)
unfolding parse_terms terms_at item_at term_at
terms_at-is ctx t =
    let n = fuel t in
    sym (terms_at-fuel (suc n) ctx t (omega arith))
    ∙ cond_same (ends_alternative t) _ _ _ _ (λ ends. refl)
    (λ goes_on.
    ap (λ found. found >>= more_by (parse_terms n ctx))
    (term_by-same (parse_pattern n) pattern_at ctx t (λ c u shorter. pattern_at-fuel n c u (omega arith)))
    ∙ then_same (term_by pattern_at ctx t) _ _
    (λ x found. ap (λ found. found >>= λ (y : Terms × Source). Some (more_terms x.0.0 x.0.1 y.0, y.1))
    (let shorter = term_at-shortens ctx t x found in terms_at-fuel n ctx x.1 (omega arith))))

pub pattern_at-is : (ctx : Context) (t : Source) → pattern_at ctx t ≡ terms_at ctx t >>= others_of ctx
unfolding parse_terms
pattern_at-is ctx t =
    let n = fuel t in
    sym (pattern_at-fuel (suc n) ctx t (omega arith))
    ∙ ap (λ found. found >>= others_by (parse_pattern n ctx)) (terms_at-fuel n ctx t (omega arith))
    ∙ then_same (terms_at ctx t) _ _
    (λ x found. cond_same (is_at bar x.1) _ _ _ _
    (λ more. ap (λ found. found >>= λ (y : Pattern × Source). Some (either x.0 y.0, y.1))
    (let shorter = terms_at-shortens ctx t x found in
    let front = at_front bar x.1 more in
    pattern_at-fuel n ctx (drop 1 x.1) (omega (arith, length-drop 1 x.1))))
    (λ last. refl))

pub item_at-is : (ctx : Context) (t : Source) → item_at ctx t ≡ item_by pattern_at ctx t
unfolding item_at
item_at-is ctx t = refl

pub term_at-is : (ctx : Context) (t : Source) → term_at ctx t ≡ item_at ctx t >>= quantified ctx
unfolding term_at
term_at-is ctx t = refl
