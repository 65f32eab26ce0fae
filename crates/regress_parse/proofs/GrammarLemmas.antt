-- The parsing function `pattern_at` agrees with the grammar's relation, so at most one syntax tree is derived from a
-- source.
use Rattle.std.proofs.Common.{◌≡◌, ℕ, zero, suc, ⊎_elim, true, false, [], ◌∷◌, drop, Option, Some, refl, sym, ap, ◌∙◌, subst, eqb-true}
use Rattle.std.proofs.lemmas.Option.{none-some, same_Some, cond_some}
use Rattle.std.proofs.lemmas.Bool.{cond-true, cond-false, cases_Bool}
use Rattle.regress_base.specs.declared.types.Quantifier.{Quantifier}
use Rattle.regress_lexer.specs.Source.{Source, Found, ◌>>=◌, closing, bar, is_at, ends_alternative}
use Rattle.regress_syntax.specs.Syntax.{Group, Pattern, Terms, Item, one, either, no_terms, more_terms, atom, group}
use Rattle.regress_syntax.specs.Productions.{Context, context_inside, Head, single, opens, head_of_item, allows, head_at, optional_quantifier_at}
use Rattle.regress_lexer.proofs.lemmas.Sources.{found_then, chosen}
use Rattle.regress_syntax.proofs.lemmas.Productions.{no_head_at_end}
use Rattle.regress_syntax.specs.Grammar.{IsPattern, AreTerms, IsItem}
use Rattle.regress_parse.specs.Reader.{Term, closed, item_after_head, item_by, quantified, term_by, parse_terms, parse_pattern, fuel, pattern_at, terms_at, item_at}
use Rattle.regress_parse.proofs.ReaderLemmas.{terms_at-is, pattern_at-is, term_at-is, item_at-is, more_by, others_by, optional_of, others_of}

at_this : (c : ℕ) (t : Source) → is_at c t ≡ true → t ≡ c ∷ drop 1 t
at_this c [] e = cc
at_this c (d ∷ t) e = ap (λ x. x ∷ t) (eqb-true d c e)

-- ---- soundness: what the function parses is in the relation

abbrev IsSound : (Context → Source → Found Pattern) → Type 0
IsSound f = (ctx : Context) (t : Source) (x : Pattern × Source) → f ctx t ≡ Some x → IsPattern ctx x.0 t x.1

closed-sound : (kind : Group) (x : Pattern × Source) (y : Item × Source) → closed kind x ≡ Some y →
    (group kind x.0 ≡ y.0) × (x.1 ≡ closing ∷ y.1)
closed-sound kind x y e =
    let p = cond_some (is_at closing x.1) (group kind x.0, drop 1 x.1) y e in
    (ap (λ (z : Item × Source). z.0) p.1, at_this closing x.1 p.0 ∙ ap (λ (z : Item × Source). closing ∷ z.1) p.1)

after-sound : (inner : Context → Source → Found Pattern) → IsSound inner →
    (ctx : Context) (t : Source) (x : Head × Source) (y : Item × Source) →
    head_at ctx t ≡ Some x → item_after_head inner ctx x ≡ Some y → IsItem ctx y.0 t y.1
after-sound inner h ctx t (single a, rest) y front e =
    subst (λ (z : Item × Source). IsItem ctx z.0 t z.1) (same_Some (atom a, rest) y e) front
after-sound inner h ctx t (opens kind, mid) y front e =
    let found = found_then (inner (context_inside kind ctx) mid) (closed kind) y e in
    let parts = closed-sound kind found.0 y found.2 in
    let body = subst (λ rest. IsPattern (context_inside kind ctx) found.0.0 mid rest) parts.1 (h (context_inside kind ctx) mid found.0 found.1) in
    subst (λ x. IsItem ctx x t y.1) parts.0 (mid, front, body)

item_by-sound : (inner : Context → Source → Found Pattern) → IsSound inner → (ctx : Context) (t : Source) (y : Item × Source) →
    item_by inner ctx t ≡ Some y → IsItem ctx y.0 t y.1
item_by-sound inner h ctx t y e =
    let found = found_then (head_at ctx t) (item_after_head inner ctx) y e in
    after-sound inner h ctx t found.0 y found.1 found.2

mutual
  unfolding parse_terms

  parse_terms-sound : (n : ℕ) (ctx : Context) (t : Source) (y : Terms × Source) → parse_terms n ctx t ≡ Some y → AreTerms ctx y.0 t y.1
  parse_terms-sound zero ctx t y e = absurd (none-some y e)
  parse_terms-sound (suc n) ctx t y e =
      ⊎_elim
      (λ (ends : (ends_alternative t ≡ true) × (Some (no_terms, t) ≡ Some y)).
      subst (λ (z : Terms × Source). AreTerms ctx z.0 t z.1) (same_Some (no_terms, t) y ends.1) (ends.0, refl))
      (λ (goes_on : (ends_alternative t ≡ false) × (_ ≡ Some y)).
      let term = found_then (term_by (parse_pattern n) ctx t) (more_by (parse_terms n ctx)) y goes_on.1 in
      let first = found_then (item_by (parse_pattern n) ctx t) (quantified ctx) term.0 term.1 in
      let times = found_then (optional_quantifier_at ctx (allows ctx (head_of_item first.0.0)) first.0.1)
      (λ (q : Option Quantifier × Source). Some ((first.0.0, q.0), q.1)) term.0 first.2 in
      let others = found_then (parse_terms n ctx term.0.1) _ y term.2 in
      let same : ((first.0.0, times.0.0), times.0.1) ≡ term.0 = same_Some _ term.0 times.2 in
      let rest = subst (λ (z : Term × Source). (ts : Terms) (u : Source) →
      AreTerms ctx ts z.1 u → AreTerms ctx (more_terms z.0.0 z.0.1 ts) t u) same
      (λ ts u others. (
        first.0.1,
        times.0.1,
        item_by-sound (parse_pattern n) (parse_pattern-sound n) ctx t first.0 first.1,
        times.1,
        others,
      )) in
      subst (λ (z : Terms × Source). AreTerms ctx z.0 t z.1)
      (same_Some (more_terms term.0.0.0 term.0.0.1 others.0.0, others.0.1) y others.2)
      (rest others.0.0 others.0.1 (parse_terms-sound n ctx term.0.1 others.0 others.1)))
      (chosen (ends_alternative t) _ _ _ e)

  parse_pattern-sound : (n : ℕ) → IsSound (parse_pattern n)
  parse_pattern-sound zero ctx t y e = absurd (none-some y e)
  parse_pattern-sound (suc n) ctx t y e =
      let first = found_then (parse_terms n ctx t) (others_by (parse_pattern n ctx)) y e in
      let terms = parse_terms-sound n ctx t first.0 first.1 in
      ⊎_elim
      (λ (more : (is_at bar first.0.1 ≡ true) × (_ ≡ Some y)).
      let others = found_then (parse_pattern n ctx (drop 1 first.0.1)) _ y more.1 in
      subst (λ (z : Pattern × Source). IsPattern ctx z.0 t z.1) (same_Some (either first.0.0 others.0.0, others.0.1) y others.2) (
        drop 1 first.0.1,
        subst (λ u. AreTerms ctx first.0.0 t u) (at_this bar first.0.1 more.0) terms,
        parse_pattern-sound n ctx (drop 1 first.0.1) others.0 others.1,
      ))
      (λ (last : (is_at bar first.0.1 ≡ false) × (_ ≡ Some y)).
      subst (λ (z : Pattern × Source). IsPattern ctx z.0 t z.1) (same_Some (one first.0.0, first.0.1) y last.1) (terms, last.0))
      (chosen (is_at bar first.0.1) _ _ _ first.2)

pub pattern_at-sound : IsSound pattern_at
unfolding pattern_at
pattern_at-sound ctx t y e = parse_pattern-sound (fuel t) ctx t y e

-- ---- completeness: the function parses what is in the relation

-- No item starts where an alternative ends.
none_at_end : (ctx : Context) (t : Source) (x : Head × Source) → head_at ctx t ≡ Some x → ends_alternative t ≡ false
none_at_end ctx t x front =
    ⊎_elim (λ (ends : ends_alternative t ≡ true). absurd (none-some x (sym (no_head_at_end ctx t ends) ∙ front)))
    (λ (goes_on : ends_alternative t ≡ false). goes_on) (cases_Bool (ends_alternative t))

goes_on : (ctx : Context) (x : Item) (t rest : Source) → IsItem ctx x t rest → ends_alternative t ≡ false
goes_on ctx (atom a) t rest h = none_at_end ctx t (single a, rest) h
goes_on ctx (group kind p) t rest h = none_at_end ctx t (opens kind, h.0) h.1

mutual
  pub pattern_at-complete : (ctx : Context) (p : Pattern) (t rest : Source) → IsPattern ctx p t rest → pattern_at ctx t ≡ Some (p, rest)
  pattern_at-complete ctx (one ts) t rest h =
      pattern_at-is ctx t
      ∙ ap (λ found. found >>= others_of ctx) (terms_at-complete ctx ts t rest h.0)
      ∙ cond-false (is_at bar rest) _ _ h.1
  pattern_at-complete ctx (either ts p) t rest h =
      pattern_at-is ctx t
      ∙ ap (λ found. found >>= others_of ctx) (terms_at-complete ctx ts t (bar ∷ h.0) h.1)
      ∙ ap (λ found. found >>= λ (y : Pattern × Source). Some (either ts y.0, y.1)) (pattern_at-complete ctx p h.0 rest h.2)

  terms_at-complete : (ctx : Context) (ts : Terms) (t rest : Source) → AreTerms ctx ts t rest → terms_at ctx t ≡ Some (ts, rest)
  terms_at-complete ctx no_terms t rest h =
      terms_at-is ctx t ∙ cond-true (ends_alternative t) _ _ h.0 ∙ ap (λ u. Some (no_terms, u)) h.1
  terms_at-complete ctx (more_terms x q xs) t rest h =
      terms_at-is ctx t
      ∙ cond-false (ends_alternative t) _ _ (goes_on ctx x t h.0 h.2)
      ∙ ap (λ found. found >>= optional_of ctx)
      (term_at-is ctx t
      ∙ ap (λ found. found >>= quantified ctx) (item_at-complete ctx x t h.0 h.2)
      ∙ ap (λ found. found >>= λ (y : Option Quantifier × Source). Some ((x, y.0), y.1)) h.3)
      ∙ ap (λ found. found >>= λ (y : Terms × Source). Some (more_terms x q y.0, y.1)) (terms_at-complete ctx xs h.1 rest h.4)

  item_at-complete : (ctx : Context) (x : Item) (t rest : Source) → IsItem ctx x t rest → item_at ctx t ≡ Some (x, rest)
  item_at-complete ctx (atom a) t rest h = item_at-is ctx t ∙ ap (λ found. found >>= item_after_head pattern_at ctx) h
  item_at-complete ctx (group kind p) t rest h =
      item_at-is ctx t
      ∙ ap (λ found. found >>= item_after_head pattern_at ctx) h.1
      ∙ ap (λ found. found >>= closed kind) (pattern_at-complete (context_inside kind ctx) p h.0 (closing ∷ rest) h.2)
