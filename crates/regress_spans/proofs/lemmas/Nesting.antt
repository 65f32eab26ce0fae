-- The spans of a part of the pattern are inside the part's own span.
use Rattle.std.proofs.Common.{ℕ, ◌≤◌, ◌==◌, Bool, true, false, cond, List, [], ◌∷◌, ◌++◌, length, Option, Some, None, ap, arith}
use Rattle.std.specs.List.{All}
use Rattle.std.proofs.lemmas.List.Elements.{All-nil, All-cons, All-append, All-replicate, All-weaker}
use Rattle.regress_base.specs.declared.types.Quantifier.{Quantifier}
use Rattle.regress_tree.specs.Reading.{Direction, forwards, backwards}
use Rattle.regress_tree.specs.Steps.{Setting}
use Rattle.regress_lexer.specs.declared.dialect.Dialect.{Dialect}
use Rattle.regress_lexer.specs.Source.{Source, closing, bar}
use Rattle.regress_syntax.specs.Syntax.{Group, grouping, modified, capture, look, Pattern, Terms, Item, one, either, no_terms, more_terms, atom, group, direction_of_group}
use Rattle.regress_syntax.specs.Productions.{Context, context_inside, single, opens, head_of_item, allows}
use Rattle.regress_syntax.specs.Grammar.{IsPattern, AreTerms, IsItem}
use Rattle.regress_syntax.proofs.lemmas.Productions.{head_at-shortens, optional_quantifier_at-shortens}
use Rattle.regress_parse.specs.Accepted.{own_context_in, IsDerivedIn}
use Rattle.regress_parse.specs.declared.span.Span.{Span}
use Rattle.regress_parse.specs.Spans.{IsWithin, span_of_times, span_of_group, how_many, span_of_alternative, in_tree_order, between, spans_of_pattern, spans_of_terms, spans_of_item, spans_in}

-- ---- the rest of a derivation is no longer than its source

mutual
  pub pattern-shortens : (ctx : Context) (p : Pattern) (t rest : Source) → IsPattern ctx p t rest → length rest ≤ length t
  pattern-shortens ctx (one ts) t rest h = terms-shorten ctx ts t rest h.0
  pattern-shortens ctx (either ts p) t rest h =
      omega (arith, terms-shorten ctx ts t (bar ∷ h.0) h.1, pattern-shortens ctx p h.0 rest h.2)

  pub terms-shorten : (ctx : Context) (ts : Terms) (t rest : Source) → AreTerms ctx ts t rest → length rest ≤ length t
  terms-shorten ctx no_terms t rest h = omega (arith, ap (λ (u : Source). length u) h.1)
  terms-shorten ctx (more_terms x q xs) t rest h =
      omega (
        arith,
        item-shortens ctx x t h.0 h.2,
        optional_quantifier_at-shortens ctx (allows ctx (head_of_item x)) h.0 (q, h.1) h.3,
        terms-shorten ctx xs h.1 rest h.4,
      )

  pub item-shortens : (ctx : Context) (x : Item) (t rest : Source) → IsItem ctx x t rest → length rest ≤ length t
  item-shortens ctx (atom a) t rest h = omega (arith, head_at-shortens ctx t (single a, rest) h)
  item-shortens ctx (group kind p) t rest h =
      omega (
        arith,
        head_at-shortens ctx t (opens kind, h.0) h.1,
        pattern-shortens (context_inside kind ctx) p h.0 (closing ∷ rest) h.2,
      )

module _ (whole : ℕ) where
  -- all spans are between the two positions
  abbrev pub AllBetween : Source → Source → List Span → Type 0
  AllBetween t rest ss = All (IsWithin (between whole t rest)) ss

  pub itself : (t rest : Source) → length rest ≤ length t → IsWithin (between whole t rest) (between whole t rest)
  itself t rest shorter = record { start = omega arith; ordered = omega (arith, shorter); end = omega arith }

  alone : (t rest : Source) (s : Span) → IsWithin (between whole t rest) s → AllBetween t rest (s ∷ [])
  alone t rest s h = All-cons (IsWithin (between whole t rest)) s [] h (All-nil (IsWithin (between whole t rest)))

  both : (t rest : Source) (xs ys : List Span) → AllBetween t rest xs → AllBetween t rest ys → AllBetween t rest (xs ++ ys)
  both t rest xs ys = All-append (IsWithin (between whole t rest)) xs ys

  -- Spans between two positions are between positions further outside.
  pub wider : (t mid after rest : Source) (ss : List Span) → length mid ≤ length t → length rest ≤ length after →
      AllBetween mid after ss → AllBetween t rest ss
  wider t mid after rest ss front back =
      All-weaker (IsWithin (between whole mid after)) (IsWithin (between whole t rest))
      (λ s h. record { start = omega (arith, h.start, front); ordered = h.ordered; end = omega (arith, h.end, back) }) ss

  ordered : (t rest : Source) (d : Direction) (xs ys : List Span) → AllBetween t rest xs → AllBetween t rest ys → AllBetween t rest (in_tree_order d xs ys)
  ordered t rest forwards xs ys h k = both t rest xs ys h k
  ordered t rest backwards xs ys h k = both t rest ys xs k h

  list-within : (n : ℕ) (t rest : Source) → length rest ≤ length t → AllBetween t rest (span_of_alternative n (between whole t rest))
  list-within n t rest shorter = by (n == 1)
    where
      by : (b : Bool) → AllBetween t rest (cond b [] (between whole t rest ∷ []))
      by true = All-nil (IsWithin (between whole t rest))
      by false = alone t rest (between whole t rest) (itself t rest shorter)

  times-within : (q : Option Quantifier) (t rest : Source) → length rest ≤ length t → AllBetween t rest (span_of_times q (between whole t rest))
  times-within None t rest shorter = All-nil (IsWithin (between whole t rest))
  times-within (Some q) t rest shorter = alone t rest (between whole t rest) (itself t rest shorter)

  group-within : (kind : Group) (t rest : Source) → length rest ≤ length t → AllBetween t rest (span_of_group kind (between whole t rest))
  group-within grouping t rest shorter = All-nil (IsWithin (between whole t rest))
  group-within (modified change) t rest shorter = All-nil (IsWithin (between whole t rest))
  group-within (capture name) t rest shorter = alone t rest (between whole t rest) (itself t rest shorter)
  group-within (look negate direction) t rest shorter = alone t rest (between whole t rest) (itself t rest shorter)

  -- ---- a part, from its subparts

  list-around : (ctx : Context) (ts : Terms) (t rest : Source) → AreTerms ctx ts t rest → (ss : List Span) → AllBetween t rest ss →
      AllBetween t rest (ss ++ span_of_alternative (how_many ts) (between whole t rest))
  list-around ctx ts t rest h ss inner =
      both t rest ss (span_of_alternative (how_many ts) (between whole t rest)) inner (list-within (how_many ts) t rest (terms-shorten ctx ts t rest h))

  alternatives-beside : (ctx : Context) (ts : Terms) (p : Pattern) (t rest : Source) (h : IsPattern ctx (either ts p) t rest) (first others : List Span) →
      AllBetween t (bar ∷ h.0) first → AllBetween h.0 rest others → AllBetween t rest (first ++ others)
  alternatives-beside ctx ts p t rest h first others front all =
      both t rest first others
      (wider t t (bar ∷ h.0) rest first (omega arith) (omega (arith, pattern-shortens ctx p h.0 rest h.2)) front)
      (wider t h.0 rest rest others (omega (arith, terms-shorten ctx ts t (bar ∷ h.0) h.1)) (omega arith) all)

  times-around : (ctx : Context) (x : Item) (q : Option Quantifier) (xs : Terms) (t rest : Source) (h : AreTerms ctx (more_terms x q xs) t rest)
      (item : List Span) → AllBetween t h.0 item → AllBetween t h.1 (item ++ span_of_times q (between whole t h.1))
  times-around ctx x q xs t rest h item inner =
      let to_mid = item-shortens ctx x t h.0 h.2 in
      let to_after = optional_quantifier_at-shortens ctx (allows ctx (head_of_item x)) h.0 (q, h.1) h.3 in
      both t h.1 item (span_of_times q (between whole t h.1)) (wider t t h.0 h.1 item (omega arith) to_after inner)
      (times-within q t h.1 (omega (arith, to_mid, to_after)))

  group-around : (ctx : Context) (kind : Group) (p : Pattern) (t rest : Source) (h : IsItem ctx (group kind p) t rest) (ss : List Span) →
      AllBetween h.0 (closing ∷ rest) ss → AllBetween t rest ss
  group-around ctx kind p t rest h ss =
      wider t h.0 (closing ∷ rest) rest ss (omega (arith, head_at-shortens ctx t (opens kind, h.0) h.1)) (omega arith)

  -- ---- the grammar

  mutual
    pub pattern-within : (ctx : Context) (d : Direction) (p : Pattern) (t rest : Source) (h : IsPattern ctx p t rest) →
        AllBetween t rest (spans_of_pattern whole ctx d p t rest h)
    pattern-within ctx d (one ts) t rest h = list-around ctx ts t rest h.0 (spans_of_terms whole ctx d ts t rest h.0) (terms-within ctx d ts t rest h.0)
    pattern-within ctx d (either ts p) t rest h =
        let first = spans_of_terms whole ctx d ts t (bar ∷ h.0) h.1 in
        let list = span_of_alternative (how_many ts) (between whole t (bar ∷ h.0)) in
        let others = spans_of_pattern whole ctx d p h.0 rest h.2 in
        both t rest (first ++ list ++ others) (between whole t rest ∷ [])
        (alternatives-beside ctx ts p t rest h (first ++ list) others
        (list-around ctx ts t (bar ∷ h.0) h.1 first (terms-within ctx d ts t (bar ∷ h.0) h.1)) (pattern-within ctx d p h.0 rest h.2))
        (alone t rest (between whole t rest)
        (itself t rest (omega (arith, terms-shorten ctx ts t (bar ∷ h.0) h.1, pattern-shortens ctx p h.0 rest h.2))))

    pub terms-within : (ctx : Context) (d : Direction) (ts : Terms) (t rest : Source) (h : AreTerms ctx ts t rest) →
        AllBetween t rest (spans_of_terms whole ctx d ts t rest h)
    terms-within ctx d no_terms t rest h = All-nil (IsWithin (between whole t rest))
    terms-within ctx d (more_terms x q xs) t rest h =
        let item = spans_of_item whole ctx d x t h.0 h.2 in
        let times = span_of_times q (between whole t h.1) in
        let others = spans_of_terms whole ctx d xs h.1 rest h.4 in
        let to_mid = item-shortens ctx x t h.0 h.2 in
        let to_after = optional_quantifier_at-shortens ctx (allows ctx (head_of_item x)) h.0 (q, h.1) h.3 in
        ordered t rest d (item ++ times) others
        (wider t t h.1 rest (item ++ times) (omega arith) (terms-shorten ctx xs h.1 rest h.4)
        (times-around ctx x q xs t rest h item (item-within ctx d x t h.0 h.2)))
        (wider t h.1 rest rest others (omega (arith, to_mid, to_after)) (omega arith) (terms-within ctx d xs h.1 rest h.4))

    pub item-within : (ctx : Context) (d : Direction) (x : Item) (t rest : Source) (h : IsItem ctx x t rest) →
        AllBetween t rest (spans_of_item whole ctx d x t rest h)
    item-within ctx d (atom a) t rest h =
        All-replicate (IsWithin (between whole t rest)) _ (between whole t rest) (itself t rest (item-shortens ctx (atom a) t rest h))
    item-within ctx d (group kind p) t rest h =
        let inner = spans_of_pattern whole (context_inside kind ctx) (direction_of_group kind d) p h.0 (closing ∷ rest) h.2 in
        both t rest inner (span_of_group kind (between whole t rest))
        (group-around ctx kind p t rest h inner
        (pattern-within (context_inside kind ctx) (direction_of_group kind d) p h.0 (closing ∷ rest) h.2))
        (group-within kind t rest (item-shortens ctx (group kind p) t rest h))

  pub alternative-within : (ctx : Context) (d : Direction) (ts : Terms) (t rest : Source) (h : AreTerms ctx ts t rest) →
      AllBetween t rest (spans_of_terms whole ctx d ts t rest h ++ span_of_alternative (how_many ts) (between whole t rest))
  alternative-within ctx d ts t rest h =
      list-around ctx ts t rest h (spans_of_terms whole ctx d ts t rest h) (terms-within ctx d ts t rest h)

  -- the spans inside an `Alt`
  pub alternatives-within : (ctx : Context) (d : Direction) (ts : Terms) (p : Pattern) (t rest : Source) (h : IsPattern ctx (either ts p) t rest) →
      AllBetween t rest
      (spans_of_terms whole ctx d ts t (bar ∷ h.0) h.1 ++ span_of_alternative (how_many ts) (between whole t (bar ∷ h.0))
      ++ spans_of_pattern whole ctx d p h.0 rest h.2)
  alternatives-within ctx d ts p t rest h =
      alternatives-beside ctx ts p t rest h
      (spans_of_terms whole ctx d ts t (bar ∷ h.0) h.1 ++ span_of_alternative (how_many ts) (between whole t (bar ∷ h.0)))
      (spans_of_pattern whole ctx d p h.0 rest h.2)
      (alternative-within ctx d ts t (bar ∷ h.0) h.1) (pattern-within ctx d p h.0 rest h.2)

  -- the spans of an item with its quantifier
  pub term-within : (ctx : Context) (d : Direction) (x : Item) (q : Option Quantifier) (xs : Terms) (t rest : Source)
      (h : AreTerms ctx (more_terms x q xs) t rest) →
      AllBetween t h.1 (spans_of_item whole ctx d x t h.0 h.2 ++ span_of_times q (between whole t h.1))
  term-within ctx d x q xs t rest h =
      times-around ctx x q xs t rest h (spans_of_item whole ctx d x t h.0 h.2) (item-within ctx d x t h.0 h.2)

  -- the spans inside a group
  pub inner-within : (ctx : Context) (d : Direction) (kind : Group) (p : Pattern) (t rest : Source) (h : IsItem ctx (group kind p) t rest) →
      AllBetween t rest
      (spans_of_pattern whole (context_inside kind ctx) (direction_of_group kind d) p h.0 (closing ∷ rest) h.2)
  inner-within ctx d kind p t rest h =
      group-around ctx kind p t rest h _ (pattern-within (context_inside kind ctx) (direction_of_group kind d) p h.0 (closing ∷ rest) h.2)

-- the spans of a whole pattern
pub all_within : (dialect : Dialect) (setting : Setting) (source : Source) (p : Pattern) (derived : IsDerivedIn dialect setting source p) →
    All (IsWithin (record { start = 0; end = length source })) (spans_in dialect setting source p derived)
all_within dialect setting source p derived =
    let whole = length source in
    let body = spans_of_pattern whole (own_context_in dialect setting p) forwards p source [] derived in
    All-weaker (IsWithin (between whole source [])) (IsWithin (record { start = 0; end = length source }))
    (λ s h. record { start = omega arith; ordered = h.ordered; end = omega (arith, h.end) }) _
    (both whole source [] body _ (pattern-within whole (own_context_in dialect setting p) forwards p source [] derived)
    (All-cons (IsWithin (between whole source [])) (between whole [] []) (between whole source [] ∷ [])
    (record { start = omega arith; ordered = omega arith; end = omega arith })
    (alone whole source [] (between whole source []) (itself whole source [] (omega arith)))))
