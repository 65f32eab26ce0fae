-- Of any two spans one is inside the other, or they are disjoint.
use Rattle.std.proofs.Common.{ℕ, zero, suc, ◌≤◌, ◌==◌, Bool, true, false, cond, List, [], ◌∷◌, ◌++◌, length, replicate, Option, Some, None, arith}
use Rattle.std.specs.List.{All, AllPairs}
use Rattle.std.proofs.lemmas.List.Elements.{All-nil, All-cons, All-append, All-head, All-tail, All-replicate, All-weaker}
use Rattle.std.proofs.lemmas.List.Kept.{AllPairs-cons}
use Rattle.regress_base.specs.declared.types.Quantifier.{Quantifier}
use Rattle.regress_tree.specs.Reading.{Direction, forwards, backwards}
use Rattle.regress_tree.specs.Steps.{Setting}
use Rattle.regress_lexer.specs.declared.dialect.Dialect.{Dialect}
use Rattle.regress_lexer.specs.Source.{Source, closing, bar}
use Rattle.regress_syntax.specs.Syntax.{Group, grouping, modified, capture, look, Pattern, Terms, Item, one, either, no_terms, more_terms, atom, group, direction_of_group}
use Rattle.regress_syntax.specs.Productions.{Context, context_inside, head_of_item, allows}
use Rattle.regress_syntax.specs.Grammar.{IsPattern, AreTerms, IsItem}
use Rattle.regress_syntax.proofs.lemmas.Productions.{optional_quantifier_at-shortens}
use Rattle.regress_parse.specs.Accepted.{own_context_in, IsDerivedIn}
use Rattle.regress_parse.specs.declared.span.Span.{Span}
use Rattle.regress_parse.specs.Spans.{IsWithin, IsInsideOrApart, is_inside, ends_before, begins_after, span_of_times, span_of_group, how_many, span_of_alternative, in_tree_order, between, spans_of_pattern, spans_of_terms, spans_of_item, spans_in}
use Rattle.regress_spans.proofs.lemmas.Nesting.{AllBetween, itself, wider, item-shortens, item-within, inner-within, term-within, terms-within, alternative-within, alternatives-within, pattern-within}

-- ---- lists of spans

-- the relation holds of each span of the first list with each span of the second
abbrev Across : (Span → Span → Type 0) → List Span → List Span → Type 0
Across R xs ys = All (λ s. All (R s) ys) xs

abbrev IsBefore : Span → Span → Type 0
IsBefore s later = s.end ≤ later.start

abbrev IsSuffix : Span → Span → Type 0
IsSuffix s earlier = earlier.end ≤ s.start

-- `AllPairs`, defined by recursion
abbrev Nest : List Span → Type 0
Nest [] = Unit {0}
Nest (s ∷ ss) = All (IsInsideOrApart s) ss × Nest ss

nest-pairs : (ss : List Span) → Nest ss → AllPairs IsInsideOrApart ss
nest-pairs [] h = λ i j d lt within. absurd (omega (arith, within))
nest-pairs (s ∷ ss) h = AllPairs-cons IsInsideOrApart s ss h.0 (nest-pairs ss h.1)

joined : (xs ys : List Span) → Across IsInsideOrApart xs ys → Nest xs → Nest ys → Nest (xs ++ ys)
joined [] ys across h k = k
joined (x ∷ xs) ys across h k = (
  All-append (IsInsideOrApart x) xs ys h.0 (All-head (λ s. All (IsInsideOrApart s) ys) x xs across),
  joined xs ys (All-tail (λ s. All (IsInsideOrApart s) ys) x xs across) h.1 k,
)

-- A list of nested spans without a span around it is nested.
unwrapped : (xs : List Span) → Nest xs → Nest (xs ++ [])
unwrapped [] h = tt
unwrapped (x ∷ xs) h = (All-append (IsInsideOrApart x) xs [] h.0 (All-nil _), unwrapped xs h.1)

alone : (s : Span) → Nest (s ∷ [])
alone s = (All-nil _, tt)

wrapped : (xs : List Span) (s : Span) → All (IsWithin s) xs → Nest xs → Nest (xs ++ s ∷ [])
wrapped xs s all h =
    joined xs (s ∷ []) (All-weaker (IsWithin s) _ (λ x w. All-cons (IsInsideOrApart x) s [] (is_inside w) (All-nil _)) xs all) h (alone s)

in_list : (n : ℕ) (xs : List Span) (s : Span) → All (IsWithin s) xs → Nest xs → Nest (xs ++ span_of_alternative n s)
in_list n xs s all h = by (n == 1)
  where
    by : (b : Bool) → Nest (xs ++ cond b [] (s ∷ []))
    by true = unwrapped xs h
    by false = wrapped xs s all h

repeated : (q : Option Quantifier) (xs : List Span) (s : Span) → All (IsWithin s) xs → Nest xs → Nest (xs ++ span_of_times q s)
repeated None xs s all h = unwrapped xs h
repeated (Some q) xs s all h = wrapped xs s all h

enclosed : (kind : Group) (xs : List Span) (s : Span) → All (IsWithin s) xs → Nest xs → Nest (xs ++ span_of_group kind s)
enclosed grouping xs s all h = unwrapped xs h
enclosed (modified change) xs s all h = unwrapped xs h
enclosed (capture name) xs s all h = wrapped xs s all h
enclosed (look negate direction) xs s all h = wrapped xs s all h

copies : (n : ℕ) (s : Span) → IsWithin s s → Nest (replicate n s)
copies zero s w = tt
copies (suc n) s w = (All-replicate (IsInsideOrApart s) n s (is_inside w), copies n s w)

joined_in_reverse : (d : Direction) (xs ys : List Span) → Across IsBefore xs ys → Across IsSuffix ys xs → Nest xs → Nest ys → Nest (in_tree_order d xs ys)
joined_in_reverse forwards xs ys to back h k =
    joined xs ys (All-weaker _ _ (λ x all. All-weaker (IsBefore x) (IsInsideOrApart x) (λ y lt. ends_before lt) ys all) xs to) h k
joined_in_reverse backwards xs ys to back h k =
    joined ys xs (All-weaker _ _ (λ y all. All-weaker (IsSuffix y) (IsInsideOrApart y) (λ x lt. begins_after lt) xs all) ys back) k h

-- ---- the grammar

module _ (whole : ℕ) where
  apart : (t mid after rest : Source) (xs ys : List Span) → length after ≤ length mid →
      AllBetween whole t mid xs → AllBetween whole after rest ys → Across IsBefore xs ys
  apart t mid after rest xs ys shorter hx hy =
      All-weaker (IsWithin (between whole t mid)) _
      (λ x h. All-weaker (IsWithin (between whole after rest)) (IsBefore x) (λ y k. omega (arith, h.end, k.start, shorter)) ys hy) xs hx

  apart_turned : (t mid after rest : Source) (xs ys : List Span) → length after ≤ length mid →
      AllBetween whole t mid xs → AllBetween whole after rest ys → Across IsSuffix ys xs
  apart_turned t mid after rest xs ys shorter hx hy =
      All-weaker (IsWithin (between whole after rest)) _
      (λ y k. All-weaker (IsWithin (between whole t mid)) (IsSuffix y) (λ x h. omega (arith, h.end, k.start, shorter)) xs hx) ys hy

  -- A term shares no code point with the terms after it.
  pub term-before_others : (ctx : Context) (d : Direction) (x : Item) (q : Option Quantifier) (xs : Terms) (t rest : Source)
      (h : AreTerms ctx (more_terms x q xs) t rest) →
      Across IsBefore (spans_of_item whole ctx d x t h.0 h.2 ++ span_of_times q (between whole t h.1)) (spans_of_terms whole ctx d xs h.1 rest h.4)
  term-before_others ctx d x q xs t rest h =
      apart t h.1 h.1 rest _ _ (omega arith) (term-within whole ctx d x q xs t rest h) (terms-within whole ctx d xs h.1 rest h.4)

  -- An alternative shares no code point with the alternatives after it.
  pub alternative-before_others : (ctx : Context) (d : Direction) (ts : Terms) (p : Pattern) (t rest : Source) (h : IsPattern ctx (either ts p) t rest) →
      Across IsBefore (spans_of_terms whole ctx d ts t (bar ∷ h.0) h.1 ++ span_of_alternative (how_many ts) (between whole t (bar ∷ h.0)))
      (spans_of_pattern whole ctx d p h.0 rest h.2)
  alternative-before_others ctx d ts p t rest h =
      apart t (bar ∷ h.0) h.0 rest _ _ (omega arith) (alternative-within whole ctx d ts t (bar ∷ h.0) h.1)
      (pattern-within whole ctx d p h.0 rest h.2)

  mutual
    nest_of_pattern : (ctx : Context) (d : Direction) (p : Pattern) (t rest : Source) (h : IsPattern ctx p t rest) →
        Nest (spans_of_pattern whole ctx d p t rest h)
    nest_of_pattern ctx d (one ts) t rest h =
        in_list (how_many ts) _ (between whole t rest) (terms-within whole ctx d ts t rest h.0) (nest_of_terms ctx d ts t rest h.0)
    nest_of_pattern ctx d (either ts p) t rest h =
        let first = spans_of_terms whole ctx d ts t (bar ∷ h.0) h.1 ++ span_of_alternative (how_many ts) (between whole t (bar ∷ h.0)) in
        let others = spans_of_pattern whole ctx d p h.0 rest h.2 in
        wrapped (first ++ others) (between whole t rest) (alternatives-within whole ctx d ts p t rest h)
        (joined first others
        (All-weaker _ _ (λ x all. All-weaker (IsBefore x) (IsInsideOrApart x) (λ y lt. ends_before lt) others all) first
        (alternative-before_others ctx d ts p t rest h))
        (in_list (how_many ts) _ (between whole t (bar ∷ h.0)) (terms-within whole ctx d ts t (bar ∷ h.0) h.1)
        (nest_of_terms ctx d ts t (bar ∷ h.0) h.1)) (nest_of_pattern ctx d p h.0 rest h.2))

    nest_of_terms : (ctx : Context) (d : Direction) (ts : Terms) (t rest : Source) (h : AreTerms ctx ts t rest) →
        Nest (spans_of_terms whole ctx d ts t rest h)
    nest_of_terms ctx d no_terms t rest h = tt
    nest_of_terms ctx d (more_terms x q xs) t rest h =
        let item = item-within whole ctx d x t h.0 h.2 in
        let to_mid = item-shortens ctx x t h.0 h.2 in
        let to_after = optional_quantifier_at-shortens ctx (allows ctx (head_of_item x)) h.0 (q, h.1) h.3 in
        joined_in_reverse d _ _ (term-before_others ctx d x q xs t rest h)
        (apart_turned t h.1 h.1 rest _ _ (omega arith) (term-within whole ctx d x q xs t rest h) (terms-within whole ctx d xs h.1 rest h.4))
        (repeated q _ (between whole t h.1) (wider whole t t h.0 h.1 _ (omega arith) to_after item) (nest_of_item ctx d x t h.0 h.2))
        (nest_of_terms ctx d xs h.1 rest h.4)

    nest_of_item : (ctx : Context) (d : Direction) (x : Item) (t rest : Source) (h : IsItem ctx x t rest) →
        Nest (spans_of_item whole ctx d x t rest h)
    nest_of_item ctx d (atom a) t rest h = copies _ (between whole t rest) (itself whole t rest (item-shortens ctx (atom a) t rest h))
    nest_of_item ctx d (group kind p) t rest h =
        enclosed kind _ (between whole t rest) (inner-within whole ctx d kind p t rest h)
        (nest_of_pattern (context_inside kind ctx) (direction_of_group kind d) p h.0 (closing ∷ rest) h.2)

-- The spans of a whole pattern are nested.
pub all_nest : (dialect : Dialect) (setting : Setting) (source : Source) (p : Pattern) (derived : IsDerivedIn dialect setting source p) →
    AllPairs IsInsideOrApart (spans_in dialect setting source p derived)
all_nest dialect setting source p derived =
    let whole = length source in
    let ctx = own_context_in dialect setting p in
    let body = spans_of_pattern whole ctx forwards p source [] derived in
    let inner = pattern-within whole ctx forwards p source [] derived in
    let goal = between whole [] [] in
    let root = between whole source [] in
    nest-pairs _
    (joined body (goal ∷ root ∷ [])
    (All-weaker (IsWithin root) _
    (λ s h. All-cons (IsInsideOrApart s) goal (root ∷ []) (ends_before h.end)
    (All-cons (IsInsideOrApart s) root [] (is_inside h) (All-nil _))) body inner)
    (nest_of_pattern whole ctx forwards p source [] derived) (
      All-cons (IsInsideOrApart goal) root []
          (is_inside (record { start = omega arith; ordered = omega arith; end = omega arith })) (All-nil _),
      alone root,
    ))
