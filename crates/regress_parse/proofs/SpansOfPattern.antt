-- The loop over alternatives: the spans so far, and the derivation of the remaining alternatives.
use Rattle.std.proofs.Common.{◌≡◌, ℕ, true, false, List, [], ◌∷◌, ◌++◌, drop, length, refl, sym, ap, ◌∙◌, subst}
use Rattle.std.proofs.lemmas.List.{append_assoc, append-nil}
use Rattle.std.proofs.lemmas.Bool.{false≢true}
use Rattle.regress_tree.specs.Reading.{Direction}
use Rattle.regress_lexer.specs.Source.{Source, bar, is_at}
use Rattle.regress_syntax.specs.Syntax.{Pattern, one, either}
use Rattle.regress_syntax.specs.Productions.{Context}
use Rattle.regress_syntax.specs.Grammar.{IsPattern}
use Rattle.regress_parse.specs.declared.span.Span.{Span}
use Rattle.regress_parse.specs.Spans.{how_many, span_of_alternative, between, spans_of_pattern, spans_of_terms}
use Rattle.regress_parse.specs.Recorded.{alternations, Adds, RecordsPattern, RecordsAlternative}
use Rattle.regress_parse.proofs.SpanLists.{alternations-push, alternative_joined}

module _ (whole : ℕ) (ctx : Context) (d : Direction) where
  -- The remaining alternatives have these spans.
  pub record RemainingPattern (rest t : Source) (left : List Span) : Type 0 where
    pub pattern : Pattern
    pub derived : IsPattern ctx pattern t rest
    pub spans : left ≡ spans_of_pattern whole ctx d pattern t rest derived

  module _ (t0 : Source) (before : List Span) where
    -- `starts` has the starts of the alternatives so far, each of which another one follows.
    pub AllBut : (t : Source) (now : List Span) (starts : List ℕ) → Type 0
    AllBut t now starts =
        (p : Pattern) (rest : Source) (h : IsPattern ctx p t0 rest) →
        (left : List Span) × RemainingPattern rest t left
        × (before ++ spans_of_pattern whole ctx d p t0 rest h ≡ now ++ (left ++ alternations whole starts rest))

    -- The loop's invariant: after those alternatives one more was parsed, from `start` on.
    pub record PatternSpansSoFar (mid : Source) (now' : List Span) (starts : List ℕ) (start : ℕ) : Type 0 where
      pub t : Source
      pub now : List Span
      pub others : AllBut t now starts
      pub last : RecordsAlternative whole ctx d t now mid now'
      pub from : start ≡ length t

    -- The first alternative.
    pub pattern_spans-start : (mid : Source) (now' : List Span) (start : ℕ) → RecordsAlternative whole ctx d t0 before mid now' → start ≡ length t0 →
        PatternSpansSoFar mid now' [] start
    unfolding AllBut
    pattern_spans-start mid now' start reads from = record {
      t = t0;
      now = before;
      others = λ p rest h. (
        spans_of_pattern whole ctx d p t0 rest h,
        record { pattern = p; derived = h; spans = refl },
        ap (λ (ss : List Span). before ++ ss) (sym (append-nil (spans_of_pattern whole ctx d p t0 rest h))),
      );
      last = reads;
      from = from;
    }

    -- An alternative with its `|` joins those so far.
    all-but : (t : Source) (now : List Span) (starts : List ℕ) (mid new : Source) (now' : List Span) (start : ℕ) →
        AllBut t now starts → RecordsAlternative whole ctx d t now mid now' → is_at bar mid ≡ true → new ≡ drop 1 mid →
        start ≡ length t → AllBut new now' (starts ++ start ∷ [])
    unfolding AllBut
    all-but t now starts mid new now' start so_far reads at_bar moves is p rest h =
        let here = so_far p rest h in
        by here.0 here.1.pattern here.1.derived here.1.spans here.2
      where
        by : (left : List Span) (q : Pattern) (derived : IsPattern ctx q t rest) →
            left ≡ spans_of_pattern whole ctx d q t rest derived → before ++ spans_of_pattern whole ctx d p t0 rest h ≡ now
            ++ (left ++ alternations whole starts rest) →
            (left : List Span) × RemainingPattern rest new left
            × (before ++ spans_of_pattern whole ctx d p t0 rest h ≡ now' ++ (left ++ alternations whole (starts ++ start ∷ []) rest))
        by left (one ts) derived spans so_far =
            let a = reads ts rest derived.0 in
            absurd (false≢true (sym derived.1 ∙ ap (is_at bar) (sym a.rest) ∙ at_bar))
        by left (either ts q) derived spans so_far =
            let after = derived.0 in
            let a = reads ts (bar ∷ after) derived.1 in
            let others = spans_of_pattern whole ctx d q after rest derived.2 in
            let first = spans_of_terms whole ctx d ts t (bar ∷ after) derived.1 ++ span_of_alternative (how_many ts) (between whole t (bar ∷ after)) in
            let at : new ≡ after = moves ∙ ap (drop 1) a.rest in (
              others,
              subst (λ (u : Source). RemainingPattern rest u others) (sym at) (record { pattern = q; derived = derived.2; spans = refl }),
              so_far
                  ∙ ap (λ (ss : List Span). now ++ (ss ++ alternations whole starts rest)) spans
                  ∙ alternative_joined now first others (between whole t rest) (alternations whole starts rest)
                  ∙ ap (λ (ss : List Span). ss ++ (others ++ (between whole t rest ∷ [] ++ alternations whole starts rest))) (sym a.spans)
                  ∙ ap (λ (ss : List Span). now' ++ (others ++ ss))
                  (sym (alternations-push whole starts (length t) rest)
                  ∙ ap (λ n. alternations whole (starts ++ n ∷ []) rest) (sym is)),
            )

    -- The invariant holds after a `|` and one more alternative.
    pub pattern_spans-step : (mid : Source) (now : List Span) (starts : List ℕ) (start : ℕ) (new : Source) (mid' : Source) (now' : List Span) (next : ℕ) →
        PatternSpansSoFar mid now starts start → is_at bar mid ≡ true → new ≡ drop 1 mid → RecordsAlternative whole ctx d new now mid' now' →
        next ≡ length new → PatternSpansSoFar mid' now' (starts ++ start ∷ []) next
    pattern_spans-step mid now starts start new mid' now' next h at_bar moves reads from = record {
      t = new;
      now = now;
      others = all-but h.t h.now starts mid new now start h.others h.last at_bar moves h.from;
      last = reads;
      from = from;
    }

    -- The last alternative completes the spans of the pattern.
    pub pattern_spans-end : (mid new : Source) (now now' : List Span) (starts : List ℕ) (start : ℕ) →
        PatternSpansSoFar mid now starts start → is_at bar mid ≡ false → new ≡ mid →
        now' ≡ now ++ alternations whole starts new → RecordsPattern whole ctx d t0 before new now'
    unfolding AllBut
    pattern_spans-end mid new now' now'' starts start h no_bar same added p rest derived =
        let here = h.others p rest derived in
        by here.0 here.1.pattern here.1.derived here.1.spans here.2
      where
        by : (left : List Span) (q : Pattern) (rest_derived : IsPattern ctx q h.t rest) →
            left ≡ spans_of_pattern whole ctx d q h.t rest rest_derived → before ++ spans_of_pattern whole ctx d p t0 rest derived ≡ h.now
            ++ (left ++ alternations whole starts rest) →
            Adds before new now'' rest (spans_of_pattern whole ctx d p t0 rest derived)
        by left (either ts q) rest_derived spans so_far =
            let a = h.last ts (bar ∷ rest_derived.0) rest_derived.1 in
            absurd (false≢true (sym no_bar ∙ ap (is_at bar) a.rest))
        by left (one ts) rest_derived spans so_far =
            let a = h.last ts rest rest_derived.0 in
            let last = spans_of_pattern whole ctx d (one ts) h.t rest rest_derived in
            record {
              rest = same ∙ a.rest;
              spans =
                  added
                  ∙ ap (λ (ss : List Span). ss ++ alternations whole starts new) a.spans
                  ∙ ap (λ (u : Source). h.now ++ last ++ alternations whole starts u) (same ∙ a.rest)
                  ∙ append_assoc h.now last (alternations whole starts rest)
                  ∙ ap (λ (ss : List Span). h.now ++ (ss ++ alternations whole starts rest)) (sym spans)
                  ∙ sym so_far;
            }

    -- A lone alternative is the pattern.
    pub lone-alternative : (mid : Source) (now : List Span) → RecordsAlternative whole ctx d t0 before mid now → is_at bar mid ≡ false →
        RecordsPattern whole ctx d t0 before mid now
    lone-alternative mid now reads no_bar =
        pattern_spans-end mid mid now now [] (length t0) (pattern_spans-start mid now (length t0) reads refl) no_bar refl (sym (append-nil now))
