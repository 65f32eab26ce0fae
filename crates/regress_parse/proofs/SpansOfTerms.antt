-- The loop over terms: the spans so far, and the derivation of the remaining terms.
use Rattle.std.proofs.Common.{◌≡◌, ℕ, ◌+◌, Bool, true, false, List, [], ◌++◌, Some, Vec, refl, sym, ap, ◌∙◌, subst, arith}
use Rattle.std.specs.declared.alloc.Global.{Global}
use Rattle.std.proofs.lemmas.List.{append_assoc, append-nil}
use Rattle.std.proofs.lemmas.Bool.{false≢true}
use Rattle.std.proofs.lemmas.Option.{none-some}
use Rattle.regress_tree.specs.Reading.{Direction, forwards, backwards, direction_if}
use Rattle.regress_lexer.specs.Source.{Source, ends_alternative}
use Rattle.regress_syntax.specs.Syntax.{Terms, Item, no_terms, more_terms, atom, group}
use Rattle.regress_syntax.specs.Productions.{Context, Head, single, opens, head_at}
use Rattle.regress_syntax.specs.Grammar.{AreTerms, IsItem}
use Rattle.regress_syntax.proofs.lemmas.Productions.{no_head_at_end}
use Rattle.regress_parse.specs.declared.span.Span.{Span}
use Rattle.regress_parse.specs.Spans.{in_tree_order, how_many, span_of_times, span_of_alternative, between, spans_of_terms, spans_of_item}
use Rattle.regress_parse.specs.Recorded.{joined_in_reverse, RecordsAlternative, RecordsTerm}

-- No item begins where the alternative ends.
none_at_end : (ctx : Context) (t : Source) (x : Head × Source) → head_at ctx t ≡ Some x → ends_alternative t ≡ true → ⊥
none_at_end ctx t x front ends = none-some x (sym (no_head_at_end ctx t ends) ∙ front)

no_item : (ctx : Context) (x : Item) (t rest : Source) → IsItem ctx x t rest → ends_alternative t ≡ true → ⊥
no_item ctx (atom a) t rest h = none_at_end ctx t (single a, rest) h
no_item ctx (group kind p) t rest h = none_at_end ctx t (opens kind, h.0) h.1

-- The spans of the next term are appended to the list, or set apart as a part of their own, by the direction.
pub record SetApart (d : Direction) (now part now' : List Span) (parts parts' : List (Vec Span Global)) : Type 0 where
  pub joined : (others : List Span) → now' ++ (others ++ joined_in_reverse parts') ≡ now ++ (in_tree_order d part others ++ joined_in_reverse parts)

pub apart-forwards : (now part now' : List Span) (parts parts' : List (Vec Span Global)) → now' ≡ now ++ part → parts' ≡ parts →
    SetApart forwards now part now' parts parts'
apart-forwards now part now' parts parts' added same = record {
  joined = λ others.
      ap (λ (ps : List (Vec Span Global)). now' ++ (others ++ joined_in_reverse ps)) same
      ∙ ap (λ (ss : List Span). ss ++ (others ++ joined_in_reverse parts)) added
      ∙ append_assoc now part (others ++ joined_in_reverse parts)
      ∙ ap (λ (ss : List Span). now ++ ss) (sym (append_assoc part others (joined_in_reverse parts)));
}

pub apart-backwards : (now part now' : List Span) (parts parts' : List (Vec Span Global)) → now' ≡ now → joined_in_reverse parts' ≡ part ++ joined_in_reverse parts →
    SetApart backwards now part now' parts parts'
apart-backwards now part now' parts parts' same moved = record {
  joined = λ others.
      ap (λ (ss : List Span). ss ++ (others ++ joined_in_reverse parts')) same
      ∙ ap (λ (ss : List Span). now ++ (others ++ ss)) moved
      ∙ ap (λ (ss : List Span). now ++ ss) (sym (append_assoc others part (joined_in_reverse parts)));
}

pub apart_in : (back : Bool) (now part added now' : List Span) (parts parts' : List (Vec Span Global)) → added ≡ now ++ part →
    (back ≡ false → (now' ≡ added) × (parts' ≡ parts)) → (back ≡ true → (now' ≡ now) × (joined_in_reverse parts' ≡ part ++ joined_in_reverse parts)) →
    SetApart (direction_if back) now part now' parts parts'
apart_in false now part added now' parts parts' is stays moves = let h = stays refl in apart-forwards now part now' parts parts' (h.0 ∙ is) h.1
apart_in true now part added now' parts parts' is stays moves = let h = moves refl in apart-backwards now part now' parts parts' h.0 h.1

module _ (whole : ℕ) (ctx : Context) (d : Direction) where
  -- The remaining terms of the alternative, after the first `count` of `many`, have these spans.
  pub record RemainingTerms (rest : Source) (many : ℕ) (t : Source) (left : List Span) (count : ℕ) : Type 0 where
    pub terms : Terms
    pub derived : AreTerms ctx terms t rest
    pub spans : left ≡ spans_of_terms whole ctx d terms t rest derived
    pub all : many ≡ count + how_many terms

  -- The next term was parsed.
  record TermRead (rest : Source) (many : ℕ) (left : List Span) (count : ℕ) (before : List Span) (new : Source) (now : List Span) : Type 0 where
    pub part : List Span
    pub others : List Span
    pub added : now ≡ before ++ part
    pub spans : left ≡ in_tree_order d part others
    pub left_over : RemainingTerms rest many new others (count + 1)

  term-read : (rest : Source) (many : ℕ) (t : Source) (left : List Span) (count : ℕ) (before : List Span) (new : Source) (now : List Span) →
      RemainingTerms rest many t left count → ends_alternative t ≡ false → RecordsTerm whole ctx d t before new now →
      TermRead rest many left count before new now
  term-read rest many t left count before new now h goes_on reads = by h.terms h.derived h.spans h.all
    where
      by : (ts : Terms) (derived : AreTerms ctx ts t rest) → left ≡ spans_of_terms whole ctx d ts t rest derived → many ≡ count + how_many ts →
          TermRead rest many left count before new now
      by no_terms derived spans all = absurd (false≢true (sym goes_on ∙ derived.0))
      by (more_terms x q xs) derived spans all =
          let a = reads x q derived.0 derived.1 derived.2 derived.3 in
          record {
            part = spans_of_item whole ctx d x t derived.0 derived.2 ++ span_of_times q (between whole t derived.1);
            others = spans_of_terms whole ctx d xs derived.1 rest derived.4;
            added = a.spans;
            spans = spans;
            left_over =
                subst (λ (u : Source). RemainingTerms rest many u (spans_of_terms whole ctx d xs derived.1 rest derived.4) (count + 1)) (sym a.rest)
                (record {
                  terms = xs;
                  derived = derived.4;
                  spans = refl;
                  all = omega (arith, all);
                });
          }

  terms-end : (rest : Source) (many : ℕ) (t : Source) (left : List Span) (count : ℕ) →
      RemainingTerms rest many t left count → ends_alternative t ≡ true → (t ≡ rest) × (left ≡ []) × (count ≡ many)
  terms-end rest many t left count h ends = by h.terms h.derived h.spans h.all
    where
      by : (ts : Terms) (derived : AreTerms ctx ts t rest) → left ≡ spans_of_terms whole ctx d ts t rest derived → many ≡ count + how_many ts →
          (t ≡ rest) × (left ≡ []) × (count ≡ many)
      by no_terms derived spans all = (derived.1, spans, omega (arith, all))
      by (more_terms x q xs) derived spans all = absurd (no_item ctx x t derived.0 derived.2 ends)

  module _ (t0 : Source) (before : List Span) where
    -- The loop's invariant: the spans so far, the remaining ones, and those that were set apart are all.
    pub TermSpansSoFar : (t : Source) (now : List Span) (parts : List (Vec Span Global)) (count : ℕ) → Type 0
    TermSpansSoFar t now parts count =
        (ts : Terms) (rest : Source) (h : AreTerms ctx ts t0 rest) →
        (left : List Span) × RemainingTerms rest (how_many ts) t left count
        × (before ++ spans_of_terms whole ctx d ts t0 rest h ≡ now ++ (left ++ joined_in_reverse parts))

    pub term_spans-start : TermSpansSoFar t0 before [] 0
    unfolding TermSpansSoFar
    term_spans-start ts rest h = (
      spans_of_terms whole ctx d ts t0 rest h,
      record { terms = ts; derived = h; spans = refl; all = omega arith },
      ap (λ (ss : List Span). before ++ ss) (sym (append-nil (spans_of_terms whole ctx d ts t0 rest h))),
    )

    -- The invariant holds after one more term.
    pub term_spans-step : (t : Source) (now : List Span) (parts : List (Vec Span Global)) (count : ℕ) (new : Source) (now' now'' : List Span)
        (parts' : List (Vec Span Global)) (more : ℕ) →
        TermSpansSoFar t now parts count → ends_alternative t ≡ false → RecordsTerm whole ctx d t now new now' →
        ((part : List Span) → now' ≡ now ++ part → SetApart d now part now'' parts parts') → more ≡ count + 1 →
        TermSpansSoFar new now'' parts' more
    unfolding TermSpansSoFar
    term_spans-step t now parts count new now' now'' parts' more so_far goes_on reads apart is ts rest h =
        let here = so_far ts rest h in
        let r = term-read rest (how_many ts) t here.0 count now new now' here.1 goes_on reads in (
          r.others,
          subst (λ n. RemainingTerms rest (how_many ts) new r.others n) (sym is) r.left_over,
          here.2
              ∙ ap (λ (ss : List Span). now ++ (ss ++ joined_in_reverse parts)) r.spans
              ∙ sym ((apart r.part r.added).joined r.others),
        )

    -- Once the alternative ends, its spans are appended, and then that of its own node.
    pub term_spans-end : (t : Source) (now : List Span) (parts : List (Vec Span Global)) (count : ℕ) (now' now'' : List Span) →
        TermSpansSoFar t now parts count → ends_alternative t ≡ true → now' ≡ now ++ joined_in_reverse parts →
        now'' ≡ now' ++ span_of_alternative count (between whole t0 t) → RecordsAlternative whole ctx d t0 before t now''
    unfolding TermSpansSoFar
    term_spans-end t now parts count now' now'' so_far ends moved added ts rest h =
        let here = so_far ts rest h in
        let end = terms-end rest (how_many ts) t here.0 count here.1 ends in
        let all = spans_of_terms whole ctx d ts t0 rest h in
        record {
          rest = end.0;
          spans =
              added
              ∙ ap (λ (ss : List Span). ss ++ span_of_alternative count (between whole t0 t))
              (moved ∙ sym (here.2 ∙ ap (λ (ss : List Span). now ++ (ss ++ joined_in_reverse parts)) end.1))
              ∙ append_assoc before all (span_of_alternative count (between whole t0 t))
              ∙ ap (λ n. before ++ (all ++ span_of_alternative n (between whole t0 t))) end.2
              ∙ ap (λ (u : Source). before ++ (all ++ span_of_alternative (how_many ts) (between whole t0 u))) end.0;
        }
