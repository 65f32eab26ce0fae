-- Each clause follows from a lemma on what was parsed, at the values of the call.
use Rattle.std.proofs.Common.{◌≡◌, ◌+◌, ◌-◌, ◌<◌, Bool, false, not, cond, ◌==◌, List, [], ◌∷◌, ◌++◌, inr, drop, replicate, Some, None, Ok, Err, length, refl, sym, ap, ◌∙◌, subst, arith, length-drop, ◌≤◌, OnOk}
use Rattle.std.proofs.lemmas.List.{append-nil, length_push}
use Rattle.std.proofs.lemmas.Result.{err_from_is_err_and, on_ok_weaker}
use Rattle.regress_lexer.specs.declared.fault.FaultKind.TheVariants.{TooDeep}
use Rattle.regress_lexer.specs.Source.{Source, Found, found_map, opening, is_at, ends_alternative, bar as the_bar}
use Rattle.regress_syntax.specs.Syntax.{Group, Counts, atom, direction_of_group}
use Rattle.regress_syntax.specs.Productions.{Context, context_inside, opens, allows, group_at, head_at}
use Rattle.regress_syntax.specs.Views.{group_of}
use Rattle.regress_base.specs.Limits.{max_nesting_depth}
use Rattle.regress_lexer.specs.Views.{source}
use Rattle.regress_lexer.proofs.lemmas.Sources.{at_front, on_kind_then, on_each_kind}
use Rattle.regress_lexer.specs.Fault.{OnKind, FailsBy}
use Rattle.regress_lexer.proofs.lemmas.Faults.{fails_then, by_nesting_then}
use Rattle.regress_syntax.proofs.lemmas.Plain.{no_times}
use Rattle.regress_syntax.proofs.lemmas.Productions.{head_at-shortens}
use Rattle.regress_syntax.proofs.lemmas.Lengths.{opened_by-one}
use Rattle.regress_parse.proofs.ReachLemmas.{no_limit, nesting_reach, groups_reach, reaches_before, spends_same, spends_then, spends_read, costs_spends, terms_at-costs, item_at-costs, term_at-costs}
use Rattle.regress_tree.specs.Tree.{tree}
use Rattle.regress_tree.specs.Visits.{nodes}
use Rattle.regress_parse.specs.TreeOf.{concatenation}
use Rattle.regress_parse.specs.declared.span.Span.{Span}
use Rattle.regress_parse.specs.Spans.{between, span_of_group}
use Rattle.regress_parse.specs.Recorded.{span_to, RecordsPattern, RecordsItem}
use Rattle.regress_parse.proofs.SpanLists.{alternative_if}
use Rattle.regress_parse.proofs.SpansOfItem.{node-flat, atom-records, group-records, records_inside, term-records}
use Rattle.regress_parse.proofs.SpansOfTerms.{apart_in, term_spans-start, term_spans-step, term_spans-end}
use Rattle.regress_parse.proofs.SpansOfPattern.{pattern_spans-start, pattern_spans-step, pattern_spans-end, lone-alternative}
use Rattle.regress_parse.specs.Reader.{Term, item_after_head, pattern_at, terms_at, term_at, item_at, with_quantifier}
use Rattle.regress_parse.specs.Parsing.{text, counted, context_in, table_in, names_in_context, direction_of, terms_part, term_part, item_part, atom_at, begins_lone, ReadsAtom, Yields, Reaches, CountsAtMostConsumed}
use Rattle.regress_parse.proofs.CountLemmas.{added-nothing}
use Rattle.regress_parse.proofs.ReaderLemmas.{terms_at-shortens, term_at-shortens, term_at-is}
use Rattle.regress_parse.proofs.TermLoopInvariant.{TermsSoFar, none-fit, terms-start, terms-first, terms-step, terms-end, terms-fail, no_terms-yield, one_term-yields, first_term-fails}
use Rattle.regress_parse.proofs.AlternativesLemmas.{alternatives-start, alternatives-step, lone-yields, first-fail, alternatives-fail}
use Rattle.regress_parse.proofs.LengthLemmas.{term-shorter}
use Rattle.regress_parse.proofs.TermLemmas.{front_is, times-fail, too_deep, plain_yields, no_term, opening_head, opening_item, opened_same, atom_alone, atom_item, atom_yields, atom_allowed}
use Rattle.regress_parse.proofs.ParserLemmas.{built, built_here, of_built}
use Rattle.regress_parse.proofs.parser.Parser.+parser.Goals as goal

-- A `|` takes one code point.
bar_spends : (now : Counts) (t rest : Source) → rest ≡ drop 1 t → CountsAtMostConsumed now now t rest
bar_spends now t rest same = spends_read now t rest (omega (arith, ap length same, length-drop 1 t))

pub consume_alternative-returns-then-ends_alternative-clause-value : goal.consume_alternative-returns-then-ends_alternative-clause-value
consume_alternative-returns-then-ends_alternative-clause-value g t c =
    let around = c.args.around.now in
    let old = c.args.self.now in
    no_terms-yield (table_in around) (names_in_context around) (direction_of around) (context_in around) around.depth old
    (sym c.ends_alternative.ensures ∙ c.if-ends_alternative.true) c.requires

pub consume_alternative-returns-then-ends_alternative-2-clause-value : goal.consume_alternative-returns-then-ends_alternative-2-clause-value
consume_alternative-returns-then-ends_alternative-2-clause-value g t c =
    let around = c.args.around.now in
    let old = c.args.self.now in
    one_term-yields (table_in around) (names_in_context around) (direction_of around) (context_in around) around.depth old
    c.consume_first_term-first.new.self c.consume_first_term-first.result
    (sym c.ends_alternative.ensures ∙ c.if-ends_alternative.false)
    (sym c.ends_alternative-2.ensures ∙ c.if-ends_alternative-2.true) c.requires c.consume_first_term-first.ensures.value

pub consume_alternative-returns-in_err-first-clause-value : goal.consume_alternative-returns-in_err-first-clause-value
consume_alternative-returns-in_err-first-clause-value g t c =
    let p = err_from_is_err_and c.from_residual.result c.from_residual.ensures.1 in
    let around = c.args.around.now in
    let old = c.args.self.now in
    rw (p.1, p.2) (on_kind_then c.in_err-first.field-0.0
    (λ kind. first_term-fails (table_in around) (names_in_context around) (direction_of around) (context_in around) around.depth old kind
    (sym c.ends_alternative.ensures ∙ c.if-ends_alternative.false) c.requires)
    c.in_err-first.ensures.value)

pub consume_alternative-returns-clause-value : goal.consume_alternative-returns-clause-value
consume_alternative-returns-clause-value g t c =
    let around = c.args.around.now in
    let old = c.args.self.now in
    let ctx = context_in around in
    let found = built (term_part (table_in around) (names_in_context around)) (direction_of around) around.depth (counted old) c.consume_first_term-first.new.self
    (term_at ctx (text old)) c.in_ok-first.field-0 c.in_ok-first.ensures.value in
    let b = found.2 in
    c.consume_terms.ensures.value (text old) (counted old) found.0.0 (sym c.ends_alternative.ensures ∙ c.if-ends_alternative.false)
    (found.1 ∙ ap (λ (u : Source). Some (found.0.0, u)) (sym b.rest))
    (record { node = b.node; fits = b.fits; counts = b.counts; rest = refl })

pub consume_first_term-returns-in_ok-make_literal-in-Some-clause-value : goal.consume_first_term-returns-in_ok-make_literal-in-Some-clause-value
consume_first_term-returns-in_ok-make_literal-in-Some-clause-value g t c =
    let around = c.args.around.now in
    plain_yields (table_in around) (names_in_context around) (context_in around) (direction_of around) around.depth c.args.self.now _
    c.in_ok-make_literal-in-Some.field-0 c.in-Some.c (source c.next_plain.new.self) c.requires c.in-Some.ensures.some c.in-Some.ensures.plain
    c.in-Some.ensures.alone refl refl c.in_ok-make_literal-in-Some.ensures

pub consume_first_term-returns-in-None-clause-value : goal.consume_first_term-returns-in-None-clause-value
consume_first_term-returns-in-None-clause-value g t c =
    let around = c.args.around.now in
    let here : source c.next_plain.new.self ≡ text c.args.self.now = c.in-None.ensures.none in
    subst (λ (u : Source). Yields (term_part (table_in around) (names_in_context around)) (direction_of around) around.depth (counted c.args.self.now)
    c.consume_term.new.self c.consume_term.result (term_at (context_in around) u)) here c.consume_term.ensures.value

pub consume_first_term-returns-in-None-clause-reached : goal.consume_first_term-returns-in-None-clause-reached
consume_first_term-returns-in-None-clause-reached g t c =
    let around = c.args.around.now in
    let here : source c.next_plain.new.self ≡ text c.args.self.now = c.in-None.ensures.none in
    subst (λ (u : Source). FailsBy c.consume_term.result (λ kind. Reaches kind (counted c.args.self.now) around.depth u)) here
    c.consume_term.ensures.reached

pub consume_first_term-returns-in-None-clause-shorter : goal.consume_first_term-returns-in-None-clause-shorter
consume_first_term-returns-in-None-clause-shorter g t c =
    let around = c.args.around.now in
    let here : source c.next_plain.new.self ≡ text c.args.self.now = c.in-None.ensures.none in
    subst (λ (u : Source). OnOk c.consume_term.result (length (text c.consume_term.new.self) ≤ length u)) here
    (term-shorter (table_in around) (names_in_context around) (context_in around) (direction_of around) around.depth (counted c.args.self.now)
    c.consume_term.new.self (source c.next_plain.new.self) c.consume_term.result c.consume_term.ensures.value)

pub consume_terms-loop-self-init : goal.consume_terms-loop-self-init
consume_terms-loop-self-init g t c =
    let around = c.args.around.now in
    let old = c.args.self.now in
    rw (c.in_ok-push.ensures.items, c.in_ok-parts.ensures.items) (
      (λ t before x goes_on found b.
          terms-first (table_in around) (names_in_context around) (direction_of around) (context_in around) around.depth t before c.args.first x (text old)
          (counted old) goes_on found b.node b.counts b.fits),
      omega arith,
      spends_same (counted old) (text old),
    )

pub consume_terms-loop-self-preserved-then-taken : goal.consume_terms-loop-self-preserved-then-taken
consume_terms-loop-self-preserved-then-taken g t c =
    let l = c.loop-self in
    let around = c.args.around.now in
    let ctx = context_in around in
    let goes_on : ends_alternative (text l.self) ≡ false = sym c.ends_alternative.ensures ∙ c.loop-self-test.true in
    let x = rw c.if-taken.true at c.in_ok-taken.ensures in
    let rest = source c.push_simple_term.new.cursor in
    let shorter = term_at-shortens ctx (text l.self) ((atom x.item, None), rest) x.found in
    rw x.pushed.items (
      (λ t before y begins first b.
          terms-step _ _ _ _ _ _ _ (text l.self) (counted l.self) l.parts.items x.pushed.node
          (atom x.item, None) rest (counted l.self) (l.invariant.0 t before y begins first b) goes_on x.found x.pushed.is
          (sym (added-nothing (counted l.self)))
          (record { groups = omega (arith, l.self.groups_within); loops = omega (arith, l.self.loops_within); nesting = omega (arith, c.requires, x.flat) })),
      omega (arith, l.invariant.1, shorter),
      spends_then l.invariant.2 (spends_read (counted l.self) (text l.self) rest (omega (arith, shorter))),
    )

pub consume_terms-returns-in_err-consume_term-clause-value : goal.consume_terms-returns-in_err-consume_term-clause-value
consume_terms-returns-in_err-consume_term-clause-value g t c =
    let from = c.from_residual-in_err-consume_term in
    let p = err_from_is_err_and from.result from.ensures.1 in
    let l = c.loop-self in
    let around = c.args.around.now in
    let here : source c.push_simple_term.new.cursor ≡ text l.self = (rw c.if-taken.false at c.in_ok-taken.ensures).0 in
    let goes_on = ap ends_alternative here ∙ sym c.ends_alternative.ensures ∙ c.loop-self-test.true in
    λ t before x begins first b.
    let h = subst (λ (u : Source). TermsSoFar (table_in around) (names_in_context around) (direction_of around) (context_in around) around.depth
    t before u (counted l.self) l.parts.items) (sym here) (l.invariant.0 t before x begins first b) in
    rw (p.1, p.2) (on_kind_then c.in_err-consume_term.field-0.0
    (λ kind. terms-fail _ _ _ _ _ _ _ kind (source c.push_simple_term.new.cursor) (counted l.self) l.parts.items h goes_on)
    c.in_err-consume_term.ensures.value)

pub consume_terms-loop-self-smaller : goal.consume_terms-loop-self-smaller
consume_terms-loop-self-smaller g t c =
    let around = c.args.around.now in
    let here = source c.push_simple_term.new.cursor in
    let same : here ≡ text c.loop-self.self = (rw c.if-taken.false at c.in_ok-taken.ensures).0 in
    let found = built (term_part (table_in around) (names_in_context around)) (direction_of around) around.depth (counted c.loop-self.self) c.consume_term.new.self
    (term_at (context_in around) here) c.in_ok-consume_term.field-0 c.in_ok-consume_term.ensures.value in
    omega (arith, term_at-shortens (context_in around) here found.0 found.1, ap length found.2.rest, ap length same)

pub consume_terms-loop-self-smaller-then-taken : goal.consume_terms-loop-self-smaller-then-taken
consume_terms-loop-self-smaller-then-taken g t c =
    let around = c.args.around.now in
    let x = rw c.if-taken.true at c.in_ok-taken.ensures in
    omega (arith, term_at-shortens (context_in around) (text c.loop-self.self) ((atom x.item, None), source c.push_simple_term.new.cursor) x.found)

pub consume_terms-loop-self-preserved : goal.consume_terms-loop-self-preserved
consume_terms-loop-self-preserved g t c =
    let l = c.loop-self in
    let around = c.args.around.now in
    let there = source c.push_simple_term.new.cursor in
    let kept = rw c.if-taken.false at c.in_ok-taken.ensures in
    let here : there ≡ text l.self = kept.0 in
    let goes_on = ap ends_alternative here ∙ sym c.ends_alternative.ensures ∙ c.loop-self-test.true in
    let found = built (term_part (table_in around) (names_in_context around)) (direction_of around) around.depth (counted l.self) c.consume_term.new.self
    (term_at (context_in around) there) c.in_ok-consume_term.field-0 c.in_ok-consume_term.ensures.value in
    let b = found.2 in
    rw (b.rest, c.in_ok-push-2.ensures.items, kept.1) (
      (λ t before x begins first bs.
          let h = subst (λ (u : Source). TermsSoFar (table_in around) (names_in_context around) (direction_of around) (context_in around) around.depth
          t before u (counted l.self) l.parts.items) (sym here) (l.invariant.0 t before x begins first bs) in
          terms-step _ _ _ _ _ _ _ there (counted l.self) l.parts.items c.in_ok-consume_term.field-0 found.0.0 found.0.1
          (counted c.consume_term.new.self) h goes_on found.1 b.node b.counts b.fits),
      omega (arith, l.invariant.1, term_at-shortens (context_in around) there found.0 found.1, ap length here),
      spends_then l.invariant.2 (subst (λ (u : Source). CountsAtMostConsumed (counted l.self) (counted c.consume_term.new.self) u found.0.1) here
          (costs_spends (counted l.self) b.counts (term_at-costs (context_in around) there found.0 found.1))),
    )

pub consume_terms-returns-clause-value : goal.consume_terms-returns-clause-value
consume_terms-returns-clause-value g t c =
    let l = c.loop-self in
    λ t before x begins first b.
    let h = l.invariant.0 t before x begins first b in
    let end = terms-end _ _ _ _ _ _ _ (text l.self) (counted l.self) l.parts.items h
    (sym c.ends_alternative.ensures ∙ c.loop-self-test.false) in
    rw end (record {
      node = c.make_cat.ensures ∙ ap (concatenation (direction_of c.args.around.now)) h.nodes;
      fits = h.fits;
      counts = h.counts;
      rest = refl;
    })

pub consume_disjunction-returns-then-around-ge-MAX_NESTING_DEPTH-clause-value : goal.consume_disjunction-returns-then-around-ge-MAX_NESTING_DEPTH-clause-value
consume_disjunction-returns-then-around-ge-MAX_NESTING_DEPTH-clause-value g t c =
    let around = c.args.around.now in
    rw c.reject.ensures (too_deep (table_in around) (names_in_context around) (context_in around) TooDeep (counted c.args.self.now) around.depth
    (pattern_at (context_in around) (text c.args.self.now)) c.if-around-ge-MAX_NESTING_DEPTH.true)

pub consume_disjunction-returns-then-not-is_at-clause-value : goal.consume_disjunction-returns-then-not-is_at-clause-value
consume_disjunction-returns-then-not-is_at-clause-value g t c =
    let around = c.args.around.now in
    let old = c.args.self.now in
    lone-yields (table_in around) (names_in_context around) (direction_of around) (context_in around) around.depth (text old) (counted old)
    c.consume_alternative-first.new.self c.consume_alternative-first.result (sym c.is_at.ensures ∙ c.if-not-is_at.true)
    c.consume_alternative-first.ensures.value

pub consume_disjunction-returns-in_err-last-clause-value : goal.consume_disjunction-returns-in_err-last-clause-value
consume_disjunction-returns-in_err-last-clause-value g t c =
    let p = err_from_is_err_and c.from_residual.result c.from_residual.ensures.1 in
    let around = c.args.around.now in
    rw (p.1, p.2) (on_kind_then c.in_err-last.field-0.0
    (λ kind. first-fail (table_in around) (names_in_context around) (context_in around) kind around.depth (text c.args.self.now) (counted c.args.self.now))
    c.in_err-last.ensures.value)

pub consume_disjunction-loop-self-init : goal.consume_disjunction-loop-self-init
consume_disjunction-loop-self-init g t c =
    let around = c.args.around.now in
    let old = c.args.self.now in
    let new = c.consume_alternative-first.new.self in
    let found = built_here (terms_part (table_in around) (names_in_context around)) (direction_of around) (around.depth + 1) (counted old)
    new (terms_at (context_in around) (text old)) c.in_ok-last.last c.in_ok-last.ensures.value in
    let b = found.2 in
    rw (c.new-before.ensures.items, c.new-starts.ensures.items) (
      alternatives-start _ _ _ _ _ (text c.args.self.now) (counted c.args.self.now) (text new) (counted new)
          c.in_ok-last.last found.0 found.1 b.node b.counts b.fits,
      costs_spends (counted old) b.counts (terms_at-costs (context_in around) (text old) (found.0, text new) found.1),
      λ on.
          pattern_spans-start around.whole (context_in around) (direction_of around) (text old) old.spans.items (text new) new.spans.items (length (text old))
          (c.in_ok-last.ensures.spans on) refl,
    )

pub consume_disjunction-returns-in_err-last-2-clause-value : goal.consume_disjunction-returns-in_err-last-2-clause-value
consume_disjunction-returns-in_err-last-2-clause-value g t c =
    let p = err_from_is_err_and c.from_residual-in_err-last-2.result c.from_residual-in_err-last-2.ensures.1 in
    let l = c.loop-self in
    let past = c.loop-self-test.ensures in
    rw (p.1, p.2) (on_kind_then c.in_err-last-2.field-0.0
    (λ kind rejected. alternatives-fail _ _ _ _ kind _ _ _ (text l.self) (counted l.self) l.before.items l.last l.invariant.0 (sym past.found)
    (rw past.moves at rejected))
    c.in_err-last-2.ensures.value)

pub consume_disjunction-loop-self-smaller : goal.consume_disjunction-loop-self-smaller
consume_disjunction-loop-self-smaller g t c =
    let l = c.loop-self in
    let past = c.loop-self-test.ensures in
    let around = c.args.around.now in
    let found = built (terms_part (table_in around) (names_in_context around)) (direction_of around) (around.depth + 1) (counted l.self)
    c.consume_alternative.new.self (terms_at (context_in around) (source c.try_consume.new.self)) c.in_ok-last-2.last
    c.in_ok-last-2.ensures.value in
    omega (
      arith,
      terms_at-shortens (context_in around) (source c.try_consume.new.self) found.0 found.1,
      ap length found.2.rest,
      ap length past.moves,
      length-drop 1 (text l.self),
      at_front the_bar (text l.self) (sym past.found),
    )

pub consume_disjunction-loop-self-preserved : goal.consume_disjunction-loop-self-preserved
consume_disjunction-loop-self-preserved g t c =
    let l = c.loop-self in
    let past = c.loop-self-test.ensures in
    let around = c.args.around.now in
    let old = c.args.self.now in
    let here = source c.try_consume.new.self in
    let new = c.consume_alternative.new.self in
    let found = built_here (terms_part (table_in around) (names_in_context around)) (direction_of around) (around.depth + 1) (counted l.self)
    new (terms_at (context_in around) here) c.in_ok-last-2.last c.in_ok-last-2.ensures.value in
    let b = found.2 in (
      rw c.in_ok-push.ensures.items (alternatives-step _ _ _ _ _ _ _ (text l.self) (counted l.self) l.before.items l.last c.in_ok-last-2.last found.0 (text new)
          (counted new) l.invariant.0 (sym past.found)
          (subst (λ u. terms_at (context_in around) u ≡ Some (found.0, text new)) past.moves found.1) b.node b.counts b.fits),
      spends_then l.invariant.1 (spends_then (bar_spends (counted l.self) (text l.self) here past.moves)
          (costs_spends (counted l.self) b.counts (terms_at-costs (context_in around) here (found.0, text new) found.1))),
      λ on.
          rw (c.in_ok-note_start.ensures on)
          (pattern_spans-step around.whole (context_in around) (direction_of around) (text old) old.spans.items (text l.self) l.self.spans.items l.starts.items l.start
          here (text new) new.spans.items (length here) (l.invariant.2 on) (sym past.found) past.moves (c.in_ok-last-2.ensures.spans on) refl),
    )

pub consume_term-returns-in_err-kind-clause-value : goal.consume_term-returns-in_err-kind-clause-value
consume_term-returns-in_err-kind-clause-value g t c =
    let p = err_from_is_err_and c.from_residual.result c.from_residual.ensures.1 in
    let around = c.args.around.now in
    let old = c.args.self.now in
    let past = c.if-try_open.ensures in
    let here = source c.try_open.new.cursor in
    let front : text old ≡ opening ∷ here = front_is opening (text old) here (sym past.found) past.moves in
    rw (p.1, p.2) (on_each_kind c.in_err-kind.field-0.0
    (λ kind none. rw (no_term (table_in around) (names_in_context around) (context_in around) (text old)
    (ap (head_at (context_in around)) front ∙ opening_head (table_in around) (names_in_context around) (context_in around) here ∙ none)) tt)
    c.in_err-kind.ensures.value)

pub consume_term-returns-in_err-item-clause-value : goal.consume_term-returns-in_err-item-clause-value
consume_term-returns-in_err-item-clause-value g t c =
    let p = err_from_is_err_and c.from_residual-in_err-item.result c.from_residual-in_err-item.ensures.1 in
    let around = c.args.around.now in
    let ctx = context_in around in
    let old = c.args.self.now in
    let past = c.if-try_open.ensures in
    let here = source c.try_open.new.cursor in
    let there = source c.parse_head.new.cursor in
    let front : text old ≡ opening ∷ here = front_is opening (text old) here (sym past.found) past.moves in
    let same : item_at ctx (text old) ≡ item_after_head pattern_at ctx (opens (group_of c.in_ok-kind.kind), there) =
    ap (item_at ctx) front ∙ opening_item (table_in around) (names_in_context around) ctx here (opens (group_of c.in_ok-kind.kind), there)
    c.in_ok-kind.ensures.value in
    rw (p.1, p.2, term_at-is ctx (text old), same)
    (on_kind_then c.in_err-item.field-0.0 (λ kind. times-fail (table_in around) (names_in_context around) ctx kind _ (counted old) around.depth)
    c.in_err-item.ensures.value)

pub consume_term-returns-then-try_open-clause-value : goal.consume_term-returns-then-try_open-clause-value
consume_term-returns-then-try_open-clause-value g t c =
    let around = c.args.around.now in
    let ctx = context_in around in
    let old = c.args.self.now in
    let past = c.if-try_open.ensures in
    let here = source c.try_open.new.cursor in
    let kind = group_of c.in_ok-kind.kind in
    let there = source c.parse_head.new.cursor in
    let front : text old ≡ opening ∷ here = front_is opening (text old) here (sym past.found) past.moves in
    let same : item_at ctx (text old) ≡ item_after_head pattern_at ctx (opens kind, there) =
    ap (item_at ctx) front ∙ opening_item (table_in around) (names_in_context around) ctx here (opens kind, there) c.in_ok-kind.ensures.value in
    let x = built_here (item_part (table_in around) (names_in_context around)) (direction_of around) around.depth (counted old) c.consume_group.new.self
    (item_after_head pattern_at ctx (opens kind, there)) c.in_ok-item.item c.in_ok-item.ensures.value in
    subst (λ (f : Found Term). Yields (term_part (table_in around) (names_in_context around)) (direction_of around) around.depth (counted old)
    c.consume_times.new.self c.consume_times.result f)
    (sym (term_at-is ctx (text old) ∙ ap (with_quantifier ctx) (same ∙ x.1)))
    (c.consume_times.ensures.value x.0 (counted old) refl
    (c.allows_quantifier-allowed.ensures
    ∙ sym (ap (allows ctx)
    (opened_same (table_in around) (names_in_context around) ctx kind there (x.0, text c.consume_group.new.self) x.1)))
    x.2)

pub consume_term-returns-in_err-item-2-clause-value : goal.consume_term-returns-in_err-item-2-clause-value
consume_term-returns-in_err-item-2-clause-value g t c =
    let p = err_from_is_err_and c.from_residual-in_err-item-2.result c.from_residual-in_err-item-2.ensures.1 in
    let around = c.args.around.now in
    let ctx = context_in around in
    let old = c.args.self.now in
    let past = c.if-try_open.ensures in
    let here = source c.try_open.new.cursor in
    let same : here ≡ text old = past.moves in
    let none : is_at opening here ≡ false = ap (is_at opening) same ∙ sym past.found in
    let all : around.depth + (max_nesting_depth - around.depth) ≡ max_nesting_depth = omega (arith, c.requires) in
    rw (p.1, p.2, ← same, term_at-is ctx here)
    (on_kind_then c.in_err-item-2.field-0.0 (λ kind. times-fail (table_in around) (names_in_context around) ctx kind _ (counted old) around.depth)
    (atom_yields (table_in around) (names_in_context around) ctx (direction_of around) around.depth (max_nesting_depth - around.depth)
    (not (begins_lone around.scope.dialect here)) old old (Err c.in_err-item-2.field-0.0) here none
    all refl c.in_err-item-2.ensures.value refl refl))

pub consume_term-returns-then-not-may_begin-clause-value : goal.consume_term-returns-then-not-may_begin-clause-value
consume_term-returns-then-not-may_begin-clause-value g t c =
    let around = c.args.around.now in
    let table = table_in around in
    let names = names_in_context around in
    let ctx = context_in around in
    let d = direction_of around in
    let old = c.args.self.now in
    let past = c.if-try_open.ensures in
    let here = source c.try_open.new.cursor in
    let same : here ≡ text old = past.moves in
    let none : is_at opening here ≡ false = ap (is_at opening) same ∙ sym past.found in
    let all : around.depth + (max_nesting_depth - around.depth) ≡ max_nesting_depth = omega (arith, c.requires) in
    atom_alone table names ctx d around.depth (max_nesting_depth - around.depth) (not (begins_lone around.scope.dialect here)) old _
    c.in_ok-item-2.item here same none all refl (sym c.may_begin.ensures ∙ c.if-not-may_begin.true) c.in_ok-item-2.ensures.value refl refl

pub consume_term-returns-clause-value : goal.consume_term-returns-clause-value
consume_term-returns-clause-value g t c =
    let around = c.args.around.now in
    let ctx = context_in around in
    let old = c.args.self.now in
    let past = c.if-try_open.ensures in
    let here = source c.try_open.new.cursor in
    let same : here ≡ text old = past.moves in
    let none : is_at opening here ≡ false = ap (is_at opening) same ∙ sym past.found in
    let all : around.depth + (max_nesting_depth - around.depth) ≡ max_nesting_depth = omega (arith, c.requires) in
    let built_atom = c.in_ok-item-2.item in
    let read = subst (λ (b : Bool). ReadsAtom ctx (max_nesting_depth - around.depth) (not b) (source c.parse_atom.new.cursor) (Ok built_atom) (atom_at ctx here))
    (sym c.begins_lone-allowed.ensures) c.in_ok-item-2.ensures.value in
    subst (λ (u : Source). Yields (term_part (table_in around) (names_in_context around)) (direction_of around) around.depth (counted old)
    c.consume_quantifier.new.self c.consume_quantifier.result (term_at ctx u)) same
    (subst (λ (f : Found Term). Yields (term_part (table_in around) (names_in_context around)) (direction_of around) around.depth (counted old)
    c.consume_quantifier.new.self c.consume_quantifier.result f)
    (sym (term_at-is ctx here))
    (of_built (item_part (table_in around) (names_in_context around)) (direction_of around) around.depth (counted old) _ (item_at ctx here)
    (with_quantifier ctx)
    (Yields (term_part (table_in around) (names_in_context around)) (direction_of around) around.depth (counted old)
    c.consume_quantifier.new.self c.consume_quantifier.result)
    built_atom
    (λ x found b. c.consume_quantifier.ensures.value x (counted old) refl
    (atom_allowed (table_in around) (names_in_context around) ctx (max_nesting_depth - around.depth)
    (not c.begins_lone-allowed.result) _ (Ok built_atom) here none read (x, _) found) b)
    (atom_yields (table_in around) (names_in_context around) ctx (direction_of around) around.depth (max_nesting_depth - around.depth)
    (not c.begins_lone-allowed.result) old _ (Ok built_atom) here none
    all refl read refl refl)))

-- ---- limits

pub consume_alternative-returns-clause-reached : goal.consume_alternative-returns-clause-reached
consume_alternative-returns-clause-reached g t c =
    let around = c.args.around.now in
    let old = c.args.self.now in
    let new = c.consume_first_term-first.new.self in
    let found = built_here (term_part (table_in around) (names_in_context around)) (direction_of around) around.depth (counted old) new
    (term_at (context_in around) (text old)) c.in_ok-first.field-0 c.in_ok-first.ensures.value in
    fails_then c.consume_terms.result
    (reaches_before around.depth around.depth
    (costs_spends (counted old) found.2.counts (term_at-costs (context_in around) (text old) (found.0, text new) found.1))
    (omega (arith, term_at-shortens (context_in around) (text old) (found.0, text new) found.1)))
    c.consume_terms.ensures.reached

pub consume_terms-returns-in_err-consume_term-clause-reached : goal.consume_terms-returns-in_err-consume_term-clause-reached
consume_terms-returns-in_err-consume_term-clause-reached g t c =
    let from = c.from_residual-in_err-consume_term in
    let p = err_from_is_err_and from.result from.ensures.1 in
    let l = c.loop-self in
    let around = c.args.around.now in
    let here : source c.push_simple_term.new.cursor ≡ text l.self = (rw c.if-taken.false at c.in_ok-taken.ensures).0 in
    rw (p.1, p.2) (on_kind_then c.in_err-consume_term.field-0.0
    (reaches_before around.depth around.depth
    (spends_then l.invariant.2 (spends_read (counted l.self) (text l.self) (source c.push_simple_term.new.cursor) (omega (arith, ap length here))))
    (omega (arith, l.invariant.1, ap length here)))
    c.in_err-consume_term.ensures.reached)

pub consume_disjunction-returns-then-around-ge-MAX_NESTING_DEPTH-clause-reached :
    goal.consume_disjunction-returns-then-around-ge-MAX_NESTING_DEPTH-clause-reached
consume_disjunction-returns-then-around-ge-MAX_NESTING_DEPTH-clause-reached g t c =
    let around = c.args.around.now in
    let old = c.args.self.now in
    rw c.reject.ensures
    (nesting_reach (counted old) (around.depth + 1) (text old) TooDeep (inr (refl, omega (arith, c.if-around-ge-MAX_NESTING_DEPTH.true))))

pub consume_disjunction-returns-in_err-last-2-clause-reached : goal.consume_disjunction-returns-in_err-last-2-clause-reached
consume_disjunction-returns-in_err-last-2-clause-reached g t c =
    let p = err_from_is_err_and c.from_residual-in_err-last-2.result c.from_residual-in_err-last-2.ensures.1 in
    let l = c.loop-self in
    let around = c.args.around.now in
    let past = c.loop-self-test.ensures in
    rw (p.1, p.2) (on_kind_then c.in_err-last-2.field-0.0
    (reaches_before (around.depth + 1) (around.depth + 1)
    (spends_then l.invariant.1 (bar_spends (counted l.self) (text l.self) (source c.try_consume.new.self) past.moves))
    (omega (arith, l.invariant.0.shorter, ap length past.moves, length-drop 1 (text l.self))))
    c.in_err-last-2.ensures.reached)

pub consume_term-returns-in_err-kind-clause-reached : goal.consume_term-returns-in_err-kind-clause-reached
consume_term-returns-in_err-kind-clause-reached g t c =
    let p = err_from_is_err_and c.from_residual.result c.from_residual.ensures.1 in
    rw (p.1, p.2) (on_kind_then c.in_err-kind.field-0.0
    (no_limit (counted c.args.self.now) c.args.around.now.depth (text c.args.self.now)) c.in_err-kind.ensures.kind)

-- What follows an opening parenthesis is shorter.
opened_shorter : (ctx : Context) (t here there : Source) (kind : Group) → t ≡ opening ∷ here → group_at ctx.setting.table here ≡ Some (opens kind, there) →
    length there < length t
opened_shorter ctx t here there kind front found =
    head_at-shortens ctx t (opens kind, there) (ap (head_at ctx) front ∙ opening_head ctx.setting.table ctx.names ctx here ∙ found)

pub consume_term-returns-in_err-item-clause-reached : goal.consume_term-returns-in_err-item-clause-reached
consume_term-returns-in_err-item-clause-reached g t c =
    let p = err_from_is_err_and c.from_residual-in_err-item.result c.from_residual-in_err-item.ensures.1 in
    let around = c.args.around.now in
    let old = c.args.self.now in
    let past = c.if-try_open.ensures in
    let here = source c.try_open.new.cursor in
    let there = source c.parse_head.new.cursor in
    let shorter = opened_shorter (context_in around) (text old) here there (group_of c.in_ok-kind.kind)
    (front_is opening (text old) here (sym past.found) past.moves) c.in_ok-kind.ensures.value in
    rw (p.1, p.2) (on_kind_then c.in_err-item.field-0.0
    (reaches_before around.depth around.depth (spends_read (counted old) (text old) (opening ∷ there) (omega (arith, shorter))) (omega (arith, shorter)))
    c.in_err-item.ensures.reached)

pub consume_term-returns-then-try_open-clause-reached : goal.consume_term-returns-then-try_open-clause-reached
consume_term-returns-then-try_open-clause-reached g t c =
    let around = c.args.around.now in
    let ctx = context_in around in
    let old = c.args.self.now in
    let new = c.consume_group.new.self in
    let past = c.if-try_open.ensures in
    let here = source c.try_open.new.cursor in
    let kind = group_of c.in_ok-kind.kind in
    let there = source c.parse_head.new.cursor in
    let front : text old ≡ opening ∷ here = front_is opening (text old) here (sym past.found) past.moves in
    let same : item_at ctx (text old) ≡ item_after_head pattern_at ctx (opens kind, there) =
    ap (item_at ctx) front ∙ opening_item (table_in around) (names_in_context around) ctx here (opens kind, there) c.in_ok-kind.ensures.value in
    let x = built_here (item_part (table_in around) (names_in_context around)) (direction_of around) around.depth (counted old) new
    (item_after_head pattern_at ctx (opens kind, there)) c.in_ok-item.item c.in_ok-item.ensures.value in
    let cost = item_at-costs ctx (text old) (x.0, text new) (same ∙ x.1) in
    fails_then c.consume_times.result
    (reaches_before around.depth around.depth (costs_spends (counted old) x.2.counts cost) (omega (arith, cost.groups))) c.consume_times.ensures.reached

pub consume_term-returns-in_err-item-2-clause-reached : goal.consume_term-returns-in_err-item-2-clause-reached
consume_term-returns-in_err-item-2-clause-reached g t c =
    let p = err_from_is_err_and c.from_residual-in_err-item-2.result c.from_residual-in_err-item-2.ensures.1 in
    let around = c.args.around.now in
    let old = c.args.self.now in
    let same : source c.try_open.new.cursor ≡ text old = c.if-try_open.ensures.moves in
    rw (p.1, p.2) (on_kind_then c.in_err-item-2.field-0.0
    (λ kind reported. nesting_reach (counted old) around.depth (text old) kind
    (by_nesting_then (λ few. omega (arith, few, c.requires, ap length same)) kind reported))
    c.in_err-item-2.ensures.kind)

pub consume_term-returns-clause-reached : goal.consume_term-returns-clause-reached
consume_term-returns-clause-reached g t c =
    let around = c.args.around.now in
    let ctx = context_in around in
    let old = c.args.self.now in
    let here = source c.try_open.new.cursor in
    let there = source c.parse_atom.new.cursor in
    let same : here ≡ text old = c.if-try_open.ensures.moves in
    let none : is_at opening here ≡ false = ap (is_at opening) same ∙ sym c.if-try_open.ensures.found in
    let found = c.in_ok-item-2.ensures.value in
    let cost = item_at-costs ctx here (atom found.0, there)
    (atom_item (table_in around) (names_in_context around) ctx here none ∙ ap (found_map atom) found.1) in
    fails_then c.consume_quantifier.result
    (reaches_before around.depth around.depth (spends_read (counted old) (text old) there (omega (arith, cost.groups, ap length same)))
    (omega (arith, cost.groups, ap length same)))
    c.consume_quantifier.ensures.reached

pub consume_group-returns-in_err-count_group-clause-reached : goal.consume_group-returns-in_err-count_group-clause-reached
consume_group-returns-in_err-count_group-clause-reached g t c =
    let p = err_from_is_err_and c.from_residual.result c.from_residual.ensures.1 in
    let around = c.args.around.now in
    let old = c.args.self.now in
    rw (p.1, p.2) (on_kind_then c.in_err-count_group.field-0.0
    (λ kind reported. groups_reach (counted old) around.depth (opening ∷ text old) kind reported.0
    (omega (arith, reported.1, opened_by-one (group_of c.args.kind))))
    c.in_err-count_group.ensures.err)

pub consume_group-returns-in_err-contents-clause-reached : goal.consume_group-returns-in_err-contents-clause-reached
consume_group-returns-in_err-contents-clause-reached g t c =
    let p = err_from_is_err_and c.from_residual-in_err-contents.result c.from_residual-in_err-contents.ensures.1 in
    let around = c.args.around.now in
    let old = c.args.self.now in
    let counts = c.in_ok-count_group.ensures.ok in
    let same = c.in_ok-count_group.ensures.text in
    let spent : CountsAtMostConsumed (counted old) (counted c.count_group.new.self) (opening ∷ text old) (text c.count_group.new.self) =
    record {
      groups = omega (arith, ap (λ (n : Counts). n.groups) counts, opened_by-one (group_of c.args.kind), ap length same);
      loops = omega (arith, ap (λ (n : Counts). n.loops) counts, ap length same);
    } in
    rw (p.1, p.2) (on_kind_then c.in_err-contents.field-0.0
    (reaches_before around.depth (around.depth + 1) spent (omega (arith, ap length same)))
    (subst (λ deep. OnKind c.in_err-contents.field-0.0 (λ kind. Reaches kind (counted c.count_group.new.self) (deep + 1) (text c.count_group.new.self)))
    c.inside.ensures.depth c.in_err-contents.ensures.reached))

pub consume_group-returns-in_err-consume_closing-clause-reached : goal.consume_group-returns-in_err-consume_closing-clause-reached
consume_group-returns-in_err-consume_closing-clause-reached g t c =
    let p = err_from_is_err_and c.from_residual-in_err-consume_closing.result c.from_residual-in_err-consume_closing.ensures.1 in
    rw (p.1, p.2) (on_kind_then c.in_err-consume_closing.field-0.0
    (no_limit (counted c.args.self.now) c.args.around.now.depth (opening ∷ text c.args.self.now)) c.in_err-consume_closing.ensures.kind)

-- ---- an alternative with its spans

pub consume_recorded-loop-self-init : goal.consume_recorded-loop-self-init
consume_recorded-loop-self-init g t c =
    let around = c.args.around.now in
    let old = c.args.self.now in
    rw (c.new-nodes.ensures.items, c.new-parts.ensures.items) (
      terms-start (table_in around) (names_in_context around) (direction_of around) (context_in around) around.depth (text old) (counted old)
          (none-fit (table_in around) (names_in_context around) (direction_of around) (context_in around) around.depth old c.requires.depth),
      term_spans-start around.whole (context_in around) (direction_of around) (text old) old.spans.items,
      spends_same (counted old) (text old),
    )

pub consume_recorded-returns-in_err-consume_term-clause-value : goal.consume_recorded-returns-in_err-consume_term-clause-value
consume_recorded-returns-in_err-consume_term-clause-value g t c =
    let p = err_from_is_err_and c.from_residual.result c.from_residual.ensures.1 in
    let l = c.loop-self in
    rw (p.1, p.2) (on_kind_then c.in_err-consume_term.field-0.0
    (λ kind. terms-fail _ _ _ _ _ _ _ kind (text l.self) (counted l.self) l.nodes.items l.invariant.0
    (sym c.ends_alternative.ensures ∙ c.loop-self-test.true))
    c.in_err-consume_term.ensures.value)

pub consume_recorded-returns-in_err-consume_term-clause-reached : goal.consume_recorded-returns-in_err-consume_term-clause-reached
consume_recorded-returns-in_err-consume_term-clause-reached g t c =
    let p = err_from_is_err_and c.from_residual.result c.from_residual.ensures.1 in
    let l = c.loop-self in
    let around = c.args.around.now in
    rw (p.1, p.2) (on_kind_then c.in_err-consume_term.field-0.0
    (reaches_before around.depth around.depth l.invariant.2 (omega (arith, l.invariant.0.shorter)))
    c.in_err-consume_term.ensures.reached)

pub consume_recorded-loop-self-smaller : goal.consume_recorded-loop-self-smaller
consume_recorded-loop-self-smaller g t c =
    let around = c.args.around.now in
    let l = c.loop-self in
    let found = built (term_part (table_in around) (names_in_context around)) (direction_of around) around.depth (counted l.self) c.consume_term.new.self
    (term_at (context_in around) (text l.self)) c.in_ok-consume_term.field-0 c.in_ok-consume_term.ensures.value in
    omega (arith, term_at-shortens (context_in around) (text l.self) found.0 found.1, ap length found.2.rest)

pub consume_recorded-loop-self-preserved : goal.consume_recorded-loop-self-preserved
consume_recorded-loop-self-preserved g t c =
    let l = c.loop-self in
    let around = c.args.around.now in
    let ctx = context_in around in
    let goes_on : ends_alternative (text l.self) ≡ false = sym c.ends_alternative.ensures ∙ c.loop-self-test.true in
    let new = c.consume_term.new.self in
    let found = built_here (term_part (table_in around) (names_in_context around)) (direction_of around) around.depth (counted l.self) new
    (term_at ctx (text l.self)) c.in_ok-consume_term.field-0 c.in_ok-consume_term.ensures.value in
    let b = found.2 in
    rw c.in_ok-push.ensures.items (
      terms-step _ _ _ _ _ _ _ (text l.self) (counted l.self) l.nodes.items c.in_ok-consume_term.field-0 found.0 (text new)
          (counted new) l.invariant.0 goes_on found.1 b.node b.counts b.fits,
      term_spans-step around.whole ctx (direction_of around) (text c.args.self.now) c.args.self.now.spans.items (text l.self) l.self.spans.items l.parts.items
          (length l.nodes.items) (text new) new.spans.items c.set_apart.new.spans.items c.set_apart.new.parts.items
          (length (l.nodes.items ++ c.in_ok-consume_term.field-0 ∷ [])) l.invariant.1 goes_on (c.in_ok-consume_term.ensures.spans c.requires.records)
          (λ part added. apart_in around.backwards l.self.spans.items part new.spans.items c.set_apart.new.spans.items l.parts.items
          c.set_apart.new.parts.items added c.in_ok-set_apart.ensures.forwards
          (λ on. c.in_ok-set_apart.ensures.backwards l.self.spans.items part on added (sym (c.len-begin.ensures ∙ l.self.spans.ok.0))))
          (length_push l.nodes.items c.in_ok-consume_term.field-0),
      spends_then l.invariant.2 (costs_spends (counted l.self) b.counts (term_at-costs ctx (text l.self) (found.0, text new) found.1)),
    )

pub consume_recorded-returns-clause-value : goal.consume_recorded-returns-clause-value
consume_recorded-returns-clause-value g t c =
    let l = c.loop-self in
    let h = l.invariant.0 in
    let end = terms-end _ _ _ _ _ _ _ (text l.self) (counted l.self) l.nodes.items h (sym c.ends_alternative.ensures ∙ c.loop-self-test.false) in
    rw end (record {
      node = c.make_cat.ensures ∙ ap (concatenation (direction_of c.args.around.now)) h.nodes;
      fits = h.fits;
      counts = h.counts;
      rest = refl;
    })

pub consume_recorded-returns-clause-spans : goal.consume_recorded-returns-clause-spans
consume_recorded-returns-clause-spans g t c =
    let l = c.loop-self in
    let around = c.args.around.now in
    let old = c.args.self.now in
    term_spans-end around.whole (context_in around) (direction_of around) (text old) old.spans.items (text l.self) l.self.spans.items l.parts.items
    (length l.nodes.items) c.push_reversed.new.spans.items c.record_if.new.spans.items l.invariant.1
    (sym c.ends_alternative.ensures ∙ c.loop-self-test.false) c.in_ok-push_reversed.ensures
    (c.in_ok-record_if.ensures c.requires.records
    ∙ ap (λ n. c.push_reversed.new.spans.items ++ cond (not (n == 1)) (between around.whole (text old) (text l.self) ∷ []) [])
    (c.len.ensures ∙ l.nodes.ok.0)
    ∙ ap (λ (ss : List Span). c.push_reversed.new.spans.items ++ ss) (alternative_if (length l.nodes.items) (between around.whole (text old) (text l.self))))

-- ---- spans

pub consume_disjunction-returns-then-not-is_at-clause-spans : goal.consume_disjunction-returns-then-not-is_at-clause-spans
consume_disjunction-returns-then-not-is_at-clause-spans g t c on =
    let around = c.args.around.now in
    let old = c.args.self.now in
    let new = c.consume_alternative-first.new.self in
    on_ok_weaker c.consume_alternative-first.result
    (λ reads. lone-alternative around.whole (context_in around) (direction_of around) (text old) old.spans.items (text new) new.spans.items reads
    (sym c.is_at.ensures ∙ c.if-not-is_at.true))
    (c.consume_alternative-first.ensures.spans on)

pub consume_disjunction-returns-clause-spans : goal.consume_disjunction-returns-clause-spans
consume_disjunction-returns-clause-spans g t c on =
    let l = c.loop-self in
    let around = c.args.around.now in
    let old = c.args.self.now in
    let past = c.loop-self-test.ensures in
    pattern_spans-end around.whole (context_in around) (direction_of around) (text old) old.spans.items (text l.self) (source c.try_consume.new.self)
    l.self.spans.items c.record_alternations.new.spans.items l.starts.items l.start (l.invariant.2 on) (sym past.found) past.moves
    c.in_ok-record_alternations.ensures

pub consume_term-returns-then-try_open-clause-spans : goal.consume_term-returns-then-try_open-clause-spans
consume_term-returns-then-try_open-clause-spans g t c on =
    let around = c.args.around.now in
    let ctx = context_in around in
    let old = c.args.self.now in
    let past = c.if-try_open.ensures in
    let here = source c.try_open.new.cursor in
    let kind = group_of c.in_ok-kind.kind in
    let there = source c.parse_head.new.cursor in
    let front : text old ≡ opening ∷ here = front_is opening (text old) here (sym past.found) past.moves in
    let head : head_at ctx (text old) ≡ Some (opens kind, there) =
    ap (head_at ctx) front ∙ opening_head (table_in around) (names_in_context around) ctx here ∙ c.in_ok-kind.ensures.value in
    let new = c.consume_group.new.self in
    c.consume_times.ensures.spans (text old) old.spans.items on refl
    (subst (λ (b : Bool). RecordsItem around.whole ctx (direction_of around) (text old) old.spans.items (text new) new.spans.items b)
    (sym c.allows_quantifier-allowed.ensures)
    (c.in_ok-item.ensures.spans (text old) on refl head))

pub consume_term-returns-then-not-may_begin-clause-spans : goal.consume_term-returns-then-not-may_begin-clause-spans
consume_term-returns-then-not-may_begin-clause-spans g t c on =
    let around = c.args.around.now in
    let ctx = context_in around in
    let d = direction_of around in
    let old = c.args.self.now in
    let past = c.if-try_open.ensures in
    let here = source c.try_open.new.cursor in
    let new = source c.parse_atom.new.cursor in
    let same : here ≡ text old = past.moves in
    let none : is_at opening here ≡ false = ap (is_at opening) same ∙ sym past.found in
    let node = c.in_ok-item-2.item in
    let deep = max_nesting_depth - around.depth in
    let allowed = not (begins_lone around.scope.dialect here) in
    let read = c.in_ok-item-2.ensures.value in
    let now = c.record_nodes.new.spans.items in
    let added = c.in_ok-record_nodes.ensures on (node-flat ctx around.whole d here old.spans.items none deep new allowed node read) in
    term-records ctx around.whole d (text old) old.spans.items new now allowed
    (subst (λ (u : Source). RecordsItem around.whole ctx d u old.spans.items new now allowed) same
    (atom-records ctx around.whole d here old.spans.items none deep new allowed node read now
    (added ∙ ap (λ n. old.spans.items ++ replicate (nodes (tree node)) (span_to around.whole n new)) (ap length (sym same)))))
    None new now (no_times ctx allowed new (sym c.may_begin.ensures ∙ c.if-not-may_begin.true)) (sym (append-nil now))

pub consume_term-returns-clause-spans : goal.consume_term-returns-clause-spans
consume_term-returns-clause-spans g t c on =
    let around = c.args.around.now in
    let ctx = context_in around in
    let d = direction_of around in
    let old = c.args.self.now in
    let past = c.if-try_open.ensures in
    let here = source c.try_open.new.cursor in
    let new = source c.parse_atom.new.cursor in
    let same : here ≡ text old = past.moves in
    let none : is_at opening here ≡ false = ap (is_at opening) same ∙ sym past.found in
    let node = c.in_ok-item-2.item in
    let deep = max_nesting_depth - around.depth in
    let read = subst (λ (b : Bool). ReadsAtom ctx deep (not b) new (Ok node) (atom_at ctx here)) (sym c.begins_lone-allowed.ensures)
    c.in_ok-item-2.ensures.value in
    let now = c.record_nodes.new.spans.items in
    let added = c.in_ok-record_nodes.ensures on (node-flat ctx around.whole d here old.spans.items none deep new (not c.begins_lone-allowed.result) node read) in
    c.consume_quantifier.ensures.spans (text old) old.spans.items on refl
    (subst (λ (u : Source). RecordsItem around.whole ctx d u old.spans.items new now (not c.begins_lone-allowed.result)) same
    (atom-records ctx around.whole d here old.spans.items none deep new (not c.begins_lone-allowed.result) node read now
    (added ∙ ap (λ n. old.spans.items ++ replicate (nodes (tree node)) (span_to around.whole n new)) (ap length (sym same)))))

pub consume_group-returns-clause-spans : goal.consume_group-returns-clause-spans
consume_group-returns-clause-spans g t c u on opened head =
    let around = c.args.around.now in
    let ctx = context_in around in
    let d = direction_of around in
    let old = c.args.self.now in
    let kind = group_of c.args.kind in
    let start = c.count_group.new.self in
    let mid = c.consume_disjunction.new.self in
    let new = source c.consume_closing.new.self in
    let same = c.in_ok-count_group.ensures in
    let inner = records_inside around.whole _ (context_inside kind ctx) _ (direction_of_group kind d) _ (text start) start.spans.items (text mid) mid.spans.items
    c.inside.ensures.whole c.inside.ensures.context c.inside.ensures.direction (c.in_ok-contents.ensures.spans on) in
    let reads = subst (λ (v : Source). RecordsPattern around.whole (context_inside kind ctx) (direction_of_group kind d) v old.spans.items
    (text mid) mid.spans.items) same.text
    (subst (λ (ss : List Span). RecordsPattern around.whole (context_inside kind ctx) (direction_of_group kind d) (text start) ss
    (text mid) mid.spans.items) same.spans inner) in
    group-records ctx around.whole d u old.spans.items kind (text old) head (text mid) mid.spans.items new c.record_if.new.spans.items reads
    c.in_ok-consume_closing.ensures.ok
    (c.in_ok-record_if.ensures on
    ∙ ap (λ (b : Bool). mid.spans.items ++ cond b (span_to around.whole c.args.opened new ∷ []) []) c.has_node.ensures
    ∙ ap (λ n. mid.spans.items ++ span_of_group kind (span_to around.whole n new)) opened)
