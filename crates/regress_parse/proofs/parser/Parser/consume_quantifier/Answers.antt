-- The quantifier is parsed after the item that was found.
use Rattle.std.proofs.Common.{◌≡◌, ◌+◌, List, [], ◌∷◌, ◌++◌, Some, None, refl, sym, ap, ap₂, ◌∙◌, subst, arith}
use Rattle.std.proofs.lemmas.List.{append-nil}
use Rattle.std.proofs.lemmas.Result.{err_from_is_err_and}
use Rattle.regress_lexer.specs.Views.{source}
use Rattle.regress_lexer.specs.Source.{Source}
use Rattle.regress_lexer.proofs.lemmas.Sources.{on_rejected, on_kind_then, on_each_kind}
use Rattle.regress_syntax.specs.Syntax.{Counts, added, one_loop, counts_of_item}
use Rattle.regress_tree.specs.Tree.{tree}
use Rattle.regress_parse.specs.TreeOf.{tree_of_quantified}
use Rattle.regress_parse.specs.Parsing.{text, counted, context_in, table_in, names_in_context, direction_of, term_part, item_part}
use Rattle.regress_parse.specs.declared.span.Span.{Span}
use Rattle.regress_parse.specs.Recorded.{span_to, RecordsTerm}
use Rattle.regress_parse.proofs.SpansOfItem.{term-records}
use Rattle.regress_parse.proofs.CountLemmas.{added-assoc, added-nothing, Fits-inside}
use Rattle.regress_parse.proofs.ReachLemmas.{no_limit, loops_reach, begins_some}
use Rattle.regress_parse.proofs.TermLemmas.{times_read, times-too_many}
use Rattle.regress_parse.proofs.parser.Parser.consume_quantifier.Goals as goal

pub returns-in_err-times-clause-value : goal.returns-in_err-times-clause-value
returns-in_err-times-clause-value g c =
    let p = err_from_is_err_and c.from_residual.result c.from_residual.ensures.1 in
    let around = c.args.around.now in
    let table = table_in around in
    let names = names_in_context around in
    let ctx = context_in around in
    let old = c.args.self.now in
    λ x before first allowed b.
    rw (p.1, p.2) (on_each_kind c.in_err-times.field-0.0
    (λ kind none. rw (times_read table names ctx (Some (x, text old)) (x, text old) c.args.allowed None refl allowed none) tt)
    (on_rejected c.in_err-times.field-0.0 c.in_err-times.ensures.value))

pub returns-in_default-clause-value : goal.returns-in_default-clause-value
returns-in_default-clause-value g c =
    let around = c.args.around.now in
    let table = table_in around in
    let names = names_in_context around in
    let ctx = context_in around in
    let old = c.args.self.now in
    λ x before first allowed b.
    let read = times_read table names ctx (Some (x, text old)) (x, text old) c.args.allowed (Some (None, source c.parse_optional_quantifier.new.cursor)) refl allowed
    (c.in_ok-times.ensures.value ∙ ap (λ q. Some (q, source c.parse_optional_quantifier.new.cursor)) c.in_default.is) in
    rw read (record {
      node = b.node;
      fits = Fits-inside before before around.depth around.depth (item_part table names x) (term_part table names (x, None))
          (omega arith) (omega arith) (omega arith) b.fits;
      counts = b.counts ∙ ap (added before) (sym (added-nothing (item_part table names x).counts));
      rest = refl;
    })

pub returns-in_err-count_loop-clause-value : goal.returns-in_err-count_loop-clause-value
returns-in_err-count_loop-clause-value g c =
    let p = err_from_is_err_and c.from_residual-in_err-count_loop.result c.from_residual-in_err-count_loop.ensures.1 in
    let around = c.args.around.now in
    let table = table_in around in
    let names = names_in_context around in
    let ctx = context_in around in
    let old = c.args.self.now in
    λ x before first allowed b.
    let read = times_read table names ctx (Some (x, text old)) (x, text old) c.args.allowed
    (Some (Some c.in-Some.quantifier, source c.parse_optional_quantifier.new.cursor)) refl allowed
    (c.in_ok-times.ensures.value ∙ ap (λ q. Some (q, source c.parse_optional_quantifier.new.cursor)) c.in-Some.is) in
    rw (p.1, p.2) (on_kind_then c.in_err-count_loop.field-0.0
    (λ kind reported. times-too_many table names ctx kind reported.0 _ _ x c.in-Some.quantifier before around.depth read
    (omega (arith, ap (λ (n : Counts). n.loops) b.counts, reported.1)))
    c.in_err-count_loop.ensures.err)

pub returns-clause-value : goal.returns-clause-value
returns-clause-value g c =
    let around = c.args.around.now in
    let table = table_in around in
    let names = names_in_context around in
    let ctx = context_in around in
    let old = c.args.self.now in
    λ x before first allowed b.
    let read = times_read table names ctx (Some (x, text old)) (x, text old) c.args.allowed
    (Some (Some c.in-Some.quantifier, source c.parse_optional_quantifier.new.cursor)) refl allowed
    (c.in_ok-times.ensures.value ∙ ap (λ q. Some (q, source c.parse_optional_quantifier.new.cursor)) c.in-Some.is) in
    let counts = c.in_ok-count_loop.ensures.ok ∙ ap (λ n. added n one_loop) b.counts ∙ added-assoc before _ one_loop in
    let groups : c.count_loop.new.self.group_count ≡ before.groups + (counts_of_item x).groups =
    omega (arith, ap (λ (n : Counts). n.groups) counts) in
    rw read (record {
      node = c.in_ok-make_loop.ensures
          ∙ ap (λ start. tree_of_quantified (Some c.in-Some.quantifier) start c.count_loop.new.self.group_count (tree c.args.item)) (sym first)
          ∙ ap₂ (λ end body. tree_of_quantified (Some c.in-Some.quantifier) before.groups end body) groups b.node;
      fits = record {
        groups = omega (arith, b.fits.groups);
        loops = omega (arith, ap (λ (n : Counts). n.loops) counts, c.count_loop.new.self.loops_within);
        nesting = b.fits.nesting;
      };
      counts = counts;
      rest = c.in_ok-count_loop.ensures.text;
    })

pub returns-in_err-times-clause-reached : goal.returns-in_err-times-clause-reached
returns-in_err-times-clause-reached g c =
    let p = err_from_is_err_and c.from_residual.result c.from_residual.ensures.1 in
    rw (p.1, p.2) (on_kind_then c.in_err-times.field-0.0
    (no_limit (counted c.args.self.now) c.args.around.now.depth (text c.args.self.now)) c.in_err-times.ensures.kind)

pub returns-in_err-count_loop-clause-reached : goal.returns-in_err-count_loop-clause-reached
returns-in_err-count_loop-clause-reached g c =
    let p = err_from_is_err_and c.from_residual-in_err-count_loop.result c.from_residual-in_err-count_loop.ensures.1 in
    let old = c.args.self.now in
    let some = begins_some (text old) c.requires in
    rw (p.1, p.2) (on_kind_then c.in_err-count_loop.field-0.0
    (λ kind reported. loops_reach (counted old) c.args.around.now.depth (text old) kind reported.0 (omega (arith, reported.1, some))) c.in_err-count_loop.ensures.err)

-- ---- spans

pub returns-in_default-clause-spans : goal.returns-in_default-clause-spans
returns-in_default-clause-spans g c t before on opened reads =
    let around = c.args.around.now in
    let ctx = context_in around in
    let old = c.args.self.now in
    let new = source c.parse_optional_quantifier.new.cursor in
    term-records ctx around.whole (direction_of around) t before (text old) old.spans.items c.args.allowed reads None new old.spans.items
    (c.in_ok-times.ensures.value ∙ ap (λ q. Some (q, new)) c.in_default.is) (sym (append-nil old.spans.items))

pub returns-clause-spans : goal.returns-clause-spans
returns-clause-spans g c t before on opened reads =
    let around = c.args.around.now in
    let ctx = context_in around in
    let old = c.args.self.now in
    let new = source c.parse_optional_quantifier.new.cursor in
    let counted = c.count_loop.new.self in
    let same = c.in_ok-count_loop.ensures in
    subst (λ (u : Source). RecordsTerm around.whole ctx (direction_of around) t before u c.record_if.new.spans.items) (sym same.text)
    (term-records ctx around.whole (direction_of around) t before (text old) old.spans.items c.args.allowed reads
    (Some c.in-Some.quantifier) new c.record_if.new.spans.items
    (c.in_ok-times.ensures.value ∙ ap (λ q. Some (q, new)) c.in-Some.is)
    (c.in_ok-record_if.ensures on
    ∙ ap (λ (ss : List Span). ss ++ span_to around.whole c.args.start.left (text counted) ∷ []) same.spans
    ∙ ap (λ (u : Source). old.spans.items ++ span_to around.whole c.args.start.left u ∷ []) same.text
    ∙ ap (λ n. old.spans.items ++ span_to around.whole n new ∷ []) opened))
