use Rattle.std.proofs.Common.{List, length, sym, ap, ap₂, ◌∙◌, subst}
use Rattle.std.specs.List.{All, AllPairs, zip}
use Rattle.std.proofs.lemmas.Result.{IfOk-weaker}
use Rattle.regress_tree.specs.Visits.{nodes}
use Rattle.regress_lexer.specs.Dialects.{flags_in_force}
use Rattle.regress_syntax.specs.Meaning.{setting_of}
use Rattle.regress_parse.specs.declared.span.Span.{Span}
use Rattle.regress_parse.specs.Spans.{IsWithin, IsInsideOrApart}
use Rattle.regress_spans.specs.Paired.{postorder}
use Rattle.regress_spans.proofs.lemmas.Each.{each_node}
use Rattle.regress_spans.proofs.lemmas.Nesting.{all_within}
use Rattle.regress_spans.proofs.lemmas.Neighbours.{all_nest}
use Rattle.regress_spans.proofs.lemmas.Paired.{paired}
use Rattle.regress_spans.proofs.pattern.try_parse_with_spans_in.Goals as goal

pub returns-clause-paired : goal.returns-clause-paired
returns-clause-paired c =
    let setting = setting_of (flags_in_force c.args.dialect c.args.flags) c.args.tables.now in
    let t = c.args.pattern.now in
    IfOk-weaker c.parse_with_spans_in.result _ _
    (λ r found. (found.0, found.1, ap₂ (λ u ss. zip (postorder u) ss) found.2 found.3 ∙ paired c.args.dialect setting t found.0 found.1.derived))
    c.parse_with_spans_in.ensures.spanned

pub returns-clause-each : goal.returns-clause-each
returns-clause-each c =
    let setting = setting_of (flags_in_force c.args.dialect c.args.flags) c.args.tables.now in
    let t = c.args.pattern.now in
    IfOk-weaker c.parse_with_spans_in.result _ _
    (λ r found. ap (λ (ss : List Span). length ss) found.3 ∙ each_node c.args.dialect setting t found.0 found.1.derived ∙ ap nodes (sym found.2))
    c.parse_with_spans_in.ensures.spanned

pub returns-clause-within : goal.returns-clause-within
returns-clause-within c =
    let setting = setting_of (flags_in_force c.args.dialect c.args.flags) c.args.tables.now in
    let t = c.args.pattern.now in
    IfOk-weaker c.parse_with_spans_in.result _ _
    (λ r found. subst (λ (ss : List Span). All (IsWithin (record { start = 0; end = length t })) ss) (sym found.3)
    (all_within c.args.dialect setting t found.0 found.1.derived))
    c.parse_with_spans_in.ensures.spanned

pub returns-clause-nested : goal.returns-clause-nested
returns-clause-nested c =
    let setting = setting_of (flags_in_force c.args.dialect c.args.flags) c.args.tables.now in
    let t = c.args.pattern.now in
    IfOk-weaker c.parse_with_spans_in.result _ _
    (λ r found. subst (AllPairs IsInsideOrApart) (sym found.3) (all_nest c.args.dialect setting t found.0 found.1.derived))
    c.parse_with_spans_in.ensures.spanned
