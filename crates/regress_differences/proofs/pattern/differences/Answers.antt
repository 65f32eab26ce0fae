use Rattle.std.specs.List.{zip}
use Rattle.regress_syntax.specs.Meaning.{setting_of}
use Rattle.regress_tree.specs.Tree.{tree}
use Rattle.regress_unicode.specs.TableOf.{table_of}
use Rattle.regress_spans.specs.Paired.{postorder}
use Rattle.regress_differences.proofs.ReportLemmas.{finds_of_pattern, of_pattern, within_pattern}
use Rattle.regress_differences.proofs.pattern.differences.Goals as goal

pub returns-clause-listed : goal.returns-clause-listed
returns-clause-listed c =
    let parsed = c.in_ok-parsed.parsed in
    of_pattern (table_of c.args.tables.now) c.args.pattern.now c.args.flags parsed.regex.flags c.in_ok-parsed.ensures.flags (tree parsed.regex.node)
    parsed.spans.items (zip (postorder (tree parsed.regex.node)) parsed.spans.items) c.in_ok-differences_of.field-0.items c.in_ok-parsed.ensures.only
    c.in_ok-parsed.ensures.spanned c.in_ok-parsed.ensures.paired c.in_ok-differences_of.ensures.listed

pub returns-clause-within : goal.returns-clause-within
returns-clause-within c =
    let parsed = c.in_ok-parsed.parsed in
    within_pattern (setting_of parsed.regex.flags c.args.tables.now) c.args.pattern.now (tree parsed.regex.node) (postorder (tree parsed.regex.node))
    parsed.spans.items c.in_ok-differences_of.field-0.items c.in_ok-differences_of.ensures.listed c.in_ok-parsed.ensures.within

pub returns-clause-matches : goal.returns-clause-matches
returns-clause-matches c = λ none unicode.
    let parsed = c.in_ok-parsed.parsed in
    finds_of_pattern (table_of c.args.tables.now) c.args.pattern.now c.args.flags parsed.regex.flags c.in_ok-parsed.ensures.flags (tree parsed.regex.node)
    parsed.spans.items c.in_ok-parsed.ensures.only c.in_ok-parsed.ensures.spanned (c.in_ok-differences_of.ensures.matches none unicode)
