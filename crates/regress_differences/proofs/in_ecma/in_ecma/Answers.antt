use Rattle.std.proofs.Common.{◌+◌, [], length, refl, sym, ◌∙◌, arith}
use Rattle.regress_lexer.specs.Dialects.{flags_in_force}
use Rattle.regress_lexer.specs.declared.dialect.Dialect.TheVariants.{Ecma}
use Rattle.regress_syntax.specs.Meaning.{setting_of}
use Rattle.regress_tree.specs.Tree.{tree}
use Rattle.regress_unicode.specs.TableOf.{table_of}
use Rattle.regress_parse.specs.Accepted.{own_context_in}
use Rattle.regress_ecma.specs.CompiledClasses.{with_char_sets}
use Rattle.regress_ecma.proofs.lemmas.Searches.{in_range}
use Rattle.regress_spans.specs.Paired.{postorder}
use Rattle.std.specs.List.{zip}
use Rattle.regress_differences.proofs.InEcmaLemmas.{first_outcome, is_no_tree, is_tree, means_of, none_accepted, other_force, other_tree, paired_under, same_force, same_tree, with_u}
use Rattle.regress_differences.proofs.in_ecma.in_ecma.Goals as goal

pub returns-then-lacks_u-clause-found : goal.returns-then-lacks_u-clause-found
returns-then-lacks_u-clause-found c = other_force c.args.parsed.now.regex.flags (sym c.lacks_u.ensures ∙ c.if-lacks_u.true)

pub returns-then-branch-clause-found : goal.returns-then-branch-clause-found
returns-then-branch-clause-found c =
    let flags = c.args.parsed.now.regex.flags in
    let is = c.in-Ok.ensures.spanned in
    is_tree (table_of c.args.tables.now) c.args.pattern.now flags (flags_in_force Ecma flags) refl (same_force flags (sym c.lacks_u.ensures ∙ c.if-lacks_u.false))
    (tree c.args.parsed.now.regex.node) (tree c.in-Ok.other.regex.node) (is.0, is.1, is.2)
    (same_tree c.encoding_determines_the_tree.ensures _ _ (sym c.in_ok-is_same-in-Ok.ensures ∙ c.if-branch.true))

pub returns-then-branch-clause-matches : goal.returns-then-branch-clause-matches
returns-then-branch-clause-matches c = λ unicode.
    let flags = c.args.parsed.now.regex.flags in
    let table = table_of c.args.tables.now in
    let setting = setting_of flags c.args.tables.now in
    let source = c.args.pattern.now in
    let t = tree c.args.parsed.now.regex.node in
    let same = same_force flags (sym c.lacks_u.ensures ∙ c.if-lacks_u.false) in
    let h = returns-then-branch-clause-found c in
    let means =
    means_of table source flags (flags_in_force Ecma flags) same t (tree c.in-Ok.other.regex.node)
    (same_tree c.encoding_determines_the_tree.ensures _ _ (sym c.in_ok-is_same-in-Ok.ensures ∙ c.if-branch.true))
    c.in-Ok.ensures.meaning h.pattern h.accepted in (
      h.pattern,
      h.accepted,
      λ text is_text index within.
          first_outcome setting h.pattern (with_char_sets (own_context_in Ecma setting h.pattern) h.pattern source [] h.accepted.derived) t means text is_text index within
          (c.first_outcome_is_the_match.ensures.in_ecma (own_context_in Ecma setting h.pattern) refl unicode (with_u flags same) h.pattern source []
          h.accepted.derived h.accepted.names text (in_range text is_text) (length text + 1) (omega arith) index within),
    )

pub returns-in-Ok-clause-found : goal.returns-in-Ok-clause-found
returns-in-Ok-clause-found c =
    let flags = c.args.parsed.now.regex.flags in
    let table = table_of c.args.tables.now in
    let same = same_force flags (sym c.lacks_u.ensures ∙ c.if-lacks_u.false) in
    let is = c.in-Ok.ensures.spanned in (
      is_no_tree table c.args.pattern.now flags (flags_in_force Ecma flags) same (tree c.args.parsed.now.regex.node) (tree c.in-Ok.other.regex.node)
          c.in-Ok.ensures.only (is.0, is.1, is.2) (other_tree _ _ (sym c.in_ok-is_same-in-Ok.ensures ∙ c.if-branch.false)),
      paired_under table c.args.pattern.now flags (flags_in_force Ecma flags) same
          (zip (postorder (tree c.in-Ok.other.regex.node)) c.in-Ok.other.spans.items) c.in-Ok.ensures.paired,
    )

pub returns-in-Err-Syntax-clause-found : goal.returns-in-Err-Syntax-clause-found
returns-in-Err-Syntax-clause-found c =
    let flags = c.args.parsed.now.regex.flags in
    let fault = rw c.in-Err-Syntax.field-0-is at c.in-Err-Syntax.ensures.rejected in (
      none_accepted (table_of c.args.tables.now) c.args.pattern.now flags (flags_in_force Ecma flags)
          (same_force flags (sym c.lacks_u.ensures ∙ c.if-lacks_u.false)) fault.rejected,
      c.one_at.ensures,
    )
