use Rattle.std.proofs.Common.{◌≡◌, false, not, ◌++◌, map, ap, ap₂, sym, subst, ◌∙◌}
use Rattle.std.specs.Result.{IfOk}
use Rattle.regress_tree.specs.Tree.{tree}
use Rattle.regress_base.specs.Intervals.{intervals_of}
use Rattle.regress_unicode.specs.TableOf.{table_of}
use Rattle.regress_syntax.specs.Meaning.{is_in_class, longest_first}
use Rattle.regress_parse.specs.TreeOf.{alternation}
use Rattle.regress_parse.specs.ClassParts.{strings_part, bracket_part, empty_part}
use Rattle.regress_parse.proofs.ClassTreeLemmas.{tree_of_class-parts}
use Rattle.regress_parse.proofs.build.make_class_set.Goals as goal

pub returns : goal.returns
returns c = λ written is.
    let flags = c.args.scope.now.flags in
    let sorted = c.in_ok-sort_longest_first.ensures ∙ ap longest_first is.others.strings in
    let closed = c.in_ok-close.ensures written.members is.members in
    let alone = ap not (c.has_strings-alone.ensures written is) in
    let strings = c.in_ok-push_strings.ensures
    ∙ ap₂ (λ nodes ss. map tree nodes ++ strings_part flags.icase ss) c.new-parts.ensures.items sorted in
    let bracket = c.in_ok-push_bracket.ensures
    ∙ ap₂ (λ ts one. ts ++ one) strings (ap₂ (λ b ivs. bracket_part b c.args.negated ivs) alone closed) in
    let whole = c.in_ok-push_empty.ensures ∙ ap₂ (λ ts b. ts ++ empty_part b) bracket is.others.has_empty in
    let parted = tree_of_class-parts flags.icase c.args.negated written
    (intervals_of (is_in_class (table_of c.args.scope.now.tables.now) flags false written.members)) in
    subst (λ t. IfOk c.make_alternation.result (λ node. tree node ≡ t)) (ap alternation whole ∙ sym parted) c.make_alternation.ensures
