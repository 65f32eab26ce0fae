-- The set that is compared has the members that are compared.
use Rattle.std.proofs.Common.{◌≡◌, false, subst}
use Rattle.std.specs.Result.{IfOk}
use Rattle.regress_base.specs.Intervals.{intervals_of}
use Rattle.regress_base.specs.declared.types.Flags.{Flags}
use Rattle.regress_unicode.specs.TableOf.{table_of}
use Rattle.regress_tree.specs.Tree.{tree, leaf, bracket}
use Rattle.regress_syntax.specs.Meaning.{is_in_class}
use Rattle.regress_syntax.specs.Productions.{compared_members}
use Rattle.regress_syntax.specs.Views.{context_of}
use Rattle.regress_parse.proofs.build.make_class.Goals as goal

pub returns : goal.returns
returns c = λ members has.
    let scope = c.args.scope.now in
    let compared = compared_members (context_of scope) members in
    subst
    (λ (flags : Flags). IfOk c.make_set.result (λ node. tree node
    ≡ leaf (bracket c.args.inverted (intervals_of (is_in_class (table_of scope.tables.now) flags false compared)))))
    c.class_flags.ensures (c.make_set.ensures compared (c.in_ok-compared.ensures members has))
