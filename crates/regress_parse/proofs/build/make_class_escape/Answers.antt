use Rattle.std.proofs.Common.{ap, ◌∙◌, false}
use Rattle.regress_base.specs.Intervals.{intervals_of}
use Rattle.regress_base.specs.declared.types.Flags.{Flags}
use Rattle.regress_unicode.specs.TableOf.{table_of}
use Rattle.regress_tree.specs.Tree.{leaf, bracket}
use Rattle.regress_tree.proofs.lemmas.Nodes.{tree-Bracket}
use Rattle.regress_classes.specs.ClassProductions.{members_of}
use Rattle.regress_syntax.specs.Meaning.{is_in_class}
use Rattle.regress_parse.proofs.build.make_class_escape.Goals as goal

pub returns : goal.returns
returns c =
    let closed = c.in_ok-closed.ensures (members_of c.args.kind) c.in_ok-class_escape_set.ensures in
    tree-Bracket _
    ∙ ap (λ ivs. leaf (bracket false ivs))
    (c.in_ok-complement_if.ensures _ closed
    ∙ ap (λ (flags : Flags). intervals_of (is_in_class (table_of c.args.scope.now.tables.now) flags c.args.negated (members_of c.args.kind)))
    c.class_flags-flags.ensures)
