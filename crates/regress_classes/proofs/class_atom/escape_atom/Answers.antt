-- The closed set is that of the definitions.
use Rattle.std.proofs.Common.{sym, ap, ◌∙◌}
use Rattle.regress_classes.specs.ClassProductions.{set, members_of, complement_if}
use Rattle.regress_unicode.specs.TableOf.{table_of}
use Rattle.regress_classes.proofs.ClosingLemmas.{closed_is}
use Rattle.regress_classes.proofs.class_atom.escape_atom.Goals as goal

pub returns-clause-value : goal.returns-clause-value
returns-clause-value c =
    ap (λ members. set (complement_if c.args.negated members))
    (closed_is (table_of c.args.tables.now) c.args.parameters.now (members_of c.args.kind) (sym c.closes.ensures ∙ c.if-not-closes.false) c.in_ok-set.set
    (c.in_ok-set.ensures (members_of c.args.kind) c.in_ok-class_escape_set.ensures))
