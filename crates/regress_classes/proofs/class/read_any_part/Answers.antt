-- An atom that starts no range.
use Rattle.std.proofs.Common.{Some, sym, ap, ◌∙◌}
use Rattle.regress_unicode.specs.TableOf.{table_of}
use Rattle.regress_lexer.specs.Source.{Source}
use Rattle.regress_classes.specs.ClassProductions.{splits, atom_members}
use Rattle.regress_classes.specs.ClassViews.{class_atom_of}
use Rattle.regress_lexer.specs.Views.{source}
use Rattle.regress_classes.proofs.ClassLemmas.{alone_read}
use Rattle.regress_classes.proofs.class.read_any_part.Goals as goal

pub returns-in_ok-add_atom-clause-value : goal.returns-in_ok-add_atom-clause-value
returns-in_ok-add_atom-clause-value c = (
  atom_members (splits c.args.around.now.parameters.now) (class_atom_of c.in_ok-first.first),
  alone_read (table_of c.args.around.now.tables.now) c.args.around.now.parameters.now (source c.args.cursor.now) (source c.read_class_atom.new.cursor) (class_atom_of c.in_ok-first.first)
      c.in_ok-first.ensures.value (sym c.if-try_consume_hyphen.ensures.found)
      ∙ ap (λ (rest : Source). Some (atom_members (splits c.args.around.now.parameters.now) (class_atom_of c.in_ok-first.first), rest)) (sym c.if-try_consume_hyphen.ensures.moves),
  c.in_ok-add_atom.ensures,
)
