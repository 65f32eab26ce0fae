-- The property that was found, and its node.
use Rattle.std.proofs.Common.{Some, refl, ap, ◌∙◌, arith}
use Rattle.std.proofs.lemmas.Bool.{cond-false}
use Rattle.regress_lexer.specs.Source.{Found, ◌>>=◌}
use Rattle.regress_classes.specs.Properties.{Property}
use Rattle.regress_syntax.specs.Productions.{ordered_strings, point_property, property_atom}
use Rattle.regress_syntax.specs.Syntax.{string_property}
use Rattle.regress_syntax.specs.Views.{context_of}
use Rattle.regress_tree.specs.Tree.{leaf, string_set}
use Rattle.regress_classes.specs.ClassViews.{property_of, strings_of}
use Rattle.regress_lexer.specs.Views.{source}
use Rattle.regress_parse.proofs.AtomLemmas.{property-nesting, property-allows}
use Rattle.regress_parse.proofs.atom.read_property_atom.Goals as goal

pub returns-in_ok-make_property-in-Points-clause-value : goal.returns-in_ok-make_property-in-Points-clause-value
returns-in_ok-make_property-in-Points-clause-value c =
    let ctx = context_of c.args.scope.now in
    let rest = source c.parse_property.new.cursor in
    let members = c.in-Points.set in (
      point_property ctx c.args.negated members,
      ap (λ (found : Found Property). found >>= property_atom ctx c.args.negated)
          (c.in_ok-set.ensures.value ∙ ap (λ property. Some (property_of property, rest)) c.in-Points.is),
      record {
        node = c.in_ok-make_property-in-Points.ensures;
        nesting = property-nesting ctx c.args.negated members;
        allows = property-allows ctx c.args.negated members;
      },
    )

pub returns-in_ok-make_strings-in-Strings-2-clause-value : goal.returns-in_ok-make_strings-in-Strings-2-clause-value
returns-in_ok-make_strings-in-Strings-2-clause-value c =
    let ctx = context_of c.args.scope.now in
    let rest = source c.parse_property.new.cursor in
    let strings = c.in-Strings.field-0.items in (
      string_property ctx.setting.flags (ordered_strings ctx (strings_of strings)),
      ap (λ (found : Found Property). found >>= property_atom ctx c.args.negated)
          (c.in_ok-set.ensures.value ∙ ap (λ property. Some (property_of property, rest)) c.in-Strings.is)
          ∙ cond-false _ _ _ c.if-negated.false,
      record {
        node =
            c.in_ok-make_strings-in-Strings-2.ensures
            ∙ ap (λ ss. leaf (string_set ss ctx.setting.flags.icase)) c.in_ok-order_strings-in-Strings-2.ensures;
        nesting = omega arith;
        allows = refl;
      },
    )
