-- The property that was found, and its members or strings.
use Rattle.std.proofs.Common.{◌||◌, true, All, Some, refl, ap, ap₂, sym, subst, ◌∙◌}
use Rattle.std.proofs.lemmas.Bool.{cond-false}
use Rattle.regress_unicode.specs.TableOf.{table_of}
use Rattle.regress_classes.specs.ClassProductions.{closed_members, complement_if}
use Rattle.regress_classes.specs.ClassSets.{only, class, value_of_strings, property_operand}
use Rattle.regress_classes.specs.Properties.{Property, of_strings}
use Rattle.regress_lexer.specs.Source.{Found, ◌>>=◌, IsCodePoint}
use Rattle.regress_classes.specs.ClassViews.{property_of, strings_of, IsValue}
use Rattle.regress_lexer.specs.Views.{source}
use Rattle.regress_classes.proofs.ClassSetLemmas.{members_same}
use Rattle.regress_classes.proofs.lemmas.ClassStrings.{property_at-in_range}
use Rattle.regress_classes.proofs.class_sets.operand.read_property_operand.Goals as goal

pub string_value-requires : goal.string_value-requires
string_value-requires c =
    let tables = c.args.around.now.tables.now in
    let rest = source c.parse_property.new.cursor in
    subst (λ strings. All (All IsCodePoint) (strings_of strings)) (sym c.deref.ensures.value)
    ((property_at-in_range (table_of tables) tables.sound.lawful true (source c.args.cursor.now)).each
    (of_strings (strings_of c.in-Strings.strings.items), rest)
    (c.in_ok-set.ensures.value ∙ ap (λ property. Some (property_of property, rest)) c.in-Strings.is))

pub returns-in_ok-value-in-Points-clause-value : goal.returns-in_ok-value-in-Points-clause-value
returns-in_ok-value-in-Points-clause-value c =
    let rest = source c.parse_property.new.cursor in
    let around = c.args.around.now in
    let value = only (complement_if c.args.negated (closed_members (table_of around.tables.now) around.parameters.now c.in-Points.set)) in (
      class value,
      ap (λ (found : Found Property). found >>= property_operand (table_of c.args.around.now.tables.now) c.args.around.now.parameters.now c.args.around.now.negated c.args.negated)
          (c.in_ok-set.ensures.value ∙ ap (λ property. Some (property_of property, rest)) c.in-Points.is),
      (value, refl, c.in_ok-value-in-Points.ensures c.in-Points.set (members_same c.in-Points.set c.in-Points.set refl c.set_is_canonical.ensures)),
    )

pub returns-in_ok-value-in-Strings-clause-value : goal.returns-in_ok-value-in-Strings-clause-value
returns-in_ok-value-in-Strings-clause-value c =
    let rest = source c.parse_property.new.cursor in
    let value = value_of_strings (strings_of c.in-Strings.strings.items) in (
      class value,
      ap (λ (found : Found Property). found >>= property_operand (table_of c.args.around.now.tables.now) c.args.around.now.parameters.now c.args.around.now.negated c.args.negated)
          (c.in_ok-set.ensures.value ∙ ap (λ property. Some (property_of property, rest)) c.in-Strings.is)
          ∙ cond-false _ _ _ (ap₂ (λ a b. a || b) c.if-around.false c.if-negated.false),
      (
        value,
        refl,
        subst (λ strings. IsValue c.in_ok-value-in-Strings.value (value_of_strings (strings_of strings))) c.deref.ensures.value
            c.in_ok-value-in-Strings.ensures,
      ),
    )
