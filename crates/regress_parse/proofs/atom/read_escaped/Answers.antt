-- Each branch is the production that the grammar selects.
use Rattle.std.proofs.Common.{ℕ, Bool, false, true, ◌==◌, ◌∷◌, drop, Some, arith, sym, ap, subst, ◌∙◌}
use Rattle.std.proofs.lemmas.Bool.{ne_eqb}
use Rattle.regress_lexer.specs.Reads.{ParsesAs}
use Rattle.std.proofs.lemmas.List.Elements.{All-tail}
use Rattle.std.specs.List.{All}
use Rattle.regress_lexer.specs.Source.{Source, IsCodePoint}
use Rattle.regress_lexer.specs.Views.{source}
use Rattle.regress_syntax.specs.Productions.{class_flags, number_reference_at, character_at, property_atom_at, escaped_at}
use Rattle.regress_syntax.specs.Syntax.{literal, boundary, class_escape}
use Rattle.regress_syntax.specs.Views.{context_of}
use Rattle.regress_parse.specs.Parsing.{IsNode}
use Rattle.regress_parse.proofs.EscapeProductions.{class_quantifiable, boundary_quantifiable, no_boundary_quantifiable, quantifiable, class_read, boundary_read, no_boundary_read, lone_read, property_read, number_read, name_read, character_read}
use Rattle.regress_parse.proofs.atom.read_escaped.Goals as goal

pub returns-in_ok-make_class_escape-clause-value : goal.returns-in_ok-make_class_escape-clause-value
returns-in_ok-make_class_escape-clause-value c =
    let ctx = context_of c.args.scope.now in
    let t = source c.args.cursor.now in
    let letter = c.in-Some.c.now in
    let rest = c.in-Some.rest.now in
    let front = c.in-Some.ensures.cases.0 in
    let named = c.in-Some-class_letter in (
      class_escape (class_flags ctx) named.kind named.negated,
      class_read ctx t letter rest front (named.kind, named.negated) (sym c.class_letter.ensures ∙ named.is),
      record {
        node = c.in_ok-make_class_escape.ensures;
        nesting = omega arith;
        allows = class_quantifiable ctx t letter rest front (named.kind, named.negated) (sym c.class_letter.ensures ∙ named.is);
      },
    )

pub returns-then-c-from-clause-value : goal.returns-then-c-from-clause-value
returns-then-c-from-clause-value c =
    let ctx = context_of c.args.scope.now in
    let t = source c.args.cursor.now in
    let letter = c.in-Some.c.now in
    let rest = c.in-Some.rest.now in
    let front = c.in-Some.ensures.cases.0 in (
      boundary ctx.setting.flags false,
      boundary_read ctx t letter rest front (c.if-c-from.true ∙ c.from.ensures),
      record {
        node = c.make_boundary.ensures;
        nesting = omega arith;
        allows = boundary_quantifiable ctx t letter rest front (c.if-c-from.true ∙ c.from.ensures);
      },
    )

pub returns-then-c-from-2-clause-value : goal.returns-then-c-from-2-clause-value
returns-then-c-from-2-clause-value c =
    let ctx = context_of c.args.scope.now in
    let t = source c.args.cursor.now in
    let letter = c.in-Some.c.now in
    let rest = c.in-Some.rest.now in
    let front = c.in-Some.ensures.cases.0 in (
      boundary ctx.setting.flags true,
      no_boundary_read ctx t letter rest front (c.if-c-from-2.true ∙ c.from-else-c-from.ensures),
      record {
        node = c.make_boundary-then-c-from-2.ensures;
        nesting = omega arith;
        allows = no_boundary_quantifiable ctx t letter rest front (c.if-c-from-2.true ∙ c.from-else-c-from.ensures);
      },
    )

pub returns-in_ok-make_literal-clause-value : goal.returns-in_ok-make_literal-clause-value
returns-in_ok-make_literal-clause-value c =
    let ctx = context_of c.args.scope.now in
    let t = source c.args.cursor.now in
    let letter = c.in-Some.c.now in
    let rest = c.in-Some.rest.now in
    let front = c.in-Some.ensures.cases.0 in
    let backslash = c.from-then-is_lone_backslash in (
      literal ctx.setting.flags backslash.result,
      lone_read ctx t letter rest front (sym c.is_lone_backslash.ensures ∙ c.if-is_lone_backslash.true)
          ∙ ap (λ (d : ℕ). Some (literal ctx.setting.flags d, t)) (sym backslash.ensures),
      record {
        node = c.in_ok-make_literal.ensures;
        nesting = omega arith;
        allows = (quantifiable ctx t letter rest front
            (ne_eqb letter 98 (λ e. c.if-c-from.false (e ∙ sym c.from.ensures)))
            (ne_eqb letter 66 (λ e. c.if-c-from-2.false (e ∙ sym c.from-else-c-from.ensures))));
      },
    )

pub returns-then-begins_property-clause-value : goal.returns-then-begins_property-clause-value
returns-then-begins_property-clause-value c =
    let ctx = context_of c.args.scope.now in
    let t = source c.args.cursor.now in
    let letter = c.in-Some.c.now in
    let rest = c.in-Some.rest.now in
    let front = c.in-Some.ensures.cases.0 in
    let read = property_read ctx t letter rest front (sym c.begins_property.ensures ∙ c.if-begins_property.true) in
    subst (λ (b : Bool). ParsesAs (IsNode ctx 0 b) (source c.read_property_atom.new.cursor) c.read_property_atom.result (escaped_at ctx t))
    (quantifiable ctx t letter rest front
    (ne_eqb letter 98 (λ e. c.if-c-from.false (e ∙ sym c.from.ensures)))
    (ne_eqb letter 66 (λ e. c.if-c-from-2.false (e ∙ sym c.from-else-c-from.ensures))))
    (subst (ParsesAs (IsNode ctx 0 true) (source c.read_property_atom.new.cursor) c.read_property_atom.result)
    (ap (λ (d : ℕ). property_atom_at ctx (letter == d) rest) c.from-then-begins_property.ensures ∙ sym read)
    c.read_property_atom.ensures.value)

pub returns-then-begins_number-clause-value : goal.returns-then-begins_number-clause-value
returns-then-begins_number-clause-value c =
    let ctx = context_of c.args.scope.now in
    let t = source c.args.cursor.now in
    let letter = c.in-Some.c.now in
    let rest = c.in-Some.rest.now in
    let front = c.in-Some.ensures.cases.0 in
    let read = number_read ctx t letter rest front
    (sym c.class_letter.ensures ∙ c.in_default-class_letter.is)
    (ne_eqb letter 98 (λ e. c.if-c-from.false (e ∙ sym c.from.ensures)))
    (ne_eqb letter 66 (λ e. c.if-c-from-2.false (e ∙ sym c.from-else-c-from.ensures)))
    (sym c.is_lone_backslash.ensures ∙ c.if-is_lone_backslash.false)
    (sym c.begins_property.ensures ∙ c.if-begins_property.false)
    (sym c.begins_number.ensures ∙ c.if-begins_number.true) in
    subst (λ (b : Bool). ParsesAs (IsNode ctx 0 b) (source c.read_numbered.new.cursor) c.read_numbered.result (escaped_at ctx t))
    (quantifiable ctx t letter rest front
    (ne_eqb letter 98 (λ e. c.if-c-from.false (e ∙ sym c.from.ensures)))
    (ne_eqb letter 66 (λ e. c.if-c-from-2.false (e ∙ sym c.from-else-c-from.ensures))))
    (subst (ParsesAs (IsNode ctx 0 true) (source c.read_numbered.new.cursor) c.read_numbered.result)
    (ap (λ (r : Source). number_reference_at ctx letter (drop 1 r)) front ∙ sym read) c.read_numbered.ensures.value)

pub returns-then-begins_name-clause-value : goal.returns-then-begins_name-clause-value
returns-then-begins_name-clause-value c =
    let ctx = context_of c.args.scope.now in
    let t = source c.args.cursor.now in
    let letter = c.in-Some.c.now in
    let rest = c.in-Some.rest.now in
    let front = c.in-Some.ensures.cases.0 in
    let read = name_read ctx t letter rest front
    (sym c.class_letter.ensures ∙ c.in_default-class_letter.is)
    (ne_eqb letter 98 (λ e. c.if-c-from.false (e ∙ sym c.from.ensures)))
    (ne_eqb letter 66 (λ e. c.if-c-from-2.false (e ∙ sym c.from-else-c-from.ensures)))
    (sym c.is_lone_backslash.ensures ∙ c.if-is_lone_backslash.false)
    (sym c.begins_property.ensures ∙ c.if-begins_property.false)
    (sym c.begins_number.ensures ∙ c.if-begins_number.false) (sym c.begins_name.ensures ∙ c.if-begins_name.true) in
    subst (λ (b : Bool). ParsesAs (IsNode ctx 0 b) (source c.read_named.new.cursor) c.read_named.result (escaped_at ctx t))
    (quantifiable ctx t letter rest front
    (ne_eqb letter 98 (λ e. c.if-c-from.false (e ∙ sym c.from.ensures)))
    (ne_eqb letter 66 (λ e. c.if-c-from-2.false (e ∙ sym c.from-else-c-from.ensures))))
    (subst (ParsesAs (IsNode ctx 0 true) (source c.read_named.new.cursor) c.read_named.result) (sym read) c.read_named.ensures.value)

pub returns-else-begins_name-clause-value : goal.returns-else-begins_name-clause-value
returns-else-begins_name-clause-value c =
    let ctx = context_of c.args.scope.now in
    let t = source c.args.cursor.now in
    let letter = c.in-Some.c.now in
    let rest = c.in-Some.rest.now in
    let front = c.in-Some.ensures.cases.0 in
    let read = character_read ctx t letter rest front
    (sym c.class_letter.ensures ∙ c.in_default-class_letter.is)
    (ne_eqb letter 98 (λ e. c.if-c-from.false (e ∙ sym c.from.ensures)))
    (ne_eqb letter 66 (λ e. c.if-c-from-2.false (e ∙ sym c.from-else-c-from.ensures)))
    (sym c.is_lone_backslash.ensures ∙ c.if-is_lone_backslash.false)
    (sym c.begins_property.ensures ∙ c.if-begins_property.false)
    (sym c.begins_number.ensures ∙ c.if-begins_number.false) (sym c.begins_name.ensures ∙ c.if-begins_name.false) in
    subst (λ (b : Bool). ParsesAs (IsNode ctx 0 b) (source c.read_character.new.cursor) c.read_character.result (escaped_at ctx t))
    (quantifiable ctx t letter rest front
    (ne_eqb letter 98 (λ e. c.if-c-from.false (e ∙ sym c.from.ensures)))
    (ne_eqb letter 66 (λ e. c.if-c-from-2.false (e ∙ sym c.from-else-c-from.ensures))))
    (subst (ParsesAs (IsNode ctx 0 true) (source c.read_character.new.cursor) c.read_character.result)
    (ap (λ (r : Source). character_at ctx letter (drop 1 r)) front ∙ sym read) c.read_character.ensures.value)

pub read_numbered-requires-clause-front : goal.read_numbered-requires-clause-front
read_numbered-requires-clause-front c =
    let front = c.in-Some.ensures.cases.0 in
    front ∙ ap (λ (r : Source). c.in-Some.c.now ∷ drop 1 r) (sym front)

pub read_character-requires : goal.read_character-requires
read_character-requires c =
    let front = c.in-Some.ensures.cases.0 in
    front ∙ ap (λ (r : Source). c.in-Some.c.now ∷ drop 1 r) (sym front)

pub invariant_of-cursor : goal.invariant_of-cursor
invariant_of-cursor c = record {
  in_range = All-tail IsCodePoint c.in-Some.c.now c.in-Some.rest.now (subst (All IsCodePoint) c.in-Some.ensures.cases.0 c.args.cursor.now.in_range);
}

pub invariant_of-cursor-then-c-from : goal.invariant_of-cursor-then-c-from
invariant_of-cursor-then-c-from c = record {
  in_range = All-tail IsCodePoint c.in-Some.c.now c.in-Some.rest.now (subst (All IsCodePoint) c.in-Some.ensures.cases.0 c.args.cursor.now.in_range);
}

pub invariant_of-cursor-then-c-from-2 : goal.invariant_of-cursor-then-c-from-2
invariant_of-cursor-then-c-from-2 c = record {
  in_range = All-tail IsCodePoint c.in-Some.c.now c.in-Some.rest.now (subst (All IsCodePoint) c.in-Some.ensures.cases.0 c.args.cursor.now.in_range);
}

pub invariant_of-cursor-then-begins_property : goal.invariant_of-cursor-then-begins_property
invariant_of-cursor-then-begins_property c = record {
  in_range = All-tail IsCodePoint c.in-Some.c.now c.in-Some.rest.now (subst (All IsCodePoint) c.in-Some.ensures.cases.0 c.args.cursor.now.in_range);
}

pub invariant_of-cursor-then-begins_name : goal.invariant_of-cursor-then-begins_name
invariant_of-cursor-then-begins_name c = record {
  in_range = All-tail IsCodePoint c.in-Some.c.now c.in-Some.rest.now (subst (All IsCodePoint) c.in-Some.ensures.cases.0 c.args.cursor.now.in_range);
}
