-- Each branch is the production that the grammar selects, and what remains of a list of code points is one too.
use Rattle.std.proofs.Common.{◌≡◌, ℕ, false, not, ◌&&◌, ◌||◌, ◌==◌, ◌∷◌, Some, sym, ap, ◌∙◌, subst}
use Rattle.std.proofs.lemmas.Bool.{ne_eqb, and_left, and_right}
use Rattle.std.specs.List.{All}
use Rattle.std.proofs.lemmas.List.Elements.{All-tail}
use Rattle.regress_lexer.specs.Reads.{Reads}
use Rattle.regress_lexer.specs.Source.{IsCodePoint, found_map}
use Rattle.regress_lexer.specs.Views.{source}
use Rattle.regress_unicode.specs.TableOf.{table_of}
use Rattle.regress_lexer.proofs.lemmas.Sources.{on_rejected}
use Rattle.regress_classes.specs.ClassProductions.{point, class_property_at}
use Rattle.regress_classes.proofs.EscapeProductions.{set_read, backspace_read, hyphen_read, control_read, property_read, reserved_read, point_read}
use Rattle.regress_classes.specs.ClassViews.{class_atom_of}
use Rattle.regress_lexer.proofs.lemmas.After.{after_all, character_escape_at-ends}
use Rattle.regress_classes.proofs.lemmas.Pieces.{class_control_at-ends}
use Rattle.regress_classes.proofs.class_atom.read_escaped_atom.Goals as goal
use Rattle.regress_classes.proofs.class_atom.read_escaped_atom.Goals.{else-c-from-2-via-then-c-from-2+else-unicode, else-c-from-2-via-else-c-from-2, else-c-from-3-via-then-c-from-3+else-not-unicode, else-c-from-3-via-else-c-from-3, else-is_property_letter-via-then-is_property_letter+else-unicode-2, else-is_property_letter-via-else-is_property_letter}

pub invariant_of-cursor : goal.invariant_of-cursor
invariant_of-cursor c = record {
  in_range = All-tail IsCodePoint c.in-Some.c.now c.in-Some.rest.now (subst (All IsCodePoint) c.in-Some.ensures.cases.0 c.args.cursor.now.in_range);
}

pub invariant_of-cursor-then-c-from : goal.invariant_of-cursor-then-c-from
invariant_of-cursor-then-c-from c = record {
  in_range = All-tail IsCodePoint c.in-Some.c.now c.in-Some.rest.now (subst (All IsCodePoint) c.in-Some.ensures.cases.0 c.args.cursor.now.in_range);
}

pub invariant_of-cursor-then-unicode : goal.invariant_of-cursor-then-unicode
invariant_of-cursor-then-unicode c = record {
  in_range = All-tail IsCodePoint c.in-Some.c.now c.in-Some.rest.now (subst (All IsCodePoint) c.in-Some.ensures.cases.0 c.args.cursor.now.in_range);
}

pub invariant_of-cursor-then-not-unicode : goal.invariant_of-cursor-then-not-unicode
invariant_of-cursor-then-not-unicode c =
    let control = c.class_control-atom in
    record {
      in_range = after_all _ _
          ((class_control_at-ends c.in-Some.rest.now).each (class_atom_of control.result.0, control.result.1.now) (sym control.ensures.value))
          (subst (All IsCodePoint)
          (c.in-Some.ensures.cases.0 ∙ ap (λ (n : ℕ). n ∷ c.in-Some.rest.now) (c.if-c-from-3.true ∙ c.from-else-c-from-2.ensures)) c.args.cursor.now.in_range);
    }

pub invariant_of-cursor-then-unicode-2 : goal.invariant_of-cursor-then-unicode-2
invariant_of-cursor-then-unicode-2 c = record {
  in_range = All-tail IsCodePoint c.in-Some.c.now c.in-Some.rest.now (subst (All IsCodePoint) c.in-Some.ensures.cases.0 c.args.cursor.now.in_range);
}

pub invariant_of-cursor-in_default-parse_character_escape : goal.invariant_of-cursor-in_default-parse_character_escape
invariant_of-cursor-in_default-parse_character_escape c = record { in_range = c.args.cursor.now.in_range }

pub invariant_of-cursor-then-is_reserved : goal.invariant_of-cursor-then-is_reserved
invariant_of-cursor-then-is_reserved c = record { in_range = c.args.cursor.now.in_range }

pub invariant_of-cursor-else-is_reserved : goal.invariant_of-cursor-else-is_reserved
invariant_of-cursor-else-is_reserved c = record {
  in_range = after_all _ _
      ((character_escape_at-ends c.args.parameters.now.dialect c.args.parameters.now.unicode c.args.cursor.now.rest.now).each
      (c.in-Some-parse_character_escape.point, c.in-Some-parse_character_escape.after.now) (sym c.in-Some-parse_character_escape.ensures.value))
      c.args.cursor.now.in_range;
}

pub returns-in_ok-escape_atom-clause-value : goal.returns-in_ok-escape_atom-clause-value
returns-in_ok-escape_atom-clause-value c =
    let letter = c.in-Some.c.now in
    let front = c.in-Some.ensures.cases.0 in
    let named = c.in-Some-class_letter in
    set_read (table_of c.args.tables.now) c.args.parameters.now (source c.args.cursor.now) letter c.in-Some.rest.now front
    (named.kind, named.negated) (sym c.class_letter.ensures ∙ named.is)
    ∙ ap (λ atom. Some (atom, c.in-Some.rest.now)) (sym c.in_ok-escape_atom.ensures.value)

pub returns-then-c-from-clause-value : goal.returns-then-c-from-clause-value
returns-then-c-from-clause-value c =
    let letter = c.in-Some.c.now in
    let front = c.in-Some.ensures.cases.0 in
    backspace_read (table_of c.args.tables.now) c.args.parameters.now (source c.args.cursor.now) letter c.in-Some.rest.now front
    (c.if-c-from.true ∙ c.from.ensures)

pub returns-then-unicode-clause-value : goal.returns-then-unicode-clause-value
returns-then-unicode-clause-value c =
    let letter = c.in-Some.c.now in
    let front = c.in-Some.ensures.cases.0 in
    hyphen_read (table_of c.args.tables.now) c.args.parameters.now (source c.args.cursor.now) letter c.in-Some.rest.now front
    (c.if-c-from-2.true ∙ c.from-else-c-from.ensures) c.if-unicode.true

pub returns-then-not-unicode-clause-value : goal.returns-then-not-unicode-clause-value
returns-then-not-unicode-clause-value c =
    let letter = c.in-Some.c.now in
    let front = c.in-Some.ensures.cases.0 in
    control_read (table_of c.args.tables.now) c.args.parameters.now (source c.args.cursor.now) letter c.in-Some.rest.now front
    (c.if-c-from-3.true ∙ c.from-else-c-from-2.ensures) c.if-not-unicode.true
    ∙ sym c.class_control-atom.ensures.value

pub returns-then-unicode-2-clause-value : goal.returns-then-unicode-2-clause-value
returns-then-unicode-2-clause-value c =
    let letter = c.in-Some.c.now in
    let front = c.in-Some.ensures.cases.0 in
    let list = property_read (table_of c.args.tables.now) c.args.parameters.now (source c.args.cursor.now) letter c.in-Some.rest.now front
    (sym c.is_property_letter.ensures ∙ c.if-is_property_letter.true) c.if-unicode-2.true in
    subst (Reads class_atom_of (source c.read_class_property.new.cursor) c.read_class_property.result)
    (ap (λ d. class_property_at (table_of c.args.tables.now) (letter == d) c.in-Some.rest.now) c.from-then-unicode-2.ensures ∙ sym list)
    c.read_class_property.ensures.value

pub returns-in-Some-parse_character_escape-clause-value : goal.returns-in-Some-parse_character_escape-clause-value
returns-in-Some-parse_character_escape-clause-value c =
    let letter = c.in-Some.c.now in
    let front = c.in-Some.ensures.cases.0 in
    let hyphen : (letter == 45 && c.args.parameters.now.unicode) ≡ false = elim c.else-c-from-2.branch [
      | else-c-from-2-via-then-c-from-2+else-unicode w ↦ and_right (letter == 45) c.args.parameters.now.unicode w.if-unicode.false
      | else-c-from-2-via-else-c-from-2 w ↦
          and_left (letter == 45) c.args.parameters.now.unicode (ne_eqb letter 45 (λ e. w.if-c-from-2.false (e ∙ sym c.from-else-c-from.ensures)))
    ] in
    let control : (letter == 99 && not c.args.parameters.now.unicode) ≡ false = elim c.else-c-from-3.branch [
      | else-c-from-3-via-then-c-from-3+else-not-unicode w ↦ and_right (letter == 99) (not c.args.parameters.now.unicode) (ap not w.if-not-unicode.false)
      | else-c-from-3-via-else-c-from-3 w ↦
          and_left (letter == 99) (not c.args.parameters.now.unicode) (ne_eqb letter 99 (λ e. w.if-c-from-3.false (e ∙ sym c.from-else-c-from-2.ensures)))
    ] in
    let property : ((letter == 112 || letter == 80) && c.args.parameters.now.unicode) ≡ false = elim c.else-is_property_letter.branch [
      | else-is_property_letter-via-then-is_property_letter+else-unicode-2 w ↦ and_right (letter == 112 || letter == 80) c.args.parameters.now.unicode w.if-unicode-2.false
      | else-is_property_letter-via-else-is_property_letter w ↦
          and_left (letter == 112 || letter == 80) c.args.parameters.now.unicode (sym c.is_property_letter.ensures ∙ w.if-is_property_letter.false)
    ] in
    let list = point_read (table_of c.args.tables.now) c.args.parameters.now (source c.args.cursor.now) letter c.in-Some.rest.now front
    (sym c.class_letter.ensures ∙ c.in_default-class_letter.is) (ne_eqb letter 98 (λ e. c.if-c-from.false (e ∙ sym c.from.ensures))) hyphen control property
    (sym c.is_reserved.ensures ∙ c.if-is_reserved.false) in
    list ∙ ap (found_map point) (sym c.in-Some-parse_character_escape.ensures.value)

pub returns-then-is_reserved-clause-value : goal.returns-then-is_reserved-clause-value
returns-then-is_reserved-clause-value c =
    let letter = c.in-Some.c.now in
    let front = c.in-Some.ensures.cases.0 in
    let hyphen : (letter == 45 && c.args.parameters.now.unicode) ≡ false = elim c.else-c-from-2.branch [
      | else-c-from-2-via-then-c-from-2+else-unicode w ↦ and_right (letter == 45) c.args.parameters.now.unicode w.if-unicode.false
      | else-c-from-2-via-else-c-from-2 w ↦
          and_left (letter == 45) c.args.parameters.now.unicode (ne_eqb letter 45 (λ e. w.if-c-from-2.false (e ∙ sym c.from-else-c-from.ensures)))
    ] in
    let control : (letter == 99 && not c.args.parameters.now.unicode) ≡ false = elim c.else-c-from-3.branch [
      | else-c-from-3-via-then-c-from-3+else-not-unicode w ↦ and_right (letter == 99) (not c.args.parameters.now.unicode) (ap not w.if-not-unicode.false)
      | else-c-from-3-via-else-c-from-3 w ↦
          and_left (letter == 99) (not c.args.parameters.now.unicode) (ne_eqb letter 99 (λ e. w.if-c-from-3.false (e ∙ sym c.from-else-c-from-2.ensures)))
    ] in
    let property : ((letter == 112 || letter == 80) && c.args.parameters.now.unicode) ≡ false = elim c.else-is_property_letter.branch [
      | else-is_property_letter-via-then-is_property_letter+else-unicode-2 w ↦ and_right (letter == 112 || letter == 80) c.args.parameters.now.unicode w.if-unicode-2.false
      | else-is_property_letter-via-else-is_property_letter w ↦
          and_left (letter == 112 || letter == 80) c.args.parameters.now.unicode (sym c.is_property_letter.ensures ∙ w.if-is_property_letter.false)
    ] in
    on_rejected c.rejected-then-is_reserved.result
    (reserved_read (table_of c.args.tables.now) c.args.parameters.now (source c.args.cursor.now) letter c.in-Some.rest.now front
    (sym c.class_letter.ensures ∙ c.in_default-class_letter.is) (ne_eqb letter 98 (λ e. c.if-c-from.false (e ∙ sym c.from.ensures))) hyphen control property
    (sym c.is_reserved.ensures ∙ c.if-is_reserved.true))

pub returns-in_default-parse_character_escape-clause-value : goal.returns-in_default-parse_character_escape-clause-value
returns-in_default-parse_character_escape-clause-value c =
    let letter = c.in-Some.c.now in
    let front = c.in-Some.ensures.cases.0 in
    let hyphen : (letter == 45 && c.args.parameters.now.unicode) ≡ false = elim c.else-c-from-2.branch [
      | else-c-from-2-via-then-c-from-2+else-unicode w ↦ and_right (letter == 45) c.args.parameters.now.unicode w.if-unicode.false
      | else-c-from-2-via-else-c-from-2 w ↦
          and_left (letter == 45) c.args.parameters.now.unicode (ne_eqb letter 45 (λ e. w.if-c-from-2.false (e ∙ sym c.from-else-c-from.ensures)))
    ] in
    let control : (letter == 99 && not c.args.parameters.now.unicode) ≡ false = elim c.else-c-from-3.branch [
      | else-c-from-3-via-then-c-from-3+else-not-unicode w ↦ and_right (letter == 99) (not c.args.parameters.now.unicode) (ap not w.if-not-unicode.false)
      | else-c-from-3-via-else-c-from-3 w ↦
          and_left (letter == 99) (not c.args.parameters.now.unicode) (ne_eqb letter 99 (λ e. w.if-c-from-3.false (e ∙ sym c.from-else-c-from-2.ensures)))
    ] in
    let property : ((letter == 112 || letter == 80) && c.args.parameters.now.unicode) ≡ false = elim c.else-is_property_letter.branch [
      | else-is_property_letter-via-then-is_property_letter+else-unicode-2 w ↦ and_right (letter == 112 || letter == 80) c.args.parameters.now.unicode w.if-unicode-2.false
      | else-is_property_letter-via-else-is_property_letter w ↦
          and_left (letter == 112 || letter == 80) c.args.parameters.now.unicode (sym c.is_property_letter.ensures ∙ w.if-is_property_letter.false)
    ] in
    let list = point_read (table_of c.args.tables.now) c.args.parameters.now (source c.args.cursor.now) letter c.in-Some.rest.now front
    (sym c.class_letter.ensures ∙ c.in_default-class_letter.is) (ne_eqb letter 98 (λ e. c.if-c-from.false (e ∙ sym c.from.ensures))) hyphen control property
    (sym c.is_reserved.ensures ∙ c.if-is_reserved.false) in
    on_rejected c.rejected-in_default-parse_character_escape.result (list ∙ ap (found_map point) (sym c.in_default-parse_character_escape.ensures.value))
