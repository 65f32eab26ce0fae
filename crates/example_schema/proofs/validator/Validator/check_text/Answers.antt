use Rattle.std.proofs.lemmas.List.Elements.{All-push}
use Rattle.std.specs.Arc.{arc_value}
use Rattle.serde_json.specs.View.{view}
use Rattle.example_schema.specs.Violated.{IsViolation}
use Rattle.example_schema.specs.declared.validator.Violation.{Violation}
use Rattle.example_schema.proofs.validator.Validator.check_text.Goals as goal

pub returns : goal.returns
returns c = λ before.
    let added : Violation = record { pointer = c.in_ok-from_str.field-0; pattern = c.in_ok-from_str-2.field-0 } in
    let P : Violation → Type 0 = IsViolation (arc_value c.args.self.now.tables.now) (view c.args.self.now.document.now) in
    let is : P added = record {
      text = c.args.text.now;
      found = rw c.in_ok-from_str.ensures.ok c.requires;
      regex = c.in_ok-regex.regex;
      compiled = rw c.in_ok-from_str-2.ensures.ok c.in_ok-regex.ensures;
      unmatched = λ matched. cc (c.in_ok-is_match.ensures.is.1 matched, c.if-branch.false);
    } in
    rw c.in_ok-push.ensures.items (All-push P c.args.found.now.items added before is)
