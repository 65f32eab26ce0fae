use Rattle.std.proofs.Common.{refl, arith}
use Rattle.std.proofs.lemmas.Grind.{common_steps}
use Rattle.regress_replace.specs.Template.{name_reference, number_reference}
use Rattle.regress_replace.proofs.ReferenceLemmas.{parses_at, first_and_rest, reference_digit}
use Rattle.regress_replace.proofs.reference.parse_reference.Goals as goal

pub returns-in-60 : goal.returns-in-60
returns-in-60 c =
    rw c.if-has_names.true
    (parses_at c.args.groups _ c.args.after.now 60 c.after_first-rest.result.now (name_reference c.after_first-rest.result.now) c.parse_name.result
    (first_and_rest c.args.after.now c.after_first-rest.result.now 60 (grind (arith, common_steps)) (grind (arith, common_steps)) c.after_first-rest.ensures)
    refl c.parse_name.ensures)

pub returns-in-48-to-57 : goal.returns-in-48-to-57
returns-in-48-to-57 c =
    let first = c.in_ok-first.field-0.now in
    parses_at c.args.groups c.args.has_names c.args.after.now first c.after_first-rest.result.now
    (number_reference c.args.groups c.from.result c.after_first-rest.result.now) c.parse_number.result
    (first_and_rest c.args.after.now c.after_first-rest.result.now first (grind (arith, common_steps)) (grind (arith, common_steps)) c.after_first-rest.ensures)
    (rw c.from.ensures (reference_digit c.args.groups c.args.has_names first c.after_first-rest.result.now (omega arith) (omega arith))) c.parse_number.ensures
