use Rattle.std.proofs.Common.{rules, arith, ◌≡◌, Some, None, Bool, sym, ap, ◌∙◌}
use Rattle.std.specs.Prelude.{if◌then◌else◌}
use Rattle.regress_program.specs.Ranges.{captured_in, inner_groups}
use Rattle.regress_program.specs.Views.{program_in}
use Rattle.regress_program.specs.declared.nonlinear.Nonlinear.TheVariants.{BackReference, CapturingLookaround}
use Rattle.regress_program.proofs.lemmas.Strict.{tabled-captures, tabled-linear, tabled-references}
use Rattle.regress_program.proofs.tabled.table_groups.Goals as goal

pub returns-in-None : goal.returns-in-None
returns-in-None c = λ leaves why. sym (tabled-linear c.args.tidy (program_in leaves c.args.routines.now) (sym why ∙ c.in-None.is))

pub returns-in-Some-BackReference : goal.returns-in-Some-BackReference
returns-in-Some-BackReference c =
    let is : c.args.nonlinear ≡ Some BackReference = first_of (search rules, grind (arith, c.in-Some-BackReference.is, c.in-Some-BackReference.field-0-is)) in
    λ leaves why. sym (tabled-references c.args.tidy (program_in leaves c.args.routines.now) (sym why ∙ is))

pub returns-then-tidy : goal.returns-then-tidy
returns-then-tidy c =
    let is : c.args.nonlinear ≡ Some CapturingLookaround =
    first_of (search rules, grind (arith, c.in-Some-CapturingLookaround.is, c.in-Some-CapturingLookaround.field-0-is)) in
    λ leaves why.
    let program = program_in leaves c.args.routines.now in
    ap (λ n. Some n) (c.inner_groups.ensures leaves ∙ ap (λ rs. captured_in rs program) (c.requires leaves))
    ∙ sym (tabled-captures c.args.tidy program (sym why ∙ is) ∙ ap (λ (b : Bool). if b then Some (inner_groups program) else None) c.if-tidy.true)

pub returns-else-tidy : goal.returns-else-tidy
returns-else-tidy c =
    let is : c.args.nonlinear ≡ Some CapturingLookaround =
    first_of (search rules, grind (arith, c.in-Some-CapturingLookaround.is, c.in-Some-CapturingLookaround.field-0-is)) in
    λ leaves why.
    let program = program_in leaves c.args.routines.now in
    sym (tabled-captures c.args.tidy program (sym why ∙ is) ∙ ap (λ (b : Bool). if b then Some (inner_groups program) else None) c.if-tidy.false)
