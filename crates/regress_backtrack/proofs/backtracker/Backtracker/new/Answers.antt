use Rattle.std.proofs.Common.{◌≡◌, length, sym, ap, ◌∙◌, refl, arith}
use Rattle.std.proofs.lemmas.List.{length-map}
use Rattle.regress_tree.specs.Steps.{Setting}
use Rattle.regress_unicode.specs.TableOf.{table_of}
use Rattle.regress_program.proofs.lemmas.Costs.{some_cost}
use Rattle.regress_program.specs.Views.{routine_in}
use Rattle.regress_code.specs.Code.{code_flags, code_routines, setting_with}
use Rattle.regress_backtrack.proofs.backtracker.Backtracker.new.Goals as goal

pub input_for-input-requires : goal.input_for-input-requires
input_for-input-requires c =
    let program = c.args.code.now.program in
    omega (arith, length-map program.routines.items (routine_in program.leaves.items), program.some)

pub invariant_of-result-clause-for_pattern : goal.invariant_of-result-clause-for_pattern
invariant_of-result-clause-for_pattern c =
    let input = c.input_for-input.result in
    let made = c.input_for-input.ensures in
    let program = c.args.code.now.program in
    let flags : input.rules.flags ≡ code_flags input.code.now = ap (λ (s : Setting). s.flags) made.setting ∙ sym (ap code_flags made.code) in
    record {
      is = made.input;
      same_text = refl;
      setting = ap (λ f. record { flags = f; table = table_of input.rules.known.tables.now }) flags;
      code = refl;
      index = omega (
        arith,
        made.index,
        c.len-pattern.ensures,
        length-map program.routines.items (routine_in program.leaves.items),
        ap (λ code. length (code_routines code)) made.code,
      );
    }

pub returns-clause-has_cost : goal.returns-clause-has_cost
returns-clause-has_cost c =
    let input = c.input_for-input.result in
    let code = input.code.now in
    some_cost (setting_with code input.rules.known.tables.now) input.text.now (code_routines code) code.program.is_program
