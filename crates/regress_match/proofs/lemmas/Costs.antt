-- Every matcher has costs in every text.
use Rattle.std.proofs.Common.{ℕ, List}
use Rattle.std.specs.Arc.{arc_value}
use Rattle.regress_program.proofs.lemmas.Costs.{some_cost}
use Rattle.regress_program.proofs.lemmas.Solutions.{solution}
use Rattle.regress_code.specs.Code.{code_routines, setting_with}
use Rattle.regress_match.specs.Costs.{HasCosts}
use Rattle.regress_match.specs.declared.matcher.Matcher.{Matcher}

pub has_costs : (m : Matcher) (text : List ℕ) → HasCosts m text
has_costs m text =
    let setting = setting_with m.code (arc_value m.tables) in
    let some = solution setting text (code_routines m.code) m.code.program.is_program in
    let cost = some_cost setting text (code_routines m.code) m.code.program.is_program some.0 some.1 in
    record { outs = some.0; costs = cost.0; are = cost.1 }
