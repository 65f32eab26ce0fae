-- The next bytes of the first instruction.
use Rattle.std.proofs.Common.{◌≡◌, ℕ, ◌-◌, List, length, replicate, slice_get, None, Some, true, [], sym, ap₂, ◌∙◌, refl, subst}
use Rattle.regress_tree.specs.Reading.{forwards}
use Rattle.regress_program.specs.Program.{At, IsSolution, Out}
use Rattle.regress_unicode.specs.declared.Tables.{Tables}
use Rattle.regress_code.specs.declared.code.Code.{Code}
use Rattle.regress_code.specs.declared.next_bytes.NextBytes.{NextBytes}
use Rattle.regress_code.specs.Code.{code_groups, code_routines, outcomes_from, setting_with}
use Rattle.regress_code.specs.NextBytes.{Bounds}
use Rattle.regress_backtrack.specs.declared.input.Input.{Input}
use Rattle.regress_backtrack.specs.Machine.{at}
use Rattle.regress_backtrack.specs.Next.{routine_of}
use Rattle.regress_backtrack.specs.Searched.{IsFor}
use Rattle.regress_backtrack.proofs.InputLemmas.{routine-is}
use Rattle.regress_backtrack.proofs.LeadLemmas.{entry_is, solves_for}

pub entry_bounds : (code : Code) (tables : Tables) (text : List ℕ) (input : Input) → IsFor code tables text input → (next_byte : NextBytes) →
    slice_get input.next_bytes.now input.first ≡ Some next_byte → (outs : ℕ → Out) → IsSolution (setting_with code tables) text (code_routines code) outs → (k : ℕ) →
    Bounds next_byte forwards text k (outcomes_from code tables text outs k)
entry_bounds code tables text input for next_byte is outs solution k =
    let program = code_routines code in
    let r = routine_of input in
    let here : slice_get program (length program - 1) ≡ Some r = ap₂ (λ c j. slice_get (code_routines c) j) (sym for.code) (sym for.index) ∙ routine-is input for.is in
    let first : At = at (record { pc = input.first; moved = true; position = k }) (record { captures = replicate (code_groups code) None; begins = [] }) in
    let bounds : Bounds next_byte r.direction input.text.now k (outs input.index first) =
    for.is.next_bytes outs (solves_for code tables text input for outs solution) input.first next_byte is first refl in
    subst (λ d. Bounds next_byte d text k (outcomes_from code tables text outs k)) (code.program.forwards r here)
    (subst (Bounds next_byte r.direction text k) (sym (entry_is code tables text input for outs k))
    (subst (λ x. Bounds next_byte r.direction x k (outs input.index first)) for.same_text bounds))
