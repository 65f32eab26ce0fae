-- The routine of an input.
use Rattle.std.proofs.Common.{◌≡◌, Some, slice_get, option_map, ap, ◌∙◌}
use Rattle.std.proofs.lemmas.Option.{slice_get-map}
use Rattle.regress_program.specs.Views.{routine_in}
use Rattle.regress_code.specs.Code.{code_routines}
use Rattle.regress_backtrack.specs.declared.input.Input.{Input}
use Rattle.regress_backtrack.specs.Next.{IsInput, routine_of}

-- it is the routine of the program with the index
pub routine-is : (input : Input) → IsInput input → slice_get (code_routines input.code.now) input.index ≡ Some (routine_of input)
routine-is input is =
    let view = routine_in input.code.now.program.leaves.items in
    slice_get-map view input.code.now.program.routines.items input.index ∙ ap (option_map view) is.is
