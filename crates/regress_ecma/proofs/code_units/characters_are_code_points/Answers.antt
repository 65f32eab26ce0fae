use Rattle.regress_ecma.proofs.CodeUnits.{only_if_same, same_characters, text_with_u}
use Rattle.regress_ecma.proofs.code_units.characters_are_code_points.Goals as goal

pub returns-clause-same : goal.returns-clause-same
returns-clause-same c = same_characters

pub returns-clause-only : goal.returns-clause-only
returns-clause-only c = only_if_same

pub returns-clause-with_u : goal.returns-clause-with_u
returns-clause-with_u c = text_with_u
