use Rattle.regress_ecma.proofs.UnitSearches.{exec_same, exec_units_utf8, exec_utf8}
use Rattle.regress_ecma.proofs.code_units.code_units_have_the_same_matches.Goals as goal

pub returns-clause-same : goal.returns-clause-same
returns-clause-same c = exec_same

pub returns-clause-offsets : goal.returns-clause-offsets
returns-clause-offsets c ctx ecma unicode with_u p t rest derived none outside text is_text =
    exec_units_utf8 ctx ecma unicode with_u p t rest derived none text is_text outside

pub returns-clause-characters : goal.returns-clause-characters
returns-clause-characters c = exec_utf8
