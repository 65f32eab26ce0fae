use Rattle.regress_ecma.proofs.AcceptedClasses.{class_accepted, class_derived}
use Rattle.regress_ecma.proofs.AcceptedClassSets.{class_set_accepted}
use Rattle.regress_ecma.proofs.DerivedClassSets.{class_set_derived}
use Rattle.regress_ecma.proofs.CaseData.{unicode_properties}
use Rattle.regress_ecma.proofs.law.accepts_what_ecma_accepts.Goals as goal

pub returns-clause-accepted : goal.returns-clause-accepted
returns-clause-accepted c = class_accepted

pub returns-clause-derived : goal.returns-clause-derived
returns-clause-derived c = class_derived

pub returns-clause-accepted_with_v : goal.returns-clause-accepted_with_v
returns-clause-accepted_with_v c = class_set_accepted

pub returns-clause-derived_with_v : goal.returns-clause-derived_with_v
returns-clause-derived_with_v c = class_set_derived

pub returns-clause-properties : goal.returns-clause-properties
returns-clause-properties c = unicode_properties
