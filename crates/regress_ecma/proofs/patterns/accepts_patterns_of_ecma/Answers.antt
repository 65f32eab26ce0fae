use Rattle.regress_ecma.proofs.AcceptedPatterns.{pattern_accepted, pattern_of}
use Rattle.regress_ecma.proofs.CaseData.{unicode_identifiers, unicode_properties}
use Rattle.regress_ecma.proofs.GroupNameNodes.{group_name_accepted, group_name_derived}
use Rattle.regress_ecma.proofs.QuantifierNodes.{quantifier_accepted, quantifier_derived, order_kept, order_back}
use Rattle.regress_ecma.proofs.patterns.accepts_patterns_of_ecma.Goals as goal

pub returns-clause-accepted : goal.returns-clause-accepted
returns-clause-accepted c = pattern_accepted

pub returns-clause-derived : goal.returns-clause-derived
returns-clause-derived c = pattern_of

pub returns-clause-quantifier : goal.returns-clause-quantifier
returns-clause-quantifier c = quantifier_accepted

pub returns-clause-quantifier_derived : goal.returns-clause-quantifier_derived
returns-clause-quantifier_derived c = quantifier_derived

pub returns-clause-in_order : goal.returns-clause-in_order
returns-clause-in_order c = order_kept

pub returns-clause-out_of_order : goal.returns-clause-out_of_order
returns-clause-out_of_order c = order_back

pub returns-clause-name : goal.returns-clause-name
returns-clause-name c = group_name_accepted

pub returns-clause-name_derived : goal.returns-clause-name_derived
returns-clause-name_derived c = group_name_derived

pub returns-clause-identifiers : goal.returns-clause-identifiers
returns-clause-identifiers c = unicode_identifiers

pub returns-clause-properties : goal.returns-clause-properties
returns-clause-properties c = unicode_properties
