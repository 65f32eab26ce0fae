use Rattle.regress_ecma.proofs.CaseData.{unicode_data}
use Rattle.regress_ecma.proofs.Derived.{derived_proper}
use Rattle.regress_syntax.specs.Syntax.{names}
use Rattle.regress_ecma.proofs.EcmaMatching.{atoms_match}
use Rattle.regress_ecma.proofs.InEcma.{pattern_in_ecma}
use Rattle.regress_ecma.proofs.FromSource.{source_outcome, source_search}
use Rattle.regress_ecma.proofs.ClassEnds.{node_ends}
use Rattle.regress_ecma.proofs.Theorem.{first_outcome, none_at_all, pattern_outcome}
use Rattle.regress_ecma.proofs.law.first_outcome_is_the_match.Goals as goal

pub returns-clause-same : goal.returns-clause-same
returns-clause-same c = first_outcome

pub returns-clause-fails : goal.returns-clause-fails
returns-clause-fails c = none_at_all

pub returns-clause-pattern : goal.returns-clause-pattern
returns-clause-pattern c = pattern_outcome

pub returns-clause-proper : goal.returns-clause-proper
returns-clause-proper c = derived_proper

pub returns-clause-unicode : goal.returns-clause-unicode
returns-clause-unicode c = unicode_data

pub returns-clause-source : goal.returns-clause-source
returns-clause-source c ctx regress p t rest derived comparable text is_text fuel enough index within =
    source_outcome ctx regress p t rest derived comparable text is_text fuel enough index within

pub returns-clause-search : goal.returns-clause-search
returns-clause-search c ctx regress p t rest derived comparable text is_text index within =
    source_search ctx regress p t rest derived comparable text is_text index within

pub returns-clause-ends : goal.returns-clause-ends
returns-clause-ends c = node_ends

pub returns-clause-in_ecma : goal.returns-clause-in_ecma
returns-clause-in_ecma c ctx ecma unicode with_u p t rest derived none text is_text fuel enough index within =
    pattern_in_ecma ctx ecma unicode.maps with_u p t rest derived none text is_text
    (atoms_match ctx.setting unicode.maps unicode.upper_keeps_words unicode.strings with_u (names p) text is_text) fuel enough index within
