-- The names and numbers of the kinds of syntax errors (dialect). They never change.
use Rattle.std.specs.Prelude.{ℕ, List, codes}
use Rattle.regress_lexer.specs.declared.fault.FaultKind.{FaultKind}
use Rattle.regress_lexer.specs.declared.fault.FaultKind.TheVariants.{UnbalancedParenthesis, TooDeep, TooManyGroups, TooManyLoops, IncompleteEscape, UnterminatedEscape, InvalidEscape, InvalidUnicodeEscape, InvalidBracedQuantifier, InvalidAtom, QuantifierNotAllowed, InvalidQuantifier, UnbalancedBracket, ReversedRange, InvalidRange, UnbalancedSet, InvalidSetRange, UnexpectedInIntersection, UnexpectedInSubtraction, EmptyOperand, IncompleteSetEscape, StringsWithoutBrace, UnbalancedStrings, InvalidSetCharacter, InvalidNegatedClass, PropertyWithoutBrace, InvalidProperty, InvalidGroupName, InvalidModifier, InvalidReference, UnknownName, DuplicateName}

-- the name of a kind
abbrev pub name_of : FaultKind → List ℕ
name_of UnbalancedParenthesis = codes "UnbalancedParenthesis"
name_of TooDeep = codes "TooDeep"
name_of TooManyGroups = codes "TooManyGroups"
name_of TooManyLoops = codes "TooManyLoops"
name_of IncompleteEscape = codes "IncompleteEscape"
name_of UnterminatedEscape = codes "UnterminatedEscape"
name_of InvalidEscape = codes "InvalidEscape"
name_of InvalidUnicodeEscape = codes "InvalidUnicodeEscape"
name_of InvalidBracedQuantifier = codes "InvalidBracedQuantifier"
name_of InvalidAtom = codes "InvalidAtom"
name_of QuantifierNotAllowed = codes "QuantifierNotAllowed"
name_of InvalidQuantifier = codes "InvalidQuantifier"
name_of UnbalancedBracket = codes "UnbalancedBracket"
name_of ReversedRange = codes "ReversedRange"
name_of InvalidRange = codes "InvalidRange"
name_of UnbalancedSet = codes "UnbalancedSet"
name_of InvalidSetRange = codes "InvalidSetRange"
name_of UnexpectedInIntersection = codes "UnexpectedInIntersection"
name_of UnexpectedInSubtraction = codes "UnexpectedInSubtraction"
name_of EmptyOperand = codes "EmptyOperand"
name_of IncompleteSetEscape = codes "IncompleteSetEscape"
name_of StringsWithoutBrace = codes "StringsWithoutBrace"
name_of UnbalancedStrings = codes "UnbalancedStrings"
name_of InvalidSetCharacter = codes "InvalidSetCharacter"
name_of InvalidNegatedClass = codes "InvalidNegatedClass"
name_of PropertyWithoutBrace = codes "PropertyWithoutBrace"
name_of InvalidProperty = codes "InvalidProperty"
name_of InvalidGroupName = codes "InvalidGroupName"
name_of InvalidModifier = codes "InvalidModifier"
name_of InvalidReference = codes "InvalidReference"
name_of (UnknownName name) = codes "UnknownName"
name_of DuplicateName = codes "DuplicateName"

-- the number of a kind, from 1 to 32
abbrev pub number_of : FaultKind → ℕ
number_of UnbalancedParenthesis = 1
number_of TooDeep = 2
number_of TooManyGroups = 3
number_of TooManyLoops = 4
number_of IncompleteEscape = 5
number_of UnterminatedEscape = 6
number_of InvalidEscape = 7
number_of InvalidUnicodeEscape = 8
number_of InvalidBracedQuantifier = 9
number_of InvalidAtom = 10
number_of QuantifierNotAllowed = 11
number_of InvalidQuantifier = 12
number_of UnbalancedBracket = 13
number_of ReversedRange = 14
number_of InvalidRange = 15
number_of UnbalancedSet = 16
number_of InvalidSetRange = 17
number_of UnexpectedInIntersection = 18
number_of UnexpectedInSubtraction = 19
number_of EmptyOperand = 20
number_of IncompleteSetEscape = 21
number_of StringsWithoutBrace = 22
number_of UnbalancedStrings = 23
number_of InvalidSetCharacter = 24
number_of InvalidNegatedClass = 25
number_of PropertyWithoutBrace = 26
number_of InvalidProperty = 27
number_of InvalidGroupName = 28
number_of InvalidModifier = 29
number_of InvalidReference = 30
number_of (UnknownName name) = 31
number_of DuplicateName = 32
