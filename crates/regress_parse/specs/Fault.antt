-- What is reported of a rejected pattern.
use Rattle.std.specs.Prelude.{◌≡◌, ℕ, ◌<◌, ◌≤◌, List, [], ◌++◌, codes, string_bytes, Result, Ok, Err}
use Rattle.regress_lexer.specs.FaultKinds.{number_of}
use Rattle.regress_lexer.specs.declared.fault.FaultKind.{FaultKind}
use Rattle.regress_lexer.specs.declared.fault.FaultKind.TheVariants.{UnbalancedParenthesis, TooDeep, TooManyGroups, TooManyLoops, IncompleteEscape, UnterminatedEscape, InvalidEscape, InvalidUnicodeEscape, InvalidBracedQuantifier, InvalidAtom, QuantifierNotAllowed, InvalidQuantifier, UnbalancedBracket, ReversedRange, InvalidRange, UnbalancedSet, InvalidSetRange, UnexpectedInIntersection, UnexpectedInSubtraction, EmptyOperand, IncompleteSetEscape, StringsWithoutBrace, UnbalancedStrings, InvalidSetCharacter, InvalidNegatedClass, PropertyWithoutBrace, InvalidProperty, InvalidGroupName, InvalidModifier, InvalidReference, UnknownName, DuplicateName}
use Rattle.regress_parse.specs.declared.fault.ParseFault.{ParseFault}
use Rattle.regress_parse.specs.declared.fault.ParseFault.TheVariants.{Syntax, Memory}
use Rattle.regress_parse.specs.declared.fault.PlacedFault.{PlacedFault}
use Rattle.regress_parse.specs.declared.fault.PlacedFault.TheVariants.{Syntax as PlacedSyntax, Memory as PlacedMemory}

-- the text of each kind of syntax error, up to a name
abbrev pub text_before_name : FaultKind → List ℕ
text_before_name UnbalancedParenthesis = codes "Unbalanced parenthesis"
text_before_name TooDeep = codes "Regular expression is too deeply nested"
text_before_name TooManyGroups = codes "Capture group count limit exceeded"
text_before_name TooManyLoops = codes "Loop count limit exceeded"
text_before_name IncompleteEscape = codes "Incomplete escape"
text_before_name UnterminatedEscape = codes "Unterminated escape"
text_before_name InvalidEscape = codes "Invalid character escape"
text_before_name InvalidUnicodeEscape = codes "Invalid unicode escape"
text_before_name InvalidBracedQuantifier = codes "Invalid braced quantifier"
text_before_name InvalidAtom = codes "Invalid atom character"
text_before_name QuantifierNotAllowed = codes "Quantifier not allowed here"
text_before_name InvalidQuantifier = codes "Invalid quantifier"
text_before_name UnbalancedBracket = codes "Unbalanced bracket"
text_before_name ReversedRange = codes "Range values reversed, start char code is greater than end char code."
text_before_name InvalidRange = codes "Invalid character range"
text_before_name UnbalancedSet = codes "Unbalanced class set bracket"
text_before_name InvalidSetRange = codes "Invalid class set range"
text_before_name UnexpectedInIntersection = codes "Unexpected character in class set intersection"
text_before_name UnexpectedInSubtraction = codes "Unexpected character in class set subtraction"
text_before_name EmptyOperand = codes "Empty class set operand"
text_before_name IncompleteSetEscape = codes "Incomplete class set escape"
text_before_name StringsWithoutBrace = codes "Invalid class set escape: expected {"
text_before_name UnbalancedStrings = codes "Unbalanced class set string disjunction"
text_before_name InvalidSetCharacter = codes "Invalid class set character"
text_before_name InvalidNegatedClass = codes "Invalid negated class"
text_before_name PropertyWithoutBrace = codes "Invalid character at property escape start"
text_before_name InvalidProperty = codes "Invalid property name"
text_before_name InvalidGroupName = codes "Invalid token at named capture group identifier"
text_before_name InvalidModifier = codes "Invalid group modifier"
text_before_name InvalidReference = codes "Invalid named backreference syntax"
text_before_name (UnknownName name) = codes "Backreference to invalid named capture group: "
text_before_name DuplicateName = codes "Duplicate capture group name"

-- There is a kind of syntax error with this number.
abbrev pub HasKind : (number : ℕ) → Type 0
HasKind number = (0 < number) × (number ≤ 32)

-- The text is that of each kind of syntax error with this number, up to a name.
abbrev pub IsTextOf : (number : ℕ) → List ℕ → Type 0
IsTextOf number text = (kind : FaultKind) → number ≡ number_of kind → text ≡ text_before_name kind

-- the name at the end of the text, in UTF-8
abbrev pub name_suffix : FaultKind → List ℕ
name_suffix (UnknownName name) = string_bytes name
name_suffix other = []

-- the whole text of a syntax error
abbrev pub text_of : FaultKind → List ℕ
text_of kind = text_before_name kind ++ name_suffix kind

-- The result is a syntax error only if P holds.
abbrev pub RejectedOnlyIf : {X : Type 0} → Result X ParseFault → Type 0 → Type 0
RejectedOnlyIf (Ok x) P = Unit {0}
RejectedOnlyIf (Err (Syntax e)) P = P
RejectedOnlyIf (Err (Memory e)) P = Unit {0}

-- A syntax error without its kind has the text of a kind for which P holds.
abbrev pub ReportsKind : {X : Type 0} → Result X ParseFault → (FaultKind → Type 0) → Type 0
ReportsKind (Ok x) P = Unit {0}
ReportsKind (Err (Syntax e)) P = (kind : FaultKind) × (string_bytes e.text ≡ text_of kind) × P kind
ReportsKind (Err (Memory e)) P = Unit {0}

-- the error without its kind and its position
abbrev pub without_position : PlacedFault → ParseFault
without_position (PlacedSyntax kind e position) = Syntax e
without_position (PlacedMemory e) = Memory e
