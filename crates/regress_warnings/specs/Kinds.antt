-- The names, numbers and texts of the kinds of warnings. Names and numbers never change.
use Rattle.std.specs.Prelude.{ℕ, List, codes}
use Rattle.regress_warnings.specs.declared.kind.WarningKind.{WarningKind}
use Rattle.regress_warnings.specs.declared.kind.WarningKind.TheVariants.{EmptyAlternative, HiddenAlternative, SplitAnchors, EmptyIteration, UnsetReference, LetterRange, DotBetweenDigits, RepeatedMember, BackReference, CapturingLookaround, ImpossibleAssertion, BarInClass, ClassInRange, SplitCharacter, IdentityEscape, PosixClass}

-- the name of a kind
abbrev pub name_of : WarningKind → List ℕ
name_of EmptyAlternative = codes "empty-alternative"
name_of HiddenAlternative = codes "hidden-alternative"
name_of SplitAnchors = codes "split-anchors"
name_of EmptyIteration = codes "empty-iteration"
name_of UnsetReference = codes "unset-reference"
name_of LetterRange = codes "letter-range"
name_of DotBetweenDigits = codes "dot-between-digits"
name_of RepeatedMember = codes "repeated-member"
name_of BackReference = codes "back-reference"
name_of CapturingLookaround = codes "capturing-lookaround"
name_of ImpossibleAssertion = codes "impossible-assertion"
name_of BarInClass = codes "bar-in-class"
name_of ClassInRange = codes "class-in-range"
name_of SplitCharacter = codes "split-character"
name_of IdentityEscape = codes "identity-escape"
name_of PosixClass = codes "posix-class"

-- the number of a kind, from 1 to 16
abbrev pub number_of : WarningKind → ℕ
number_of EmptyAlternative = 1
number_of HiddenAlternative = 2
number_of SplitAnchors = 3
number_of EmptyIteration = 4
number_of UnsetReference = 5
number_of LetterRange = 6
number_of DotBetweenDigits = 7
number_of RepeatedMember = 8
number_of BackReference = 9
number_of CapturingLookaround = 10
number_of ImpossibleAssertion = 11
number_of BarInClass = 12
number_of ClassInRange = 13
number_of SplitCharacter = 14
number_of IdentityEscape = 15
number_of PosixClass = 16

-- the text of a kind
abbrev pub text_of : WarningKind → List ℕ
text_of EmptyAlternative = codes "an alternative is empty, so it matches the empty text everywhere: a||b matches before c"
text_of HiddenAlternative = codes "an alternative begins with all of the one before it, so it is tried only where that one leads to no match: a|ab matches a of ab"
text_of SplitAnchors = codes "^ belongs to one alternative only, and $ to another one, so they may be meant for all: ^a|b$ matches ac, ^(?:a|b)$ does not"
text_of EmptyIteration = codes "what is repeated can match the empty text, which may hide a mistake: (a*)* matches no more than a*"
text_of UnsetReference = codes "the group ends after this back reference, so it is not set there, and the reference matches the empty text: \\1(a) matches a"
text_of LetterRange = codes "the class has all characters from an upper-case to a lower-case letter, which may be more than letters: [A-z] matches _ and ^"
text_of DotBetweenDigits = codes ". between digits matches any character, and may be meant as the character itself: 1.5 matches 1x5, 1\\.5 does not"
text_of RepeatedMember = codes "a character is in a class twice, where another one may be meant: [aab] matches what [ab] matches"
text_of BackReference = codes "with a back reference a search may take more than linear time, and stop at a step limit: (a*)*\\1b in a long text of a"
text_of CapturingLookaround = codes "with a group in a lookaround a search for all matches may take more than linear time: (?=(a*b)?)a in a long text of a"
text_of ImpossibleAssertion = codes "a ^, $, \\b, \\B or lookaround that can never hold between what is before and after it, so what needs it never matches: a$b"
text_of BarInClass = codes "| in a class is that character, and does not separate alternatives: [a|b] matches |, (?:a|b) does not"
text_of ClassInRange = codes "- beside a class escape is that character, and no range; with the flag u it is an error: [\\w-.] matches -"
text_of SplitCharacter = codes "without the flag u a class has the two halves of a character above U+FFFF in place of it, which no text here contains"
text_of IdentityEscape = codes "without the flag u this escape is the letter itself, and with it an error; other engines may have a meaning for it: \\A matches A"
text_of PosixClass = codes "[: and :] name no class here, but are characters of one: [[:alpha:]] matches a], \\p{Alphabetic} with the flag u is a letter"
