-- ECMA-262 (2025), 22.2.1 Patterns with B.1.2: which parse nodes the source of a pattern derives, and the early errors (22.2.1.1,
-- B.1.2.1). B.1.2: each alternative is considered only if previous production alternatives do not match. Where that matters it
-- is a premise here, or `first_of`.
use Rattle.std.specs.Prelude.{◌≡◌, ◌<◌, ℕ, Bool, true, false, not, ◌&&◌, ◌||◌, List, [], ◌∷◌, ◌++◌, length, ◌⊎◌, Option, Some, None, is_some, if◌then◌else◌, nat_le, ◌==◌}
use Rattle.std.specs.List.{list_any, list_all}
use Rattle.regress_base.specs.Limits.{max_nesting_depth}
use Rattle.regress_base.specs.Table.{Table}
use Rattle.regress_lexer.specs.Source.{Source, Found, ◌>>=◌, found_map, char, is_one_of, is_at}
use Rattle.regress_lexer.specs.Digits.{is_between, is_decimal, number, front, after}
use Rattle.regress_ecma.specs.CharacterEscapes.{first_of, given, is_before, source_character_but, is_syntax_character, character_escape}
use Rattle.regress_ecma.specs.ClassNodes.{CharacterClass}
use Rattle.regress_ecma.specs.ClassRanges.{character_class_escape, IsAcceptedClass}
use Rattle.regress_ecma.specs.ClassSetExpressions.{IsAcceptedClassSet, depth}
use Rattle.regress_ecma.specs.GroupNames.{IsGroupName}
use Rattle.regress_ecma.specs.Quantifiers.{QuantifierPrefix, IsQuantifier, IsInvalidBracedQuantifier, is_out_of_order, HasMinimum}
use Rattle.regress_ecma.specs.PatternNodes.{AtomEscape, decimal, character_class, character, named, Disjunction, Alternative, Term, TermBody, alone, or_else, nothing, term_then, unquantified, quantified, start, end, boundary, lookahead, lookbehind, pattern_character, dot, escape, backslash, class, capture, modified, invalid, groups, is_specified, has_duplicate}

-- The parameters [UnicodeMode] and [UnicodeSetsMode], whether the pattern contains a GroupName, and the number of its capturing
-- groups. With [UnicodeMode] or a GroupName it is parsed with [NamedCaptureGroups] (B.1.2.9 ParsePattern), which with
-- [UnicodeMode] makes a difference for `k` alone.
pub record Mode : Type 0 where
  pub unicode : Bool
  pub sets : Bool
  pub has_names : Bool
  pub group_count : ℕ

-- DecimalEscape: NonZeroDigit DecimalDigits [lookahead ∉ DecimalDigit]
abbrev pub decimal_escape : Source → Found ℕ
decimal_escape t =
    if is_before (is_between (char "1") (char "9")) t then Some (number 10 (front is_decimal t), after is_decimal t) else None

-- RegularExpressionModifier
abbrev pub is_flag : ℕ → Bool
is_flag = is_one_of "ims"

-- In what follows, the node is derived from t, and `rest` remains.

-- `(?` RegularExpressionModifiers `:`, or `(?` RegularExpressionModifiers `-` RegularExpressionModifiers `:`
abbrev pub AreModifiers : (on : List ℕ) → (off : Option (List ℕ)) → (t rest : Source) → Type 0
AreModifiers on None t rest = (t ≡ char "(" ∷ char "?" ∷ (on ++ char ":" ∷ rest)) × (list_all is_flag on ≡ true)
AreModifiers on (Some off) t rest =
    (t ≡ char "(" ∷ char "?" ∷ (on ++ char "-" ∷ (off ++ char ":" ∷ rest))) × (list_all is_flag on ≡ true) × (list_all is_flag off ≡ true)

module _ (table : Table) (mode : Mode) where
  -- DecimalEscape, of which the CapturingGroupNumber is at most the number of groups
  abbrev pub group_escape : Source → Found AtomEscape
  group_escape t = decimal_escape t >>= λ (n, rest). if nat_le n mode.group_count then Some (decimal n, rest) else None

  -- AtomEscape without a GroupName
  abbrev pub atom_escape : Source → Found AtomEscape
  atom_escape t =
      first_of (
      given mode.unicode (found_map decimal (decimal_escape t))
      ∷ given (not mode.unicode) (group_escape t)
      ∷ found_map character_class (character_class_escape mode.unicode mode.sets table t)
      ∷ found_map character (character_escape mode.unicode mode.has_names t) ∷ [])

  -- [+NamedCaptureGroups] `k` GroupName
  abbrev pub IsNameEscape : AtomEscape → (t rest : Source) → Type 0
  IsNameEscape (decimal n) t rest = ⊥
  IsNameEscape (character_class node) t rest = ⊥
  IsNameEscape (character value) t rest = ⊥
  IsNameEscape (named name) t rest =
      ((mode.unicode || mode.has_names) ≡ true) × ((u : Source) × (t ≡ char "k" ∷ u) × IsGroupName table mode.unicode name u rest)

  abbrev pub IsAtomEscape : AtomEscape → (t rest : Source) → Type 0
  IsAtomEscape node t rest = (atom_escape t ≡ Some (node, rest)) ⊎ IsNameEscape node t rest

  -- PatternCharacter, and ExtendedPatternCharacter without the flag u
  abbrev pub plain_character : Source → Found ℕ
  plain_character t =
      if mode.unicode then source_character_but true is_syntax_character t
      else source_character_but false (is_one_of "^$\\.*+?()[|") t

  -- No InvalidBracedQuantifier is derived from t.
  abbrev pub HasNoBraces : Source → Type 0
  HasNoBraces t = (prefix : QuantifierPrefix) (rest : Source) → IsInvalidBracedQuantifier prefix t rest → ⊥

  -- No AtomEscape is derived from t.
  abbrev pub HasNoEscape : Source → Type 0
  HasNoEscape t = (node : AtomEscape) (rest : Source) → IsAtomEscape node t rest → ⊥

  -- CharacterClass, with its early errors; nothing else begins with `[`.
  abbrev pub IsClass : CharacterClass → (t rest : Source) → Type 0
  IsClass node t rest =
      elim mode.sets [
        | true ↦ IsAcceptedClassSet table mode.has_names node t rest
        | false ↦ IsAcceptedClass table mode.unicode mode.has_names node t rest
      ]

  -- A Quantifier may follow an Atom, ExtendedAtom, and without the flag u a QuantifiableAssertion.
  abbrev pub is_quantifiable : TermBody → Bool
  is_quantifiable start = false
  is_quantifiable end = false
  is_quantifiable (boundary negated) = false
  is_quantifiable (lookahead negated d) = not mode.unicode
  is_quantifiable (lookbehind negated d) = false
  is_quantifiable (pattern_character c) = true
  is_quantifiable dot = true
  is_quantifiable (escape node) = true
  is_quantifiable backslash = true
  is_quantifiable (class node) = true
  is_quantifiable (capture name d) = true
  is_quantifiable (modified on off d) = true
  is_quantifiable (invalid prefix) = true

  -- what opens a group, up to its Disjunction: `(`, or `(?` GroupName (GroupSpecifier)
  abbrev pub IsOpening : Option (List ℕ) → (t rest : Source) → Type 0
  IsOpening None t rest = t ≡ char "(" ∷ rest
  IsOpening (Some name) t rest = (u : Source) × (t ≡ char "(" ∷ char "?" ∷ u) × IsGroupName table mode.unicode name u rest

  abbrev mutual
    pub IsDisjunction : Disjunction → (t rest : Source) → Type 0
    IsDisjunction (alone a) t rest = IsAlternative a t rest
    IsDisjunction (or_else a others) t rest = (u : Source) × IsAlternative a t (char "|" ∷ u) × IsDisjunction others u rest

    -- Alternative: nothing, or Alternative Term
    pub IsAlternative : Alternative → (t rest : Source) → Type 0
    IsAlternative nothing t rest = t ≡ rest
    IsAlternative (term_then first others) t rest = (u : Source) × IsTerm first t u × IsAlternative others u rest

    -- Term: Assertion, Atom or ExtendedAtom, or one of these with a Quantifier
    pub IsTerm : Term → (t rest : Source) → Type 0
    IsTerm (unquantified body) t rest = IsTermBody body t rest
    IsTerm (quantified body prefix lazy) t rest =
        (u : Source) × (is_quantifiable body ≡ true) × IsTermBody body t u × IsQuantifier prefix lazy u rest

    pub IsTermBody : TermBody → (t rest : Source) → Type 0
    -- Assertion
    IsTermBody start t rest = t ≡ char "^" ∷ rest
    IsTermBody end t rest = t ≡ char "$" ∷ rest
    IsTermBody (boundary negated) t rest = t ≡ char "\\" ∷ (if negated then char "B" else char "b") ∷ rest
    IsTermBody (lookahead negated d) t rest =
        (u : Source) × (t ≡ char "(" ∷ char "?" ∷ (if negated then char "!" else char "=") ∷ u) × IsDisjunction d u (char ")" ∷ rest)
    IsTermBody (lookbehind negated d) t rest =
        (u : Source) × (t ≡ char "(" ∷ char "?" ∷ char "<" ∷ (if negated then char "!" else char "=") ∷ u)
        × IsDisjunction d u (char ")" ∷ rest)
    -- Atom and ExtendedAtom. InvalidBracedQuantifier is before ExtendedPatternCharacter, and an Assertion before `\` AtomEscape.
    IsTermBody (pattern_character c) t rest = (plain_character t ≡ Some (c, rest)) × HasNoBraces t
    IsTermBody dot t rest = t ≡ char "." ∷ rest
    IsTermBody (escape node) t rest =
        (u : Source) × (t ≡ char "\\" ∷ u) × (is_before (is_one_of "bB") u ≡ false) × IsAtomEscape node u rest
    IsTermBody backslash t rest =
        (mode.unicode ≡ false) × (t ≡ char "\\" ∷ rest) × (is_at (char "c") rest ≡ true) × HasNoEscape rest
    IsTermBody (class node) t rest = IsClass node t rest
    IsTermBody (capture name d) t rest = (u : Source) × IsOpening name t u × IsDisjunction d u (char ")" ∷ rest)
    IsTermBody (modified on off d) t rest = (u : Source) × AreModifiers on off t u × IsDisjunction d u (char ")" ∷ rest)
    IsTermBody (invalid prefix) t rest = (mode.unicode ≡ false) × IsInvalidBracedQuantifier prefix t rest

-- ---- early errors

abbrev pub occurs_in : List ℕ → ℕ → Bool
occurs_in letters c = list_any (λ d. d == c) letters

-- The same code point occurs more than once.
abbrev pub repeats : List ℕ → Bool
repeats [] = false
repeats (c ∷ cs) = occurs_in cs c || repeats cs

abbrev pub is_empty : List ℕ → Bool
is_empty letters = length letters == 0

-- `(?` RegularExpressionModifiers `:`; with a second one both are empty, one has a letter more than once, or both have a letter.
abbrev pub are_wrong_modifiers : (on : List ℕ) → (off : Option (List ℕ)) → Bool
are_wrong_modifiers on None = repeats on
are_wrong_modifiers on (Some off) = is_empty on && is_empty off || repeats on || repeats off || list_any (occurs_in off) on

module _ (names : List (Option (List ℕ))) where
  -- CapturingGroupNumber is greater than the number of groups, or no group has the name.
  abbrev pub is_wrong_escape : AtomEscape → Bool
  is_wrong_escape (decimal n) = not (nat_le n (length names))
  is_wrong_escape (character_class node) = false
  is_wrong_escape (character value) = false
  is_wrong_escape (named name) = not (is_specified name names)

  abbrev mutual
    pub has_error : Disjunction → Bool
    has_error (alone a) = alternative_has_error a
    has_error (or_else a others) = alternative_has_error a || has_error others

    pub alternative_has_error : Alternative → Bool
    alternative_has_error nothing = false
    alternative_has_error (term_then first others) = term_has_error first || alternative_has_error others

    pub term_has_error : Term → Bool
    term_has_error (unquantified body) = body_has_error body
    term_has_error (quantified body prefix lazy) = body_has_error body || is_out_of_order prefix

    pub body_has_error : TermBody → Bool
    body_has_error start = false
    body_has_error end = false
    body_has_error (boundary negated) = false
    body_has_error (lookahead negated d) = has_error d
    body_has_error (lookbehind negated d) = has_error d
    body_has_error (pattern_character c) = false
    body_has_error dot = false
    body_has_error (escape node) = is_wrong_escape node
    body_has_error backslash = false
    body_has_error (class node) = false
    body_has_error (capture name d) = has_error d
    body_has_error (modified on off d) = are_wrong_modifiers on off || has_error d
    -- B.1.2.1
    body_has_error (invalid prefix) = true

-- Pattern, with its GroupSpecifiers
abbrev pub has_early_error : Disjunction → Bool
has_early_error d = has_error (groups d) d || has_duplicate d

-- The parameters of a pattern with this parse node.
abbrev pub mode_of : (unicode sets : Bool) → Disjunction → Mode
mode_of unicode sets d = record { unicode = unicode; sets = sets; has_names = list_any is_some (groups d); group_count = length (groups d) }

-- Pattern: the source derives the Disjunction.
abbrev pub IsDerivedPattern : Table → (unicode sets : Bool) → Disjunction → Source → Type 0
IsDerivedPattern table unicode sets d t = IsDisjunction table (mode_of unicode sets d) d t []

-- ---- limits

-- Classes with the flag v nest below the limit.
module _ (sets : Bool) where
  abbrev mutual
    pub IsWithin : Disjunction → Type 0
    IsWithin (alone a) = AlternativeIsWithin a
    IsWithin (or_else a others) = AlternativeIsWithin a × IsWithin others

    pub AlternativeIsWithin : Alternative → Type 0
    AlternativeIsWithin nothing = Unit {0}
    AlternativeIsWithin (term_then first others) = TermIsWithin first × AlternativeIsWithin others

    pub TermIsWithin : Term → Type 0
    TermIsWithin (unquantified body) = BodyIsWithin body
    TermIsWithin (quantified body prefix lazy) = BodyIsWithin body

    pub BodyIsWithin : TermBody → Type 0
    BodyIsWithin start = Unit {0}
    BodyIsWithin end = Unit {0}
    BodyIsWithin (boundary negated) = Unit {0}
    BodyIsWithin (lookahead negated d) = IsWithin d
    BodyIsWithin (lookbehind negated d) = IsWithin d
    BodyIsWithin (pattern_character c) = Unit {0}
    BodyIsWithin dot = Unit {0}
    BodyIsWithin (escape node) = Unit {0}
    BodyIsWithin backslash = Unit {0}
    BodyIsWithin (class node) = sets ≡ true → depth node.contents < max_nesting_depth
    BodyIsWithin (capture name d) = IsWithin d
    BodyIsWithin (modified on off d) = IsWithin d
    BodyIsWithin (invalid prefix) = Unit {0}

-- Of each quantifier with two numbers the first is below 2^64.
abbrev mutual
  pub HasMinima : Disjunction → Type 0
  HasMinima (alone a) = AlternativeHasMinima a
  HasMinima (or_else a others) = AlternativeHasMinima a × HasMinima others

  pub AlternativeHasMinima : Alternative → Type 0
  AlternativeHasMinima nothing = Unit {0}
  AlternativeHasMinima (term_then first others) = TermHasMinima first × AlternativeHasMinima others

  pub TermHasMinima : Term → Type 0
  TermHasMinima (unquantified body) = BodyHasMinima body
  TermHasMinima (quantified body prefix lazy) = BodyHasMinima body × HasMinimum prefix

  pub BodyHasMinima : TermBody → Type 0
  BodyHasMinima start = Unit {0}
  BodyHasMinima end = Unit {0}
  BodyHasMinima (boundary negated) = Unit {0}
  BodyHasMinima (lookahead negated d) = HasMinima d
  BodyHasMinima (lookbehind negated d) = HasMinima d
  BodyHasMinima (pattern_character c) = Unit {0}
  BodyHasMinima dot = Unit {0}
  BodyHasMinima (escape node) = Unit {0}
  BodyHasMinima backslash = Unit {0}
  BodyHasMinima (class node) = Unit {0}
  BodyHasMinima (capture name d) = HasMinima d
  BodyHasMinima (modified on off d) = HasMinima d
  BodyHasMinima (invalid prefix) = Unit {0}
