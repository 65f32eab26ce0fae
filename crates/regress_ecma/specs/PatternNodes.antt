-- ECMA-262 (2025), 22.2.1 Patterns with B.1.2: the parse nodes of a pattern, and what its GroupSpecifiers are.
use Rattle.std.specs.Prelude.{ℕ, Bool, false, ◌||◌, List, [], ◌∷◌, ◌++◌, Option, Some, None}
use Rattle.std.specs.List.{list_any}
use Rattle.std.specs.Str.{bytes_eq}
use Rattle.regress_ecma.specs.ClassNodes.{ClassAtom, CharacterClass}
use Rattle.regress_ecma.specs.Quantifiers.{QuantifierPrefix}

-- AtomEscape
pub data AtomEscape : Type 0 where
  decimal : (number : ℕ) → AtomEscape
  character_class : (node : ClassAtom) → AtomEscape
  character : (value : ℕ) → AtomEscape
  -- `k` GroupName
  named : (name : List ℕ) → AtomEscape

mutual
  -- Disjunction: Alternative, or Alternative `|` Disjunction
  pub data Disjunction : Type 0 where
    alone : (a : Alternative) → Disjunction
    or_else : (a : Alternative) (others : Disjunction) → Disjunction

  -- Alternative: its terms in order
  pub data Alternative : Type 0 where
    nothing : Alternative
    term_then : (first : Term) (others : Alternative) → Alternative

  -- Term, without or with a Quantifier
  pub data Term : Type 0 where
    unquantified : (body : TermBody) → Term
    quantified : (body : TermBody) (prefix : QuantifierPrefix) (lazy : Bool) → Term

  -- Assertion, Atom or ExtendedAtom
  pub data TermBody : Type 0 where
    start : TermBody
    end : TermBody
    boundary : (negated : Bool) → TermBody
    lookahead : (negated : Bool) (d : Disjunction) → TermBody
    lookbehind : (negated : Bool) (d : Disjunction) → TermBody
    -- PatternCharacter or ExtendedPatternCharacter
    pattern_character : (c : ℕ) → TermBody
    dot : TermBody
    -- `\` AtomEscape, and `\` [lookahead = c]
    escape : (node : AtomEscape) → TermBody
    backslash : TermBody
    class : (node : CharacterClass) → TermBody
    -- a group, with the name of its GroupSpecifier
    capture : (name : Option (List ℕ)) (d : Disjunction) → TermBody
    -- RegularExpressionModifiers, and those after `-`
    modified : (on : List ℕ) (off : Option (List ℕ)) (d : Disjunction) → TermBody
    invalid : (prefix : QuantifierPrefix) → TermBody

-- ---- capturing groups

-- The name of each capturing group in order, `None` without a GroupSpecifier. Their number is 22.2.1.2
-- CountLeftCapturingParensWithin.
abbrev mutual
  pub groups : Disjunction → List (Option (List ℕ))
  groups (alone a) = groups_of_alternative a
  groups (or_else a others) = groups_of_alternative a ++ groups others

  pub groups_of_alternative : Alternative → List (Option (List ℕ))
  groups_of_alternative nothing = []
  groups_of_alternative (term_then first others) = groups_of_term first ++ groups_of_alternative others

  pub groups_of_term : Term → List (Option (List ℕ))
  groups_of_term (unquantified body) = groups_of_body body
  groups_of_term (quantified body prefix lazy) = groups_of_body body

  pub groups_of_body : TermBody → List (Option (List ℕ))
  groups_of_body start = []
  groups_of_body end = []
  groups_of_body (boundary negated) = []
  groups_of_body (lookahead negated d) = groups d
  groups_of_body (lookbehind negated d) = groups d
  groups_of_body (pattern_character c) = []
  groups_of_body dot = []
  groups_of_body (escape node) = []
  groups_of_body backslash = []
  groups_of_body (class node) = []
  groups_of_body (capture name d) = name ∷ groups d
  groups_of_body (modified on off d) = groups d
  groups_of_body (invalid prefix) = []

-- whether a group has this name
abbrev pub is_called : List ℕ → Option (List ℕ) → Bool
is_called name None = false
is_called name (Some other) = bytes_eq other name

-- 22.2.1.9 GroupSpecifiersThatMatch is not empty.
abbrev pub is_specified : List ℕ → List (Option (List ℕ)) → Bool
is_specified name names = list_any (is_called name) names

-- ---- 22.2.1.4 MightBothParticipate

abbrev pub is_repeated : List (Option (List ℕ)) → Option (List ℕ) → Bool
is_repeated there None = false
is_repeated there (Some name) = is_specified name there

-- some name is in both lists
abbrev pub have_a_name_in_common : List (Option (List ℕ)) → List (Option (List ℕ)) → Bool
have_a_name_in_common here there = list_any (is_repeated there) here

-- Two GroupSpecifiers with one name might both participate: any two but those of which one is in an Alternative and the other
-- in the Disjunction after it.
abbrev mutual
  pub has_duplicate : Disjunction → Bool
  has_duplicate (alone a) = alternative_has_duplicate a
  has_duplicate (or_else a others) = alternative_has_duplicate a || has_duplicate others

  pub alternative_has_duplicate : Alternative → Bool
  alternative_has_duplicate nothing = false
  alternative_has_duplicate (term_then first others) =
      term_has_duplicate first
      || have_a_name_in_common (groups_of_term first) (groups_of_alternative others) || alternative_has_duplicate others

  pub term_has_duplicate : Term → Bool
  term_has_duplicate (unquantified body) = body_has_duplicate body
  term_has_duplicate (quantified body prefix lazy) = body_has_duplicate body

  pub body_has_duplicate : TermBody → Bool
  body_has_duplicate start = false
  body_has_duplicate end = false
  body_has_duplicate (boundary negated) = false
  body_has_duplicate (lookahead negated d) = has_duplicate d
  body_has_duplicate (lookbehind negated d) = has_duplicate d
  body_has_duplicate (pattern_character c) = false
  body_has_duplicate dot = false
  body_has_duplicate (escape node) = false
  body_has_duplicate backslash = false
  body_has_duplicate (class node) = false
  body_has_duplicate (capture name d) = is_repeated (groups d) name || has_duplicate d
  body_has_duplicate (modified on off d) = has_duplicate d
  body_has_duplicate (invalid prefix) = false
