-- Which patterns are accepted, and when a tree has the meaning of its pattern.
use Rattle.std.specs.Prelude.{◌≡◌, ℕ, ◌≤◌, List, [], map, encode_utf8_all}
use Rattle.regress_base.specs.Limits.{max_capture_groups, max_loops, max_nesting_depth}
use Rattle.regress_tree.specs.Reading.{IsText, forwards}
use Rattle.regress_tree.specs.Steps.{MatchState, IsStateOf, byte_state, Setting}
use Rattle.regress_tree.specs.Matching.{matches}
use Rattle.regress_tree.specs.Tree.{Tree}
use Rattle.regress_lexer.specs.declared.dialect.Dialect.{Dialect}
use Rattle.regress_lexer.specs.declared.dialect.Dialect.TheVariants.{Regress}
use Rattle.regress_lexer.specs.Source.{Source}
use Rattle.regress_syntax.specs.Syntax.{Pattern, counts, names, nesting}
use Rattle.regress_syntax.specs.Meaning.{meaning}
use Rattle.regress_syntax.specs.SameNames.{NoneConflict}
use Rattle.regress_syntax.specs.Productions.{Context}
use Rattle.regress_syntax.specs.Grammar.{IsPattern}

-- The pattern is within the limits of the dialect.
pub record IsWithinLimits (p : Pattern) : Type 0 where
  pub groups : (counts p).groups ≤ max_capture_groups
  pub loops : (counts p).loops ≤ max_loops
  pub nesting : nesting p ≤ max_nesting_depth

-- On every text and from every state, the outcomes of the tree are those of the pattern, in the same order, as byte
-- offsets.
abbrev pub Means : Setting → Tree → Pattern → Type 0
Means setting tree p = (text : List ℕ) (s : MatchState) → IsText text → IsStateOf text s →
    matches setting (encode_utf8_all text) forwards tree (byte_state text s)
    ≡ map (byte_state text) (meaning setting text forwards p s)

module _ (dialect : Dialect) where
  -- The context of a whole pattern has its own groups and names.
  abbrev pub own_context_in : Setting → Pattern → Context
  own_context_in setting p = record { dialect = dialect; setting = setting; groups = (counts p).groups; names = names p }

  -- The grammar of the dialect derives the pattern from the whole source, in the context of the pattern's own groups and
  -- names.
  abbrev pub IsDerivedIn : Setting → Source → Pattern → Type 0
  IsDerivedIn setting source p = IsPattern (own_context_in setting p) p source []

  -- The pattern is derived from the source and within the limits, and no two of its groups with one name conflict.
  pub record IsAcceptedIn (setting : Setting) (source : Source) (p : Pattern) : Type 0 where
    pub derived : IsDerivedIn setting source p
    pub limits : IsWithinLimits p
    pub names : NoneConflict p

  -- At most one pattern is derived from the source, within the limits or not.
  abbrev pub OneIsDerivedIn : Setting → Source → Type 0
  OneIsDerivedIn setting source = (p q : Pattern) → IsDerivedIn setting source p → IsDerivedIn setting source q → p ≡ q

  -- The predicate holds for every pattern that the source is accepted as.
  abbrev pub OfAcceptedIn : Setting → Source → (Pattern → Type 0) → Type 0
  OfAcceptedIn setting source P = (p : Pattern) → IsAcceptedIn setting source p → P p

-- ---- the same in the dialect of `try_parse`

abbrev pub own_context : Setting → Pattern → Context
own_context = own_context_in Regress

abbrev pub IsDerived : Setting → Source → Pattern → Type 0
IsDerived = IsDerivedIn Regress

abbrev pub IsAccepted : Setting → Source → Pattern → Type 0
IsAccepted = IsAcceptedIn Regress

abbrev pub OneIsDerived : Setting → Source → Type 0
OneIsDerived = OneIsDerivedIn Regress

abbrev pub OfAccepted : Setting → Source → (Pattern → Type 0) → Type 0
OfAccepted = OfAcceptedIn Regress
