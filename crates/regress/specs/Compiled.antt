-- A compiled regular expression, and the match that a search has found.
use Rattle.std.specs.Prelude.{◌≡◌, ℕ, Bool, List, map, string_bytes, chars}
use Rattle.std.specs.List.Sorted.{IsNonDecreasingBy, IsPermutation}
use Rattle.regress_front.specs.Accepted.{IsAcceptedIn, Means}
use Rattle.regress_front.specs.Groups.{pattern_groups}
use Rattle.regress_front.specs.Source.{Source}
use Rattle.regress_front.specs.Steps.{MatchState, Setting}
use Rattle.regress_front.specs.Syntax.{Pattern}
use Rattle.regress_front.specs.Tree.{Tree}
use Rattle.regress_front.specs.WellFormed.{Capture, IsWellFormed, captures}
use Rattle.regress_front.specs.declared.parse.Dialect.{Dialect}
use Rattle.regress_ecma.specs.CodeUnits.{is_exact}
use Rattle.regress_ecma.specs.SurrogatePairs.{matches_outside_pairs}
use Rattle.regress_found.specs.Found.{outcomes_at}
use Rattle.regress_found.specs.declared.found.Match as matcher
use Rattle.regress_match.specs.Pattern.{matcher_setting, matcher_tree, capture_of}
use Rattle.regress.specs.declared.found.Match.{Match}
use Rattle.regress.specs.declared.pattern.Regex.{Regex}

-- the text of the pattern, in UTF-8
abbrev pub source_of : Regex → List ℕ
source_of r = string_bytes r.source

-- whether each code point of the pattern is one character
abbrev pub has_exact_source : Regex → Bool
has_exact_source r = r.exact

-- whether the pattern matches outside of surrogate pairs
abbrev pub is_outside_pairs : Regex → Bool
is_outside_pairs r = r.outside_pairs

-- the flags, and the table of Unicode
abbrev pub setting_of : Regex → Setting
setting_of r = matcher_setting r.matcher

-- the tree of the pattern
abbrev pub tree_of : Regex → Tree
tree_of r = matcher_tree r.matcher

-- the capture groups of the pattern, in the order of their opening parentheses
abbrev pub groups_of : Regex → List Capture
groups_of r = map capture_of r.groups.items

-- the outcomes of the pattern on a text, from each position
abbrev pub outcomes_of : Regex → (text : List ℕ) → (position : ℕ) → List MatchState
outcomes_of r text = outcomes_at (setting_of r) text (tree_of r)

module _ (dialect : Dialect) where
  -- A well-formed tree with the outcomes and the groups of the accepted pattern.
  pub record IsTreeOfIn (setting : Setting) (source : Source) (t : Tree) : Type 0 where
    pub pattern : Pattern
    pub accepted : IsAcceptedIn dialect setting source pattern
    pub meaning : Means setting t pattern
    pub captures : IsPermutation (pattern_groups pattern) (captures t)
    pub well_formed : IsWellFormed t

  -- The regular expression is compiled from these code points under this setting.
  pub record IsCompiledFromIn (s : Setting) (points : Source) (r : Regex) : Type 0 where
    pub tree : IsTreeOfIn s points (tree_of r)
    pub groups : IsPermutation (pattern_groups tree.pattern) (groups_of r)
    pub sorted : IsNonDecreasingBy (λ group. group.id) (groups_of r)
    pub setting : setting_of r ≡ s
    pub exact : has_exact_source r ≡ is_exact s.flags.unicode points
    pub outside : is_outside_pairs r ≡ matches_outside_pairs s.table tree.pattern

  -- The regular expression is compiled from this text, which is its source, under this setting.
  pub record IsCompiledIn (s : Setting) (text : List ℕ) (r : Regex) : Type 0 where
    pub from : IsCompiledFromIn s (chars text) r
    pub source : source_of r ≡ text

-- the match that a search has found
abbrev pub match_of : Match → matcher.Match
match_of m = m.found

-- the capture groups of the pattern that has matched
abbrev pub groups_in : Match → List Capture
groups_in m = map capture_of m.groups.now
