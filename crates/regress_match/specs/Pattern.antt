-- The pattern of a matcher, and its groups.
use Rattle.std.specs.Prelude.{ℕ, List, option_map, string_bytes}
use Rattle.std.specs.Arc.{arc_value}
use Rattle.regress_tree.specs.Steps.{MatchState, Setting}
use Rattle.regress_tree.specs.Tree.{Tree, tree}
use Rattle.regress_tree.specs.WellFormed.{Capture}
use Rattle.regress_unicode.specs.TableOf.{table_of}
use Rattle.regress_found.specs.Found.{outcomes_at}
use Rattle.regress_match.specs.declared.matcher.Matcher.{Matcher}
use Rattle.regress_match.specs.declared.names.Group.{Group}

-- the flags and the case mappings of a matcher
abbrev pub matcher_setting : Matcher → Setting
matcher_setting m = record { flags = m.regex.flags; table = table_of (arc_value m.tables) }

-- the tree of its pattern
abbrev pub matcher_tree : Matcher → Tree
matcher_tree m = tree m.regex.node

-- the outcomes of its pattern on a text, from each position
abbrev pub matcher_outcomes : Matcher → (text : List ℕ) → (position : ℕ) → List MatchState
matcher_outcomes m text = outcomes_at (matcher_setting m) text (matcher_tree m)

-- the capture group that a list element describes
abbrev pub capture_of : Group → Capture
capture_of g = record { id = g.id; name = option_map string_bytes g.name }
