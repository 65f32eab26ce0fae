-- Lookarounds: the text around a position is matched, and the position stays the same (ECMA-262, CompileAssertion).
use Rattle.std.specs.Prelude.{Bool, true, false, List, [], ◌∷◌}
use Rattle.regress_tree.specs.Steps.{MatchState, Matcher}

-- The outcomes of a lookaround, by the outcomes of its body: the first one determines the captures, and later ones are
-- not tried. A negated lookaround succeeds where its body has no outcome.
abbrev pub looked : (negate : Bool) → MatchState → List MatchState → List MatchState
looked false s [] = []
looked false s (t ∷ later) = record t { position = s.position } ∷ []
looked true s [] = s ∷ []
looked true s (t ∷ later) = []

-- a lookaround, by the matcher of its body
unfoldable pub lookaround_matcher : (negate : Bool) → Matcher → Matcher
lookaround_matcher negate f s = looked negate s (f s)
