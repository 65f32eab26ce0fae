-- Bytes and literals without which a tree has no match.
use Rattle.std.specs.Prelude.{◌≡◌, ◌≤◌, ◌<◌, ◌==◌, ℕ, Bool, true, List, [], drop, length, slice_index}
use Rattle.std.specs.List.{starts_with}
use Rattle.regress_tree.specs.Matching.{steps}
use Rattle.regress_tree.specs.Reading.{forwards}
use Rattle.regress_tree.specs.Steps.{MatchState, Matcher, Setting}
use Rattle.regress_tree.specs.Tree.{Tree}

-- The byte does not occur at offset `from` or later.
abbrev pub NoneFrom : (b : ℕ) (bytes : List ℕ) (from : ℕ) → Type 0
NoneFrom b bytes from = (k : ℕ) → from ≤ k → k < length bytes → slice_index bytes k ≡ b → ⊥

-- The literal does not occur at offset `from` or later.
abbrev pub AbsentFrom : (literal bytes : List ℕ) (from : ℕ) → Type 0
AbsentFrom literal bytes from = (k : ℕ) → from ≤ k → starts_with (λ b c. b == c) (drop k bytes) literal ≡ true → ⊥

-- At an offset with the property the matcher has no outcome.
pub record Needs (absent : ℕ → Type 0) (f : Matcher) : Type 0 where
  pub none : (s : MatchState) → absent s.position → f s ≡ []

-- The same of the tree forwards, with any setting and in any text.
abbrev pub Requires : (absent : List ℕ → ℕ → Type 0) → Tree → Type 0
Requires absent t = (setting : Setting) (bytes : List ℕ) → Needs (absent bytes) (steps setting bytes forwards t)

-- Past the last occurrence of the byte the tree has no outcome.
abbrev pub IsRequired : (b : ℕ) → Tree → Type 0
IsRequired b t = Requires (NoneFrom b) t

abbrev pub AreRequired : (set : ℕ → Bool) → Tree → Type 0
AreRequired set t = (b : ℕ) → set b ≡ true → IsRequired b t

-- Past the last occurrence of the literal the tree has no outcome.
abbrev pub IsRequiredLiteral : (literal : List ℕ) → Tree → Type 0
IsRequiredLiteral literal t = Requires (AbsentFrom literal) t
