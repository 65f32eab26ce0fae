-- Texts matched character by character: back references (ECMA-262, BackreferenceMatcher), and sets of strings, one of which
-- matches (ECMA-262, CompileAtom, ClassStrings).
use Rattle.std.specs.Prelude.{ℕ, zero, suc, ◌-◌, Bool, List, [], ◌∷◌, reverse, Option, Some, None, get_or, nat_lt, if◌then◌else◌}
use Rattle.regress_tree.specs.Reading.{Direction, forwards, backwards, Reading, Read}
use Rattle.regress_tree.specs.Steps.{CaptureSpan, Matcher, stay, fail, ◌then_◌, ◌or_◌, one_character}

-- the decoded character, and those from the position after it on
abbrev pub read_with : (ℕ → List ℕ) → Option Read → List ℕ
read_with rest None = []
read_with rest (Some read) = read.character ∷ rest read.position

-- the characters from position k up to `end`, at most n of them
abbrev pub characters_from : Reading → (n : ℕ) → (k end : ℕ) → List ℕ
characters_from r zero k end = []
characters_from r (suc n) k end = if nat_lt k end then read_with (λ j. characters_from r n j end) (r.after k) else []

-- Matches these characters in order, each by the comparison `same`.
abbrev pub all_of : Direction → Reading → (ℕ → ℕ → Bool) → List ℕ → Matcher
all_of d r same [] = stay
all_of d r same (c ∷ cs) = one_character d r (same c) then_ all_of d r same cs

-- the characters in the order in which matching reaches them
abbrev pub in_order : Direction → List ℕ → List ℕ
in_order forwards cs = cs
in_order backwards cs = reverse cs

-- Matches the text of the span once more, or the empty text if there is no span. A span has at most as many characters
-- as positions, which bounds `characters_from`.
abbrev pub match_again : Direction → Reading → (ℕ → ℕ → Bool) → Option CaptureSpan → Matcher
match_again d r same None = stay
match_again d r same (Some span) = all_of d r same (in_order d (characters_from r (span.1 - span.0) span.0 span.1))

-- A back reference to group `id`: matches its captured text once more, character by character, or the empty text if the
-- group is unset.
unfoldable pub back_reference : Direction → Reading → (same : ℕ → ℕ → Bool) → (id : ℕ) → Matcher
back_reference d r same id s = match_again d r same (get_or s.captures id None) s

-- Matches one of the strings, tried in order, each character by character by the comparison `same`.
unfoldable pub any_string : Direction → Reading → (same : ℕ → ℕ → Bool) → List (List ℕ) → Matcher
any_string d r same [] = fail
any_string d r same (string ∷ strings) = all_of d r same (in_order d string) or_ any_string d r same strings
