-- States, matchers and outcomes (ECMA-262, MatchState and Matcher), what matching depends on beside tree and text, and the
-- operations of which the matchers of all nodes are composed.
use Rattle.std.specs.Prelude.{◌≡◌, ℕ, Bool, true, false, not, ◌&&◌, List, [], ◌∷◌, ◌++◌, filter, flat_map, map, Option, Some, None, if◌then◌else◌, ◌==◌, min, max, slice_set, ◌+◌, ◌-◌, ◌≤◌, length, drop, nat_eq, nat_le, All}
use Rattle.std.specs.List.{starts_with}
use Rattle.regress_base.specs.declared.types.Flags.{Flags}
use Rattle.regress_base.specs.Table.{Table}
use Rattle.regress_tree.specs.Reading.{Direction, forwards, backwards, Reading, Read, next_character, byte_position}

-- the start and the end of what a group has last matched, the smaller position first
abbrev pub CaptureSpan : Type 0
CaptureSpan = ℕ × ℕ

-- The state of matching: a position, and the capture of each group or none (ECMA-262, MatchState).
pub record MatchState : Type 0 where
  pub position : ℕ
  pub captures : List (Option CaptureSpan)

-- The outcomes of a part of a pattern from a state, in order of preference (ECMA-262, Matcher, as a list).
abbrev pub Matcher : Type 0
Matcher = MatchState → List MatchState

-- what matching depends on beside the tree and the text: the flags, and the table of canonical forms
pub record Setting : Type 0 where
  pub flags : Flags
  pub table : Table

abbrev pub same_capture : Option CaptureSpan → Option CaptureSpan → Bool
same_capture None None = true
same_capture (Some a) (Some b) = (a.0 == b.0) && (a.1 == b.1)
same_capture None (Some b) = false
same_capture (Some a) None = false

abbrev pub same_captures : List (Option CaptureSpan) → List (Option CaptureSpan) → Bool
same_captures [] [] = true
same_captures (a ∷ as') (b ∷ bs) = same_capture a b && same_captures as' bs
same_captures [] (b ∷ bs) = false
same_captures (a ∷ as') [] = false

-- The two states are equal.
unfoldable pub same_state : MatchState → MatchState → Bool
same_state s t = (s.position == t.position) && same_captures s.captures t.captures

-- The list without repeated outcomes: a later equal one is tried only after the first has failed, so it fails too.
abbrev pub dedup : List MatchState → List MatchState
dedup [] = []
dedup (s ∷ rest) = s ∷ filter (λ t. not (same_state s t)) (dedup rest)

-- The two matchers have the same distinct outcomes from every state, so they are interchangeable whatever follows them.
pub record Alike (f g : Matcher) : Type 0 where
  pub same : (s : MatchState) → dedup (f s) ≡ dedup (g s)

-- Matches the empty text.
abbrev pub stay : Matcher
stay s = s ∷ []

-- Never matches.
abbrev pub fail : Matcher
fail s = []

-- the outcomes of g from each outcome of f (ECMA-262, MatchSequence)
infixl 20 ◌then_◌
abbrev pub ◌then_◌ : Matcher → Matcher → Matcher
(f then_ g) s = flat_map g (f s)

-- the outcomes of f, and then those of g (ECMA-262, MatchTwoAlternatives)
infixl 10 ◌or_◌
abbrev pub ◌or_◌ : Matcher → Matcher → Matcher
(f or_ g) s = f s ++ g s

-- Advances over the character if it passes the test.
abbrev pub moved : (ℕ → Bool) → MatchState → Option Read → List MatchState
moved test s None = []
moved test s (Some read) = if test read.character then record s { position = read.position } ∷ [] else []

-- Matches one character that passes the test (ECMA-262, CharacterSetMatcher).
unfoldable pub one_character : Direction → Reading → (ℕ → Bool) → Matcher
one_character d r test s = moved test s (next_character d r s.position)

-- Matches exactly these bytes, after the position or, backwards, before it.
unfoldable pub these_bytes : Direction → List ℕ → List ℕ → Matcher
these_bytes forwards bytes written s =
    if starts_with nat_eq (drop s.position bytes) written then record s { position = s.position + length written } ∷ [] else []
these_bytes backwards bytes written s =
    if nat_le (length written) s.position && starts_with nat_eq (drop (s.position - length written) bytes) written
    then record s { position = s.position - length written } ∷ []
    else []

-- the state itself, if the test holds at its position
unfoldable pub hold_at : (ℕ → Bool) → Matcher
hold_at test s = if test s.position then s ∷ [] else []

-- the state in which the capture of group `id` is the span between the two positions
abbrev pub captured : ℕ → ℕ → MatchState → MatchState
captured id from s = record s { captures = slice_set s.captures id (Some (min from s.position, max from s.position)) }

-- A capture group: the outcomes of the body, with the group's capture set.
unfoldable pub capture : ℕ → Matcher → Matcher
capture id f s = map (captured id s.position) (f s)

-- A state of a text: its positions are in the text, and each span starts no later than it ends.
pub record IsSpanOf (text : List ℕ) (span : CaptureSpan) : Type 0 where
  pub ordered : span.0 ≤ span.1
  pub within : span.1 ≤ length text

abbrev pub IsCaptureOf : List ℕ → Option CaptureSpan → Type 0
IsCaptureOf text None = Unit {0}
IsCaptureOf text (Some span) = IsSpanOf text span

pub record IsStateOf (text : List ℕ) (s : MatchState) : Type 0 where
  pub position : s.position ≤ length text
  pub captures : All (IsCaptureOf text) s.captures

-- the same capture, and the same state, in byte offsets
abbrev pub byte_capture : List ℕ → Option CaptureSpan → Option CaptureSpan
byte_capture text None = None
byte_capture text (Some span) = Some (byte_position text span.0, byte_position text span.1)

abbrev pub byte_state : List ℕ → MatchState → MatchState
byte_state text s = record { position = byte_position text s.position; captures = map (byte_capture text) s.captures }
