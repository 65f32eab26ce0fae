-- Repetition of a part of a pattern (ECMA-262, RepeatMatcher).
use Rattle.std.specs.Prelude.{ℕ, zero, suc, ◌+◌, ◌-◌, min, nat_le, nat_lt, ◌==◌, Bool, not, ◌&&◌, List, [], ◌∷◌, filter, Option, Some, None, if◌then◌else◌}
use Rattle.regress_base.specs.declared.types.Quantifier.{Quantifier}
use Rattle.regress_tree.specs.Steps.{MatchState, CaptureSpan, Matcher, stay, ◌then_◌, ◌or_◌}

-- the captures from group k on, with the groups start to end - 1 unset
abbrev pub unset_from : (k start end : ℕ) → List (Option CaptureSpan) → List (Option CaptureSpan)
unset_from k start end [] = []
unset_from k start end (c ∷ cs) =
    (if nat_le start k && nat_lt k end then None else c) ∷ unset_from (k + 1) start end cs

-- the state with the groups start to end - 1 unset
abbrev pub unset : (start end : ℕ) → MatchState → MatchState
unset start end s = record s { captures = unset_from 0 start end s.captures }

-- One iteration: the groups inside the body are unset when it begins.
abbrev pub iteration : (start end : ℕ) → Matcher → Matcher
iteration start end f s = f (unset start end s)

-- exactly n iterations
abbrev pub iterations : ℕ → Matcher → Matcher
iterations zero f = stay
iterations (suc n) f = f then_ iterations n f

-- the outcomes at another position: an iteration that matches the empty text is dropped
abbrev pub moving : Matcher → Matcher
moving f s = filter (λ t. not (t.position == s.position)) (f s)

-- At most n more iterations, each of which advances. Greedy, another iteration is preferred to ending the loop; lazy,
-- the reverse.
abbrev pub up_to : (greedy : Bool) → ℕ → Matcher → Matcher
up_to greedy zero f = stay
up_to greedy (suc n) f =
    let more : Matcher = moving f then_ up_to greedy n f in
    if greedy then more or_ stay else stay or_ more

-- the number of iterations that may follow the minimum: at most `bound`, and exactly that if the quantifier has no
-- maximum
abbrev pub extra_iterations : (bound : ℕ) → Quantifier → ℕ
extra_iterations bound q = after q.max
  where
    after : Option ℕ → ℕ
    after None = bound
    after (Some max) = min (max - q.min) bound

-- A loop (ECMA-262, RepeatMatcher): the number of iterations that the quantifier allows. With a bound greater than the
-- length of the text it does not limit them, since each iteration past the minimum advances.
unfoldable pub repeat_matcher : (bound : ℕ) → Quantifier → (start end : ℕ) → Matcher → Matcher
repeat_matcher bound q start end f = iterations q.min (iteration start end f) then_ up_to q.greedy (extra_iterations bound q) (iteration start end f)
