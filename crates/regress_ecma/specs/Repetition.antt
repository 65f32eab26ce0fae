-- ECMA-262, 22.2.2.3.1 to 22.2.2.3.4: the matchers of quantifiers, alternatives and sequences. Numbers in comments are
-- those of the clause's steps; steps that only assert or name something have no line.
use Rattle.std.specs.Prelude.{ℕ, zero, suc, ◌+◌, ◌-◌, Bool, false, not, ◌&&◌, ◌==◌, nat_le, List, [], ◌∷◌, Option, Some, None, if◌then◌else◌}
use Rattle.regress_tree.specs.Reading.{Direction, forwards, backwards}
use Rattle.regress_ecma.specs.Notation.{CaptureRange, MatchState, MatchResult, failure, Continuation, Matcher}

-- steps 3 and 4 of RepeatMatcher: the captures, the first of which has number k, with the groups numbered from
-- parenIndex + 1 to parenIndex + parenCount undefined
abbrev pub with_undefined : (k paren_index paren_count : ℕ) → List (Option CaptureRange) → List (Option CaptureRange)
with_undefined k paren_index paren_count [] = []
with_undefined k paren_index paren_count (r ∷ rs) =
    (if nat_le (paren_index + 1) k && nat_le k (paren_index + paren_count) then None else r)
    ∷ with_undefined (k + 1) paren_index paren_count rs

-- step 2.d of RepeatMatcher; `None` is infinite
abbrev pub one_less : Option ℕ → Option ℕ
one_less None = None
one_less (Some max) = Some (max - 1)

-- step 1 of RepeatMatcher
abbrev pub is_none_allowed : Option ℕ → Bool
is_none_allowed None = false
is_none_allowed (Some max) = max == 0

-- 22.2.2.3.1 RepeatMatcher. It calls itself at most `fuel` - 1 times along a path, and fails if that is too few.
unfoldable pub repeat_matcher : (fuel : ℕ) → Matcher → (min : ℕ) → (max : Option ℕ) → (greedy : Bool) → MatchState → Continuation →
    (paren_index paren_count : ℕ) → MatchResult
repeat_matcher zero m min max greedy x c paren_index paren_count = failure
repeat_matcher (suc fuel) m min max greedy x c paren_index paren_count =
    let d : Continuation = λ y.
    -- 2.b
    if (min == 0) && (y.end_index == x.end_index) then failure
    -- 2.c to 2.e
    else repeat_matcher fuel m (min - 1) (one_less max) greedy y c paren_index paren_count in
    -- 3 to 7
    let xr : MatchState = record x { captures = with_undefined 1 paren_index paren_count x.captures } in
    -- 1
    if is_none_allowed max then c x
    -- 8
    else if not (min == 0) then m xr d
    -- 10 to 12
    else if greedy then elim (m xr d) [ Some z ↦ Some z | None ↦ c x ]
    -- 9
    else elim (c x) [ Some z ↦ Some z | None ↦ m xr d ]

-- 22.2.2.3.2 EmptyMatcher
abbrev pub empty_matcher : Matcher
-- 1.c
empty_matcher x c = c x

-- 22.2.2.3.3 MatchTwoAlternatives
abbrev pub match_two_alternatives : Matcher → Matcher → Matcher
-- 1.c to 1.e
match_two_alternatives m1 m2 x c = elim (m1 x c) [ Some r ↦ Some r | None ↦ m2 x c ]

-- 22.2.2.3.4 MatchSequence
abbrev pub match_sequence : Matcher → Matcher → Direction → Matcher
-- 1.a
match_sequence m1 m2 forwards x c = m1 x (λ y. m2 y c)
-- 2.b
match_sequence m1 m2 backwards x c = m2 x (λ y. m1 y c)
