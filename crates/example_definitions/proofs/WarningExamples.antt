-- Examples: what is warned of in patterns. The nodes are those of the pattern in postorder, each beside its span, counted
-- by hand; those of which nothing is expected are left out where no other node depends on them.
use Rattle.std.proofs.Common.{◌≡◌, ℕ, true, false, List, [], ◌∷◌, None, refl, codes}
use Rattle.regress_base.specs.Intervals.{Bounds}
use Rattle.regress_base.specs.declared.types.AnchorType.TheVariants.{StartOfLine, EndOfLine}
use Rattle.regress_tree.specs.Tree.{empty, char, char_set, anchor, match_any_except_line_terminator, bracket, back_ref, Tree, leaf, cat, alt, wrapped, capture_group, loop, list}
use Rattle.regress_parse.specs.declared.span.Span.{Span}
use Rattle.regress_warnings.specs.declared.kind.Warning.{Warning}
use Rattle.regress_warnings.specs.declared.kind.WarningKind.{WarningKind}
use Rattle.regress_warnings.specs.declared.kind.WarningKind.TheVariants.{EmptyAlternative, HiddenAlternative, SplitAnchors, EmptyIteration, UnsetReference, LetterRange, DotBetweenDigits, RepeatedMember, BackReference}
use Rattle.regress_warnings.specs.Warned.{warned}
use Rattle.example_definitions.proofs.PatternExamples.{quantifier}

abbrev to : ℕ → ℕ → Span
to start end = record { start = start; end = end }

abbrev warning : WarningKind → Span → Warning
warning kind span = record { kind = kind; span = span }

abbrev a : Tree
a = leaf (char 97)

abbrev b : Tree
b = leaf (char 98)

abbrev nothing : Tree
nothing = leaf empty

-- the trees of `^`, of `$` and of `.`
abbrev start_of_line : Tree
start_of_line = leaf (anchor StartOfLine false)

abbrev end_of_line : Tree
end_of_line = leaf (anchor EndOfLine false)

abbrev dot : Tree
dot = leaf match_any_except_line_terminator

-- the tree of `t*`
abbrev any_number : Tree → Tree
any_number t = wrapped (loop (quantifier 0 None) 0 0) t

-- the tree of the capture group 1 around t
abbrev group_1 : Tree → Tree
group_1 t = wrapped (capture_group 0 None) t

abbrev set : List Bounds → Tree
set intervals = leaf (bracket false intervals)

abbrev range : ℕ → ℕ → Bounds
range first last = record { first = first; last = last }

-- ---- alternatives

-- `a||b`: of the two alternations only the inner one, `|b`, begins with `|`.
between : warned false (codes "a||b") [] ((alt nothing b, to 2 4) ∷ (alt a (alt nothing b), to 0 4) ∷ [])
    ≡ warning EmptyAlternative (to 2 4) ∷ []
between = refl

-- `a|`, and `a|(?:)`, whose last alternative is `Empty` too, but ends with `)`
last : warned false (codes "a|") [] ((alt a nothing, to 0 2) ∷ []) ≡ warning EmptyAlternative (to 0 2) ∷ []
last = refl

meant : warned false (codes "a|(?:)") [] ((alt a nothing, to 0 6) ∷ []) ≡ []
meant = refl

-- `a|ab`, and `ab|a`, where the longer one is tried first
hidden : warned false (codes "a|ab") [] ((alt a (cat (list (a ∷ b ∷ []))), to 0 4) ∷ []) ≡ warning HiddenAlternative (to 0 4) ∷ []
hidden = refl

longest_first : warned false (codes "ab|a") [] ((alt (cat (list (a ∷ b ∷ []))) a, to 0 4) ∷ []) ≡ []
longest_first = refl

-- `a|b|a`: only neighbours are compared.
apart : warned false (codes "a|b|a") [] ((alt b a, to 2 5) ∷ (alt a (alt b a), to 0 5) ∷ []) ≡ []
apart = refl

-- `a|ab` with the flag i
hidden_in_any_case : warned false (codes "a|ab") []
    ((alt (leaf (char_set (65 ∷ 97 ∷ []))) (cat (list (leaf (char_set (65 ∷ 97 ∷ [])) ∷ leaf (char_set (66 ∷ 98 ∷ [])) ∷ []))), to 0 4) ∷ [])
    ≡ warning HiddenAlternative (to 0 4) ∷ []
hidden_in_any_case = refl

-- `^a|b$`, and `^a$|b$`, where the first alternative has both
split : warned false (codes "^a|b$") [] ((alt (cat (list (start_of_line ∷ a ∷ []))) (cat (list (b ∷ end_of_line ∷ []))), to 0 5) ∷ [])
    ≡ warning SplitAnchors (to 0 5) ∷ []
split = refl

whole : warned false (codes "^a$|b$") []
    ((alt (cat (list (start_of_line ∷ a ∷ end_of_line ∷ []))) (cat (list (b ∷ end_of_line ∷ []))), to 0 6) ∷ [])
    ≡ []
whole = refl

-- `^a|b|b$`: the inner alternation, `b|b$`, has no `^`. Its first alternative hides the other one.
split_of_three : warned false (codes "^a|b|b$") []
    ((alt b (cat (list (b ∷ end_of_line ∷ []))), to 3 7)
    ∷ (alt (cat (list (start_of_line ∷ a ∷ []))) (alt b (cat (list (b ∷ end_of_line ∷ [])))), to 0 7) ∷ [])
    ≡ warning HiddenAlternative (to 3 7) ∷ warning SplitAnchors (to 0 7) ∷ []
split_of_three = refl

-- ---- loops

-- `(a*)*`: the outer loop
empty_iteration : warned false (codes "(a*)*") [] ((any_number a, to 1 3) ∷ (group_1 (any_number a), to 0 4) ∷ (any_number (group_1 (any_number a)), to 0 5) ∷ [])
    ≡ warning EmptyIteration (to 0 5) ∷ []
empty_iteration = refl

-- `(?:ba*)*`: each iteration takes a character.
advancing : warned false (codes "(?:ba*)*") [] ((any_number (cat (list (b ∷ any_number a ∷ []))), to 0 8) ∷ []) ≡ []
advancing = refl

-- ---- back references

-- `\1(a)`, `(a\1)` and `(a)\1`
forward : warned false (codes "\\1(a)") [] ((leaf (back_ref 1 false), to 0 2) ∷ (a, to 3 4) ∷ (group_1 a, to 2 5) ∷ [])
    ≡ warning UnsetReference (to 0 2) ∷ warning BackReference (to 0 2) ∷ []
forward = refl

inside : warned false (codes "(a\\1)") []
    ((a, to 1 2) ∷ (leaf (back_ref 1 false), to 2 4) ∷ (cat (list (a ∷ leaf (back_ref 1 false) ∷ [])), to 1 4)
    ∷ (group_1 (cat (list (a ∷ leaf (back_ref 1 false) ∷ []))), to 0 5) ∷ [])
    ≡ warning UnsetReference (to 2 4) ∷ warning BackReference (to 2 4) ∷ []
inside = refl

after : warned false (codes "(a)\\1") [] ((a, to 1 2) ∷ (group_1 a, to 0 3) ∷ (leaf (back_ref 1 false), to 3 5) ∷ [])
    ≡ warning BackReference (to 3 5) ∷ []
after = refl

-- `\k<a>(?<a>b)`: by name
forward_by_name : warned false (codes "\\k<a>(?<a>b)") [] ((leaf (back_ref 1 false), to 0 5) ∷ (b, to 10 11) ∷ (group_1 b, to 5 12) ∷ [])
    ≡ warning UnsetReference (to 0 5) ∷ warning BackReference (to 0 5) ∷ []
forward_by_name = refl

-- `\k<a>`, and later two groups of that name: one warning of each kind for all nodes of the reference
to_several_groups : warned false (codes "\\k<a>(?:(?<a>a)|(?<a>b))") []
    ((leaf (back_ref 1 false), to 0 5) ∷ (leaf (back_ref 2 false), to 0 5)
    ∷ (alt (leaf (back_ref 1 false)) (leaf (back_ref 2 false)), to 0 5) ∷ (a, to 13 14) ∷ (group_1 a, to 8 15) ∷ [])
    ≡ warning UnsetReference (to 0 5) ∷ warning BackReference (to 0 5) ∷ []
to_several_groups = refl

-- ---- characters

-- `[A-z]`, and `[A-Za-z]`
letter_range : warned false (codes "[A-z]") [] ((set (range 65 122 ∷ []), to 0 5) ∷ []) ≡ warning LetterRange (to 0 5) ∷ []
letter_range = refl

-- `[@A-z]`, whose set has the interval from `@` on
written_range : warned false (codes "[@A-z]") [] ((set (range 64 122 ∷ []), to 0 6) ∷ []) ≡ warning LetterRange (to 0 6) ∷ []
written_range = refl

all_of_ascii : warned false (codes "[!-~]") [] ((set (range 33 126 ∷ []), to 0 5) ∷ []) ≡ []
all_of_ascii = refl

letters : warned false (codes "[A-Za-z]") [] ((set (range 65 90 ∷ range 97 122 ∷ []), to 0 8) ∷ []) ≡ []
letters = refl

-- `1.5`, `(\d*).1`, `1(.5)`, and `1.a`
point : warned false (codes "1.5") [] ((cat (list (leaf (char 49) ∷ dot ∷ leaf (char 53) ∷ [])), to 0 3) ∷ []) ≡ warning DotBetweenDigits (to 0 3) ∷ []
point = refl

point_after_group : warned false (codes "(\\d*).1") []
    ((cat (list (group_1 (any_number (set (range 48 57 ∷ []))) ∷ dot ∷ leaf (char 49) ∷ [])), to 0 7) ∷ [])
    ≡ warning DotBetweenDigits (to 0 7) ∷ []
point_after_group = refl

point_in_group : warned false (codes "1(.5)") []
    ((cat (list (leaf (char 49) ∷ group_1 (cat (list (dot ∷ leaf (char 53) ∷ []))) ∷ [])), to 0 5) ∷ [])
    ≡ warning DotBetweenDigits (to 0 5) ∷ []
point_in_group = refl

other : warned false (codes "1.a") [] ((cat (list (leaf (char 49) ∷ dot ∷ a ∷ [])), to 0 3) ∷ []) ≡ []
other = refl

-- `[a-zb]`, `[^aa]` with the flag v too, and `[ab]`
repeated : warned false (codes "[a-zb]") [] ((set (range 97 122 ∷ []), to 0 6) ∷ []) ≡ warning RepeatedMember (to 0 6) ∷ []
repeated = refl

repeated_in_set : warned true (codes "[^aa]") [] ((leaf (bracket true (range 97 97 ∷ [])), to 0 5) ∷ []) ≡ []
repeated_in_set = refl

distinct : warned false (codes "[ab]") [] ((set (range 97 98 ∷ []), to 0 4) ∷ []) ≡ []
distinct = refl
