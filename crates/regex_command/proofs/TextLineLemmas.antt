-- The lines of a text, from its first line on.
use Rattle.std.proofs.Common.{◌<◌, ◌≡◌, ◌≢◌, ◌∙◌, ℕ, Bool, true, Bor, cond, List, [], ◌∷◌, ◌++◌, All, Option, Some, None, ap, arith, eq-eqb, length, lit<, map, ne_eqb, refl, rules}
use Rattle.std.specs.Prelude.{MatchOption}
use Rattle.std.proofs.lemmas.List.Elements.{All-from_get_or, All-head, All-tail}
use Rattle.std.proofs.lemmas.Str.Pattern.{IsSplitOnceResult, split_parts}
use Rattle.regex_lines.specs.Searched.{Line, lines_of, onto_line}
use Rattle.regex_command.specs.Printed.{texts_of_lines}

abbrev bytes : Line → List ℕ
bytes line = line.bytes

-- a byte in front of the first line
onto : (x : ℕ) (lines : List Line) (line : List ℕ) (others : List (List ℕ)) → map bytes lines ≡ line ∷ others → map bytes (onto_line x lines) ≡ (x ∷ line) ∷ others
onto x [] line others is = search rules
onto x (l ∷ ls) line others is = cc

abbrev IsNoLineFeed : ℕ → Type 0
IsNoLineFeed b = b ≢ 10

-- a line and its line feed in front
line_first : (line rest : List ℕ) → All IsNoLineFeed line → texts_of_lines (line ++ 10 ∷ rest) ≡ line ∷ texts_of_lines rest
line_first [] rest none = ap (λ (b : Bool). map bytes (cond b (record { bytes = []; ended = true } ∷ lines_of rest) (onto_line 10 (lines_of rest)))) (eq-eqb 10 10 refl)
line_first (x ∷ line) rest none =
    ap (λ (b : Bool). map bytes (cond b (record { bytes = []; ended = true } ∷ lines_of (line ++ 10 ∷ rest)) (onto_line x (lines_of (line ++ 10 ∷ rest)))))
    (ne_eqb x 10 (All-head IsNoLineFeed x line none))
    ∙ onto x (lines_of (line ++ 10 ∷ rest)) line (texts_of_lines rest) (line_first line rest (All-tail IsNoLineFeed x line none))

-- a last line without a line feed
line_last : (x : ℕ) (line : List ℕ) → All IsNoLineFeed (x ∷ line) → texts_of_lines (x ∷ line) ≡ (x ∷ line) ∷ []
line_last x [] none = ap (λ (b : Bool). map bytes (cond b (record { bytes = []; ended = true } ∷ []) (onto_line x []))) (ne_eqb x 10 (All-head IsNoLineFeed x [] none))
line_last x (y ∷ line) none =
    ap (λ (b : Bool). map bytes (cond b (record { bytes = []; ended = true } ∷ lines_of (y ∷ line)) (onto_line x (lines_of (y ∷ line)))))
    (ne_eqb x 10 (All-head IsNoLineFeed x (y ∷ line) none))
    ∙ onto x (lines_of (y ∷ line)) (y ∷ line) [] (line_last y line (All-tail IsNoLineFeed x (y ∷ line) none))

one_line : (text : List ℕ) → 0 < length text → All IsNoLineFeed text → texts_of_lines text ≡ text ∷ []
one_line [] some none = absurd (omega (arith, some))
one_line (x ∷ line) some none = line_last x line none

-- What a text is split into at its first line feed is its first line and the rest.
pub split_lines : (text : List ℕ) (r : Option (Bor (List ℕ) × Bor (List ℕ))) → IsSplitOnceResult 10 text r → 0 < length text →
    MatchOption r (texts_of_lines text ≡ text ∷ []) (λ x. texts_of_lines text ≡ x.0.now ∷ texts_of_lines x.1.now)
split_lines text None is some = one_line text some (All-from_get_or IsNoLineFeed text 0 (split_parts 10 text None is (lit< tt)))
split_lines text (Some x) is some =
    let parts = split_parts 10 text (Some x) is (lit< tt) in
    ap texts_of_lines parts.0 ∙ line_first x.0.now x.1.now (All-from_get_or IsNoLineFeed x.0.now 0 parts.1)
