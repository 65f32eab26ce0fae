-- Lines and columns after one more code point, and how large they get.
use Rattle.std.proofs.Common.{◌≡◌, ◌∙◌, ℕ, ◌+◌, ◌≤◌, ◌<◌, Bool, true, false, not, List, [], ◌∷◌, ◌++◌, cond, take, chars, length, Fits, w64, refl, ap, subst, arith}
use Rattle.std.specs.List.{count_by, prefix_len, suffix_len}
use Rattle.std.specs.Str.{IsUtf8}
use Rattle.std.proofs.lemmas.List.{reverse-append, length-take}
use Rattle.std.proofs.lemmas.List.Sums.{sum_by-append, count_by-le-length, suffix_len-le-length}
use Rattle.std.proofs.lemmas.Str.{encodes-chars, length-le-encodes}
use Rattle.regress_display.specs.Fault.{is_line_feed, line_after, column_after}

feeds_more : (before : List ℕ) (c : ℕ) →
    count_by is_line_feed (before ++ c ∷ []) ≡ count_by is_line_feed before + (0 + cond (is_line_feed c) 1 0)
feeds_more before c = sum_by-append (λ d. cond (is_line_feed d) 1 0) before (c ∷ [])

suffix_len_more : (p : ℕ → Bool) (before : List ℕ) (c : ℕ) →
    suffix_len p (before ++ c ∷ []) ≡ cond (p c) (1 + suffix_len p before) 0
suffix_len_more p before c = ap (prefix_len p) (reverse-append before (c ∷ []))

-- after a line feed
pub after_line_feed : (before : List ℕ) (c line : ℕ) → c ≡ 10 → line ≡ line_after before →
    (line + 1 ≡ line_after (before ++ c ∷ [])) × (1 ≡ column_after (before ++ c ∷ []))
after_line_feed before c line is so_far =
    let feed : is_line_feed c ≡ true = ap is_line_feed is in
    let lines = feeds_more before c ∙ ap (λ b. count_by is_line_feed before + (0 + cond b 1 0)) feed in
    let columns = suffix_len_more (λ d. not (is_line_feed d)) before c
    ∙ ap (λ b. cond (not b) (1 + suffix_len (λ d. not (is_line_feed d)) before) 0) feed in
    (omega (arith, lines, so_far), omega (arith, columns))

-- after any other code point
pub after_other : (before : List ℕ) (c line column : ℕ) → is_line_feed c ≡ false → line ≡ line_after before →
    column ≡ column_after before →
    (line ≡ line_after (before ++ c ∷ [])) × (column + 1 ≡ column_after (before ++ c ∷ []))
after_other before c line column other line_so_far column_so_far =
    let lines = feeds_more before c ∙ ap (λ b. count_by is_line_feed before + (0 + cond b 1 0)) other in
    let columns = suffix_len_more (λ d. not (is_line_feed d)) before c
    ∙ ap (λ b. cond (not b) (1 + suffix_len (λ d. not (is_line_feed d)) before) 0) other in
    (omega (arith, lines, line_so_far), omega (arith, columns, column_so_far))

-- A proper prefix of a text has at most as many lines and columns as the text has bytes, so one more fits.
chars_within : (text : List ℕ) → IsUtf8 text → length (chars text) ≤ length text
chars_within text valid =
    subst (λ bytes. length (chars text) ≤ length bytes) (encodes-chars text valid) (length-le-encodes (chars text))

pub line_fits : (before text : List ℕ) (position line : ℕ) → length text < 18446744073709551615 → IsUtf8 text →
    line ≡ line_after before → length before < length (take position (chars text)) → Fits w64 (line + 1)
line_fits before text position line short valid so_far inside =
    omega (arith, count_by-le-length is_line_feed before, chars_within text valid, length-take position (chars text), so_far, inside)

pub column_fits : (before text : List ℕ) (position column : ℕ) → length text < 18446744073709551615 → IsUtf8 text →
    column ≡ column_after before → length before < length (take position (chars text)) → Fits w64 (column + 1)
column_fits before text position column short valid so_far inside =
    omega (arith, suffix_len-le-length (λ c. not (is_line_feed c)) before, chars_within text valid, length-take position (chars text), so_far, inside)
