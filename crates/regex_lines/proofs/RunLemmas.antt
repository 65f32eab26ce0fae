-- The runs of UTF-8 in a line are found one after another.
use Rattle.std.proofs.Common.{◌≡◌, ◌∙◌, ℕ, zero, suc, ◌+◌, ◌≤◌, ◌<◌, All, Bool, true, false, cond, eqb, List, [], ◌∷◌, ◌++◌, length, map, take, drop, get_or, ap, refl, sym, subst, append-nil, append_assoc, arith}
use Rattle.std.specs.Str.{IsUtf8, is_utf8}
use Rattle.std.specs.Str.Lossy.{utf8_invalid_len, utf8_valid_len}
use Rattle.std.specs.List.{Any}
use Rattle.std.proofs.lemmas.List.{drop_at, get_or-map, length-append, length-map, map-append, take_all, take_at, take_more}
use Rattle.std.proofs.lemmas.List.Elements.{All-push, All-same}
use Rattle.std.proofs.lemmas.Str.{IsUtf8-from_is_utf8, is_utf8-from_IsUtf8}
use Rattle.regex_lines.specs.InLine.{AreInLine}
use Rattle.regex_lines.specs.Reply.{Run, chunk_len, runs_within, texts_of, unless_empty, utf8_runs, whole}

-- What is found, with the runs in the bytes that are left, are the runs of the line.
pub record SoFar (line : List ℕ) (found : List Run) (start : ℕ) (left : List ℕ) : Type 0 where
  pub bound : ℕ
  pub enough : length left ≤ bound
  pub runs : found ++ runs_within bound start left ≡ utf8_runs line
  pub counted : start + length left ≡ length line
  pub order : AreInLine start 0 found

-- another text
in_line_push : (start more from : ℕ) (runs : List Run) (text : List ℕ) → start + length text ≤ more → AreInLine start from runs →
    AreInLine more from (runs ++ unless_empty start text)
in_line_push start more from [] text within is = by (eqb (length text) 0)
  where
    by : (b : Bool) → AreInLine more from (cond b [] (record { start = start; text = text } ∷ []))
    by true = omega (arith, within, is)
    by false = (is, within)
in_line_push start more from (run ∷ runs) text within is = (is.0, in_line_push start more (run.start + length run.text) runs text within is.1)

-- one chunk further
runs_step : (bound start : ℕ) (left text invalid rest : List ℕ) → length left ≤ suc bound → 0 < length left → left ≡ text ++ (invalid ++ rest) →
    length text ≡ utf8_valid_len left → length invalid ≡ utf8_invalid_len (drop (utf8_valid_len left) left) →
    runs_within (suc bound) start left ≡ unless_empty start text ++ runs_within bound (start + (length text + length invalid)) rest
runs_step bound start [] text invalid rest enough some parts text_len invalid_len = absurd (omega (arith, some))
runs_step bound start (b ∷ bs) text invalid rest enough some parts text_len invalid_len =
    let left = b ∷ bs in
    let chunk : chunk_len left ≡ length text + length invalid = λ i. sym text_len i + sym invalid_len i in
    let prefix : take (utf8_valid_len left) left ≡ text = ap (take (utf8_valid_len left)) parts ∙ take_at text (invalid ++ rest) _ text_len in
    let back : drop (chunk_len left) left ≡ rest =
    ap (drop (chunk_len left)) (parts ∙ sym (append_assoc text invalid rest))
    ∙ drop_at (text ++ invalid) rest _ (length-append text invalid ∙ sym chunk) in
    λ i. unless_empty start (prefix i) ++ runs_within bound (start + chunk i) (back i)

pub next : (line : List ℕ) (found more : List Run) (start : ℕ) (left text invalid rest : List ℕ) → SoFar line found start left →
    left ≡ text ++ (invalid ++ rest) → length rest < length left → length text ≡ utf8_valid_len left →
    length invalid ≡ utf8_invalid_len (drop (utf8_valid_len left) left) → more ≡ found ++ unless_empty start text →
    SoFar line more (start + (length text + length invalid)) rest
next line found more start left text invalid rest sofar parts less text_len invalid_len is = by sofar.bound sofar.enough sofar.runs
  where
    by : (bound : ℕ) → length left ≤ bound → found ++ runs_within bound start left ≡ utf8_runs line → SoFar line more (start + (length text + length invalid)) rest
    by zero enough runs = absurd (omega (arith, enough, less))
    by (suc bound) enough runs = record {
      bound = bound;
      enough = omega (arith, enough, less);
      runs = ap (λ xs. xs ++ runs_within bound (start + (length text + length invalid)) rest) is
          ∙ append_assoc found (unless_empty start text) _
          ∙ ap (λ xs. found ++ xs) (sym (runs_step bound start left text invalid rest enough (omega (arith, less)) parts text_len invalid_len))
          ∙ runs;
      counted = omega (arith, sofar.counted, ap length parts, length-append text (invalid ++ rest), length-append invalid rest);
      order = subst (AreInLine (start + (length text + length invalid)) 0) (sym is)
          (in_line_push start (start + (length text + length invalid)) 0 found text (omega arith) sofar.order);
    }

nothing_left : (bound start : ℕ) (left : List ℕ) → length left ≡ 0 → runs_within bound start left ≡ []
nothing_left zero start left none = refl
nothing_left (suc bound) start [] none = refl
nothing_left (suc bound) start (b ∷ bs) none = absurd (omega (arith, none))

pub last : (line : List ℕ) (found : List Run) (start : ℕ) (left : List ℕ) → SoFar line found start left → length left ≡ 0 → found ≡ utf8_runs line
last line found start left sofar none =
    sym (append-nil found) ∙ ap (λ xs. found ++ xs) (sym (nothing_left sofar.bound start left none)) ∙ sofar.runs

pub last_order : (line : List ℕ) (found : List Run) (start : ℕ) (left : List ℕ) → SoFar line found start left → length left ≡ 0 → AreInLine (length line) 0 found
last_order line found start left sofar none = subst (λ (len : ℕ). AreInLine len 0 found) (let at : start ≡ length line = omega (arith, sofar.counted, none) in at) sofar.order

-- texts that are found to match, or not
module _ {A B : Type 0} (f : A → B) (P : B → Type 0) (found : List A) (i : ℕ) (r : A) where
  -- another text without a match
  pub none_further : All (λ x. ¬ (P x)) (map f (take i found)) → i < length found → ¬ (P (f (get_or found i r))) →
      All (λ x. ¬ (P x)) (map f (take (i + 1) found))
  none_further none within here =
      All-same (λ x. ¬ (P x)) _ _ (ap (map f) (take_more found i r within) ∙ map-append f (take i found) (get_or found i r ∷ []))
      (All-push (λ x. ¬ (P x)) (map f (take i found)) (f (get_or found i r)) none here)

  pub one_matches : i < length found → P (f (get_or found i r)) → Any P (map f found)
  one_matches within here =
      (i, f (get_or found i r), omega (arith, within, length-map found f), get_or-map f found i r _ within, here)

pub none_matches : {A B : Type 0} (f : A → B) (P : B → Type 0) (found : List A) (i : ℕ) → All (λ x. ¬ (P x)) (map f (take i found)) → length found ≤ i →
    ¬ (Any P (map f found))
none_matches f P found i none all some =
    let every = subst (λ these. All (λ x. ¬ (P x)) (map f these)) (take_all i found all) none in
    every some.0 some.1 some.2 (subst P (sym some.3) some.4)

-- a line that is UTF-8
pub one_text : (line : List ℕ) → IsUtf8 line → texts_of line ≡ whole line
one_text line utf8 = ap (λ b. cond b (whole line) (utf8_runs line)) (is_utf8-from_IsUtf8 line utf8)

-- a line that is not
pub many_texts : (line : List ℕ) → ¬ (IsUtf8 line) → texts_of line ≡ utf8_runs line
many_texts line other = by (is_utf8 line) refl
  where
    by : (b : Bool) → is_utf8 line ≡ b → cond b (whole line) (utf8_runs line) ≡ utf8_runs line
    by true is = absurd (other (IsUtf8-from_is_utf8 line is))
    by false is = refl
