-- The rows of pieces are those of what they match.
use Rattle.std.proofs.Common.{◌≡◌, ◌∙◌, ◌+◌, ◌-◌, ◌<◌, ◌≤◌, ◌&&◌, ◌||◌, ℕ, suc, Bool, false, List, [], ◌∷◌, ap, arith, drop, drop-cons, get_or, length, map, refl, sym}
use Rattle.std.specs.Prelude.{◌==◌}
use Rattle.std.proofs.lemmas.List.{drop-drop}
use Rattle.regex_glob.specs.Glob.{Characters, Piece, after_one, after_slash, any_end, anything, has, matches, matches_name, one, piece_of}
use Rattle.std.proofs.Math.ListN.{drop_of_length-le}
use Rattle.regex_glob.specs.declared.piece.Piece as code
use Rattle.regex_glob.specs.Row.{ends, first_row, head, in_slashes, ors, steps, with_piece}

pub head_ends : (f : List ℕ → Bool) (text : List ℕ) → head (ends f text) ≡ f text
head_ends f [] = refl
head_ends f (c ∷ cs) = refl

pub length_ends : (f : List ℕ → Bool) (text : List ℕ) → length (ends f text) ≡ length text + 1
length_ends f [] = refl
length_ends f (c ∷ cs) = omega (arith, length_ends f cs)

pub first_ends : (text : List ℕ) → first_row (length text) ≡ ends (matches []) text
first_ends [] = refl
first_ends (c ∷ cs) = ap (λ row. false ∷ row) (first_ends cs)

any_ends : (f : List ℕ → Bool) (text : List ℕ) → ors (ends f text) ≡ ends (any_end f) text
any_ends f [] = refl
any_ends f (c ∷ cs) =
    ap (λ row. (head row || f (c ∷ cs)) ∷ row) (any_ends f cs)
    ∙ ap (λ b. (b || f (c ∷ cs)) ∷ ends (any_end f) cs) (head_ends (any_end f) cs)

one_ends : (set : Characters) (f : List ℕ → Bool) (text : List ℕ) → steps set text (ends f text) ≡ ends (after_one set f) text
one_ends set f [] = refl
one_ends set f (c ∷ cs) =
    ap (λ b. (has set c && b) ∷ steps set cs (ends f cs)) (head_ends f cs) ∙ ap (λ row. (has set c && f cs) ∷ row) (one_ends set f cs)

-- the row of one more piece
pub with_ends : (piece : Piece) (pieces : List Piece) (text : List ℕ) →
    with_piece piece text (ends (matches pieces) text) ≡ ends (matches (piece ∷ pieces)) text
with_ends anything pieces text = any_ends (matches pieces) text
with_ends (one set) pieces text = one_ends set (matches pieces) text

pub slash_ends : (f : List ℕ → Bool) (text : List ℕ) → in_slashes text (ends f text) ≡ after_slash f text
slash_ends f [] = refl
slash_ends f (c ∷ cs) =
    ap (λ b. (c == 47 && b) || in_slashes cs (ends f cs)) (head_ends f cs) ∙ ap (λ b. (c == 47 && f cs) || b) (slash_ends f cs)

-- the name, or what is after a slash in it
pub name_ends : (pieces : List Piece) (name : List ℕ) (row : List Bool) → row ≡ ends (matches pieces) name →
    (head row || in_slashes name row) ≡ matches_name pieces name
name_ends pieces name row is =
    ap (λ r. head r || in_slashes name r) is
    ∙ ap (λ b. b || in_slashes name (ends (matches pieces) name)) (head_ends (matches pieces) name)
    ∙ ap (λ b. matches pieces name || b) (slash_ends (matches pieces) name)

-- ---- one position further in front

pub step_back : {X : Type 0} (xs : List X) (i : ℕ) (d : X) → 0 < i → i ≤ length xs → drop (i - 1) xs ≡ get_or xs (i - 1) d ∷ drop i xs
step_back xs i d some within =
    drop-cons xs (i - 1) d (omega (arith, some, within))
    ∙ ap (λ j. get_or xs (i - 1) d ∷ drop j xs) (let back : suc (i - 1) ≡ i = omega (arith, some) in back)

pub any_step : (row next : List Bool) (i : ℕ) (x some : Bool) → 0 < i → x ≡ get_or row (i - 1) x →
    (next ≡ ors (drop i row)) × (some ≡ head next) × (i ≤ length row) → (after : List Bool) → after ≡ (some || x) ∷ next →
    (after ≡ ors (drop (i - 1) row)) × ((some || x) ≡ head after) × (i - 1 ≤ length row)
any_step row next i x some above here sofar after is = (
  is ∙ ap (λ b. (b || x) ∷ next) (sofar.1 ∙ ap head sofar.0) ∙ ap (λ n. (head (ors (drop i row)) || x) ∷ n) sofar.0
      ∙ sym (ap ors (step_back row i x above sofar.2 ∙ ap (λ y. y ∷ drop i row) (sym here))),
  sym (ap head is),
  omega (arith, sofar.2),
)

head_at : (row : List Bool) (i : ℕ) (x : Bool) → i < length row → x ≡ get_or row i x → head (drop i row) ≡ x
head_at row i x within here = ap head (drop-cons row i x within) ∙ sym here

module _ (text : List ℕ) (row : List Bool) (long : length row ≡ length text + 1) where
  behind : (i : ℕ) → 0 < i → drop 1 (drop (i - 1) row) ≡ drop i row
  behind i above = drop-drop 1 (i - 1) row ∙ ap (λ j. drop j row) (let back : i - 1 + 1 ≡ i = omega (arith, above) in back)

  pub one_step : (set : Characters) (next : List Bool) (i : ℕ) (x : Bool) → 0 < i → x ≡ get_or row i x →
      (next ≡ steps set (drop i text) (drop i row)) × (i ≤ length text) → (after : List Bool) → after ≡ (has set (get_or text (i - 1) 0) && x) ∷ next →
      (after ≡ steps set (drop (i - 1) text) (drop (i - 1) row)) × (i - 1 ≤ length text)
  one_step set next i x above there sofar after is =
      let c = get_or text (i - 1) 0 in (
        is ∙ ap (λ b. (has set c && b) ∷ next) (sym (head_at row i x (omega (arith, sofar.1, long)) there))
            ∙ ap (λ n. (has set c && head (drop i row)) ∷ n) sofar.0
            ∙ sym (ap (λ t. steps set t (drop (i - 1) row)) (step_back text i 0 above sofar.1)
            ∙ ap (λ r. (has set c && head r) ∷ steps set (drop i text) r) (behind i above)),
        omega (arith, sofar.1),
      )

  pub slash_step : (i : ℕ) (x : Bool) → i < length text → x ≡ get_or row (i + 1) x →
      in_slashes (drop i text) (drop i row) ≡ ((get_or text i 0 == 47 && x) || in_slashes (drop (i + 1) text) (drop (i + 1) row))
  slash_step i x within there =
      let c = get_or text i 0 in ap (λ t. in_slashes t (drop i row)) (drop-cons text i 0 within)
      ∙ ap (λ r. (c == 47 && head r) || in_slashes (drop (suc i) text) r) (drop-drop 1 i row)
      ∙ ap (λ b. (c == 47 && b) || in_slashes (drop (suc i) text) (drop (i + 1) row)) (head_at row (i + 1) x (omega (arith, within, long)) there)
      ∙ ap (λ j. (c == 47 && x) || in_slashes (drop j text) (drop (i + 1) row)) (let next : suc i ≡ i + 1 = omega arith in next)

-- ---- the rows of the last pieces

module _ (pieces : List code.Piece) (text : List ℕ) where
  abbrev Row : (i : ℕ) → (row : List Bool) → Type 0
  Row i row = row ≡ ends (matches (map piece_of (drop i pieces))) text

  pub row_of_none : (n count : ℕ) (row : List Bool) → n ≡ length text → count ≡ length pieces → row ≡ first_row n → Row count row
  row_of_none n count row long all is =
      is ∙ ap first_row long ∙ first_ends text
      ∙ ap (λ ps. ends (matches (map piece_of ps)) text) (sym (drop_of_length-le pieces (omega (arith, all))))

  pub row_of_next : (i : ℕ) (p : code.Piece) (row next : List Bool) → 0 < i → i ≤ length pieces → p ≡ get_or pieces (i - 1) p → Row i row →
      next ≡ with_piece (piece_of p) text row → Row (i - 1) next
  row_of_next i p row next above within here sofar is =
      is ∙ ap (with_piece (piece_of p) text) sofar ∙ with_ends (piece_of p) (map piece_of (drop i pieces)) text
      ∙ ap (λ ps. ends (matches (map piece_of ps)) text) (sym (step_back pieces i p above within ∙ ap (λ y. y ∷ drop i pieces) (sym here)))
