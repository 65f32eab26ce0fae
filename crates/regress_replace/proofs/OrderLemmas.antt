-- A loop over matches in order: what is done so far, and what is left to do.
use Rattle.std.proofs.Common.{◌≡◌, ℕ, ◌+◌, ◌<◌, List, [], ◌∷◌, ◌++◌, drop, length, get_or, slice_range, All, sym, ap, ◌∙◌, append_assoc, append-nil, map}
use Rattle.std.proofs.lemmas.List.Elements.{All-head, All-tail}
use Rattle.std.proofs.lemmas.List.Folds.{drop_split}
use Rattle.regress_found.specs.Found.{start_of, IsInside}
use Rattle.regress_found.specs.declared.found.Match.{Match}
use Rattle.regress_replace.specs.Expansion.{end_of, matched_text}
use Rattle.regress_replace.specs.Order.{AreInOrder}
use Rattle.regress_replace.specs.Replaced.{joined, replaced, split_pieces}
use Rattle.regress_replace.proofs.lemmas.Order.{next_match}

-- one more match is replaced
pub replaced_more : (text : List ℕ) (f : Match → List ℕ) (from : ℕ) (ms : List Match) (i : ℕ) (m : Match) (done all : List ℕ) → i < length ms →
    m ≡ get_or ms i m → done ++ replaced text f from (drop i ms) ≡ all →
    ((done ++ slice_range text from (start_of m)) ++ f m) ++ replaced text f (end_of m) (drop (i + 1) ms) ≡ all
replaced_more text f from ms i m done all below is so_far =
    append_assoc (done ++ slice_range text from (start_of m)) (f m) (replaced text f (end_of m) (drop (i + 1) ms))
    ∙ append_assoc done (slice_range text from (start_of m)) (f m ++ replaced text f (end_of m) (drop (i + 1) ms))
    ∙ ap (λ rest. done ++ replaced text f from rest) (sym (next_match ms i m below is)) ∙ so_far

-- one more piece is split off
pub split_more : (text : List ℕ) (from : ℕ) (ms : List Match) (i : ℕ) (m : Match) (done all : List (List ℕ)) → i < length ms →
    m ≡ get_or ms i m → done ++ split_pieces text from (drop i ms) ≡ all →
    (done ++ slice_range text from (start_of m) ∷ []) ++ split_pieces text (end_of m) (drop (i + 1) ms) ≡ all
split_more text from ms i m done all below is so_far =
    append_assoc done (slice_range text from (start_of m) ∷ []) (split_pieces text (end_of m) (drop (i + 1) ms))
    ∙ ap (λ rest. done ++ split_pieces text from rest) (sym (next_match ms i m below is)) ∙ so_far

-- the text with each match replaced by itself, or put between the parts, is the text
pub joined_whole : (text : List ℕ) (from : ℕ) (ms : List Match) → AreInOrder from ms → All (IsInside text) ms →
    joined (split_pieces text from ms) (map (matched_text text) ms) ≡ drop from text
joined_whole text from [] order inside = append-nil (drop from text)
joined_whole text from (m ∷ ms) order inside =
    let here = All-head (IsInside text) m ms inside in
    let rest = joined_whole text (end_of m) ms order.1 (All-tail (IsInside text) m ms inside) in
    ap (λ zs. slice_range text from (start_of m) ++ (matched_text text m ++ zs)) rest
    ∙ ap (λ zs. slice_range text from (start_of m) ++ zs) (sym (drop_split text (start_of m) (end_of m) here.span.ordered))
    ∙ sym (drop_split text from (start_of m) order.0)
