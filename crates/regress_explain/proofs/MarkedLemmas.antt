-- A text with marked ranges.
use Rattle.std.proofs.Common.{◌≡◌, ◌∙◌, ℕ, ◌+◌, ◌<◌, ◌≤◌, List, [], ◌∷◌, ◌++◌, add-one, ap, drop, drop-cons, get_or, inl, inr, length, refl, slice_range, subst, suc, sym, append_assoc, append-nil}
use Rattle.std.specs.Str.{IsCharBoundary}
use Rattle.std.specs.declared.ops.Range.{Range}
use Rattle.std.proofs.lemmas.List.{drop_all}
use Rattle.std.proofs.lemmas.List.Concat.{flat_map-append}
use Rattle.regress_explain.specs.Page.{IsMarkable, Piece, ShowsMarked, match_pieces, piece_bytes, pieces_bytes, text}
use Rattle.regress_explain.specs.Shown.{shown_text}
use Rattle.regress_explain.specs.Written.{Adds}

-- the ranges so far: whatever shows the rest completes what is shown
pub record MarkedSoFar (whole : List ℕ) (ranges : List (Range ℕ)) (i at : ℕ) (before after : List ℕ) : Type 0 where
  pub boundary : IsCharBoundary whole at
  pub pieces : List Piece
  pub added : after ≡ before ++ pieces_bytes pieces
  pub completes : (rest : List Piece) → ShowsMarked whole at (drop i ranges) rest → ShowsMarked whole 0 ranges (pieces ++ rest)

module _ (whole : List ℕ) (ranges : List (Range ℕ)) where
  pub none_so_far : (page : List ℕ) → IsCharBoundary whole 0 → MarkedSoFar whole ranges 0 0 page page
  none_so_far page boundary = record { boundary = boundary; pieces = []; added = sym (append-nil page); completes = λ rest shows. shows }

  module _ (i at : ℕ) (range other : Range ℕ) (below : i < length ranges) (is : range ≡ get_or ranges i other) (before after : List ℕ)
      (so_far : MarkedSoFar whole ranges i at before after) where
    first : drop i ranges ≡ range ∷ drop (i + 1) ranges
    first = rw add-one (drop-cons ranges i other below ∙ ap (λ (r : Range ℕ). r ∷ drop (suc i) ranges) (sym is))

    shown : (rest : List Piece) → ShowsMarked whole at (range ∷ drop (i + 1) ranges) rest → ShowsMarked whole 0 ranges (so_far.pieces ++ rest)
    shown rest shows = so_far.completes rest (subst (λ (left : List (Range ℕ)). ShowsMarked whole at left rest) (sym first) shows)

    -- the range is marked
    pub marked : (new : List ℕ) → IsMarkable whole at range →
        new ≡ after ++ pieces_bytes (match_pieces (slice_range whole at range.start) (slice_range whole range.start range.end)) →
        MarkedSoFar whole ranges (i + 1) range.end before new
    marked new markable added =
        let pair = match_pieces (slice_range whole at range.start) (slice_range whole range.start range.end) in
        record {
          boundary = markable.to;
          pieces = so_far.pieces ++ pair;
          added = added ∙ ap (λ all. all ++ pieces_bytes pair) so_far.added ∙ append_assoc before (pieces_bytes so_far.pieces) (pieces_bytes pair)
              ∙ ap (λ all. before ++ all) (sym (flat_map-append piece_bytes so_far.pieces pair));
          completes = λ rest shows. subst (λ (all : List Piece). ShowsMarked whole 0 ranges all) (sym (append_assoc so_far.pieces pair rest))
              (shown (pair ++ rest) (inl (markable, (rest, shows, refl))));
        }

  pub all_marked : (i at : ℕ) (before after new : List ℕ) → length ranges ≤ i → MarkedSoFar whole ranges i at before after →
      new ≡ after ++ piece_bytes (text (shown_text (drop at whole))) → Adds (ShowsMarked whole 0 ranges) before new
  all_marked i at before after new over so_far added =
      let last = text (shown_text (drop at whole)) ∷ [] in
      record {
        pieces = so_far.pieces ++ last;
        has = so_far.completes last (subst (λ (left : List (Range ℕ)). ShowsMarked whole at left last) (sym (drop_all i ranges over)) refl);
        added = added ∙ ap (λ all. all ++ piece_bytes (text (shown_text (drop at whole)))) so_far.added
            ∙ append_assoc before (pieces_bytes so_far.pieces) (piece_bytes (text (shown_text (drop at whole))))
            ∙ ap (λ all. before ++ (pieces_bytes so_far.pieces ++ all)) (sym (append-nil (piece_bytes (text (shown_text (drop at whole))))))
            ∙ ap (λ all. before ++ all) (sym (flat_map-append piece_bytes so_far.pieces last));
      }
