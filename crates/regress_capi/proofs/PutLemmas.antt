-- The ends of the spans of a match are written to a buffer, one span after the other.
use Rattle.std.proofs.Common.{◌≡◌, ◌+◌, ◌-◌, ◌++◌, ◌≤◌, ℕ, List, [], ◌∷◌, Option, None, Some, drop, take, flat_map, length, slice_set, append-nil, append_assoc, refl, sym, ap, ◌∙◌, arith}
use Rattle.std.proofs.lemmas.List.{drop-drop, drop-set-lt, length-append, length-set, length-take-le, take-append-drop}
use Rattle.std.proofs.lemmas.Grind.{take-set_at}
use Rattle.regress_front.specs.Steps.{CaptureSpan}
use Rattle.regress_capi.specs.Spans.{ends_of}

two_ends : (span : Option CaptureSpan) → length (ends_of span) ≡ 2
two_ends None = refl
two_ends (Some span) = refl

-- ---- the buffer

-- The numbers of all spans but these are written, and what follows them in the buffer is as it was.
pub record HasPut (old buffer : List ℕ) (count : ℕ) (left : List (Option CaptureSpan)) (whole : List ℕ) : Type 0 where
  pub room : length whole ≤ length old
  pub same_length : length buffer ≡ length old
  pub within : count ≤ length buffer
  pub done : take count buffer ++ flat_map ends_of left ≡ whole
  pub rest : drop count buffer ≡ drop count old

pub none_put : (old : List ℕ) (left : List (Option CaptureSpan)) (whole : List ℕ) → length whole ≤ length old → flat_map ends_of left ≡ whole →
    HasPut old old 0 left whole
none_put old left whole room is = record { room = room; same_length = refl; within = omega arith; done = is; rest = refl }

module _ (old buffer : List ℕ) (count : ℕ) (span : Option CaptureSpan) (rest : List (Option CaptureSpan)) (whole : List ℕ)
    (sofar : HasPut old buffer count (span ∷ rest) whole) where
  pub has_room : count + 2 ≤ length buffer
  has_room =
      let ahead = length-append (ends_of span) (flat_map ends_of rest) in
      let all = sym (length-append (take count buffer) (flat_map ends_of (span ∷ rest))) ∙ ap length sofar.done in
      omega (arith, ahead, all, two_ends span, length-take-le count buffer sofar.within, sofar.room, sofar.same_length)

  -- the numbers of one more span
  pub put_more : (a b : ℕ) → ends_of span ≡ a ∷ b ∷ [] → HasPut old (slice_set (slice_set buffer count a) (count + 1) b) (count + 2) rest whole
  put_more a b is =
      let one = slice_set buffer count a in
      let two = slice_set one (count + 1) b in
      let len : length one ≡ length buffer = length-set buffer count a in
      let len' : length two ≡ length one = length-set one (count + 1) b in
      let first : take (count + 1) one ≡ take count buffer ++ a ∷ [] = take-set_at buffer count (count + 1) a refl (omega (arith, has_room)) in
      let second : take (count + 2) two ≡ take (count + 1) one ++ b ∷ [] =
      take-set_at one (count + 1) (count + 2) b (omega arith) (omega (arith, has_room, len)) in
      record {
        room = sofar.room;
        same_length = len' ∙ len ∙ sofar.same_length;
        within = omega (arith, has_room, len, len');
        done = ap (λ xs. xs ++ flat_map ends_of rest) (second ∙ ap (λ xs. xs ++ b ∷ []) first)
            ∙ ap (λ xs. xs ++ flat_map ends_of rest) (append_assoc (take count buffer) (a ∷ []) (b ∷ []))
            ∙ append_assoc (take count buffer) (a ∷ b ∷ []) (flat_map ends_of rest)
            ∙ ap (λ xs. take count buffer ++ (xs ++ flat_map ends_of rest)) (sym is)
            ∙ sofar.done;
        rest = drop-set-lt (count + 2) one (count + 1) b (omega arith)
            ∙ drop-set-lt (count + 2) buffer count a (omega arith)
            ∙ drop_both buffer old count 2 sofar.rest;
      }
    where
      drop_both : (xs ys : List ℕ) (n k : ℕ) → drop n xs ≡ drop n ys → drop (n + k) xs ≡ drop (n + k) ys
      drop_both xs ys n k same = sym (drop-drop k n xs) ∙ ap (drop k) same ∙ drop-drop k n ys

-- all of them
pub all_put : (old buffer : List ℕ) (count : ℕ) (whole : List ℕ) → HasPut old buffer count [] whole →
    (count ≡ length whole) × (buffer ≡ whole ++ drop (length whole) old)
all_put old buffer count whole put =
    let written : take count buffer ≡ whole = sym (append-nil (take count buffer)) ∙ put.done in
    let counted : count ≡ length whole = sym (length-take-le count buffer put.within) ∙ ap length written in (
      counted,
      sym (take-append-drop count buffer) ∙ ap (λ xs. xs ++ drop count buffer) written ∙ ap (λ xs. whole ++ xs) put.rest ∙ ap (λ n. whole ++ drop n old) counted,
    )
